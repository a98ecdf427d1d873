-- The fields that a value encodes, and the state of an allocator with these fields.
use Rattle.std.proofs.Common.{
  ◌≡◌,
  ℕ,
  ◌^◌,
  true,
  false,
  cond,
  List,
  Option,
  Some,
  None,
  is_some,
  option_map,
  option_and_then,
  Result,
  Ok,
  Err,
  MatchResult,
  codes,
  refl,
  sym,
  ap,
  ◌∙◌,
  subst,
  arith,
}
use Rattle.std.proofs.lemmas.Option.{same_Some}
use Rattle.std.specs.Result.{result_ok}
use Rattle.std.specs.BTreeSet.{BTreeSet}
use Rattle.serde_json.specs.Data.{Data, null, boolean, number, string, array, object, Items}
use Rattle.serde_json.specs.Find.{get, as_array, as_null}
use Rattle.vm_ranges.proofs.NumberSteps.{u32-some, some-u32, u32_in-some}
use Rattle.vm_ranges.proofs.Lists.{in_list, list_encoded}
use Rattle.vm_ranges.proofs.FieldSteps.{count-true, true-count, in_field, field_is}
use Rattle.vm_ranges.proofs.Steps.{and_then_some, map_some}
use Rattle.vm_ranges.proofs.Nulls.{null_of}
use Rattle.vm_ranges.specs.Fields.{field_count, is_count}
use Rattle.vm_ranges.specs.Numbers.{whole_number, u32_from, u32_in}
use Rattle.vm_ranges.specs.declared.saved.SavedError.{SavedError}
use Rattle.vm_ranges.specs.declared.saved.SavedError.TheVariants.{Violated, OutOfMemory}
use Rattle.vm_ids.specs.declared.saved.read_ids.Ends.{Ends}
use Rattle.vm_ids.specs.Ids.{next_id_of, freed_ids, IdState, IsIdState, IsNext, AreIds, ids_of}
use Rattle.vm_ids.specs.FreedLists.{AreFreedOf, MakesOfIds}
use Rattle.vm_ids.specs.Values.IdValues.{IdFields, EncodesNext, EncodesNumber, EncodesNumbers, EncodesIds}
use Rattle.vm_ids.specs.Checks.FreedChecks.{ends_of, AreEndsOf}
use Rattle.vm_ids.specs.Checks.IdChecks.{ids_from, decoded_next, AreDecoded, IdParts}
use Rattle.vm_ids.proofs.Ids.IdSets.{bound_fits}
use Rattle.vm_ids.proofs.Ids.IdFields.{is_state, next_is}
use Rattle.vm_ids.proofs.Ids.WrittenIds.{written_ids}
use Rattle.vm_ids.proofs.Ids.AscendingBounds.{ids-encoded, encoded-ids, sorted, rise}

-- ---- The next id
next-some : (d : Data) (n : Option ℕ) → decoded_next d ≡ Some n → EncodesNext d n
next-some d n e =
    elim (is_some (as_null d)) as (λ v. is_some (as_null d) ≡ v → cond v (Some None)
    (option_map (λ (x : ℕ). Some x) (option_and_then u32_from (whole_number d))) ≡ Some n → EncodesNext d n) [
      | true ↦ λ z q. subst (EncodesNext d) (same_Some None n q) (null_of d z)
      | false ↦ λ z q.
          let a = map_some (λ (x : ℕ). Some x) (option_and_then u32_from (whole_number d)) n q in
          let p = and_then_some u32_from (whole_number d) a.0 a.1 in
          subst (EncodesNext d) a.2 (rw (u32-some p.0 a.0 p.2).0 at p.1)
    ] refl e

no_null : (d : Data) (n : ℕ) → whole_number d ≡ Some n → is_some (as_null d) ≡ false
no_null null n e = absurd (cc)
no_null (boolean b) n e = refl
no_null (number x) n e = refl
no_null (string t) n e = refl
no_null (array ds) n e = refl
no_null (object ms) n e = refl

some-next : (d : Data) (n : Option ℕ) (lo hi : ℕ) → EncodesNext d n → IsNext lo hi n → decoded_next d ≡ Some n
some-next d None lo hi s t = rw s refl
some-next d (Some n) lo hi s t = rw (no_null d n s, s, some-u32 n t.2) refl

-- ---- Decoding a value
-- The steps that decode the fields.
pub record AreRead (d : Data) (f : IdFields) (freed : Items) : Type 0 where
  pub four : is_count 4 (field_count d) ≡ true
  pub base : u32_in (codes "range_base") d ≡ Some f.range_base
  pub end : u32_in (codes "range_end") d ≡ Some f.range_end
  pub next : option_and_then decoded_next (get (codes "next_id") d) ≡ Some f.next_id
  pub freed_is : option_and_then as_array (get (codes "freed_ids") d) ≡ Some freed
  pub listed : ids_from 0 freed ≡ Some f.freed_ids

-- The fields that a value encodes are decoded.
pub are_read : (d : Data) (state : IdState) (s : EncodesIds d state) → (freed : Items) × AreRead d s.fields freed
are_read d state s =
    let f = s.fields in
    let w = s.written in
    let v = s.made.0.parts in
    let next = in_field (codes "next_id") d (λ v. EncodesNext v f.next_id) w.next_id in
    let freed = in_field (codes "freed_ids") d (λ v. EncodesNumbers v f.freed_ids) w.freed_ids in
    let list = in_list EncodesNumber freed.0 f.freed_ids freed.2 in
    let fits = bound_fits f.range_base f.range_end f.next_id v.next_id in (
      list.0,
      record {
        four = true-count 4 (field_count d) w.four_fields;
        base = rw w.range_base (some-u32 f.range_base (omega (arith, v.range, v.ids)));
        end = rw w.range_end (some-u32 f.range_end v.ids);
        next = rw next.1 (some-next next.0 f.next_id f.range_base f.range_end next.2 v.next_id);
        freed_is = rw freed.1 list.1;
        listed = encoded-ids f.freed_ids 0 list.0 list.2
            (rise 0 (2 ^ 32) f.freed_ids s.made.0.ascending (λ i t. let o = v.freed_ids i t in omega (arith, o, fits, v.ids)));
      },
    )

-- Decoded fields that are valid are those of the value.
decoded : (d : Data) (f : IdFields) (freed : Items) → AreRead d f freed → AreFreedOf f.range_base f.range_end f.next_id f.freed_ids →
    AreDecoded d f freed
decoded d f freed r v =
    let next = and_then_some decoded_next (get (codes "next_id") d) f.next_id r.next in
    let list = and_then_some as_array (get (codes "freed_ids") d) freed r.freed_is in
    record {
      listed = r.listed;
      written = record {
        four_fields = count-true 4 (field_count d) r.four;
        range_base = (u32_in-some (codes "range_base") d f.range_base r.base).0;
        next_id = field_is (codes "next_id") d next.0 (λ v. EncodesNext v f.next_id) next.1 (next-some next.0 f.next_id next.2);
        range_end = (u32_in-some (codes "range_end") d f.range_end r.end).0;
        freed_ids = field_is (codes "freed_ids") d list.0 (λ v. EncodesNumbers v f.freed_ids) list.1
            (list_encoded EncodesNumber list.0 freed f.freed_ids list.2 (ids-encoded 0 freed f.freed_ids r.listed).0);
      };
      valid = v;
    }

-- The fields are decoded in one way.
one_read : (d : Data) (f g : IdFields) (ds es : Items) → AreRead d f ds → AreRead d g es → f ≡ g
one_read d f g ds es x y =
    let items : ds ≡ es = same_Some ds es (sym x.freed_is ∙ y.freed_is) in
    let base : f.range_base ≡ g.range_base = same_Some _ _ (sym x.base ∙ y.base) in
    let end : f.range_end ≡ g.range_end = same_Some _ _ (sym x.end ∙ y.end) in
    let next : f.next_id ≡ g.next_id = same_Some _ _ (sym x.next ∙ y.next) in
    let freed : f.freed_ids ≡ g.freed_ids = same_Some _ _ (sym x.listed ∙ ap (ids_from 0) items ∙ y.listed) in
    λ i. record { range_base = base i; next_id = next i; range_end = end i; freed_ids = freed i }

-- The decoded fields, with the ids of which the ends were kept.
pub kept_fields : (d : Data) {base end : ℕ} {next : Option ℕ} {ds : Items} {ends : Option Ends} → is_count 4 (field_count d) ≡ true →
    u32_in (codes "range_base") d ≡ Some base → u32_in (codes "range_end") d ≡ Some end →
    option_and_then decoded_next (get (codes "next_id") d) ≡ Some next → option_and_then as_array (get (codes "freed_ids") d) ≡ Some ds →
    option_map ends_of (ids_from 0 ds) ≡ Some ends →
    (ids : List ℕ) × AreRead d (record { range_base = base; next_id = next; range_end = end; freed_ids = ids }) ds × AreEndsOf ends ids
kept_fields d {ds = ds} {ends = ends} four base end next freed e =
    let m = map_some ends_of (ids_from 0 ds) ends e in (
      m.0,
      record { four = four; base = base; end = end; next = next; freed_is = freed; listed = m.1 },
      (sorted 0 (2 ^ 32) m.0 (ids-encoded 0 ds m.0 m.1).1, sym m.2),
    )

pub ends_refused : (d : Data) (ds : Items) → option_and_then as_array (get (codes "freed_ids") d) ≡ Some ds →
    option_map ends_of (ids_from 0 ds) ≡ None → ¬ ((state : IdState) × EncodesIds d state)
ends_refused d ds e none p =
    let r = are_read d p.0 p.1 in
    let items : r.0 ≡ ds = same_Some r.0 ds (sym r.1.freed_is ∙ e) in
    let some : option_map ends_of (ids_from 0 ds) ≡ Some (ends_of p.1.fields.freed_ids) = rw (← items, r.1.listed) refl in
    absurd (cc (none, some))

-- The result of checking the parts decides.
abbrev pub ChecksFields : IdFields → Result (Unit {0}) SavedError → Type 0
ChecksFields f answer =
    MatchResult answer (λ _. AreFreedOf f.range_base f.range_end f.next_id f.freed_ids)
    (λ e. MakesOfIds f.range_base f.range_end f.next_id f.freed_ids (Err e))

pub parts_refused : (d : Data) (f : IdFields) (ds : Items) (answer : Result (Unit {0}) SavedError) → AreRead d f ds → ChecksFields f answer →
    None ≡ result_ok answer → ¬ ((state : IdState) × EncodesIds d state)
parts_refused d f ds (Ok u) r h e p = absurd (cc e)
parts_refused d f ds (Err OutOfMemory) r h e p = h
parts_refused d f ds (Err (Violated c)) r h e p =
    let q = are_read d p.0 p.1 in
    h.1 (rw (one_read d f p.1.fields ds q.0 r q.1) p.1.made.0)

pub parts_accepted : (d : Data) (f : IdFields) (ds : Items) (answer : Result (Unit {0}) SavedError) (u : Unit {0}) → AreRead d f ds →
    ChecksFields f answer → Some u ≡ result_ok answer → AreDecoded d f ds
parts_accepted d f ds (Ok v) u r h e = decoded d f ds r h
parts_accepted d f ds (Err x) u r h e = absurd (cc e)

-- The parts of a value that is decoded make a state, and it is the state that the value encodes.
pub state_read : (d : Data) (f : IdFields) (ds : Items) (freed : List ℕ) (answer : Result IdState SavedError) → AreDecoded d f ds →
    ids_from 0 ds ≡ Some freed → MakesOfIds f.range_base f.range_end f.next_id freed answer → MatchResult answer (EncodesIds d) (λ _. ⊥)
state_read d f ds freed answer s e m =
    let same : freed ≡ f.freed_ids = same_Some freed f.freed_ids (sym e ∙ s.listed) in
    read answer (rw same at m) where
      read : (answer : Result IdState SavedError) → MakesOfIds f.range_base f.range_end f.next_id f.freed_ids answer →
          MatchResult answer (EncodesIds d) (λ _. ⊥)
      read (Ok state) m = record { fields = f; written = s.written; made = m }
      read (Err (Violated c)) m = m.1 s.valid
      read (Err OutOfMemory) m = m

pub some_encoded : (d : Data) (f : IdFields) (ds : Items) → AreDecoded d f ds → (state : IdState) × EncodesIds d state
some_encoded d f ds s =
    (ids_of f.range_base f.range_end f.next_id (record { keys = f.freed_ids }), record { fields = f; written = s.written; made = (s.valid, refl) })

-- ---- The state
pub encoded_state : (d : Data) (state : IdState) → EncodesIds d state → IsIdState state
encoded_state d state s =
    let f = s.fields in
    is_state state f.range_base f.range_end f.next_id (record { keys = f.freed_ids }) (sym s.made.1) s.made.0.parts

made_of : (state : IdState) (lo hi : ℕ) (next : Option ℕ) (freed : List ℕ) → IsIdState state → lo ≡ state.lo → hi ≡ state.hi →
    next ≡ next_id_of state → freed ≡ freed_ids state → MakesOfIds lo hi next freed (Ok state)
made_of state lo hi next freed s a b c e = rw (a, b, c, e) (written_ids.accepted state s, sym (written_ids.same state s))

fields_of : (state : IdState) (lo hi : ℕ) (next : Option ℕ) (freed : BTreeSet ℕ) → ids_of lo hi next freed ≡ state →
    (lo ≡ state.lo) × (hi ≡ state.hi)
unfolding ids_of
fields_of state lo hi next freed e = (ap (λ (s : IdState). s.lo) e, ap (λ (s : IdState). s.hi) e)

pub encodes_ids : (d v w : Data) (state : IdState) (lo hi : ℕ) (next : Option ℕ) (freed : BTreeSet ℕ) (ids : List ℕ) →
    ids_of lo hi next freed ≡ state → AreIds lo hi next freed → ids ≡ freed_ids state →
    IdParts d lo v hi w → EncodesNext v next → EncodesNumbers w ids → EncodesIds d state
encodes_ids d v w state lo hi next freed ids e i s p next_encoded freed_encoded =
    let f = fields_of state lo hi next freed e in
    record {
      fields = record { range_base = lo; next_id = next; range_end = hi; freed_ids = ids };
      written = record {
        four_fields = p.four_fields;
        range_base = p.base_is;
        next_id = field_is (codes "next_id") d v (λ x. EncodesNext x next) p.next_is next_encoded;
        range_end = p.end_is;
        freed_ids = field_is (codes "freed_ids") d w (λ x. EncodesNumbers x ids) p.freed_is freed_encoded;
      };
      made = made_of state lo hi next ids (is_state state lo hi next freed e i) f.0 f.1 (next_is state lo hi next freed e i) s;
    }

pub ruleset written = (encodes_ids)

-- A value encodes at most one state.
pub one_encoded : (d : Data) (a b : IdState) → EncodesIds d a → EncodesIds d b → a ≡ b
one_encoded d a b p q =
    let x = are_read d a p in
    let y = are_read d b q in
    let e = one_read d p.fields q.fields x.0 y.0 x.1 y.1 in
    p.made.1 ∙ ap (λ (f : IdFields). ids_of f.range_base f.range_end f.next_id (record { keys = f.freed_ids })) e ∙ sym q.made.1
