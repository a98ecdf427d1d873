-- How deep an object nests, by the values of its fields.
use Rattle.std.proofs.Common.{
  ◌≡◌,
  ℕ,
  suc,
  ◌≤◌,
  max,
  false,
  List,
  [],
  ◌∷◌,
  length,
  Option,
  Some,
  None,
  option_and_then,
  MatchOption,
  Ordering,
  Less,
  Equal,
  Greater,
  bytes_eq,
  nat_cmp,
  is_eq,
  codes,
  refl,
  sym,
  ap,
  ◌∙◌,
  subst,
  arith,
  true≢false,
}
use Rattle.std.proofs.lemmas.Map.Text.{is_eq-slice_cmp}
use Rattle.std.proofs.lemmas.Option.{same_Some}
use Rattle.std.proofs.lemmas.Slice.Eq.{bytes_eq-Decides}
use Rattle.std.specs.Cmp.Lexicographic.{slice_cmp}
use Rattle.std.specs.Ordering.{match_ordering}
use Rattle.serde_json.specs.Data.{
  Num,
  Data,
  null,
  boolean,
  number,
  string,
  array,
  object,
  Items,
  no_items,
  item,
  Members,
  no_members,
  member,
  depth,
  items_depth,
  members_depth,
}
use Rattle.serde_json.specs.Events.{members_len}
use Rattle.serde_json.specs.Find.{get, get_member, as_number, as_u64}
use Rattle.vm_ranges.specs.Fields.{field_count, FieldIs}
use Rattle.vm_ranges.specs.Lists.{EncodesItems, EncodesListOf}
use Rattle.vm_ranges.specs.Numbers.{number_in, whole_number}
use Rattle.vm_ranges.specs.RangeValues.{EncodesRange, EncodesState}
use Rattle.vm_ranges.specs.Range.{Range}
use Rattle.vm_ranges.specs.declared.state.NodeState.{NodeState}
use Rattle.vm_ranges.proofs.Steps.{and_then_some}

-- ---- Members without one of them
-- The members without the first one with the name k.
abbrev without : List ℕ → Members → Members
without k no_members = no_members
without k (member l e ms) = match_ordering (slice_cmp nat_cmp k l) (member l e (without k ms)) ms (member l e (without k ms))

-- The step of `len_without` at one member.
len_at : (o : Ordering) (l : List ℕ) (e v : Data) (ms less : Members) (found : Option Data) →
    match_ordering o found (Some e) found ≡ Some v →
    (found ≡ Some v → members_len ms ≡ suc (members_len less)) →
    suc (members_len ms) ≡ suc (members_len (match_ordering o (member l e less) ms (member l e less)))
len_at Less l e v ms less found h next = ap suc (next h)
len_at Equal l e v ms less found h next = refl
len_at Greater l e v ms less found h next = ap suc (next h)

-- The members without one of them are one fewer.
len_without : (k : List ℕ) (ms : Members) (v : Data) → get_member k ms ≡ Some v → members_len ms ≡ suc (members_len (without k ms))
len_without k no_members v h = absurd (cc)
len_without k (member l e ms) v h = len_at (slice_cmp nat_cmp k l) l e v ms (without k ms) (get_member k ms) h (len_without k ms v)

-- The step of `depth_without` at one member.
depth_at : (o : Ordering) (n : ℕ) (l : List ℕ) (e v : Data) (ms less : Members) (found : Option Data) →
    match_ordering o found (Some e) found ≡ Some v → depth v ≤ n →
    (found ≡ Some v → members_depth less ≤ n → members_depth ms ≤ n) →
    members_depth (match_ordering o (member l e less) ms (member l e less)) ≤ n → max (depth e) (members_depth ms) ≤ n
depth_at Less n l e v ms less found h p next q = let r = next h (omega (arith, q)) in omega (arith, q, r)
depth_at Equal n l e v ms less found h p next q = let s = subst (λ (x : Data). depth x ≤ n) (sym (same_Some e v h)) p in omega (arith, q, s)
depth_at Greater n l e v ms less found h p next q = let r = next h (omega (arith, q)) in omega (arith, q, r)

-- If one member and the others nest at most n deep, all members do.
depth_without : (n : ℕ) (k : List ℕ) (ms : Members) (v : Data) → get_member k ms ≡ Some v → depth v ≤ n → members_depth (without k ms) ≤ n →
    members_depth ms ≤ n
depth_without n k no_members v h p q = absurd (cc)
depth_without n k (member l e ms) v h p q =
    depth_at (slice_cmp nat_cmp k l) n l e v ms (without k ms) (get_member k ms) h p (λ f r. depth_without n k ms v f p r) q

-- A choice by an order that is not Equal is the same for Less and for Greater.
skipped : (o : Ordering) (x y : Option Data) → is_eq o ≡ false → x ≡ match_ordering o x y x
skipped Less x y n = refl
skipped Equal x y n = absurd (true≢false n)
skipped Greater x y n = refl

-- The step of `other_without` at one member.
other_at : (o : Ordering) (j k l : List ℕ) (e : Data) (ms less : Members) → slice_cmp nat_cmp k l ≡ o → bytes_eq j k ≡ false →
    get_member j less ≡ get_member j ms →
    get_member j (match_ordering o (member l e less) ms (member l e less)) ≡ get_member j (member l e ms)
other_at Less j k l e ms less is n s = rw s refl
other_at Greater j k l e ms less is n s = rw s refl
other_at Equal j k l e ms less is n s =
    let same : k ≡ l = (bytes_eq-Decides k l).0 (sym (is_eq-slice_cmp k l) ∙ ap is_eq is) in
    skipped (slice_cmp nat_cmp j l) (get_member j ms) (Some e) (is_eq-slice_cmp j l ∙ subst (λ (x : List ℕ). bytes_eq j x ≡ false) same n)

-- The member with another name is the same without the one that is named k.
other_without : (j k : List ℕ) (ms : Members) → bytes_eq j k ≡ false → get_member j (without k ms) ≡ get_member j ms
other_without j k no_members n = refl
other_without j k (member l e ms) n = other_at (slice_cmp nat_cmp k l) j k l e ms (without k ms) refl n (other_without j k ms n)

-- ---- Objects whose fields are all known
-- The name k differs from these names.
abbrev IsNew : List ℕ → List (List ℕ) → Type 0
IsNew k [] = Unit {0}
IsNew k (j ∷ ks) = (bytes_eq j k ≡ false) × IsNew k ks

-- The names are different.
abbrev pub AreNew : List (List ℕ) → Type 0
AreNew [] = Unit {0}
AreNew (k ∷ ks) = IsNew k ks × AreNew ks

-- Each of these members nests at most n deep.
abbrev AreWithin : ℕ → List (List ℕ) → Members → Type 0
AreWithin n [] ms = Unit {0}
AreWithin n (k ∷ ks) ms = MatchOption (get_member k ms) ⊥ (λ v. depth v ≤ n) × AreWithin n ks ms

-- Each of these fields nests at most n deep.
abbrev pub FieldsWithin : ℕ → List (List ℕ) → Data → Type 0
FieldsWithin n [] d = Unit {0}
FieldsWithin n (k ∷ ks) d = FieldIs k d (λ v. depth v ≤ n) × FieldsWithin n ks d

-- Members that nest at most n deep also do so without one with a new name.
within_without : (n : ℕ) (k : List ℕ) (ks : List (List ℕ)) (ms : Members) → IsNew k ks → AreWithin n ks ms → AreWithin n ks (without k ms)
within_without n k [] ms a w = tt
within_without n k (j ∷ ks) ms a w = (
  subst (λ (o : Option Data). MatchOption o ⊥ (λ v. depth v ≤ n)) (sym (other_without j k ms a.0)) w.0,
  within_without n k ks ms a.1 w.1,
)

-- A field whose value nests at most n deep has a value.
found_within : (n : ℕ) (o : Option Data) → MatchOption o ⊥ (λ v. depth v ≤ n) → (v : Data) × (o ≡ Some v) × (depth v ≤ n)
found_within n None h = absurd h
found_within n (Some v) h = (v, refl, h)

-- An object without members has depth 0.
no_depth : (n : ℕ) (ms : Members) → members_len ms ≡ 0 → members_depth ms ≤ n
no_depth n no_members e = omega arith
no_depth n (member l d ms) e = absurd (omega (arith, e))

-- If the members are exactly those with these names, their depths limit that of all.
members_within : (n : ℕ) (ks : List (List ℕ)) (ms : Members) → AreNew ks → AreWithin n ks ms → members_len ms ≡ length ks →
    members_depth ms ≤ n
members_within n [] ms a w e = no_depth n ms e
members_within n (k ∷ ks) ms a w e =
    let at = found_within n (get_member k ms) w.0 in
    let len = len_without k ms at.0 at.1 in
    let rest = members_within n ks (without k ms) a.1 (within_without n k ks ms a.0 w.1) (omega (arith, e, len)) in
    depth_without n k ms at.0 at.1 at.2 rest

-- The fields of an object are its members.
in_members : (n : ℕ) (ks : List (List ℕ)) (ms : Members) → FieldsWithin n ks (object ms) → AreWithin n ks ms
in_members n [] ms w = tt
in_members n (k ∷ ks) ms w = (w.0, in_members n ks ms w.1)

-- An object with exactly these fields nests one deeper than they do.
pub object_within : (n : ℕ) (ks : List (List ℕ)) (d : Data) → AreNew ks → field_count d ≡ Some (length ks) → FieldsWithin n ks d →
    depth d ≤ suc n
object_within n ks null a c w = absurd (cc)
object_within n ks (boolean b) a c w = absurd (cc)
object_within n ks (number x) a c w = absurd (cc)
object_within n ks (string s) a c w = absurd (cc)
object_within n ks (array ds) a c w = absurd (cc)
object_within n ks (object ms) a c w =
    let e = members_within n ks ms a (in_members n ks ms w) (same_Some (members_len ms) (length ks) c) in omega (arith, e)

-- ---- Numbers, states and ranges
-- A number nests nothing.
number_flat : (d : Data) (x : Num) → as_number d ≡ Some x → depth d ≡ 0
number_flat null x e = refl
number_flat (boolean b) x e = refl
number_flat (number y) x e = refl
number_flat (string s) x e = refl
number_flat (array ds) x e = absurd (cc)
number_flat (object ms) x e = absurd (cc)

-- A whole number nests nothing.
pub whole_flat : (d : Data) (n : ℕ) → whole_number d ≡ Some n → depth d ≡ 0
whole_flat d n e = let x = and_then_some as_u64 (as_number d) n e in number_flat d x.0 x.1

-- A whole number in a field nests at most n deep.
pub number_within : (n m : ℕ) (k : List ℕ) (d : Data) → number_in k d ≡ Some m → FieldIs k d (λ v. depth v ≤ n)
number_within n m k d e = at (get k d) e where
  at : (o : Option Data) → option_and_then as_u64 (option_and_then as_number o) ≡ Some m → MatchOption o ⊥ (λ v. depth v ≤ n)
  at None h = cc
  at (Some v) h = let f = whole_flat v m h in omega (arith, f)

-- The value of a range nests one deep.
pub range_nests : (d : Data) (r : Range) → EncodesRange d r → depth d ≤ 1
range_nests d r s =
    object_within 0 (codes "start" ∷ codes "end" ∷ []) d ((refl, tt), (tt, tt)) s.two_fields
    (number_within 0 r.start (codes "start") d s.start, (number_within 0 r.end (codes "end") d s.end, tt))

-- The value of a state nests nothing.
pub state_nests : (d : Data) (s : NodeState) → EncodesState d s → depth d ≤ 0
state_nests d s e = let f = ap depth e in omega (arith, f)

-- ---- Lists
module _ {X : Type 0} (States : Data → X → Type 0) (n : ℕ) (within : (d : Data) (x : X) → States d x → depth d ≤ n) where
  -- The items of a list nest at most n deep if each encoded item does.
  items_within : (ds : Items) (xs : List X) → EncodesItems States ds xs → items_depth ds ≤ n
  items_within no_items [] s = omega arith
  items_within no_items (x ∷ xs) s = absurd s
  items_within (item d ds) [] s = absurd s
  items_within (item d ds) (x ∷ xs) s = let e = within d x s.0 in let f = items_within ds xs s.1 in omega (arith, e, f)

  -- A list nests one deeper than its items.
  pub list_within : (d : Data) (xs : List X) → EncodesListOf States d xs → depth d ≤ suc n
  list_within null xs s = absurd s
  list_within (boolean b) xs s = absurd s
  list_within (number y) xs s = absurd s
  list_within (string t) xs s = absurd s
  list_within (array ds) xs s = let e = items_within ds xs s in omega (arith, e)
  list_within (object ms) xs s = absurd s
