-- Ids that are gathered one by one from items.
use Rattle.std.proofs.Common.{
  ◌≡◌,
  ℕ,
  ◌+◌,
  ◌<◌,
  ◌≤◌,
  leb,
  List,
  [],
  ◌∷◌,
  ◌++◌,
  length,
  get_or,
  drop,
  Option,
  Some,
  None,
  is_some,
  option_map,
  option_and_then,
  refl,
  sym,
  ap,
  ◌∙◌,
  ⊎_elim,
  arith,
  append_assoc,
  nat_cmp,
  IsSome,
}
use Rattle.std.proofs.lemmas.Bool.{cases_lt, le-leb, lt-leb, leb-true}
use Rattle.std.specs.List.Sorted.{IsStrictlySortedBy}
use Rattle.serde_json.specs.View.{view, items_view}
use Rattle.serde_json.specs.declared.value.Value.{Value}
use Rattle.vm_ranges.proofs.Steps.{and_then_some, if_some}
use Rattle.vm_ranges.specs.Numbers.{whole_number, u32_from}
use Rattle.vm_ranges.proofs.Items.{items_from}
use Rattle.vm_ids.specs.Checks.IdChecks.{ids_from}
use Rattle.vm_ids.specs.Checks.FreedChecks.{last_id}
use Rattle.vm_ids.proofs.Ids.AddedIds.{last_is, above_last, sorted_more}

some_of : {A : Type 0} (o : Option A) → IsSome o → (a : A) × (o ≡ Some a)
some_of None h = absurd (cc)
some_of (Some a) h = (a, refl)

is_some-map : {A B : Type 0} (f : A → B) (o : Option A) → is_some (option_map f o) ≡ is_some o
is_some-map f None = refl
is_some-map f (Some a) = refl

-- The lowest number that can follow the ids.
abbrev pub next_after : List ℕ → ℕ
next_after [] = 0
next_after (id ∷ ids) = last_id id ids + 1

-- The ids are those of the first i items: the others follow them.
abbrev pub Gathers : ℕ → List Value → List ℕ → Type 0
Gathers i vs ids = ids_from 0 (items_view vs) ≡ option_map (λ ns. ids ++ ns) (ids_from (next_after ids) (items_view (drop i vs)))

pub none_gathered : (vs : List Value) → Gathers 0 vs []
none_gathered vs = same (ids_from 0 (items_view vs)) where
  same : (o : Option (List ℕ)) → o ≡ option_map (λ ns. [] ++ ns) o
  same None = refl
  same (Some ns) = refl

after_last : (id : ℕ) (ids : List ℕ) → next_after (ids ++ id ∷ []) ≡ id + 1
after_last id [] = refl
after_last id (i ∷ ids) = ap (λ (n : ℕ). n + 1) (last_is i id ids)

-- An id can follow the ids if and only if they are in ascending order with it.
follows : (id : ℕ) (ids : List ℕ) → IsStrictlySortedBy nat_cmp (ids ++ id ∷ []) → next_after ids ≤ id
follows id [] s = omega arith
follows id (i ∷ ids) s = let h = above_last i id ids s in omega (arith, h)

with_higher : (id : ℕ) (ids : List ℕ) → IsStrictlySortedBy nat_cmp ids → next_after ids ≤ id → IsStrictlySortedBy nat_cmp (ids ++ id ∷ [])
unfolding IsStrictlySortedBy
with_higher id [] s h = (tt, tt)
with_higher id (i ∷ ids) s h = sorted_more i id ids s (omega (arith, h))

front_and_rest : (ks : List ℕ) (n : ℕ) (o : Option (List ℕ)) →
    option_map (λ ns. ks ++ ns) (option_map (λ ns. n ∷ ns) o) ≡ option_map (λ ns. (ks ++ n ∷ []) ++ ns) o
front_and_rest ks n None = refl
front_and_rest ks n (Some ns) = ap Some (sym (append_assoc ks (n ∷ []) ns))

module _ (i : ℕ) (vs : List Value) (v : Value) (ids : List ℕ) (l : i < length vs) (e : v ≡ get_or vs i v) (g : Gathers i vs ids) where
  pub one_gathered : {n : ℕ} → option_and_then u32_from (whole_number (view v)) ≡ Some n → IsStrictlySortedBy nat_cmp (ids ++ n ∷ []) →
      Gathers (i + 1) vs (ids ++ n ∷ [])
  one_gathered {n} w s =
      rw (g, items_from vs i v l e, w, le-leb (next_after ids) n (follows n ids s), after_last n ids) (front_and_rest ids n _)

  pub low_id : {n : ℕ} → option_and_then u32_from (whole_number (view v)) ≡ Some n → IsStrictlySortedBy nat_cmp ids →
      ¬ IsStrictlySortedBy nat_cmp (ids ++ n ∷ []) → ids_from 0 (items_view vs) ≡ None
  low_id {n} w s not_sorted =
      ⊎_elim
      (λ (h : n < next_after ids). rw (g, items_from vs i v l e, w, lt-leb (next_after ids) n h) refl)
      (λ (h : next_after ids ≤ n). absurd (not_sorted (with_higher n ids s h)))
      (cases_lt n (next_after ids))

  -- If all items are ids in order, the next one follows those before it.
  pub next_follows : IsSome (ids_from 0 (items_view vs)) → IsStrictlySortedBy nat_cmp ids →
      (n : ℕ) × (option_and_then u32_from (whole_number (view v)) ≡ Some n) × IsStrictlySortedBy nat_cmp (ids ++ n ∷ [])
  next_follows some s =
      let rest : IsSome (ids_from (next_after ids) (items_view (drop i vs))) = sym (ap is_some g ∙ is_some-map (λ (ns : List ℕ). ids ++ ns) _)
      ∙ some in
      let o = some_of _ (rw (items_from vs i v l e) at rest) in
      let a = and_then_some _ (option_and_then u32_from (whole_number (view v))) o.0 o.1 in
      let b = if_some (leb (next_after ids) a.0) _ o.0 a.2 in
      (a.0, a.1, with_higher a.0 ids s (leb-true (next_after ids) a.0 b.0))
