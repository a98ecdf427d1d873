-- The parts of an id allocator: its range, its next id and the list of its freed ids.
use Rattle.std.proofs.Common.{◌≡◌, ◌↔◌, ℕ, ◌<◌, ◌≤◌, true, false, Some, None, List, [], ◌∷◌, ◌++◌, refl, arith, nat_cmp, ⊎_elim}
use Rattle.std.proofs.lemmas.Bool.{both_ways, or_cases, or_left, or_right}
use Rattle.std.specs.List.{list_any}
use Rattle.std.specs.List.Sorted.{IsStrictlySortedBy}
use Rattle.std.specs.Ordering.{eq_by_cmp}
use Rattle.vm_ranges.proofs.Items.{less_is}
use Rattle.vm_ranges.proofs.NumberSets.{tied_here}
use Rattle.vm_ids.specs.declared.saved.read_ids.Ends.{Ends}
use Rattle.vm_ids.specs.Checks.FreedChecks.{last_id, AreEndsOf, AreWithin}
use Rattle.vm_ids.proofs.Ids.AddedIds.{last_end, first_of_ends, above_last}

-- ---- The bounds of the ids
first_to_last : (q first : ℕ) (ids : List ℕ) → IsStrictlySortedBy nat_cmp (first ∷ ids) →
    list_any (eq_by_cmp nat_cmp q) (first ∷ ids) ≡ true → (first ≤ q) × (q ≤ last_id first ids)
unfolding IsStrictlySortedBy
first_to_last q first [] s t = grind arith
first_to_last q first (i ∷ ids) s t =
    let l = less_is first i s.0.0 in
    let r = first_to_last i i ids s.1 (or_left _ _ (tied_here i)) in
    ⊎_elim (λ (e : eq_by_cmp nat_cmp q first ≡ true). grind (arith, l, r))
    (λ (m : list_any (eq_by_cmp nat_cmp q) (i ∷ ids) ≡ true). let h = first_to_last q i ids s.1 m in omega (arith, h, l)) (or_cases _ _ t)

last_in : (first : ℕ) (ids : List ℕ) → list_any (eq_by_cmp nat_cmp (last_id first ids)) (first ∷ ids) ≡ true
last_in first [] = or_left _ _ (tied_here first)
last_in first (i ∷ ids) = or_right _ _ (last_in i ids)

pub none_within : (lowest bound : ℕ) (ids : List ℕ) → AreEndsOf None ids → AreWithin lowest bound ids
none_within lowest bound [] a i c = absurd (both_ways false refl c)
none_within lowest bound (id ∷ ids) a i c = absurd (cc (a.1))

-- The ends decide.
pub ends_decide : (lowest bound : ℕ) (ends : Ends) (ids : List ℕ) → AreEndsOf (Some ends) ids →
    ((lowest ≤ ends.first) × (ends.last < bound)) ↔ AreWithin lowest bound ids
ends_decide lowest bound ends [] a = absurd (cc (a.1))
ends_decide lowest bound ends (first ∷ ids) a =
    let f = first_of_ends ends first ids a in
    let l = last_end ends first ids a in (
      λ h i c. let r = first_to_last i first ids a.0 c in omega (arith, f, l, r, h),
      λ w.
          let low = w first (or_left _ _ (tied_here first)) in
          let high = w (last_id first ids) (last_in first ids) in
          omega (arith, f, l, low, high),
    )

-- Each id is below one that follows the last.
pub below_next : (id q : ℕ) (ids : List ℕ) → IsStrictlySortedBy nat_cmp ids → IsStrictlySortedBy nat_cmp (ids ++ id ∷ []) →
    list_any (eq_by_cmp nat_cmp q) ids ≡ true → q < id
below_next id q [] s n t = absurd (both_ways false refl t)
below_next id q (first ∷ ids) s n t =
    let r = first_to_last q first ids s t in let l = above_last first id ids n in omega (arith, r, l)
