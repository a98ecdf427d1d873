-- Ids in ascending order to which one id is added at the end.
use Rattle.std.proofs.Common.{◌≡◌, ℕ, ◌<◌, ◌≤◌, Some, None, Err, List, [], ◌∷◌, ◌++◌, refl, sym, ap, ◌∙◌, subst, arith, nat_cmp, Less, Greater}
use Rattle.std.proofs.lemmas.Option.{same_Some}
use Rattle.std.specs.BTreeSet.{insert_key}
use Rattle.std.specs.Cmp.{nat_cmp_is}
use Rattle.std.specs.List.{AllByRecursion}
use Rattle.std.specs.List.Sorted.{IsStrictlySortedBy}
use Rattle.vm_ranges.proofs.Items.{less, less_is}
use Rattle.vm_ranges.specs.declared.saved.SavedError.{SavedError}
use Rattle.vm_ranges.specs.declared.saved.SavedError.TheVariants.{Violated, OutOfMemory}
use Rattle.vm_ids.specs.declared.saved.read_ids.Ends.{Ends}
use Rattle.vm_ids.specs.FreedLists.{PushesId}
use Rattle.vm_ids.specs.Checks.FreedChecks.{last_id, AreEndsOf}

-- The last of ids in ascending order is not below the first.
pub above_first : (first : ℕ) (ids : List ℕ) → IsStrictlySortedBy nat_cmp (first ∷ ids) → first ≤ last_id first ids
unfolding IsStrictlySortedBy
above_first first [] s = omega arith
above_first first (id ∷ ids) s = let l = less_is first id s.0.0 in let r = above_first id ids s.1 in omega (arith, l, r)

all_more : (first id : ℕ) (ids : List ℕ) → AllByRecursion (λ i. nat_cmp first i ≡ Less) ids → first < id →
    AllByRecursion (λ i. nat_cmp first i ≡ Less) (ids ++ id ∷ [])
all_more first id [] a h = (less first id h, tt)
all_more first id (i ∷ ids) a h = (a.0, all_more first id ids a.1 h)

pub sorted_more : (first id : ℕ) (ids : List ℕ) → IsStrictlySortedBy nat_cmp (first ∷ ids) → last_id first ids < id →
    IsStrictlySortedBy nat_cmp (first ∷ ids ++ id ∷ [])
unfolding IsStrictlySortedBy
sorted_more first id [] s h = ((less first id h, tt), (tt, tt))
sorted_more first id (i ∷ ids) s h =
    let l = less_is first i s.0.0 in
    let r = above_first i ids s.1 in
    (all_more first id (i ∷ ids) s.0 (omega (arith, l, r)), sorted_more i id ids s.1 h)

pub above_last : (first id : ℕ) (ids : List ℕ) → IsStrictlySortedBy nat_cmp (first ∷ ids ++ id ∷ []) → last_id first ids < id
unfolding IsStrictlySortedBy
above_last first id [] s = less_is first id s.0.0
above_last first id (i ∷ ids) s = above_last i id ids s.1

pub last_is : (first id : ℕ) (ids : List ℕ) → last_id first (ids ++ id ∷ []) ≡ id
last_is first id [] = refl
last_is first id (i ∷ ids) = last_is i id ids

insert_last : (first id : ℕ) (ids : List ℕ) → IsStrictlySortedBy nat_cmp (first ∷ ids) → last_id first ids < id →
    insert_key nat_cmp (first ∷ ids) id ≡ first ∷ ids ++ id ∷ []
unfolding IsStrictlySortedBy
insert_last first id [] s h =
    let g : nat_cmp id first ≡ Greater = sym (nat_cmp_is id first Greater (omega arith)) in
    rw g refl
insert_last first id (i ∷ ids) s h =
    let r = above_first first (i ∷ ids) s in
    let g : nat_cmp id first ≡ Greater = sym (nat_cmp_is id first Greater (omega (arith, r))) in
    rw g (ap (λ (is : List ℕ). first ∷ is) (insert_last i id ids s.1 h))

-- The ends of the ids, as the code has them.

pub no_ends : AreEndsOf None []
unfolding IsStrictlySortedBy
no_ends = (tt, refl)

pub first_end : (id : ℕ) (ids : List ℕ) → AreEndsOf None ids → AreEndsOf (Some (record { first = id; last = id })) (ids ++ id ∷ [])
unfolding IsStrictlySortedBy
first_end id [] a = ((tt, tt), refl)
first_end id (i ∷ ids) a = absurd (cc (a.1))

-- The last of the ids is the end.
pub last_end : (ends : Ends) (first : ℕ) (ids : List ℕ) → AreEndsOf (Some ends) (first ∷ ids) → ends.last ≡ last_id first ids
last_end ends first ids a = ap (λ (e : Ends). e.last) (same_Some ends (record { first = first; last = last_id first ids }) a.1)

pub first_of_ends : (ends : Ends) (first : ℕ) (ids : List ℕ) → AreEndsOf (Some ends) (first ∷ ids) → ends.first ≡ first
first_of_ends ends first ids a = ap (λ (e : Ends). e.first) (same_Some ends (record { first = first; last = last_id first ids }) a.1)

pub next_end : (id : ℕ) (ends : Ends) (ids : List ℕ) → AreEndsOf (Some ends) ids → ends.last < id →
    AreEndsOf (Some (record { first = ends.first; last = id })) (ids ++ id ∷ [])
next_end id ends [] a h = absurd (cc (a.1))
next_end id ends (i ∷ ids) a h = (
  sorted_more i id ids a.0 (subst (λ (n : ℕ). n < id) (last_end ends i ids a) h),
  ap (λ (n : ℕ). Some (record { first = n; last = id })) (first_of_ends ends i ids a)
      ∙ ap (λ (n : ℕ). Some (record { first = i; last = n })) (sym (last_is i id ids)),
)

pub not_next : (id : ℕ) (ends : Ends) (ids : List ℕ) → AreEndsOf (Some ends) ids → id ≤ ends.last →
    IsStrictlySortedBy nat_cmp (ids ++ id ∷ []) → ⊥
not_next id ends [] a h s = absurd (cc (a.1))
not_next id ends (i ∷ ids) a h s = let l = last_end ends i ids a in let r = above_last i id ids s in omega (arith, l, r)

pub ruleset ends = (first_end, next_end, not_next)

-- The set after an id is inserted.
pub put_last : (id : ℕ) (ids : List ℕ) → IsStrictlySortedBy nat_cmp ids → IsStrictlySortedBy nat_cmp (ids ++ id ∷ []) →
    insert_key nat_cmp ids id ≡ ids ++ id ∷ []
put_last id [] s t = refl
put_last id (i ∷ ids) s t = insert_last i id ids s (above_last i id ids t)

pub ruleset pushes = (put_last)

-- Adding an id in order fails only for lack of memory.
pub only_memory : (id : ℕ) (old new : List ℕ) (e : SavedError) → IsStrictlySortedBy nat_cmp (old ++ id ∷ []) → PushesId old id (Err e) new →
    e ≡ OutOfMemory
only_memory id old new (Violated c) s h = absurd (h.2 s)
only_memory id old new OutOfMemory s h = refl
