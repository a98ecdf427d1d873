-- The lowest id between two others that is not held.
use Rattle.std.proofs.Common.{◌≡◌, ℕ, ◌+◌, ◌<◌, ◌≤◌, ◌⊎◌, false, refl, ap, arith, inr, max, Option, Some, None, Result, Ok, Err, IfOk, IsOk, OnErr, nat_cmp}
use Rattle.std.specs.BTreeSet.{BTreeSet, contains}
use Rattle.vm_ids.specs.Ids.{IdState, holding_id, bound_of, ids_of, AreIds}
use Rattle.vm_ids.specs.declared.id_request.IdRequest.TheVariants.{LowestIn}
use Rattle.vm_ids.specs.IdRequests.{Peeks, NeedsMemory, HoldsId, AllocatesPeeked, AllocatesExactId, IsLowestNotHeldIn, IsNoneNotHeldIn, AllocatesIdIn}
use Rattle.vm_list.specs.Runs.{IsLowestFrom, HasNoneFrom}
use Rattle.vm_ranges.specs.declared.error.Error.{Error}
use Rattle.vm_ids.proofs.Ids.IdSets.{held_test, bound_fits, bound_above}

module _ (state : IdState) (lo hi first last : ℕ) (next : Option ℕ) (freed : BTreeSet ℕ) (e : ids_of lo hi next freed ≡ state) where
  pub found_freed : (k : ℕ) → AreIds lo hi next freed → IsLowestFrom first freed k → k ≤ last → IsLowestNotHeldIn first last state k
  unfolding IsLowestNotHeldIn ids_of
  found_freed k a f l =
      let was = a.freed_ids k f.member in
      rw (← e) (
        grind (arith, held_test, f.from, l, f.member, was, bound_fits lo hi next a.next_id),
        λ j h. grind (arith, held_test, f.lowest j, was),
      )

  module _ (none : (j : ℕ) → first ≤ j → j ≤ last → contains nat_cmp freed j ≡ false) where
    pub found_next : (n : ℕ) → AreIds lo hi next freed → next ≡ Some n → first ≤ last → max n first ≤ last → max n first ≤ hi →
        IsLowestNotHeldIn first last state (max n first)
    unfolding IsLowestNotHeldIn ids_of
    found_next n a s l m h =
        let bound : bound_of next hi ≡ n = ap (λ (o : Option ℕ). bound_of o hi) s in
        let low : lo ≤ bound_of next hi = bound_above lo hi next a.range a.next_id in
        rw (← e) (grind (arith, held_test, bound, low), λ j f. grind (arith, held_test, none j, bound))

    pub none_without_next : next ≡ None → IsNoneNotHeldIn first last state
    unfolding IsNoneNotHeldIn ids_of
    none_without_next s =
        let bound : bound_of next hi ≡ hi + 1 = ap (λ (o : Option ℕ). bound_of o hi) s in
        rw (← e) (λ i h. grind (arith, held_test, none i, bound))

    pub none_past_last : (n : ℕ) → next ≡ Some n → (last < max n first) ⊎ (hi < max n first) → IsNoneNotHeldIn first last state
    unfolding IsNoneNotHeldIn ids_of
    none_past_last n s out =
        let bound : bound_of next hi ≡ n = ap (λ (o : Option ℕ). bound_of o hi) s in
        rw (← e) (λ i h. grind (arith, held_test, none i, bound))

-- No freed id is in the window if none is from its first id on, or the lowest of those is past its last.
pub none_of_all : (first last : ℕ) (freed : BTreeSet ℕ) → HasNoneFrom first freed → (j : ℕ) → first ≤ j → j ≤ last →
    contains nat_cmp freed j ≡ false
none_of_all first last freed n j l m = n j l

pub none_upto_last : (first last k : ℕ) (freed : BTreeSet ℕ) → IsLowestFrom first freed k → last < k → (j : ℕ) → first ≤ j → j ≤ last →
    contains nat_cmp freed j ≡ false
none_upto_last first last k freed f p j l m = grind (arith, f.lowest j)

pub ruleset finds = (found_freed, found_next, none_without_next, none_past_last, none_of_all, none_upto_last)

-- ---- The cases of `allocate_in`
pub in_refused : (old : IdState) (first last : ℕ) (e : Error) → Peeks old (LowestIn first last) (Err e) →
    AllocatesIdIn old first last (Err e) old
unfolding AllocatesPeeked
in_refused old first last e p = inr (e, p, refl, refl)

pub in_found : (old new : IdState) (first last i : ℕ) (r : Result ℕ Error) → Peeks old (LowestIn first last) (Ok i) →
    AllocatesExactId old i r new → AllocatesIdIn old first last r new
unfolding AllocatesPeeked Peeks IsLowestNotHeldIn
in_found old new first last i r p h = grind arith

-- ---- Facts of each result
module _ (old new : IdState) (first last : ℕ) (r : Result ℕ Error) (h : AllocatesIdIn old first last r new) where
  pub in_lowest : IfOk r (λ id. IsLowestNotHeldIn first last old id)
  unfolding AllocatesPeeked Peeks HoldsId
  in_lowest = grind arith

  pub in_state : IfOk r (λ id. new ≡ holding_id id old)
  unfolding AllocatesPeeked Peeks HoldsId
  in_state = grind arith

  pub in_succeeds : (i : ℕ) → IsLowestNotHeldIn first last old i → ¬ NeedsMemory old i → IsOk r
  unfolding AllocatesPeeked Peeks HoldsId IsLowestNotHeldIn IsNoneNotHeldIn
  in_succeeds i f b = grind arith

  pub in_unchanged : OnErr r (new ≡ old)
  unfolding AllocatesPeeked Peeks HoldsId
  in_unchanged = grind arith

pub ruleset within = (in_refused, in_found, in_lowest, in_state, in_succeeds, in_unchanged)
