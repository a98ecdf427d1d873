-- Allocating the lowest id that is not held.
use Rattle.std.proofs.Common.{◌≡◌, ℕ, ◌+◌, ◌^◌, ◌<◌, ◌≤◌, false, refl, ap, ◌∙◌, subst, arith, inl, inr, Option, Some, None, Result, Ok, Err, IsOk, IsTrue}
use Rattle.std.specs.Option.{SomeIff}
use Rattle.std.specs.List.{list_any}
use Rattle.std.specs.Ordering.{nat_cmp, eq_by_cmp}
use Rattle.std.specs.BTreeSet.{BTreeSet, contains, IsEmpty}
use Rattle.vm_list.specs.Runs.{Removes, IsLowestFrom, HasNoneFrom}
use Rattle.vm_ids.specs.Ids.{
  MAX_ID,
  IdState,
  IsNotHeld,
  IsLowestNotHeld,
  AreAllHeld,
  holding_id,
  ByLowestNotHeld,
  AllocatesId,
  PeeksId,
  bound_of,
  ids_of,
  NextId,
  AreIds,
}
use Rattle.vm_ranges.specs.declared.error.Error.{Error}
use Rattle.vm_ranges.specs.declared.error.Error.TheVariants.{Overflow, ResourceNotAvailable}
use Rattle.vm_ids.proofs.Ids.IdSets.{tests, held_test, same_state, bound_fits}

-- ---- A freed id
lowest_released : (lo hi k : ℕ) (next : Option ℕ) (freed : BTreeSet ℕ) → AreIds lo hi next freed → IsLowestFrom 0 freed k →
    IsLowestNotHeld (ids_of lo hi next freed) k
unfolding IsLowestNotHeld ids_of
lowest_released lo hi k next freed a f =
    let t = f.member in (
      grind (arith, held_test, t, a.freed_ids k t, bound_fits lo hi next a.next_id),
      λ j free. grind (arith, held_test, a.freed_ids k t, f.lowest j),
    )

pub takes_released : (lo hi k : ℕ) (next : Option ℕ) (freed left : BTreeSet ℕ) → AreIds lo hi next freed →
    IsTrue (contains nat_cmp freed k) → Removes k freed left → ids_of lo hi next left ≡ holding_id k (ids_of lo hi next freed)
unfolding ids_of
takes_released lo hi k next freed left a t u =
    let was = a.freed_ids k t in
    same_state _ _ refl refl (omega (arith, was.1)) (λ q. grind (arith, tests, u q, was))

module _ (old : IdState) (lo hi k : ℕ) (next : Option ℕ) (freed : BTreeSet ℕ) (e : ids_of lo hi next freed ≡ old)
    (a : AreIds lo hi next freed) (f : IsLowestFrom 0 freed k) where
  pub allocates_released : (left : BTreeSet ℕ) → Removes k freed left → AllocatesId old (Ok k) (ids_of lo hi next left)
  unfolding AllocatesId ByLowestNotHeld
  allocates_released left u =
      rw (← e) (inl (k, lowest_released lo hi k next freed a f, (refl, takes_released lo hi k next freed left a f.member u)))

  pub peeks_released : PeeksId old (Ok k)
  unfolding PeeksId ByLowestNotHeld
  peeks_released = rw (← e) (inl (k, lowest_released lo hi k next freed a f, refl))

-- ---- The next id, if there is no freed id
pub takes_same : (lo hi : ℕ) (next : Option ℕ) (freed left : BTreeSet ℕ) → left ≡ freed →
    ids_of lo hi next left ≡ ids_of lo hi next freed
takes_same lo hi next freed left same = ap (λ (s : BTreeSet ℕ). ids_of lo hi next s) same

pub same_ids : (old : IdState) (lo hi : ℕ) (next : Option ℕ) (freed left : BTreeSet ℕ) → ids_of lo hi next freed ≡ old →
    left ≡ freed → ids_of lo hi next left ≡ old
same_ids old lo hi next freed left e same = takes_same lo hi next freed left same ∙ e

-- An empty set has no id.
pub none_in_empty : (freed : BTreeSet ℕ) → IsEmpty freed → HasNoneFrom 0 freed
none_in_empty freed e i l = ap (list_any (eq_by_cmp nat_cmp i)) e

-- Either the next id is the lowest that is not held, or all ids are held.
by_next : (lo hi : ℕ) (next : Option ℕ) (freed : BTreeSet ℕ) (r : Result ℕ Error) (takes : ℕ → Type 0) (refused : Error → Type 0) →
    AreIds lo hi next freed → ((i : ℕ) → contains nat_cmp freed i ≡ false) → NextId next hi r →
    ((n : ℕ) → next ≡ Some n → n ≤ hi → r ≡ Ok n → takes n) → ((e : Error) → r ≡ Err e → refused e) →
    ByLowestNotHeld (ids_of lo hi next freed) takes refused
unfolding ByLowestNotHeld IsLowestNotHeld AreAllHeld ids_of
by_next lo hi None freed r takes refused a none h t f =
    inr (λ i l. grind (arith, held_test, none i), inl (a.next_id, f Overflow h))
by_next lo hi (Some n) freed r takes refused a none (inl h) t f =
    inr (λ i l. grind (arith, held_test, none i, h.0), inr (λ e. omega (arith, e, h.0, a.next_id), f ResourceNotAvailable h.1))
by_next lo hi (Some n) freed r takes refused a none (inr h) t f =
    let m : n ≤ hi = grind (arith, h.0) in
    inl (n, (grind (arith, held_test, a.next_id), λ j free. grind (arith, held_test, none j)), t n refl m h.1)

-- The bound is right after the next id.
bound_after : (hi n : ℕ) (next after : Option ℕ) → hi ≤ MAX_ID → NextId next hi (Ok n) → SomeIff after (n + 1 < 2 ^ 32) (n + 1) →
    bound_of after hi ≡ n + 1
bound_after hi n None after m h s = absurd cc
bound_after hi n (Some k) after m (inl h) s = absurd cc
bound_after hi n (Some k) None m (inr h) s = let same : n ≡ k = cc in omega (arith, same, m, s, h.0)
bound_after hi n (Some k) (Some a) m (inr h) s = s.1

-- The results if there is no freed id.
module _ (old : IdState) (lo hi : ℕ) (next : Option ℕ) (freed : BTreeSet ℕ) (e : ids_of lo hi next freed ≡ old)
    (a : AreIds lo hi next freed) (v : HasNoneFrom 0 freed) where
  none : (i : ℕ) → contains nat_cmp freed i ≡ false
  none i = v i (omega arith)

  pub peeks_next : (r : Result ℕ Error) → NextId next hi r → PeeksId old r
  unfolding PeeksId
  peeks_next r h = rw (← e) (by_next lo hi next freed r _ _ a none h (λ n s l t. t) (λ x t. t))

  pub allocates_next : (n : ℕ) (after : Option ℕ) (left : BTreeSet ℕ) → NextId next hi (Ok n) → SomeIff after (n + 1 < 2 ^ 32) (n + 1) →
      left ≡ freed → AllocatesId old (Ok n) (ids_of lo hi after left)
  unfolding AllocatesId ids_of
  allocates_next n after left h b same =
      let after_n = bound_after hi n next after a.ids h b in
      rw (← e) (by_next lo hi next freed (Ok n) _ _ a none h (λ m s l t. (t, takes m s (cc) after_n)) (λ x t. absurd cc))
    where
      takes : (m : ℕ) → next ≡ Some m → n ≡ m → bound_of after hi ≡ n + 1 → ids_of lo hi after left ≡ holding_id m (ids_of lo hi next freed)
      takes m s is after_n =
          let bound : bound_of next hi ≡ m = ap (λ (o : Option ℕ). bound_of o hi) s in
          same_state _ _ refl refl (omega (arith, after_n, is, bound))
          (λ q. rw same (grind (arith, tests, none q, after_n, is, bound, a.range)))

  pub allocates_none : (x : Error) (left : BTreeSet ℕ) (r : Result ℕ Error) → NextId next hi (Err x) → r ≡ Err x → left ≡ freed →
      AllocatesId old r (ids_of lo hi next left)
  unfolding AllocatesId
  allocates_none x left r h is same =
      rw (← e, is) (by_next lo hi next freed (Err x) _ _ a none h (λ m s l t. absurd cc)
      (λ y t. (t, takes_same lo hi next freed left same)))

  -- If there is no next id in the range, all ids of the range are held.
  pub none_not_held : (i : ℕ) (x : Error) (r : Result ℕ Error) → NextId next hi (Err x) → IsNotHeld old i → IsOk r
  unfolding ByLowestNotHeld AreAllHeld
  none_not_held i x r h free =
      let all = by_next lo hi next freed (Err x) (λ i. ⊥) (λ y. Unit {0}) a none h (λ m s l t. absurd cc) (λ y t. tt) in
      elim all [ inl t ↦ absurd (t.2) | inr f ↦ absurd (free.1 (subst AreAllHeld e f.0 i free.0)) ]

pub ruleset allocates = (allocates_released, allocates_next, allocates_none, none_not_held, same_ids, none_in_empty)

pub ruleset peeks = (peeks_released, peeks_next, none_not_held)
