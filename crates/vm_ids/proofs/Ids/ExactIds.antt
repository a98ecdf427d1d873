-- Allocating a given id. The ids between the bound and the id become freed ids.
use Rattle.std.proofs.Common.{
  ◌≡◌,
  ℕ,
  ◌+◌,
  ◌^◌,
  ◌<◌,
  ◌≤◌,
  ◌⊎◌,
  ◌↔◌,
  ◌-◌,
  ◌++◌,
  ◌||◌,
  ◌&&◌,
  leb,
  ltb,
  Bool,
  true,
  false,
  refl,
  ap,
  ◌∙◌,
  arith,
  inl,
  inr,
  Option,
  Some,
  None,
  Result,
  Ok,
  Err,
  is_ok,
  IsOk,
  IfOk,
  OnErr,
  IsTrue,
}
use Rattle.std.proofs.lemmas.Bool.{both_ways}
use Rattle.std.specs.Option.{SomeIff}
use Rattle.std.specs.Ordering.{nat_cmp, eq_by_cmp}
use Rattle.std.specs.BTreeSet.{BTreeSet, contains}
use Rattle.std.specs.List.{list_any, range_with_len}
use Rattle.std.proofs.lemmas.List.Folds.{list_any-append}
use Rattle.vm_list.specs.Runs.{Removes, IsInside}
use Rattle.vm_ids.specs.Ids.{MAX_ID, IdState, IsOfRange, WasEverAllocated, IsHeld, IsNotHeld, IsIdState, holding_id, bound_of, ids_of, IsNext, AreIds}
use Rattle.vm_ids.specs.IdRequests.{IsFreed, NeedsMemory, HoldsId, Peeks, AllocatesPeeked, AllocatesExactId}
use Rattle.vm_ranges.specs.declared.error.Error.{Error}
use Rattle.vm_ranges.specs.declared.error.Error.TheVariants.{OutOfRange, ResourceNotAvailable, OutOfMemory}
use Rattle.vm_ids.proofs.Ids.IdSets.{row_test, tests, inserted_test, same_state, bound_above}
use Rattle.vm_ids.proofs.Ids.IdFields.{holds, holds_not}
use Rattle.vm_ids.proofs.Ids.AllocatedIds.{takes_released, takes_same}
use Rattle.vm_ids.proofs.Ids.FreedIds.{keeps_same}

-- The set new has the ids of old, and those from `from` up to below `to`.
abbrev pub AddsBetween : ℕ → ℕ → BTreeSet ℕ → BTreeSet ℕ → Type 0
AddsBetween from to old new = (i : ℕ) → IsTrue (contains nat_cmp new i) ↔ (IsTrue (contains nat_cmp old i) ⊎ ((from ≤ i) × (i < to)))

pub adds_row : (from to : ℕ) (old new : BTreeSet ℕ) → from ≤ to → new.keys ≡ old.keys ++ range_with_len from (to - from) →
    AddsBetween from to old new
adds_row from to old new l e i =
    let both : contains nat_cmp new i ≡ (contains nat_cmp old i || (leb from i && ltb i (from + (to - from)))) =
    ap (list_any (eq_by_cmp nat_cmp i)) e ∙ list_any-append (eq_by_cmp nat_cmp i) old.keys (range_with_len from (to - from))
    ∙ rw (row_test from (to - from) i) refl in
    (λ t. grind (arith, both, t, l), λ t. grind (arith, both, t, l))

-- A result that is an error is not Ok.
pub not_ok : {T E : Type 0} → (r : Result T E) (e : E) → r ≡ Err e → IsOk r → ⊥
not_ok r e is o = both_ways (is_ok r) (ap is_ok is) o

pub absent : (b : Bool) → (b ≡ true → ⊥) → b ≡ false
absent true n = absurd (n refl)
absent false n = refl

-- ---- An id that was never allocated
-- No id from the bound on is a freed id.
pub none_past : (lo hi i : ℕ) (next : Option ℕ) (freed : BTreeSet ℕ) → AreIds lo hi next freed → bound_of next hi ≤ i →
    contains nat_cmp freed i ≡ false
none_past lo hi i next freed a l = grind (arith, a.freed_ids i)

-- The next id after MAX_ID is None.
bound_after_new : (hi k : ℕ) (after : Option ℕ) → hi ≤ MAX_ID → k ≤ hi → SomeIff after (k + 1 < 2 ^ 32) (k + 1) → bound_of after hi ≡ k + 1
bound_after_new hi k None m l s = omega (arith, s)
bound_after_new hi k (Some a) m l s = s.1

next_after_new : (lo hi k : ℕ) (after : Option ℕ) → hi ≤ MAX_ID → lo ≤ k → k ≤ hi → SomeIff after (k + 1 < 2 ^ 32) (k + 1) →
    IsNext lo hi after
next_after_new lo hi k None m b l s = omega (arith, s)
next_after_new lo hi k (Some a) m b l s = omega (arith, s)

-- The next id of a state whose bound is at most the id is a 32-bit number.
pub bound_is_word : {old : IdState} {lo hi k : ℕ} {next : Option ℕ} {freed : BTreeSet ℕ} → ids_of lo hi next freed ≡ old →
    AreIds lo hi next freed → (old.bound ≤ k) × (k ≤ old.hi) → (lo ≤ bound_of next hi) × (bound_of next hi ≤ k) × (k ≤ hi)
unfolding ids_of
bound_is_word {lo = lo} {hi = hi} {next = next} e a = rw (← e) (λ b. (bound_above lo hi next a.range a.next_id, b.0, b.1))

pub bound_below : (old : IdState) (lo hi k : ℕ) (next : Option ℕ) (freed : BTreeSet ℕ) → ids_of lo hi next freed ≡ old →
    bound_of next hi < k → old.bound < k
unfolding ids_of
bound_below old lo hi k next freed e = rw (← e) (λ b. b)

module _ (old : IdState) (lo hi k : ℕ) (next : Option ℕ) (freed more : BTreeSet ℕ) (e : ids_of lo hi next freed ≡ old) where
  pub holds_no_memory : bound_of next hi < k → more ≡ freed → HoldsId old k (Err OutOfMemory) (ids_of lo hi next more)
  unfolding HoldsId ids_of
  holds_no_memory l same = rw (← e) (inr (inl l, refl, takes_same lo hi next freed more same))

  module _ (after : Option ℕ) (a : AreIds lo hi next freed) (r : (old.bound ≤ k) × (k ≤ old.hi))
      (added : AddsBetween (bound_of next hi) k freed more) (s : SomeIff after (k + 1 < 2 ^ 32) (k + 1)) where
    pub keeps_new : AreIds lo hi after more
    keeps_new =
        let w = bound_is_word e a r in
        let b = bound_after_new hi k after a.ids w.2 s in record {
          range = a.range;
          ids = a.ids;
          next_id = next_after_new lo hi k after a.ids (omega (arith, w.0, w.1)) w.2 s;
          freed_ids = λ q t. grind (arith, added q, a.freed_ids q, w, b);
        }

    pub holds_past : HoldsId old k (Ok k) (ids_of lo hi after more)
    unfolding HoldsId ids_of
    holds_past =
        let w = bound_is_word e a r in
        let b = bound_after_new hi k after a.ids w.2 s in
        let held = same_state (ids_of lo hi after more) (holding_id k (ids_of lo hi next freed)) refl refl (omega (arith, b, w.1))
        (λ q. grind (arith, tests, added q, a.freed_ids q, w, b)) in
        inl (refl, held ∙ ap (holding_id k) e)

pub ruleset holds_new = (none_past, bound_is_word, keeps_new, keeps_same, holds_past, holds_no_memory, adds_row)

-- Allocating an id of the range leaves a valid state.
pub holding_in_range : (old : IdState) (n : ℕ) → IsIdState old → IsOfRange old n → IsIdState (holding_id n old)
holding_in_range old n s o = record {
  range = s.range;
  ids = s.ids;
  bound = grind arith;
  held = λ i m. grind (arith, inserted_test, s.held i);
}

-- ---- The cases of `allocate_exact`
pub exact_outside : (old : IdState) (k : ℕ) → (IsOfRange old k → ⊥) → AllocatesExactId old k (Err (OutOfRange k)) old
unfolding AllocatesPeeked Peeks
exact_outside old k n = inr (OutOfRange k, inl (n, refl), refl, refl)

pub exact_new : (old new : IdState) (k : ℕ) (r : Result ℕ Error) → IsOfRange old k → ¬ IsHeld old k → HoldsId old k r new →
    AllocatesExactId old k r new
unfolding AllocatesPeeked Peeks
exact_new old new k r o n h = inl (k, inr (o, inr (n, refl)), h)

module _ (old : IdState) (lo hi k : ℕ) (next : Option ℕ) (freed left : BTreeSet ℕ) (e : ids_of lo hi next freed ≡ old) where
  pub exact_freed : AreIds lo hi next freed → IsOfRange old k → IsTrue (contains nat_cmp freed k) → Removes k freed left →
      AllocatesExactId old k (Ok k) (ids_of lo hi next left)
  unfolding HoldsId
  exact_freed a o t u =
      exact_new old _ k (Ok k) o (holds_not old lo hi next freed e k t)
      (inl (refl, takes_released lo hi k next freed left a t u ∙ ap (holding_id k) e))

  -- An id between two freed ids can be out of memory.
  pub exact_no_memory : AreIds lo hi next freed → IsOfRange old k → IsInside k freed → left ≡ freed →
      AllocatesExactId old k (Err OutOfMemory) (ids_of lo hi next left)
  unfolding HoldsId ids_of
  exact_no_memory a o n same =
      exact_new old _ k (Err OutOfMemory) o (holds_not old lo hi next freed e k n.own) (inr (
        inr (n.first, freed_there (k - 1) (a.freed_ids (k - 1) n.below) n.below, freed_there (k + 1) (a.freed_ids (k + 1) n.above) n.above),
        refl,
        takes_same lo hi next freed left same ∙ e,
      ))
    where
      freed_there : (i : ℕ) → (lo ≤ i) × (i < bound_of next hi) → IsTrue (contains nat_cmp freed i) → IsFreed old i
      freed_there i w t = (rw (← e) w, holds_not old lo hi next freed e i t)

  pub exact_taken : IsOfRange old k → WasEverAllocated old k → contains nat_cmp freed k ≡ false → left ≡ freed →
      AllocatesExactId old k (Err ResourceNotAvailable) (ids_of lo hi next left)
  unfolding AllocatesPeeked Peeks
  exact_taken o w f same =
      inr (ResourceNotAvailable, inr (o, inl (holds old lo hi next freed e k w f, refl)), refl, takes_same lo hi next freed left same ∙ e)

pub keeps_less : (lo hi k : ℕ) (next : Option ℕ) (freed left : BTreeSet ℕ) → AreIds lo hi next freed → Removes k freed left →
    AreIds lo hi next left
keeps_less lo hi k next freed left a u = record {
  range = a.range;
  ids = a.ids;
  next_id = a.next_id;
  freed_ids = λ q t. grind (arith, u q, a.freed_ids q);
}

-- ---- Facts of each result
module _ (old new : IdState) (k : ℕ) (r : Result ℕ Error) (h : AllocatesExactId old k r new) where
  pub exact_state : IfOk r (λ i. (i ≡ k) × (new ≡ holding_id k old))
  unfolding AllocatesPeeked Peeks HoldsId
  exact_state = grind arith

  pub exact_was_free : IfOk r (λ i. IsNotHeld old i)
  unfolding AllocatesPeeked Peeks HoldsId
  exact_was_free = grind arith

  pub exact_succeeds : IsNotHeld old k → ¬ NeedsMemory old k → r ≡ Ok k
  unfolding AllocatesPeeked Peeks HoldsId
  exact_succeeds = grind arith

  pub exact_unchanged : OnErr r (new ≡ old)
  unfolding AllocatesPeeked Peeks HoldsId
  exact_unchanged = grind arith

pub ruleset exact = (
  exact_outside,
  exact_new,
  exact_freed,
  exact_no_memory,
  exact_taken,
  keeps_less,
  keeps_same,
  exact_state,
  exact_was_free,
  exact_succeeds,
  exact_unchanged,
)
