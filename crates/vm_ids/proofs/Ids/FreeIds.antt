-- The ids of the range that are not held: their list, their number, and allocating the lowest of them.
use Rattle.std.proofs.Common.{
  ◌≡◌,
  ℕ,
  ◌+◌,
  ◌-◌,
  ◌<◌,
  ◌≤◌,
  Bool,
  true,
  not,
  ◌&&◌,
  List,
  [],
  ◌∷◌,
  ◌++◌,
  length,
  take,
  refl,
  sym,
  ap,
  ◌∙◌,
  arith,
  inl,
  inr,
  Option,
  Result,
  MatchResult,
  leb,
  Ok,
  Err,
  IsOk,
  nat_cmp,
  append_assoc,
}
use Rattle.std.proofs.Math.Seq.{take-append_seam}
use Rattle.std.proofs.lemmas.Bool.{or_left}
use Rattle.std.proofs.lemmas.List.{length-append}
use Rattle.std.proofs.lemmas.List.Filters.{length-filter_both}
use Rattle.std.proofs.lemmas.List.FromFn.{length-range_with_len}
use Rattle.std.specs.List.{filter, list_any, range_with_len}
use Rattle.std.specs.List.Sorted.{IsStrictlySortedBy}
use Rattle.std.specs.Ordering.{eq_by_cmp}
use Rattle.std.specs.BTreeSet.{BTreeSet}
use Rattle.std.specs.FinSet as set
use Rattle.vm_ranges.proofs.NumberSets.{tied_here}
use Rattle.vm_ids.specs.Ids.{MAX_ID, IdState, IsNotHeld, IsLowestNotHeld, IsIdState, held_count, held_ids, holding_id, ids_of, AreIds}
use Rattle.vm_ranges.specs.declared.error.Error.{Error}
use Rattle.vm_ranges.specs.Cases.{IfElse}
use Rattle.vm_ranges.specs.declared.error.Error.TheVariants.{Overflow, ResourceNotAvailable, OutOfMemory}
use Rattle.vm_ids.specs.IdRequests.{free_ids, holding_ids, AllocatesIds}
use Rattle.vm_ids.proofs.Ids.IdSets.{inserted_test}
use Rattle.vm_ids.proofs.Ids.IdFields.{is_state}
use Rattle.vm_ids.proofs.Ids.RisingIds.{same_rising}
use Rattle.vm_ids.proofs.Ids.IdRows.{passed_rise, row_passed}
use Rattle.vm_ids.proofs.Ids.AscendingBounds.{rises_above}
use Rattle.vm_ids.proofs.Ids.HeldIds.{in_held_ids, held_ids_rise, held_ids_counted}

abbrev same : ℕ → ℕ → Bool
same = eq_by_cmp nat_cmp

-- ---- The list of the ids that are not held
pub free_test : (state : IdState) (q : ℕ) →
    list_any (same q) (free_ids state) ≡ (not (set.contains state.held q) && (leb state.lo q && leb q state.hi))
free_test state q =
    row_passed (λ i. not (set.contains state.held i)) state.lo (state.hi + 1 - state.lo) q ∙ grind arith

pub in_free : (state : IdState) (q : ℕ) → list_any (same q) (free_ids state) ≡ true → IsNotHeld state q
in_free state q t = grind (arith, free_test state q)

pub free_rise : (state : IdState) → IsStrictlySortedBy nat_cmp (free_ids state)
free_rise state = passed_rise (λ i. not (set.contains state.held i)) state.lo (state.hi + 1 - state.lo)

-- ---- Their number
pub free_and_held : (state : IdState) → IsIdState state → length (free_ids state) + held_count state ≡ state.hi + 1 - state.lo
free_and_held state s =
    let held : ℕ → Bool = λ i. set.contains state.held i in
    let n = state.hi + 1 - state.lo in
    let row = range_with_len state.lo n in
    let listed : filter held row ≡ held_ids state = same_rising _ _ (passed_rise held state.lo n) (held_ids_rise state)
    (λ q. row_passed held state.lo n q ∙ grind (arith, s.held q, in_held_ids state s q)) in
    let both = length-filter_both held (λ i. not (held i)) (λ i. refl) row in
    omega (arith, both, length-range_with_len state.lo n, ap length listed, held_ids_counted state s)

pub free_counted : (state : IdState) (lo hi : ℕ) (next : Option ℕ) (freed : BTreeSet ℕ) → ids_of lo hi next freed ≡ state →
    AreIds lo hi next freed → length (free_ids state) + held_count state ≡ hi + 1 - lo
unfolding ids_of
free_counted state lo hi next freed e a =
    free_and_held state (is_state state lo hi next freed e a) ∙ ap (λ (s : IdState). s.hi + 1 - s.lo) (sym e)

pub ruleset counts = (free_counted)

-- ---- Allocating the lowest of them
-- The lowest id that is not held is the first of the list, and the rest is left after it is allocated.
pub lowest_first : (state : IdState) (i : ℕ) → IsLowestNotHeld state i → free_ids state ≡ i ∷ free_ids (holding_id i state)
unfolding IsLowestNotHeld
lowest_first state i f =
    let new = holding_id i state in
    same_rising (free_ids state) (i ∷ free_ids new) (free_rise state)
    (rises_above i (free_ids new) (λ q t. grind (arith, free_test new q, inserted_test, f.1 q)) (free_rise new))
    (λ q. grind (arith, free_test state q, free_test new q, inserted_test, f.0))

-- ---- Several ids
pub holding_more : (xs : List ℕ) (i : ℕ) (state : IdState) → holding_ids (xs ++ i ∷ []) state ≡ holding_id i (holding_ids xs state)
holding_more [] i state = refl
holding_more (x ∷ xs) i state = holding_more xs i (holding_id x state)

-- The first of a list is in it.
first_of : (xs : List ℕ) → 0 < length xs → (i : ℕ) × (list_any (same i) xs ≡ true)
first_of [] l = absurd (omega arith)
first_of (x ∷ xs) l = (x, or_left _ _ (tied_here x))

-- While fewer ids are taken than were free, one is free.
pub more_free : (first mid : IdState) (taken : List ℕ) (r : Result ℕ Error) → free_ids first ≡ taken ++ free_ids mid →
    length taken < length (free_ids first) → ((i : ℕ) → IsNotHeld mid i → IsOk r) → IsOk r
more_free first mid taken r e n free =
    let parts = ap length e ∙ length-append taken (free_ids mid) in
    let f = first_of (free_ids mid) (omega (arith, parts, n)) in
    free f.0 (in_free mid f.0 f.1)

pub taken_more : (first mid new : IdState) (taken : List ℕ) (i : ℕ) → free_ids first ≡ taken ++ free_ids mid →
    IsLowestNotHeld mid i → new ≡ holding_id i mid → free_ids first ≡ (taken ++ i ∷ []) ++ free_ids new
taken_more first mid new taken i e f h =
    rw (e, lowest_first mid i f, h) (sym (append_assoc taken (i ∷ []) (free_ids (holding_id i mid))))

pub taken_all : (first new : IdState) (taken : List ℕ) (count : ℕ) → free_ids first ≡ taken ++ free_ids new → length taken ≡ count →
    taken ≡ take count (free_ids first)
taken_all first new taken count e n = rw (e, ← n) (sym (take-append_seam taken (free_ids new)))

-- ---- The cases of `allocate_ids`
pub ids_refused : (old : IdState) (count : ℕ) (e : Error) → length (free_ids old) < count →
    IfElse (old.hi ≡ MAX_ID) (e ≡ Overflow) (e ≡ ResourceNotAvailable) → AllocatesIds old count (Err e) old
unfolding AllocatesIds
ids_refused old count e few h = grind arith

pub ids_no_memory : (old : IdState) (count : ℕ) → count ≤ length (free_ids old) → 0 < count → AllocatesIds old count (Err OutOfMemory) old
unfolding AllocatesIds
ids_no_memory old count enough some = inr (λ few. omega arith, inr (some, (refl, refl)))

pub ids_taken : (old new : IdState) (count : ℕ) (ids : List ℕ) → free_ids old ≡ ids ++ free_ids new → length ids ≡ count →
    new ≡ holding_ids ids old → AllocatesIds old count (Ok ids) new
unfolding AllocatesIds
ids_taken old new count ids e n h =
    let all = taken_all old new ids count e n in
    let parts = ap length e ∙ length-append ids (free_ids new) in
    inr (λ few. omega (arith, parts), inl (ap Ok all, h ∙ ap (λ (xs : List ℕ). holding_ids xs old) all))

-- The ids are the first free ones, and exactly they are allocated. An error changes nothing.
pub several_state : (old new : IdState) (count : ℕ) (r : Result (List ℕ) Error) → AllocatesIds old count r new →
    MatchResult r (λ ids. (ids ≡ take count (free_ids old)) × (new ≡ holding_ids ids old)) (λ e. new ≡ old)
unfolding AllocatesIds
several_state old new count r h = grind arith

pub ruleset several = (ids_refused)
