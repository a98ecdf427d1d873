-- A move begins: the result of the request in the state in which the range is free.
use Rattle.std.proofs.Common.{◌≡◌, ◌≢◌, ℕ, ◌+◌, ◌-◌, ◌%◌, ◌<◌, ◌≤◌, ◌⊎◌, length, true, arith, refl, sym, ap, ◌∙◌, inl, inr, ⊎_elim, subst, Option, Some, None, Result, Ok, Err}
use Rattle.std.specs.List.{Contains}
use Rattle.std.proofs.lemmas.Bool.{cases_lt}
use Rattle.vm_ranges.specs.Cases.{IfElse}
use Rattle.vm_ranges.specs.Range.{Range, MAX, IsIn, address_count, span}
use Rattle.vm_ranges.specs.Request.{Request, IsRequest, IsStartAligned}
use Rattle.vm_ranges.specs.declared.error.Error.{Error}
use Rattle.vm_ranges.specs.declared.error.Error.TheVariants.{Overflow, ResourceNotAvailable}
use Rattle.vm_ranges.specs.declared.constraint.AllocPolicy.{AllocPolicy}
use Rattle.vm_ranges.specs.declared.constraint.AllocPolicy.TheVariants.{FirstMatch, LastMatch, ExactMatch}
use Rattle.vm_leaf.specs.Block.{free_block}
use Rattle.vm_leaf.specs.Fit.{HasNoFit, IsFit, IsLowestFit, IsHighestFit}
use Rattle.vm_ranges.specs.Address.{AddressState, IsAddressState, IsClear, AreClear, IsPlace, IsLowestPlace, IsHighestPlace, SplitsGap, holding, releasing}
use Rattle.vm_ranges.specs.Answer.{IsChosen, ByStart, ByExactPolicy, ByPlace, AllocatesAt, Grants, Allocates}
use Rattle.vm_ranges.specs.Windows.{part_in, within, window_in}
use Rattle.vm_space.specs.Spares.{HasSpare}
use Rattle.vm_addresses.specs.Moves.{replacing, MovesRange, CanReplace, IsBegun, BeginsMove}
use Rattle.vm_addresses.specs.Checks.Moving.{BeginsInside, FindsStart, FindsPlaceIn, IsForCloser, IsLeftGap, part_for}
use Rattle.vm_addresses.specs.declared.address_allocator.moving.BegunMove.{BegunMove}
use Rattle.vm_ranges.proofs.Decisions.{decided_in}
use Rattle.vm_ranges.proofs.RangeCalls.{same_range}
use Rattle.vm_ranges.proofs.PlainWords.{held_contains, contains_held, none_holds, held_address}
use Rattle.vm_addresses.proofs.Blocks.HeldChanges.{held_without, others_held, not_held_without}
use Rattle.vm_addresses.proofs.Moving.LeftGaps.{held_below}
use Rattle.vm_addresses.proofs.Moving.LeftPlaces.{LieIn, place_parts, place_within, fit_parts, AreBeside, released_then, fit_or_place, fit_place, still_place, beside_allocates}
use Rattle.vm_addresses.proofs.Moving.Inside.{gap_is_filled, one_less, grants_at, fails, succeeds}
use Rattle.vm_addresses.proofs.Moving.Places.{start_fits}
use Rattle.vm_addresses.proofs.Results.Filling.{TakesBelowMax}
use Rattle.vm_addresses.proofs.Results.Once.{chosen_place}
use Rattle.vm_addresses.proofs.Results.Outcomes.{given_or_refused, grants_outcome}
use Rattle.vm_addresses.proofs.Results.Requests.{request_in, request_allocates}

-- ---- The ends of a window
-- Clear addresses that lie in the window are between its ends.
from_start : (w : Option Range) (n t : ℕ) (s : AddressState) → 0 < n → AreClear n s t → LieIn w n t → (window_in w s.space).start ≤ t
from_start None n t s z c l = (c t (omega arith) (omega (arith, z))).0.0
from_start (Some v) n t s z c l = l.0

upto_end : (w : Option Range) (n t : ℕ) (s : AddressState) → 0 < n → AreClear n s t → LieIn w n t → t + n ≤ (window_in w s.space).end + 1
upto_end None n t s z c l = let last = c (t + n - 1) (omega (arith, z)) (omega (arith, z)) in omega (arith, last.0.1, z)
upto_end (Some v) n t s z c l = l.1

-- Addresses between an end of the window and addresses that lie in it lie in it too.
below_lie : (w : Option Range) (n p s : ℕ) (sp : Range) → LieIn w n s → (window_in w sp).start ≤ p → p ≤ s → LieIn w n p
below_lie None n p s sp l a b = tt
below_lie (Some v) n p s sp l a b = (a, omega (arith, b, l.1))

above_lie : (w : Option Range) (n p s : ℕ) (sp : Range) → LieIn w n s → s ≤ p → p + n ≤ (window_in w sp).end + 1 → LieIn w n p
above_lie None n p s sp l a b = tt
above_lie (Some v) n p s sp l a b = (omega (arith, a, l.0), b)

-- The result for a range is not ResourceNotAvailable.
not_lacking : (counted n s : ℕ) (st new : AddressState) (answer : Result Range Error) → TakesBelowMax counted st n s answer new →
    answer ≢ Err ResourceNotAvailable
unfolding AllocatesAt
not_lacking counted n s st new answer (inl k) e = cc (k.1.0, e)
not_lacking counted n s st new answer (inr (below, inl k)) e = cc (k.1.0, e)
not_lacking counted n s st new answer (inr (below, inr (splits, inl k))) e = cc (k.1.0, e)
not_lacking counted n s st new answer (inr (below, inr (splits, inr (few, inl k)))) e = cc (k.0, e)
not_lacking counted n s st new answer (inr (below, inr (splits, inr (few, inr k)))) e = cc (k.0, e)

-- ---- The place that a policy chooses after the range is freed
module _ (old : AddressState) (r gap : Range) (valid : IsAddressState old) (held : Contains old.held r) (left : IsLeftGap old r gap)
    (counted n a : ℕ) (w : Option Range) (z : 0 < n) where
  abbrev Fits : ℕ → Type 0
  Fits t = IsFit n a (free_block (part_in w gap)) t

  abbrev freed : AddressState
  freed = releasing r old

  -- A place that is no fit is beside the gap.
  beside : (t : ℕ) → IsPlace n a (within w old) t → ¬ Fits t → AreClear n old t × AreBeside gap n t
  beside t p nofit =
      let k = place_parts w n a t old z p in
      ⊎_elim (λ f. absurd (nofit f)) (λ b. (k.1, b.1))
      (fit_or_place old r gap valid held left w n a t z (still_place old r gap valid held left w n a t z p))

  -- The result for a place that is no fit.
  settles : (t : ℕ) (answer : Result Range Error) (new : AddressState) → IsPlace n a (within w old) t → ¬ Fits t →
      TakesBelowMax counted old n t answer new → TakesBelowMax counted freed n t answer (released_then old r answer)
  settles t answer new p nofit h =
      let b = beside t p nofit in
      ⊎_elim
      (λ k. inl (k.0, (k.1.0, ap (λ (v : Result Range Error). released_then old r v) k.1.0)))
      (λ k. inr (k.0, beside_allocates old r gap valid held left counted n t answer new z b.0 b.1 k.1))
      h

  -- ---- The lowest place
  module _ (s : ℕ) (fit : IsLowestFit n a (free_block (part_in w gap)) s) where
    abbrev cut_first : Option Range
    cut_first = Some (record { start = (window_in w old.space).start; end = s + n - 1 - 1 })

    fit_first : Fits s
    unfolding IsLowestFit
    fit_first = fit.0

    -- A place that ends before the fit is in the cut window.
    in_cut_first : (t : ℕ) → IsPlace n a (within w old) t → t < s → IsPlace n a (within cut_first old) t
    in_cut_first t p l =
        let k = place_parts w n a t old z p in
        place_within cut_first n a t old k.0 k.1 (from_start w n t old z k.1 k.2, omega (arith, l, z))

    -- A place in the cut window is a place in the window, below the fit.
    of_cut_first : (p : ℕ) → (window_in w old.space).start < s + n - 1 → IsPlace n a (within cut_first old) p → IsPlace n a (within w old) p × (p < s)
    of_cut_first p room c =
        let k = place_parts cut_first n a p old z c in
        let lie = (fit_parts w gap n a s fit_first).2 in
        let below : p < s = omega (arith, k.2.1, z, room) in
        (place_within w n a p old k.0 k.1 (below_lie w n p s old.space lie k.2.0 (omega (arith, below))), below)

    no_fit_first : (p : ℕ) → p < s → ¬ Fits p
    unfolding IsLowestFit
    no_fit_first p l f = omega (arith, l, fit.1 p f)

    lowest_first : (p : ℕ) → (window_in w old.space).start < s + n - 1 → IsLowestPlace n a (within cut_first old) p → IsLowestPlace n a (within w freed) p
    unfolding IsLowestPlace IsLowestFit
    lowest_first p room c =
        let k = of_cut_first p room c.0 in (
          still_place old r gap valid held left w n a p z k.0,
          λ t q. ⊎_elim
              (λ f. omega (arith, fit.1 t f, k.1))
              (λ b. ⊎_elim (λ (l : t < s). c.1 t (in_cut_first t b.0 l)) (λ (l : s ≤ t). omega (arith, l, k.1)) (cases_lt t s))
              (fit_or_place old r gap valid held left w n a t z q),
        )

    -- The fit is the lowest place if no place is in the cut window, or if the window starts past its range.
    fit_is_lowest : ((t : ℕ) → t < s → ¬ IsPlace n a (within w old) t) → IsLowestPlace n a (within w freed) s
    unfolding IsLowestPlace IsLowestFit
    fit_is_lowest none = (
      fit_place old r gap valid held left w n a s fit_first,
      λ t q. ⊎_elim
          (λ f. fit.1 t f)
          (λ b. ⊎_elim (λ (l : t < s). absurd (none t l b.0)) (λ (l : s ≤ t). l) (cases_lt t s))
          (fit_or_place old r gap valid held left w n a t z q),
    )

    pub none_before : s + n - 1 ≤ (window_in w old.space).start → (t : ℕ) → t < s → ¬ IsPlace n a (within w old) t
    none_before past t l p = let k = place_parts w n a t old z p in omega (arith, l, past, z, from_start w n t old z k.1 k.2)

    -- The result in the cut window: none there, or that after the range is freed.
    pub closer_first : (window_in w old.space).start < s + n - 1 →
        (answer : Result Range Error) (new : AddressState) → Grants counted old (request_in cut_first n a FirstMatch) answer new →
        (IsLowestPlace n a (within w freed) s × (answer ≡ Err ResourceNotAvailable))
        ⊎ ((answer ≢ Err ResourceNotAvailable) × Grants counted freed (request_in w n a FirstMatch) answer (released_then old r answer))
    unfolding Grants ByExactPolicy ByPlace IsChosen IsLowestPlace
    closer_first room answer new h =
        ⊎_elim
        (λ u. inl (fit_is_lowest (λ t l p. u.0 t (in_cut_first t p l)), u.1.0))
        (λ u.
        let k = of_cut_first u.0 room u.1.0 in
        let there = settles u.0 answer new k.0 (no_fit_first u.0 k.1) u.2 in
        inr (not_lacking counted n u.0 freed (released_then old r answer) answer there, inr (u.0, lowest_first u.0 room u.1, there)))
        h

    pub alone_first : s + n - 1 ≤ (window_in w old.space).start → IsLowestPlace n a (within w freed) s
    alone_first past = fit_is_lowest (none_before past)

  -- ---- The highest place
  module _ (s : ℕ) (fit : IsHighestFit n a (free_block (part_in w gap)) s) where
    abbrev cut_last : Option Range
    cut_last = Some (record { start = s + 1; end = (window_in w old.space).end })

    fit_last : Fits s
    unfolding IsHighestFit
    fit_last = fit.0

    in_cut_last : (t : ℕ) → IsPlace n a (within w old) t → s < t → IsPlace n a (within cut_last old) t
    in_cut_last t p l =
        let k = place_parts w n a t old z p in
        place_within cut_last n a t old k.0 k.1 (omega (arith, l), upto_end w n t old z k.1 k.2)

    of_cut_last : (p : ℕ) → IsPlace n a (within cut_last old) p → IsPlace n a (within w old) p × (s < p)
    of_cut_last p c =
        let k = place_parts cut_last n a p old z c in
        let lie = (fit_parts w gap n a s fit_last).2 in
        let above : s < p = omega (arith, k.2.0) in
        (place_within w n a p old k.0 k.1 (above_lie w n p s old.space lie (omega (arith, above)) k.2.1), above)

    no_fit_last : (p : ℕ) → s < p → ¬ Fits p
    unfolding IsHighestFit
    no_fit_last p l f = omega (arith, l, fit.1 p f)

    highest_last : (p : ℕ) → IsHighestPlace n a (within cut_last old) p → IsHighestPlace n a (within w freed) p
    unfolding IsHighestPlace IsHighestFit
    highest_last p c =
        let k = of_cut_last p c.0 in (
          still_place old r gap valid held left w n a p z k.0,
          λ t q. ⊎_elim
              (λ f. omega (arith, fit.1 t f, k.1))
              (λ b. ⊎_elim (λ (l : s < t). c.1 t (in_cut_last t b.0 l)) (λ (l : t ≤ s). omega (arith, l, k.1)) (cases_lt s t))
              (fit_or_place old r gap valid held left w n a t z q),
        )

    fit_is_highest : ((t : ℕ) → s < t → ¬ IsPlace n a (within w old) t) → IsHighestPlace n a (within w freed) s
    unfolding IsHighestPlace IsHighestFit
    fit_is_highest none = (
      fit_place old r gap valid held left w n a s fit_last,
      λ t q. ⊎_elim
          (λ f. fit.1 t f)
          (λ b. ⊎_elim (λ (l : s < t). absurd (none t l b.0)) (λ (l : t ≤ s). l) (cases_lt s t))
          (fit_or_place old r gap valid held left w n a t z q),
    )

    pub none_after : (window_in w old.space).end ≤ s → (t : ℕ) → s < t → ¬ IsPlace n a (within w old) t
    none_after past t l p = let k = place_parts w n a t old z p in omega (arith, l, past, z, upto_end w n t old z k.1 k.2)

    pub closer_last : (answer : Result Range Error) (new : AddressState) → Grants counted old (request_in cut_last n a LastMatch) answer new →
        (IsHighestPlace n a (within w freed) s × (answer ≡ Err ResourceNotAvailable))
        ⊎ ((answer ≢ Err ResourceNotAvailable) × Grants counted freed (request_in w n a LastMatch) answer (released_then old r answer))
    unfolding Grants ByExactPolicy ByPlace IsChosen IsHighestPlace
    closer_last answer new h =
        ⊎_elim
        (λ u. inl (fit_is_highest (λ t l p. u.0 t (in_cut_last t p l)), u.1.0))
        (λ u.
        let k = of_cut_last u.0 u.1.0 in
        let there = settles u.0 answer new k.0 (no_fit_last u.0 k.1) u.2 in
        inr (not_lacking counted n u.0 freed (released_then old r answer) answer there, inr (u.0, highest_last u.0 u.1, there)))
        h

    pub alone_last : (window_in w old.space).end ≤ s → IsHighestPlace n a (within w freed) s
    alone_last past = fit_is_highest (none_after past)

  -- ---- No fit in the gap
  module _ (none : HasNoFit n a (free_block (part_in w gap))) where
    no_fit : (t : ℕ) → ¬ Fits t
    unfolding HasNoFit
    no_fit t = none t

    -- The places are those before.
    was_place : (t : ℕ) → IsPlace n a (within w freed) t → IsPlace n a (within w old) t
    was_place t q = ⊎_elim (λ f. absurd (no_fit t f)) (λ b. b.0) (fit_or_place old r gap valid held left w n a t z q)

    pub away_first : (answer : Result Range Error) (new : AddressState) → Grants counted old (request_in w n a FirstMatch) answer new →
        Grants counted freed (request_in w n a FirstMatch) answer (released_then old r answer)
    unfolding Grants ByExactPolicy ByPlace IsChosen IsLowestPlace
    away_first answer new h =
        ⊎_elim
        (λ u. inl ((λ t q. u.0 t (was_place t q)), (u.1.0, ap (λ (v : Result Range Error). released_then old r v) u.1.0)))
        (λ u. inr (
          u.0,
          (still_place old r gap valid held left w n a u.0 z u.1.0, λ t q. u.1.1 t (was_place t q)),
          settles u.0 answer new u.1.0 (no_fit u.0) u.2,
        ))
        h

    pub away_last : (answer : Result Range Error) (new : AddressState) → Grants counted old (request_in w n a LastMatch) answer new →
        Grants counted freed (request_in w n a LastMatch) answer (released_then old r answer)
    unfolding Grants ByExactPolicy ByPlace IsChosen IsHighestPlace
    away_last answer new h =
        ⊎_elim
        (λ u. inl ((λ t q. u.0 t (was_place t q)), (u.1.0, ap (λ (v : Result Range Error). released_then old r v) u.1.0)))
        (λ u. inr (
          u.0,
          (still_place old r gap valid held left w n a u.0 z u.1.0, λ t q. u.1.1 t (was_place t q)),
          settles u.0 answer new u.1.0 (no_fit u.0) u.2,
        ))
        h

  -- ---- A start that is no fit
  module _ (t : ℕ) (aligned : t % a ≡ 0) (nofit : ¬ Fits t) where
    place_of : (st : AddressState) → AreClear n (within w st) t → IsPlace n a (within w st) t
    unfolding IsPlace
    place_of st c = (aligned, c)

    clear_of : (st : AddressState) → IsPlace n a (within w st) t → AreClear n (within w st) t
    unfolding IsPlace
    clear_of st p = p.1

    -- The addresses are clear if and only if they were.
    was_clear : AreClear n (within w freed) t → AreClear n (within w old) t
    was_clear c = ⊎_elim (λ f. absurd (nofit f)) (λ b. clear_of old b.0) (fit_or_place old r gap valid held left w n a t z (place_of freed c))

    is_clear : AreClear n (within w old) t → AreClear n (within w freed) t
    is_clear c = clear_of freed (still_place old r gap valid held left w n a t z (place_of old c))

    pub away_exact : ((t ≡ r.start) × (n ≡ address_count r) → ⊥) → (answer : Result Range Error) (new : AddressState) →
        Grants counted old (request_in w n a (ExactMatch t)) answer new →
        Grants counted freed (request_in w n a (ExactMatch t)) answer (released_then old r answer)
    unfolding Grants ByExactPolicy ByStart ByPlace IsChosen
    away_exact other answer new h =
        let refused : (e : Error) → (answer ≡ Err e) × (new ≡ old) → (answer ≡ Err e) × (released_then old r answer ≡ freed) = λ e k.
        (k.0, ap (λ (v : Result Range Error). released_then old r v) k.0) in
        let apart : ¬ (r ≡ span t n) = λ e. other (sym (ap (λ (v : Range). v.start) e), omega (arith, ap (λ (v : Range). v.start) e, ap (λ (v : Range). v.end) e, z)) in
        let now_held : Contains old.held (span t n) → Contains freed.held (span t n) = λ c. contains_held freed.held (span t n)
        (others_held old.space.start old.space.end r (span t n) old.held valid.in_order (held_contains old.held r held)
        (held_contains old.held (span t n) c) apart) in
        let was_held : Contains freed.held (span t n) → Contains old.held (span t n) = λ c. contains_held old.held (span t n)
        (held_without r (span t n) old.held (held_contains freed.held (span t n) c)) in
        ⊎_elim (λ k. inl (k.0, refused _ k.1)) (λ k. inr (
          k.0,
          ⊎_elim (λ k. inl (k.0, refused _ k.1)) (λ k. inr (
            k.0,
            ⊎_elim (λ k. inl (k.0, refused _ k.1)) (λ k. inr (
              k.0,
              ⊎_elim (λ k. inl (now_held k.0, refused _ k.1)) (λ k. inr (
                (λ c. k.0 (was_held c)),
                ⊎_elim (λ k. inl ((λ c. k.0 (was_clear c)), refused _ k.1)) (λ c. inr (
                  is_clear c.0,
                  ⊎_elim (λ k. inl (k.0, refused _ k.1)) (λ k. inr (
                    k.0,
                    ⊎_elim (λ u. absurd (u.0 t (place_of old c.0)))
                        (λ u. inr (
                          u.0,
                          (u.1.0, still_place old r gap valid held left w n a u.0 z u.1.1),
                          settles u.0 answer new u.1.1 (subst (λ (v : ℕ). ¬ Fits v) (sym u.1.0) nofit) u.2,
                        )) k.1,
                  ))
                      c.1,
                )) k.1,
              )) k.1,
            )) k.1,
          )) k.1,
        )) h

    -- A request for exactly the range, which is not in the window.
    pub asked_exact : (t ≡ r.start) × (n ≡ address_count r) → Grants counted freed (request_in w n a (ExactMatch t)) (Err ResourceNotAvailable) freed
    unfolding Grants ByExactPolicy ByStart
    asked_exact same =
        let below = held_below old r valid held in
        let is : r ≡ span t n = same_range r (span t n) (omega (arith, same.0)) (omega (arith, same.0, same.1, below.0)) in
        ⊎_elim
        (λ i. inr (
          (λ e. omega (arith, e, same.0, below.0, below.1)),
          inr (
            i,
            inr (
              (λ o. omega (arith, o, same.0, same.1, below.0, below.1)),
              inr (
                (λ c. not_held_without old.space.start old.space.end r (span t n) old.held valid.in_order (held_contains freed.held (span t n) c) is),
                inl (
                  (λ c. none_holds old.held t ((was_clear c) t (omega arith) (omega (arith, z))).1
                      (held_address old.held r t (held_contains old.held r held) (omega (arith, same.0), omega (arith, same.0, below.0)))),
                  (refl, refl),
                ),
              ),
            ),
          ),
        ))
        (λ out. inr ((λ e. omega (arith, e, same.0, below.0, below.1)), inl (out, (refl, refl))))
        (decided_in (within w freed).space t)

-- ---- A request by its policy
module _ (old : AddressState) (r gap : Range) (valid : IsAddressState old) (held : Contains old.held r) (left : IsLeftGap old r gap)
    (counted n a : ℕ) (w : Option Range) (z : 0 < n) where
  abbrev Moved : AllocPolicy → Result Range Error → Type 0
  Moved policy answer = Grants counted (releasing r old) (request_in w n a policy) answer (released_then old r answer)

  abbrev For : AllocPolicy → Request
  For policy = request_in w n a policy

  -- The gap has no place for it.
  away_by : (policy : AllocPolicy) → IsStartAligned a policy → FindsStart (part_for (For policy) gap) (For policy) None →
      ((policy ≡ ExactMatch r.start) × (n ≡ address_count r) → ⊥) → (answer : Result Range Error) (new : AddressState) →
      Grants counted old (For policy) answer new → Moved policy answer
  unfolding IsStartAligned
  away_by FirstMatch aligned none other answer new h = away_first old r gap valid held left counted n a w z none answer new h
  away_by LastMatch aligned none other answer new h = away_last old r gap valid held left counted n a w z none answer new h
  away_by (ExactMatch t) aligned none other answer new h = away_exact old r gap valid held left counted n a w z t aligned none
      (λ k. other (ap (λ (v : ℕ). ExactMatch v) k.0, k.1)) answer new h

  asked_by : (policy : AllocPolicy) → IsStartAligned a policy → FindsStart (part_for (For policy) gap) (For policy) None →
      (policy ≡ ExactMatch r.start) × (n ≡ address_count r) → Moved policy (Err ResourceNotAvailable)
  unfolding IsStartAligned
  asked_by FirstMatch aligned none same = absurd (cc (same.0))
  asked_by LastMatch aligned none same = absurd (cc (same.0))
  asked_by (ExactMatch t) aligned none same = asked_exact old r gap valid held left counted n a w z t aligned none (cc (same.0), same.1)

  -- The gap has a place for it: s is the place unless the request for the ranges before it has one.
  chosen_alone : (policy : AllocPolicy) (s : ℕ) → FindsStart (part_for (For policy) gap) (For policy) (Some s) →
      IsForCloser old.space (For policy) (span s n) None → IsChosen (For policy) (releasing r old) s
  unfolding IsChosen
  chosen_alone FirstMatch s found past = alone_first old r gap valid held left counted n a w z s found past
  chosen_alone LastMatch s found past = alone_last old r gap valid held left counted n a w z s found past
  chosen_alone (ExactMatch t) s found past = (found.0, fit_place old r gap valid held left w n a s found.1)

  closer_by : (policy : AllocPolicy) (s : ℕ) (closer : Request) → FindsStart (part_for (For policy) gap) (For policy) (Some s) →
      IsForCloser old.space (For policy) (span s n) (Some closer) → (answer : Result Range Error) (new : AddressState) →
      Grants counted old closer answer new →
      (IsChosen (For policy) (releasing r old) s × (answer ≡ Err ResourceNotAvailable))
      ⊎ ((answer ≢ Err ResourceNotAvailable) × Moved policy answer)
  unfolding IsChosen
  closer_by FirstMatch s closer found is answer new h = closer_first old r gap valid held left counted n a w z s found is.0 answer new
      (subst (λ (v : Request). Grants counted old v answer new) is.1 h)
  closer_by LastMatch s closer found is answer new h = closer_last old r gap valid held left counted n a w z s found answer new
      (subst (λ (v : Request). Grants counted old v answer new) is.1 h)
  closer_by (ExactMatch t) s closer found is answer new h = absurd is

-- ---- The result of the move
module _ (old : AddressState) (r : Range) (request : Request) (state : IsAddressState old) (held : Contains old.held r)
    (valid : IsRequest request) where
  moves_by : (answer : Result Range Error) → Grants (length old.held - 1) (releasing r old) request answer (released_then old r answer) →
      Allocates (releasing r old) request answer (released_then old r answer)
  moves_by answer h = request_allocates request (releasing r old) (released_then old r answer) answer valid
      (subst (λ (v : ℕ). Grants v (releasing r old) request answer (released_then old r answer)) (sym (one_less old r held)) h)

  moves_to : (q : Range) → Grants (length old.held - 1) (releasing r old) request (Ok q) (holding q (releasing r old)) →
      MovesRange old r request (Ok q) (replacing r q old)
  unfolding MovesRange replacing
  moves_to q h = inr (held, (holding q (releasing r old), moves_by (Ok q) h, refl))

  moves_not : (e : Error) → Grants (length old.held - 1) (releasing r old) request (Err e) (releasing r old) →
      MovesRange old r request (Err e) old
  unfolding MovesRange
  moves_not e h = inr (held, (releasing r old, moves_by (Err e) h, refl))

  -- A range that is allocated beside the gap starts at an address that was clear.
  begun_beside : (asked : Request) (new : AddressState) (begun : BegunMove) → 0 < asked.size → Grants (length old.held - 1) old asked (Ok begun.range) new →
      begun.is_allocated ≡ true → IsBegun old r begun new
  unfolding IsPlace
  begun_beside asked new begun some h is =
      ⊎_elim
      (λ l. absurd (cc (l.1)))
      (λ t.
      ⊎_elim
      (λ g.
      let e : span t.0 asked.size ≡ begun.range = cc (g.0) in
      let clear = (chosen_place asked t.0 old t.1).1 in
      let place : (t.0 ≤ t.0 + asked.size - 1) × ((x : ℕ) → IsIn (span t.0 asked.size) x → IsClear old x) = (omega (arith, some), λ x i. clear x i.0 (omega (arith, i.1, some))) in
      let there = subst (λ (v : Range). (v.start ≤ v.end) × ((x : ℕ) → IsIn v x → IsClear old x)) e place in
      record {
        state = state;
        held = held;
        some = there.0;
        beside = λ _. (g.1 ∙ ap (λ (v : Range). holding v old) e, there.1);
        inside = λ k. absurd (cc (is, k));
      })
      (λ l. absurd (cc (l.1)))
      (given_or_refused _ old (span t.0 asked.size) (Ok begun.range) new t.3))
      (grants_outcome old new (Ok begun.range) _ asked h)

module _ (old : AddressState) (r gap : Range) (request : Request) (state : IsAddressState old) (held : Contains old.held r)
    (left : IsLeftGap old r gap) (valid : IsRequest request) where
  abbrev counted : ℕ
  counted = length old.held - 1

  pub asked_begins : FindsPlaceIn gap request None → (request.policy ≡ ExactMatch r.start) × (request.size ≡ address_count r) →
      BeginsMove old r request (Err ResourceNotAvailable) old
  asked_begins none same = moves_not old r request state held valid ResourceNotAvailable
      (asked_by old r gap state held left counted request.size request.align request.window valid.some request.policy valid.start none same)

  moved_away : (answer : Result Range Error) (new : AddressState) → FindsPlaceIn gap request None →
      ((request.policy ≡ ExactMatch r.start) × (request.size ≡ address_count r) → ⊥) → Grants counted old request answer new →
      Grants counted (releasing r old) request answer (released_then old r answer)
  moved_away answer new none other h = away_by old r gap state held left counted request.size request.align request.window valid.some
      request.policy valid.start none other answer new h

  pub away_begins : (new : AddressState) (begun : BegunMove) → FindsPlaceIn gap request None →
      ((request.policy ≡ ExactMatch r.start) × (request.size ≡ address_count r) → ⊥) → Grants counted old request (Ok begun.range) new →
      begun.is_allocated ≡ true → BeginsMove old r request (Ok begun) new
  away_begins new begun none other h is = (
    moves_to old r request state held valid begun.range (moved_away (Ok begun.range) new none other h),
    begun_beside old r request state held valid request new begun valid.some h is,
  )

  pub away_fails : (new : AddressState) (e : Error) → FindsPlaceIn gap request None →
      ((request.policy ≡ ExactMatch r.start) × (request.size ≡ address_count r) → ⊥) → Grants counted old request (Err e) new → new ≡ old →
      BeginsMove old r request (Err e) new
  away_fails new e none other h same = subst (BeginsMove old r request (Err e)) (sym same)
      (moves_not old r request state held valid e (moved_away (Err e) new none other h))

  module _ (q : Range) (found : FindsPlaceIn gap request (Some q)) where
    in_gap : (gap.start ≤ q.start) × (q.start ≤ q.end) × (q.end ≤ gap.end)
    in_gap =
        let k = fit_parts request.window gap request.size request.align q.start (start_fits (part_for request gap) request q.start found.1) in
        let end : q.end ≡ q.start + request.size - 1 = ap (λ (v : Range). v.end) found.0 in
        (k.1.0, omega (arith, end, valid.some), omega (arith, end, k.1.1, valid.some))

    -- The range in the gap is the place that the policy chooses.
    inside_settles : (answer : Result Range Error) → IsChosen request (releasing r old) q.start →
        IfElse (q.end ≡ MAX) ((answer ≡ Err Overflow) × (released_then old r answer ≡ releasing r old))
        (AllocatesAt counted (releasing r old) q answer (released_then old r answer)) →
        Grants counted (releasing r old) request answer (released_then old r answer)
    inside_settles answer chosen h =
        let end : q.end ≡ q.start + request.size - 1 = ap (λ (v : Range). v.end) found.0 in
        let there : TakesBelowMax counted (releasing r old) request.size q.start answer (released_then old r answer) = ⊎_elim
        (λ k. inl (omega (arith, k.0, end), k.1))
        (λ k. inr ((λ m. k.0 (omega (arith, m, end))), subst (λ (v : Range). AllocatesAt counted (releasing r old) v answer (released_then old r answer)) found.0 k.1))
        h in
        let top = (left.clear q.end (omega (arith, in_gap), omega (arith, in_gap))).0.1 in
        grants_at counted request.policy request.window request.size request.align q.start (releasing r old) (released_then old r answer) answer
        valid.some (omega (arith, end, top, state.space)) chosen there

    can_replace : (begun : BegunMove) → BeginsInside old r gap q (Ok begun) → CanReplace old r q (q ≢ r → HasSpare (length old.held) begun.spare)
    can_replace begun h = record {
      some = in_gap.1;
      below = h.0;
      clear = λ x i. left.clear x (omega (arith, in_gap.0, i.0), omega (arith, in_gap.2, i.1));
      split = λ s.
          let part : q ≢ gap = λ e. gap_is_filled old r gap left (subst (λ (v : Range). SplitsGap (releasing r old) v) e s) in
          ((λ n. h.3 n part), h.4 part);
    }

    inside_begins : (result : Result BegunMove Error) → IsChosen request (releasing r old) q.start → BeginsInside old r gap q result →
        BeginsMove old r request result old
    inside_begins (Err e) chosen h = moves_not old r request state held valid e
        (inside_settles (Err e) chosen (fails old r gap q held left in_gap.0 in_gap.1 in_gap.2 e h))
    inside_begins (Ok begun) chosen h =
        let same : begun.range ≡ q = h.1 in
        let moves = moves_to old r request state held valid q (inside_settles (Ok q) chosen (succeeds old r gap q held left in_gap.0 in_gap.1 in_gap.2 begun h)) in (
          subst (λ (v : Range). MovesRange old r request (Ok v) (replacing r v old)) (sym same) moves,
          record {
            state = state;
            held = held;
            some = subst (λ (v : Range). v.start ≤ v.end) (sym same) in_gap.1;
            beside = λ k. absurd (cc (h.2, k));
            inside = λ _. (refl, subst (λ (v : Range). CanReplace old r v (v ≢ r → HasSpare (length old.held) begun.spare)) (sym same) (can_replace begun h));
          },
        )

    pub alone_begins : (space : Range) (result : Result BegunMove Error) → space ≡ old.space → IsForCloser space request q None →
        BeginsInside old r gap q result → BeginsMove old r request result old
    alone_begins space result e past h = inside_begins result
        (chosen_alone old r gap state held left counted request.size request.align request.window valid.some request.policy q.start found.1
        (subst (λ (v : Range). IsForCloser old.space request v None) found.0 (subst (λ (v : Range). IsForCloser v request q None) e past))) h

    closer : (space : Range) (asked : Request) (answer : Result Range Error) (new : AddressState) → space ≡ old.space →
        IsForCloser space request q (Some asked) → Grants counted old asked answer new →
        (IsChosen request (releasing r old) q.start × (answer ≡ Err ResourceNotAvailable))
        ⊎ ((answer ≢ Err ResourceNotAvailable) × Grants counted (releasing r old) request answer (released_then old r answer))
    closer space asked answer new e is h = closer_by old r gap state held left counted request.size request.align request.window valid.some
        request.policy q.start asked found.1
        (subst (λ (v : Range). IsForCloser old.space request v (Some asked)) found.0 (subst (λ (v : Range). IsForCloser v request q (Some asked)) e is))
        answer new h

    -- No range is closer.
    pub none_closer_begins : (space : Range) (asked : Request) (new : AddressState) (result : Result BegunMove Error) → space ≡ old.space →
        IsForCloser space request q (Some asked) → Grants counted old asked (Err ResourceNotAvailable) new → BeginsInside old r gap q result →
        BeginsMove old r request result old
    none_closer_begins space asked new result e is h inside =
        ⊎_elim
        (λ k. inside_begins result k.0 inside)
        (λ k. absurd (k.0 refl))
        (closer space asked (Err ResourceNotAvailable) new e is h)

    pub closer_begins : (space : Range) (asked : Request) (new : AddressState) (begun : BegunMove) → space ≡ old.space → 0 < asked.size →
        IsForCloser space request q (Some asked) → Grants counted old asked (Ok begun.range) new → begun.is_allocated ≡ true →
        BeginsMove old r request (Ok begun) new
    closer_begins space asked new begun e some is h allocated =
        ⊎_elim
        (λ k. absurd (cc (k.1)))
        (λ k. (moves_to old r request state held valid begun.range k.1, begun_beside old r request state held valid asked new begun some h allocated))
        (closer space asked (Ok begun.range) new e is h)

    pub closer_fails : (space : Range) (asked : Request) (new : AddressState) (x : Error) → space ≡ old.space →
        IsForCloser space request q (Some asked) → Grants counted old asked (Err x) new → x ≢ ResourceNotAvailable → new ≡ old →
        BeginsMove old r request (Err x) new
    closer_fails space asked new x e is h other same = subst (BeginsMove old r request (Err x)) (sym same)
        (⊎_elim
        (λ k. absurd (other (cc (k.1))))
        (λ k. moves_not old r request state held valid x k.1)
        (closer space asked (Err x) new e is h))

pub ruleset away = (asked_begins, away_begins, away_fails)

pub ruleset near = (alone_begins, none_closer_begins, closer_begins, closer_fails)
