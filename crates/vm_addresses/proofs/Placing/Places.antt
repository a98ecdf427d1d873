-- From the place that a search finds to the result of a request.
use Rattle.std.proofs.Common.{Option, Some, None, ◌≡◌, ℕ, ◌+◌, ◌<◌, ◌≤◌, Bool, true, false, List, refl, sym, ap, ◌∙◌, arith, inl, inr, ⊎_elim, subst, Result, Ok, Err, OnErr}
use Rattle.std.proofs.lemmas.Bool.{cases_lt}
use Rattle.vm_ranges.specs.Cases.{IsTestOf}
use Rattle.vm_ranges.specs.Range.{Range, MAX, span}
use Rattle.vm_ranges.specs.Request.{Request, IsRequest}
use Rattle.vm_ranges.proofs.RangeCalls.{same_range}
use Rattle.vm_ranges.specs.declared.error.Error.{Error}
use Rattle.vm_ranges.specs.declared.error.Error.TheVariants.{Overflow, OutOfMemory}
use Rattle.vm_leaf.specs.declared.block.Block.{Block}
use Rattle.vm_leaf.specs.Block.{free_block}
use Rattle.vm_leaf.specs.Blocks.{IsTakenFrom}
use Rattle.vm_leaf.specs.Fit.{IsFit, IsLowestFit, IsHighestFit}
use Rattle.vm_leaf.specs.Windows.{cut_to}
use Rattle.vm_ranges.specs.Windows.{common, within, window_in}
use Rattle.vm_ranges.specs.Address.{AddressState, SplitsGap, holding, IsPlace}
use Rattle.vm_ranges.specs.Answer.{SPLIT_LIMIT_MIN_HELD, IsChosen, AllocatesAt, Grants}
use Rattle.vm_leaf.specs.SpaceBlocks.{held_of, blocks_state, TilesSpace}
use Rattle.vm_addresses.proofs.Blocks.BlockOrder.{NeedsSplit}
use Rattle.vm_space.specs.Allocation.{ListPlace, IsPlaceIn, IsClosestPlace, range_at, window_of, HasNoPlace, SettlesAt, IsTakenAt, IsSplitAt, AllocatesFit}
use Rattle.vm_tree.specs.declared.end.End.{End}
use Rattle.vm_tree.specs.declared.end.End.TheVariants.{First, Last}
use Rattle.vm_space.specs.declared.search.Search.{Search}
use Rattle.vm_space.specs.declared.search.Taken.{Taken}
use Rattle.vm_space.specs.declared.search.Refusal.{Refusal}
use Rattle.vm_space.specs.declared.search.Refusal.TheVariants.{NoPlace, Held, PastMax, CannotSplit, OutOfMemory as NoMemory}
use Rattle.vm_addresses.proofs.Counts.LeftClear.{needs_split}
use Rattle.vm_addresses.proofs.Placing.TakenRanges.{blocks_split, leaves_clear, as_blocks}
use Rattle.vm_addresses.proofs.Choosing.WindowPlaces.{lowest_place_in, highest_place_in, no_place_in}
use Rattle.vm_addresses.proofs.Choosing.Searched.{IsNotExact, none_grants, chosen_grants, over_grants, lowest_chosen, highest_chosen}
use Rattle.vm_addresses.specs.Tree.Allocation.{with_error, taken_range, IsSearchOf, policy_of}

-- ---- The limit of splits
few_if : (can_split : Bool) (k : ℕ) → IsTestOf can_split (k < SPLIT_LIMIT_MIN_HELD) → can_split ≡ true → k < SPLIT_LIMIT_MIN_HELD
few_if true k t e = t
few_if false k t e = absurd (cc e)

many_if : (can_split : Bool) (k : ℕ) → IsTestOf can_split (k < SPLIT_LIMIT_MIN_HELD) → can_split ≡ false → SPLIT_LIMIT_MIN_HELD ≤ k
many_if true k t e = absurd (cc e)
many_if false k t e = omega (arith, t)

-- ---- A range at a place of a space
module _ (sp : Range) (old : List Block) (tiles : TilesSpace sp old) (search : Search) (z : 0 < search.size) (place : ListPlace)
    (cut : IsPlaceIn old place) (in_gap : (place.key.start ≤ place.start) × (place.start + search.size ≤ place.key.end + 1)) where
  pub taken_from : IsTakenFrom place.key (range_at search place)
  taken_from = record { from = in_gap.0; some = omega arith; upto = omega (arith, in_gap.1) }

  pub taken_state : (new : List Block) (taken : Taken) → IsTakenAt search place new taken →
      blocks_state sp new ≡ holding (range_at search place) (blocks_state sp old)
  taken_state new taken h =
      let k = blocks_split (blocks_state sp old) old place.lower place.upper (free_block place.key) (range_at search place)
      (as_blocks sp old tiles) cut refl taken_from in
      ap (λ (v : List Range). record { space = sp; held = v }) (ap held_of h.blocks ∙ k.held)

  -- The range splits its gap if and only if it does not fill its block.
  splits : NeedsSplit place.key (range_at search place) → SplitsGap (blocks_state sp old) (range_at search place)
  splits n = leaves_clear sp old place.lower place.upper (free_block place.key) (range_at search place) tiles cut refl taken_from n

  splits_at : SplitsGap (blocks_state sp old) (range_at search place) → NeedsSplit place.key (range_at search place)
  splits_at g = needs_split sp old place.lower place.upper (free_block place.key) (range_at search place) tiles cut refl taken_from g

  -- The result at the place.
  module _ (counted : ℕ) (few : IsTestOf search.can_split (counted < SPLIT_LIMIT_MIN_HELD)) where
    pub allocated : (new : List Block) (taken : Taken) → IsTakenAt search place new taken →
        AllocatesAt counted (blocks_state sp old) (range_at search place) (Ok taken.range) (blocks_state sp new)
    unfolding AllocatesAt
    allocated new taken h =
        let answer : Result Range Error = Ok taken.range in
        let both : (answer ≡ Ok (range_at search place))
        × (blocks_state sp new ≡ holding (range_at search place) (blocks_state sp old)) =
        (ap (λ (r : Range). Ok r) h.range, taken_state new taken h) in
        let split : NeedsSplit place.key (range_at search place) →
        AllocatesAt counted (blocks_state sp old) (range_at search place) answer (blocks_state sp new) =
        λ n. inr (splits n, inr (λ many. let limit = few_if search.can_split _ few (h.low n) in omega (arith, many, limit), inl both)) in
        ⊎_elim
        (λ (l : place.key.start < (range_at search place).start). split (inl l))
        (λ (l : (range_at search place).start ≤ place.key.start).
        ⊎_elim
        (λ (k : (range_at search place).end < place.key.end). split (inr k))
        (λ (k : place.key.end ≤ (range_at search place).end). inl
        (λ g. ⊎_elim (λ a. omega (arith, a, l)) (λ a. omega (arith, a, k)) (splits_at g), both))
        (cases_lt (range_at search place).end place.key.end))
        (cases_lt place.key.start (range_at search place).start)

    pub no_memory : IsSplitAt search place → search.can_split ≡ true →
        AllocatesAt counted (blocks_state sp old) (range_at search place) (Err OutOfMemory) (blocks_state sp old)
    unfolding AllocatesAt
    no_memory h e = inr (
      splits h.splits,
      inr
          (λ many. let limit = few_if search.can_split _ few e in omega (arith, many, limit), inr (refl, refl)),
    )

    pub cannot_split : IsSplitAt search place → search.can_split ≡ false →
        AllocatesAt counted (blocks_state sp old) (range_at search place) (Err Overflow) (blocks_state sp old)
    unfolding AllocatesAt
    cannot_split h e = inr (splits h.splits, inl (many_if search.can_split _ few e, (refl, refl)))

    -- The result if the place is the chosen place of the request.
    module _ (request : Request) (same : request.size ≡ search.size) (policy : IsNotExact request.policy)
        (chosen : IsChosen request (blocks_state sp old) place.start) where
      at_range : (answer : Result Range Error) (new : AddressState) → (range_at search place).end < MAX →
          AllocatesAt counted (blocks_state sp old) (range_at search place) answer new → Grants counted (blocks_state sp old) request answer new
      at_range answer new below h =
          chosen_grants request (blocks_state sp old) policy _ place.start new answer chosen (omega (arith, same))
          (subst (λ (n : ℕ). AllocatesAt counted (blocks_state sp old) (span place.start n) answer new) (sym same) h)

      pub settled : (r : Range) (new : List Block) (answer : Result Taken Refusal) → OnErr answer (new ≡ old) →
          SettlesAt search place new answer → Grants counted (blocks_state sp old) request (taken_range (with_error r answer)) (blocks_state sp new)
      settled r new (Ok taken) u h = at_range (Ok taken.range) (blocks_state sp new) h.below (allocated new taken h)
      settled r new (Err NoPlace) u h = absurd h
      settled r new (Err Held) u h = absurd h
      settled r new (Err PastMax) u h = rw u (over_grants request (blocks_state sp old) policy _ place.start chosen (omega (arith, same, h)))
      settled r new (Err (NoMemory e)) u h = rw u (at_range (Err OutOfMemory) (blocks_state sp old) h.0.below (no_memory h.0 h.1))
      settled r new (Err CannotSplit) u h = rw u (at_range (Err Overflow) (blocks_state sp old) h.0.below (cannot_split h.0 h.1))

-- ---- The window of a search is that of its request
seen_by : (w : Option Range) (sp : Range) (held : List Range) (search : Search) → window_of search ≡ window_in w sp
    → within (Some (window_of search)) (record { space = sp; held = held }) ≡ within w (record { space = sp; held = held })
seen_by None sp held search h = ap (λ (v : Range). record { space = common v sp; held = held }) h
    ∙ ap (λ (r : Range). record { space = r; held = held }) (same_range (common sp sp) sp (omega arith) (omega arith))
seen_by (Some w) sp held search h = ap (λ (v : Range). record { space = common v sp; held = held }) h

-- ---- The result of a search
module _ (sp : Range) (old : List Block) (tiles : TilesSpace sp old) (request : Request) (search : Search) (valid : IsRequest request)
    (is : IsSearchOf request sp search) where
  some : 0 < search.size
  some = omega (arith, valid.some, is.size)

  seen : within (Some (window_of search)) (blocks_state sp old) ≡ within request.window (blocks_state sp old)
  seen = seen_by request.window sp (held_of old) search is.window

  pub no_place : HasNoPlace search old → (s : ℕ) → ¬ IsPlace request.size request.align (within request.window (blocks_state sp old)) s
  no_place none =
      let p = no_place_in (window_of search) search.size search.alignment (blocks_state sp old) old (as_blocks sp old tiles) some none in
      rw (← seen, ← is.size, ← is.align) p

  none_granted : (counted : ℕ) (r : Range) (new : List Block) (answer : Result Taken Refusal) → IsNotExact request.policy → OnErr answer (new ≡ old) →
      HasNoPlace search old → answer ≡ Err NoPlace →
      Grants counted (blocks_state sp old) request (taken_range (with_error r answer)) (blocks_state sp new)
  none_granted counted r new answer policy u none e =
      let u2 : new ≡ old = subst (λ (v : Result Taken Refusal). OnErr v (new ≡ old)) e u in
      rw (e, u2) (none_grants request (blocks_state sp old) policy _ (no_place none))

  fit_in_gap : (place : ListPlace) → IsFit search.size search.alignment (cut_to (window_of search) (free_block place.key)) place.start →
      (place.key.start ≤ place.start) × (place.start + search.size ≤ place.key.end + 1)
  fit_in_gap place f = (omega (arith, f.2), omega (arith, f.3))

  pub not_exact : (end : End) → request.policy ≡ policy_of end → IsNotExact request.policy
  not_exact First policy = inl policy
  not_exact Last policy = inr policy

  pub place_chosen : (end : End) → request.policy ≡ policy_of end → (place : ListPlace) → IsClosestPlace end search old place →
      ((place.key.start ≤ place.start) × (place.start + search.size ≤ place.key.end + 1))
      × IsChosen request (blocks_state sp old) place.start
  unfolding IsLowestFit IsHighestFit
  place_chosen First policy place s =
      let l = lowest_place_in (window_of search) search.size search.alignment (blocks_state sp old) old (as_blocks sp old tiles) some
      place.lower place.upper (free_block place.key) place.start s.cut s.none s.fit in
      (fit_in_gap place s.fit.0, lowest_chosen request place.start (blocks_state sp old) policy (rw (← seen, ← is.size, ← is.align) l))
  place_chosen Last policy place s =
      let l = highest_place_in (window_of search) search.size search.alignment (blocks_state sp old) old (as_blocks sp old tiles) some
      place.lower place.upper (free_block place.key) place.start s.cut s.none s.fit in
      (fit_in_gap place s.fit.0, highest_chosen request place.start (blocks_state sp old) policy (rw (← seen, ← is.size, ← is.align) l))

  pub fit_grants : (counted : ℕ) → IsTestOf search.can_split (counted < SPLIT_LIMIT_MIN_HELD) → (end : End) (r : Range) (new : List Block) (answer : Result Taken Refusal) → request.policy ≡ policy_of end →
      OnErr answer (new ≡ old) → AllocatesFit end search old new answer →
      Grants counted (blocks_state sp old) request (taken_range (with_error r answer)) (blocks_state sp new)
  fit_grants counted few end r new answer policy u h =
      ⊎_elim
      (λ n. none_granted _ r new answer (not_exact end policy) u n.0 n.1)
      (λ s.
      let k = place_chosen end policy s.0 s.1 in
      settled sp old tiles search some s.0 s.1.cut k.0 counted few request (sym is.size) (not_exact end policy) k.1 r new answer u s.2)
      h
