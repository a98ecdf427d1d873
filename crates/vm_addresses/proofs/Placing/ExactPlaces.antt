-- From the result of a search at a start to the result of an ExactMatch request.
use Rattle.std.proofs.Common.{Option, Some, None, ◌≡◌, ℕ, ◌+◌, ◌-◌, ◌%◌, ◌<◌, ◌≤◌, List, ◌∷◌, ◌++◌, refl, sym, ap, ◌∙◌, arith, inl, inr, ◌⊎◌, ⊎_elim, subst, Result, Ok, Err, OnErr}
use Rattle.std.proofs.lemmas.Bool.{cases_lt}
use Rattle.vm_ranges.specs.Cases.{IfElse, IsTestOf}
use Rattle.vm_ranges.specs.Range.{Range, MAX, IsIn, span}
use Rattle.vm_ranges.specs.Request.{Request, IsRequest}
use Rattle.vm_ranges.proofs.RangeCalls.{same_range}
use Rattle.vm_ranges.specs.declared.error.Error.{Error}
use Rattle.vm_ranges.specs.declared.error.Error.TheVariants.{Overflow, ResourceNotAvailable, InvalidStateTransition, OutOfMemory}
use Rattle.vm_ranges.specs.declared.state.NodeState.{NodeState}
use Rattle.vm_ranges.specs.declared.state.NodeState.TheVariants.{Free, Allocated}
use Rattle.vm_ranges.specs.declared.constraint.AllocPolicy.TheVariants.{ExactMatch}
use Rattle.vm_leaf.specs.declared.block.Block.{Block}
use Rattle.vm_leaf.specs.Block.{free_block}
use Rattle.vm_ranges.specs.Address.{AddressState, AreClear}
use Rattle.vm_ranges.specs.Answer.{SPLIT_LIMIT_MIN_HELD, ByStart, ByExactPolicy, AllocatesAt, Grants}
use Rattle.vm_ranges.specs.Windows.{window_in}
use Rattle.vm_leaf.specs.SpaceBlocks.{blocks_state, TilesSpace}
use Rattle.vm_space.specs.Allocation.{window_of, ListPlace, SettlesAt, SettlesIn, IsBlockAt, AllocatesExact}
use Rattle.vm_space.specs.declared.search.Search.{Search}
use Rattle.vm_space.specs.declared.search.Taken.{Taken}
use Rattle.vm_space.specs.declared.search.Refusal.{Refusal}
use Rattle.vm_space.specs.declared.search.Refusal.TheVariants.{NoPlace, Held, PastMax, CannotSplit, OutOfMemory as NoMemory}
use Rattle.vm_ranges.proofs.PlainWords.{held_contains}
use Rattle.vm_leaf.proofs.Spaces.OneList.{same_block}
use Rattle.vm_addresses.proofs.Results.Requests.{request_in, with_policy}
use Rattle.vm_addresses.proofs.Choosing.ExactStart.{
  aligned_if,
  named,
  IsWithin,
  in_space,
  as_cut,
  clear_in_block,
  free_not_held,
  exact_held,
  exact_other,
  exact_short,
  exact_at_end,
  exact_taken,
}
use Rattle.vm_addresses.proofs.Choosing.ExactWindows.{narrow_grants}
use Rattle.vm_addresses.specs.Tree.Allocation.{with_error, taken_range, IsSearchOf}
use Rattle.vm_addresses.proofs.Placing.Places.{allocated, no_memory, cannot_split}

-- The range of the request lies in the window if it is clear, and its start does.
abbrev FitsWindow : Option Range → ℕ → ℕ → AddressState → Type 0
FitsWindow None n t state = Unit {0}
FitsWindow (Some w) n t state = IsIn w t × (AreClear n state t → t + n ≤ w.end + 1)

-- The result without a window is the result in a window that the range fits.
transferred : (counted : ℕ) (w : Option Range) (n a t : ℕ) (old new : AddressState) (answer : Result Range Error) → 0 < n → FitsWindow w n t old →
    Grants counted old (named n a t) answer new → Grants counted old (request_in w n a (ExactMatch t)) answer new
transferred counted None n a t old new answer z f h = h
transferred counted (Some w) n a t old new answer z f h = narrow_grants w n a t old z f.0 f.1 _ new answer h

-- The window of the search is that of the request. Without a window, it has all of the space.
abbrev IsWindowOf : Option Range → Range → Search → Type 0
IsWindowOf None space search = (search.low ≤ space.start) × (space.end ≤ search.high)
IsWindowOf (Some window) space search = (search.low ≡ window.start) × (search.high ≡ window.end)

as_window : (w : Option Range) (sp : Range) (search : Search) → window_of search ≡ window_in w sp → IsWindowOf w sp search
as_window None sp search e = (omega (arith, ap (λ (r : Range). r.start) e), omega (arith, ap (λ (r : Range). r.end) e))
as_window (Some w) sp search e = (ap (λ (r : Range). r.start) e, ap (λ (r : Range). r.end) e)

-- A gap of which the part in the window ends before the range.
beyond : (counted : ℕ) (w : Range) (n a t : ℕ) (sp : Range) (bs : List Block) (b : Block) → IsWithin sp bs b n t → b.state ≡ Free → IsIn w t →
    t + n - 1 ≤ MAX → w.end < t + n - 1 →
    Grants counted (blocks_state sp bs) (request_in (Some w) n a (ExactMatch t)) (Err ResourceNotAvailable) (blocks_state sp bs)
unfolding Grants ByExactPolicy ByStart
beyond counted w n a t sp bs b x f i m o =
    let z = x.some in
    let j = in_space Allocated sp.start sp.end t b x.before x.after (as_cut sp bs b n t x) x.start in
    inr (
      λ e. omega (arith, x.below),
      inr (
        (omega (arith, i.0, j.0), omega (arith, i.1, j.1)),
        inr (
          λ e. omega arith,
          inr (
            λ c. free_not_held sp bs b n t x f (held_contains _ (span t n) c),
            inl (λ c. let last = (c (t + n - 1) (omega arith) (omega arith)).0 in omega (arith, last.1), (refl, refl)),
          ),
        ),
      ),
    )

module _ (sp : Range) (old : List Block) (tiles : TilesSpace sp old) (search : Search) (t a : ℕ) (w : Option Range) (z : 0 < search.size)
    (m : t < MAX) (upto : t + search.size - 1 ≤ MAX) (d : t % a ≡ 0)
    (within : (search.low ≤ t) × (t ≤ search.high)) (is : IsWindowOf w sp search)
    (counted : ℕ) (few : IsTestOf search.can_split (counted < SPLIT_LIMIT_MIN_HELD)) where
  abbrev n : ℕ
  n = search.size

  abbrev st : AddressState
  st = blocks_state sp old

  fits : (w : Option Range) → IsWindowOf w sp search → (AreClear search.size (blocks_state sp old) t → t + search.size ≤ search.high + 1) →
      FitsWindow w search.size t (blocks_state sp old)
  fits None i c = tt
  fits (Some v) i c = ((omega (arith, within.0, i.0), omega (arith, within.1, i.1)), λ k. omega (arith, c k, i.1))

  module _ (lower : List Block) (b : Block) (upper : List Block) (cut : IsBlockAt t old lower b upper) where
    here : IsWithin sp old b search.size t
    here = record { tiles = tiles; before = lower; after = upper; cut = cut.cut; start = cut.inside; some = z; below = m }

    -- The range is not clear, so the window does not matter.
    if_not_clear : (AreClear search.size (blocks_state sp old) t → ⊥) → (answer : Result Range Error) (new : AddressState) →
        Grants counted (blocks_state sp old) (named search.size a t) answer new →
        Grants counted (blocks_state sp old) (request_in w search.size a (ExactMatch t)) answer new
    if_not_clear c answer new h = transferred _ w search.size a t (blocks_state sp old) new answer z (fits w is (λ k. absurd (c k))) h

    if_in_window : t + search.size - 1 ≤ search.high → (answer : Result Range Error) (new : AddressState) →
        Grants counted (blocks_state sp old) (named search.size a t) answer new →
        Grants counted (blocks_state sp old) (request_in w search.size a (ExactMatch t)) answer new
    if_in_window c answer new h = transferred _ w search.size a t (blocks_state sp old) new answer z (fits w is (λ k. omega arith)) h

    held_is : b.state ≡ Allocated → AreClear search.size (blocks_state sp old) t → ⊥
    held_is e c = let k = clear_in_block sp old b search.size t here c in let bad = sym e ∙ k.0 in cc

    held_grants : b.state ≡ Allocated → (new : List Block) (answer : Result Taken Refusal) → OnErr answer (new ≡ old) →
        IfElse (b.key ≡ span t search.size) (answer ≡ Err Held) (answer ≡ Err NoPlace) →
        Grants counted (blocks_state sp old) (request_in w search.size a (ExactMatch t)) (taken_range (with_error (span t search.size) answer))
        (blocks_state sp new)
    held_grants e new answer u h =
        ⊎_elim
        (λ l.
        let u2 : new ≡ old = subst (λ (v : Result Taken Refusal). OnErr v (new ≡ old)) l.1 u in
        rw (l.1, u2, ← l.0) (if_not_clear (held_is e) (Err (InvalidStateTransition b.key Allocated)) (blocks_state sp old)
        (exact_held _ sp old b search.size a t here upto e (ap (λ (r : Range). r.start) l.0) (ap (λ (r : Range). r.end) l.0))))
        (λ l.
        let u2 : new ≡ old = subst (λ (v : Result Taken Refusal). OnErr v (new ≡ old)) l.1 u in
        rw (l.1, u2) (if_not_clear (held_is e) (Err ResourceNotAvailable) (blocks_state sp old)
        (exact_other _ sp old b search.size a t here upto e (λ k. l.0 (same_range b.key (span t search.size) k.0 k.1)))))
        h

    free_is : b.state ≡ Free → b ≡ free_block b.key
    free_is e = same_block b (free_block b.key) refl e

    abbrev place : ListPlace
    place = record { lower = lower; key = b.key; upper = upper; start = t }

    module _ (e : b.state ≡ Free) where
      short_grants : (w : Option Range) → IsWindowOf w sp search →
          ((b.key.end < t + search.size - 1) →
          Grants counted (blocks_state sp old) (request_in w search.size a (ExactMatch t)) (Err ResourceNotAvailable) (blocks_state sp old)) →
          t + search.size - 1 ≤ b.key.end → search.high < t + search.size - 1 →
          Grants counted (blocks_state sp old) (request_in w search.size a (ExactMatch t)) (Err ResourceNotAvailable) (blocks_state sp old)
      unfolding here
      short_grants None i f l o =
          let j = in_space Allocated sp.start sp.end b.key.end b lower upper (as_cut sp old b search.size t here)
          (omega (arith, cut.inside.0, cut.inside.1), omega arith) in
          absurd (omega (arith, i.1, j.1))
      short_grants (Some v) i f l o = beyond _ v search.size a t sp old b here e (omega (arith, within.0, i.0), omega (arith, within.1, i.1))
          upto (omega (arith, i.1))

      none_grants : (b.key.end < t + search.size - 1) ⊎ (search.high < t + search.size - 1) →
          Grants counted (blocks_state sp old) (request_in w search.size a (ExactMatch t)) (Err ResourceNotAvailable) (blocks_state sp old)
      none_grants h =
          let short : b.key.end < t + search.size - 1 →
          Grants counted (blocks_state sp old) (request_in w search.size a (ExactMatch t)) (Err ResourceNotAvailable) (blocks_state sp old) = λ o.
          if_not_clear (λ c. let k = clear_in_block sp old b search.size t here c in omega (arith, k.1)) (Err ResourceNotAvailable)
          (blocks_state sp old) (exact_short _ sp old b search.size a t here upto e o) in
          ⊎_elim
          (λ (o : b.key.end < t + search.size - 1). short o)
          (λ (o : search.high < t + search.size - 1).
          ⊎_elim (λ (k : b.key.end < t + search.size - 1). short k) (λ (k : t + search.size - 1 ≤ b.key.end). short_grants w is short k o)
          (cases_lt b.key.end (t + search.size - 1)))
          h

      module _ (l : t + search.size - 1 ≤ b.key.end) (o : t + search.size - 1 ≤ search.high) where
        is_cut : old ≡ lower ++ free_block b.key ∷ upper
        is_cut = cut.cut ∙ ap (λ (v : Block). lower ++ v ∷ upper) (free_is e)

        in_gap : (b.key.start ≤ t) × (t + search.size ≤ b.key.end + 1)
        in_gap = (cut.inside.0, omega arith)

        taken_grants : (answer : Result Range Error) (new : AddressState) → t + search.size - 1 < MAX →
            AllocatesAt counted (blocks_state sp old) (span t search.size) answer new →
            Grants counted (blocks_state sp old) (request_in w search.size a (ExactMatch t)) answer new
        taken_grants answer new k h = if_in_window o answer new (exact_taken _ sp old b search.size a t new answer here e l k d h)

        place_grants : (new : List Block) (answer : Result Taken Refusal) → OnErr answer (new ≡ old) → SettlesAt search place new answer →
            Grants counted (blocks_state sp old) (request_in w search.size a (ExactMatch t)) (taken_range (with_error (span t search.size) answer))
            (blocks_state sp new)
        place_grants new (Ok taken) u h = taken_grants (Ok taken.range) (blocks_state sp new) h.below
            (allocated sp old tiles search z place is_cut in_gap counted few new taken h)
        place_grants new (Err NoPlace) u h = absurd h
        place_grants new (Err Held) u h = absurd h
        place_grants new (Err PastMax) u h = rw u
            (if_in_window o (Err Overflow) (blocks_state sp old) (exact_at_end _ sp old b search.size a t here e l h))
        place_grants new (Err (NoMemory e)) u h = rw u
            (taken_grants (Err OutOfMemory) (blocks_state sp old) h.0.below
            (no_memory sp old tiles search z place is_cut in_gap counted few h.0 h.1))
        place_grants new (Err CannotSplit) u h = rw u
            (taken_grants (Err Overflow) (blocks_state sp old) h.0.below
            (cannot_split sp old tiles search z place is_cut in_gap counted few h.0 h.1))

      free_grants : (new : List Block) (answer : Result Taken Refusal) → OnErr answer (new ≡ old)
          → IfElse ((b.key.end < t + search.size - 1) ⊎ (search.high < t + search.size - 1)) (answer ≡ Err NoPlace)
          (SettlesAt search place new answer)
          → Grants counted (blocks_state sp old) (request_in w search.size a (ExactMatch t)) (taken_range (with_error (span t search.size) answer))
          (blocks_state sp new)
      free_grants new answer u h =
          ⊎_elim
          (λ l.
          let u2 : new ≡ old = subst (λ (v : Result Taken Refusal). OnErr v (new ≡ old)) l.1 u in
          rw (l.1, u2) (none_grants l.0))
          (λ l.
          let one : t + search.size - 1 ≤ b.key.end = ⊎_elim (λ (k : b.key.end < t + search.size - 1). absurd (l.0 (inl k)))
          (λ (k : t + search.size - 1 ≤ b.key.end). k) (cases_lt b.key.end (t + search.size - 1)) in
          let two : t + search.size - 1 ≤ search.high = ⊎_elim (λ (k : search.high < t + search.size - 1). absurd (l.0 (inr k)))
          (λ (k : t + search.size - 1 ≤ search.high). k) (cases_lt search.high (t + search.size - 1)) in
          place_grants one two new answer u l.1)
          h

  settled_in : (lower : List Block) (b : Block) (upper : List Block) (s : NodeState) → s ≡ b.state → IsBlockAt t old lower b upper →
      (new : List Block) (answer : Result Taken Refusal) → OnErr answer (new ≡ old) → SettlesIn search t lower s b.key upper new answer →
      Grants counted (blocks_state sp old) (request_in w search.size a (ExactMatch t)) (taken_range (with_error (span t search.size) answer))
      (blocks_state sp new)
  settled_in lower b upper Allocated e cut new answer u h = held_grants lower b upper cut (sym e) new answer u h
  settled_in lower b upper Free e cut new answer u h = free_grants lower b upper cut (sym e) new answer u h

  exact_settles : (new : List Block) (answer : Result Taken Refusal) → OnErr answer (new ≡ old) → AllocatesExact search t old new answer →
      Grants counted (blocks_state sp old) (request_in w search.size a (ExactMatch t)) (taken_range (with_error (span t search.size) answer))
      (blocks_state sp new)
  exact_settles new answer u h = settled_in h.lower h.block h.upper h.block.state refl h.at new answer u h.settles

pub exact_grants : (sp : Range) (old : List Block) → TilesSpace sp old → (request : Request) (search : Search) → IsRequest request →
    IsSearchOf request sp search → (counted : ℕ) → IsTestOf search.can_split (counted < SPLIT_LIMIT_MIN_HELD) →
    (t : ℕ) → request.policy ≡ ExactMatch t → t < MAX → t + search.size - 1 ≤ MAX → (search.low ≤ t) × (t ≤ search.high)
    → (new : List Block) (answer : Result Taken Refusal) → OnErr answer (new ≡ old) → AllocatesExact search t old new answer →
    Grants counted (blocks_state sp old) request (taken_range (with_error (span t search.size) answer)) (blocks_state sp new)
exact_grants sp old tiles request search r is counted few t p m upto i new answer u h =
    let z : 0 < search.size = omega (arith, r.some, is.size) in
    let d : t % request.align ≡ 0 = aligned_if request.align t request.policy p r.start in
    let g = exact_settles sp old tiles search t request.align request.window z m upto d i (as_window request.window sp search is.window) counted
    few new answer u h in
    subst (λ (v : Request). Grants counted (blocks_state sp old) v (taken_range (with_error (span t search.size) answer)) (blocks_state sp new))
    (with_policy request (ExactMatch t) p)
    (subst (λ (n : ℕ). Grants counted (blocks_state sp old) (request_in request.window n request.align (ExactMatch t))
    (taken_range (with_error (span t search.size) answer)) (blocks_state sp new)) is.size g)
