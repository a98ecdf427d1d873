-- Facts for callers about allocated ranges, and about allocators that were saved.
use Rattle.std.proofs.Common.{
  ◌≡◌,
  ◌≢◌,
  ℕ,
  ◌+◌,
  ◌-◌,
  ◌%◌,
  List,
  [],
  ◌∷◌,
  length,
  ◌<◌,
  ◌≤◌,
  ◌⊎◌,
  arith,
  refl,
  sym,
  ap,
  ◌∙◌,
  inl,
  inr,
  ⊎_elim,
  subst,
  Option,
  Some,
  None,
  Result,
  Ok,
  Err,
  IfSome,
  IfOk,
  IfErr,
  OnOk,
}
use Rattle.std.specs.List.{Contains}
use Rattle.serde_json.specs.Data.{Data}
use Rattle.vm_ranges.specs.Range.{Range, IsIn, Overlaps, Covers, address_count, span}
use Rattle.vm_ranges.specs.Address.{AddressState, AreClear, IsPlace, IsAddressState, holding, releasing, without_range}
use Rattle.vm_ranges.specs.Alignment.{IsAlignment}
use Rattle.vm_ranges.specs.Request.{Request, request_for, IsRequest, IsStartAligned}
use Rattle.vm_ranges.specs.Windows.{within}
use Rattle.vm_ranges.specs.Answer.{SPLIT_LIMIT_MIN_HELD, IsChosen, AllocatesAt, Allocates, Frees}
use Rattle.vm_addresses.specs.Values.AllocatorValues.{EncodesAddresses}
use Rattle.vm_ranges.specs.declared.error.Error.{Error}
use Rattle.vm_ranges.specs.declared.error.Error.TheVariants.{Overflow, OutOfMemory, ResourceNotAvailable}
use Rattle.vm_ranges.specs.declared.constraint.AllocPolicy.{AllocPolicy}
use Rattle.vm_ranges.specs.declared.constraint.AllocPolicy.TheVariants.{ExactMatch}
use Rattle.vm_ranges.proofs.PlainWords.{IsHeldAddress, IsHeld as IsHeldRange, contains_held, held_contains, all_miss, none_holds, held_address}
use Rattle.vm_addresses.proofs.Blocks.HeldSets.{held_lies, one_held, one_start as one_held_start}
use Rattle.vm_addresses.proofs.Blocks.HeldChanges.{held_now, held_without, not_held_without}
use Rattle.vm_addresses.proofs.Results.AddressResults.{releases_held}
use Rattle.vm_addresses.proofs.Results.Once.{chosen_place, place_in_window}
use Rattle.vm_addresses.proofs.Choosing.WindowPlaces.{lies_in}
use Rattle.vm_addresses.proofs.Results.Filling.{allocates_chosen}
use Rattle.vm_addresses.proofs.Results.Outcomes.{given_or_refused, allocates_outcome}
use Rattle.vm_addresses.proofs.Reading.ReadAllocators.{one_addresses, encoded_state as encoded_addresses}
-- A list of different held ranges contains all of them if and only if its length is their number.
pub use Rattle.vm_addresses.proofs.Blocks.HeldLists.{ranges_listed}
-- Decoding a value finds the range that it encodes.
pub use Rattle.vm_ranges.proofs.ReadRanges.{found-states, states-found}

-- The range has the requested length, starts at a multiple of the alignment, was clear before and is held after.
pub record IsAllocation (old : AddressState) (request : Request) (r : Range) (new : AddressState) : Type 0 where
  pub some : 0 < request.size
  pub long : r ≡ span r.start request.size
  pub chosen : IsChosen request old r.start
  pub place : IsPlace request.size request.align old r.start
  pub left : new ≡ holding r old

pub given : (old new : AddressState) (request : Request) (r : Range) → Allocates old request (Ok r) new → IsAllocation old request r new
given old new request r h =
    ⊎_elim
    (λ l. absurd (cc (l.1)))
    (λ k.
    let s = k.1.0 in
    ⊎_elim
    (λ t.
    let e : span s request.size ≡ r = cc (t.0) in
    let start : s ≡ r.start = ap (λ (v : Range). v.start) e in
    record {
      some = k.0.some;
      long = sym e ∙ ap (λ (v : ℕ). span v request.size) start;
      chosen = subst (IsChosen request old) start k.1.1;
      place = subst (IsPlace request.size request.align old) start (chosen_place request s old k.1.1);
      left = t.1 ∙ ap (λ (v : Range). holding v old) e;
    })
    (λ x. absurd (cc (x.1)))
    (given_or_refused _ old (span s request.size) (Ok r) new k.1.3))
    (allocates_outcome old new (Ok r) request h)

-- An allocated range has the requested length, and starts at a multiple of the alignment.
pub request_fits : (old new : AddressState) (request : Request) (answer : Result Range Error) → Allocates old request answer new →
    IfOk answer (λ r. (address_count r ≡ request.size) × (r.start % request.align ≡ 0))
unfolding IsPlace
request_fits old new request (Err e) h = tt
request_fits old new request (Ok r) h =
    let g = given old new request r h in
    let some : 0 < request.size = g.some in
    let end : r.end ≡ r.start + request.size - 1 = ap (λ (v : Range). v.end) g.long in
    (omega arith, g.place.0)

pub allocated_fits : (old new : AddressState) (size align : ℕ) (policy : AllocPolicy) (answer : Result Range Error) →
    Allocates old (request_for size align policy) answer new → IfOk answer (λ r. (address_count r ≡ size) × (r.start % align ≡ 0))
allocated_fits old new size align policy answer h = request_fits old new (request_for size align policy) answer h

-- An allocated range is at the place that the policy chooses.
pub allocated_chosen : (old new : AddressState) (request : Request) (answer : Result Range Error) → Allocates old request answer new →
    IfOk answer (λ r. IsChosen request old r.start)
allocated_chosen old new request (Ok r) h = (given old new request r h).chosen
allocated_chosen old new request (Err e) h = tt

-- Only this range is held in addition after the call.
pub allocated_leaves : (old new : AddressState) (request : Request) (answer : Result Range Error) → Allocates old request answer new →
    IfOk answer (λ r. new ≡ holding r old)
allocated_leaves old new request (Ok r) h = (given old new request r h).left
allocated_leaves old new request (Err e) h = tt

pub ruleset allocations = (allocated_fits, allocated_chosen, allocated_leaves)

-- A range that is allocated for a request with a window lies in the window.
pub lies_in_window : (old new : AddressState) (request : Request) (w r : Range) → request.window ≡ Some w →
    Allocates old request (Ok r) new → Covers w r
unfolding Covers
lies_in_window old new request w r e h =
    let g = given old new request r h in
    let place = place_in_window request r.start old g.chosen in
    let i = lies_in w request.size request.align old g.some r.start
    (subst (λ (v : Option Range). IsPlace request.size request.align (within v old) r.start) e place) in
    subst (Covers w) (sym g.long) (λ x j. (omega (arith, i.0, j.0), omega (arith, i.1, j.0, j.1)))

inside_by : (old new : AddressState) (request : Request) (v : Option Range) (r : Range) → request.window ≡ v →
    Allocates old request (Ok r) new → IfSome v (λ w. Covers w r)
inside_by old new request None r e h = tt
inside_by old new request (Some w) r e h = lies_in_window old new request w r e h

pub request_inside : (old new : AddressState) (request : Request) (answer : Result Range Error) → Allocates old request answer new →
    IfOk answer (λ r. IfSome request.window (λ w. Covers w r))
request_inside old new request (Err e) h = tt
request_inside old new request (Ok r) h = inside_by old new request request.window r refl h

pub ruleset constraint_allocations = (request_fits, request_inside, allocated_chosen, allocated_leaves)

-- An allocated range is held after the call.
pub allocated_held : (old new : AddressState) (request : Request) (r : Range) → Allocates old request (Ok r) new → Contains new.held r
allocated_held old new request r h =
    let g = given old new request r h in contains_held new.held r
    (subst (λ (v : AddressState). IsHeldRange v.held r) (sym g.left) (held_now r old.held))

-- Two ranges that were allocated one after the other do not overlap.
pub allocated_apart : (old mid new : AddressState) (first second : Request) (r s : Range) → Allocates old first (Ok r) mid →
    Allocates mid second (Ok s) new → ¬ Overlaps r s
unfolding IsPlace Overlaps
allocated_apart old mid new first second r s h k o =
    let f = given mid new second s k in
    let some = f.some in
    let end : s.end ≡ s.start + second.size - 1 = ap (λ (v : Range). v.end) f.long in
    let held = held_contains mid.held r (allocated_held old mid first r h) in
    none_holds mid.held o.0 (f.place.1 o.0 o.2.0 (omega (arith, o.2.1))).1 (held_address mid.held r o.0 held o.1)

-- ---- A range that is freed, and requested again by its start
-- A range that ExactMatch allocates starts at the given start.
allocated_at_start : (old new : AddressState) (size align start : ℕ) (r : Range) →
    Allocates old (request_for size align (ExactMatch start)) (Ok r) new → r ≡ span start size
unfolding IsChosen
allocated_at_start old new size align start r h =
    let g = given old new (request_for size align (ExactMatch start)) r h in
    g.long ∙ ap (λ (v : ℕ). span v size) g.chosen.0

-- A range with the same start and the same number of addresses is the same range.
same_range : (r : Range) → r.start ≤ r.end → span r.start (address_count r) ≡ r
same_range r l = let e : r.start + address_count r - 1 ≡ r.end = omega arith in ap (λ (v : ℕ). record { start = r.start; end = v }) e

pub allocated_same : (mid new : AddressState) (r : Range) (answer : Result Range Error) → r.start ≤ r.end →
    Allocates mid (request_for (address_count r) 1 (ExactMatch r.start)) answer new → IfOk answer (λ again. again ≡ r)
allocated_same mid new r (Ok again) l h = allocated_at_start mid new (address_count r) 1 r.start again h ∙ same_range r l
allocated_same mid new r (Err e) l h = tt

-- A held address is in a held range.
pub range_of : (hs : List Range) (x : ℕ) → IsHeldAddress hs x → (q : Range) × IsHeldRange hs q × IsIn q x
range_of [] x h = absurd h
range_of (y ∷ ys) x h =
    ⊎_elim (λ (i : IsIn y x). (y, inl refl, i)) (λ (k : IsHeldAddress ys x). let q = range_of ys x k in (q.0, inr q.1, q.2)) h

-- The addresses of a freed range are clear.
pub released_clear : (old : AddressState) (r : Range) → IsAddressState old → IsHeldRange old.held r →
    AreClear (address_count r) (releasing r old) r.start
released_clear old r i h x low high =
    let lo = old.space.start in
    let hi = old.space.end in
    let l = held_lies lo hi old.held r i.in_order h in
    let inside : IsIn r x = (low, omega (arith, l.1, high)) in (
      (omega (arith, l.0, low), omega (arith, l.2, inside.1)),
      all_miss (without_range r old.held) x (λ k.
          let q = range_of (without_range r old.held) x k in
          not_held_without lo hi r q.0 old.held i.in_order q.1
          (one_held lo hi x old.held r q.0 i.in_order h (held_without r q.0 old.held q.1) inside q.2)),
    )

-- A split fails: out of memory, or Overflow if too many ranges are held.
abbrev pub IsSplitError : AddressState → Result Range Error → Type 0
IsSplitError old answer = (answer ≡ Err OutOfMemory) ⊎ ((SPLIT_LIMIT_MIN_HELD ≤ length old.held) × (answer ≡ Err Overflow))

at_place : (old new : AddressState) (r : Range) (answer : Result Range Error) → AllocatesAt (length old.held) old r answer new →
    (answer ≡ Ok r) ⊎ IsSplitError old answer
unfolding AllocatesAt
at_place old new r answer (inl k) = inl k.1.0
at_place old new r answer (inr (s, inl k)) = inr (inr (k.0, k.1.0))
at_place old new r answer (inr (s, inr (few, inl k))) = inl k.0
at_place old new r answer (inr (s, inr (few, inr k))) = inr (inl k.0)

-- A freed range can be allocated again, unless a split fails.
pub allocated_again : (old mid new : AddressState) (r : Range) (freed : Result (Unit {0}) Error) (answer : Result Range Error) →
    IsAddressState old → Contains old.held r → Frees old r freed mid →
    Allocates mid (request_for (address_count r) 1 (ExactMatch r.start)) answer new → (answer ≡ Ok r) ⊎ IsSplitError mid answer
unfolding Frees IsPlace IsChosen IsStartAligned IsAlignment
allocated_again old mid new r freed answer i c f h =
    let held = held_contains old.held r c in
    let l = held_lies old.space.start old.space.end old.held r i.in_order held in
    let left : mid ≡ releasing r old = ⊎_elim (λ k. k.1.1) (λ k. absurd (k.0 c)) f in
    let request = request_for (address_count r) 1 (ExactMatch r.start) in
    let one : r.start % 1 ≡ 0 = grind arith in
    let valid : IsRequest request = record { some = omega arith; aligned = (0, omega arith, refl); start = one } in
    let clear : AreClear (address_count r) mid r.start = subst (λ (v : AddressState). AreClear (address_count r) v r.start) (sym left)
    (released_clear old r i held) in
    let chosen : IsChosen request mid r.start = (refl, (one, clear)) in
    ⊎_elim
    (λ k. absurd (omega (arith, l.1, l.3, k.0)))
    (λ k. ⊎_elim (λ t. inl (t ∙ ap (λ (v : Range). Ok v) (same_range r l.1))) (λ t. inr t)
    (at_place mid new (span r.start (address_count r)) answer k.1))
    (allocates_chosen request r.start mid new answer valid (omega (arith, l.1, l.3)) chosen h)

-- An allocation of the range by its start returns it, or fails by a limit. A caller's proof finds the state before the
-- range was freed by the first lemma, and the request by the second: one lemma over both would be tried too often.
pub record FitsAgain (r : Range) (state : AddressState) : Type 0 where
  pub by : (new : AddressState) (answer : Result Range Error) →
      Allocates state (request_for (address_count r) 1 (ExactMatch r.start)) answer new →
      (answer ≡ Ok r) ⊎ IsSplitError state answer

pub freed_fits_again : (old mid : AddressState) (r : Range) (freed : Result (Unit {0}) Error) → IsAddressState old → Contains old.held r →
    Frees old r freed mid →
    FitsAgain r mid
freed_fits_again old mid r freed i c f = record { by = λ new answer h. allocated_again old mid new r freed answer i c f h }

pub fits_again_or_limit : (mid new : AddressState) (r : Range) (answer : Result Range Error) → FitsAgain r mid →
    Allocates mid (request_for (address_count r) 1 (ExactMatch r.start)) answer new → IfErr answer (λ e. (e ≡ OutOfMemory) ⊎ (e ≡ Overflow))
fits_again_or_limit mid new r (Ok again) i h = tt
fits_again_or_limit mid new r (Err e) i h =
    ⊎_elim
    (λ k. absurd (cc (k)))
    (λ k. ⊎_elim (λ o. inl (cc o)) (λ o. inr (cc (o.1))) k)
    (i.by new (Err e) h)

-- An allocated range was not held before.
pub range_was_free : (old new : AddressState) (request : Request) (r : Range) → Allocates old request (Ok r) new → ¬ Contains old.held r
unfolding IsPlace
range_was_free old new request r h c =
    let g = given old new request r h in
    let some = g.some in
    let end : r.end ≡ r.start + request.size - 1 = ap (λ (v : Range). v.end) g.long in
    let inside : IsIn r r.start = (omega arith, omega arith) in
    none_holds old.held r.start (g.place.1 r.start (omega arith) (omega arith)).1
    (held_address old.held r r.start (held_contains old.held r c) inside)

-- Held ranges with the same start are the same range.
pub one_start : (space : AddressState) → IsAddressState space → (q r : Range) → Contains space.held q → Contains space.held r →
    q.start ≡ r.start → q ≡ r
one_start space i q r c d e =
    one_held_start space.space.start space.space.end q r space.held i.in_order (held_contains space.held q c) (held_contains space.held r d) e

-- A range that was held before does not start where an allocated range starts.
pub start_was_free : (old new : AddressState) (request : Request) (q r : Range) → IsAddressState old → Allocates old request (Ok r) new →
    Contains old.held q → q.start ≢ r.start
unfolding IsPlace
start_was_free old new request q r i h c e =
    let g = given old new request r h in
    let some = g.some in
    let held = held_contains old.held q c in
    let l = held_lies old.space.start old.space.end old.held q i.in_order held in
    none_holds old.held r.start (g.place.1 r.start (omega arith) (omega arith)).1
    (held_address old.held q r.start held (omega (arith, e), omega (arith, e, l.1)))

-- A freed range is not held after the call, and nothing else changes.
pub freed_state : (old new : AddressState) (r : Range) (answer : Result (Unit {0}) Error) → Frees old r answer new →
    OnOk answer (new ≡ releasing r old)
unfolding Frees
freed_state old new r (Ok u) h = ⊎_elim (λ k. k.1.1) (λ k. absurd (cc (k.1.0))) h
freed_state old new r (Err e) h = tt

-- A range that is not held cannot be freed.
pub not_freed : (old new : AddressState) (r : Range) (answer : Result (Unit {0}) Error) → Frees old r answer new → ¬ Contains old.held r →
    answer ≡ Err ResourceNotAvailable
unfolding Frees
not_freed old new r answer h n = ⊎_elim (λ k. absurd (n k.0)) (λ k. k.1.0) h

pub ruleset releases = (freed_state, not_freed)

-- A held range can be freed.
pub frees_held : (old : AddressState) (r : Range) → Contains old.held r → Frees old r (Ok tt) (releasing r old)
frees_held old r c = releases_held old r (held_contains old.held r c)

-- ---- Saved values
-- The allocator that is read from a written value is the allocator that was written.
pub addresses_again : (d : Data) (old new : AddressState) → EncodesAddresses d old → EncodesAddresses d new → new ≡ old
addresses_again d old new s t = one_addresses d new old t s

-- A state that a value encodes is valid.
pub addresses_encoded : (d : Data) (state : AddressState) → EncodesAddresses d state → IsAddressState state
addresses_encoded d state s = encoded_addresses d state s
