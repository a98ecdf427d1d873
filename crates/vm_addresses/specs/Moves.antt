-- The move of a held range to the place of a request.
use Rattle.std.specs.Prelude.{◌≡◌, ◌≢◌, ℕ, ◌<◌, ◌≤◌, true, false, length, Result, Ok, Err, MatchResult}
use Rattle.std.specs.List.{Contains}
use Rattle.vm_ranges.specs.Cases.{Unless}
use Rattle.vm_ranges.specs.Range.{Range, MAX, IsIn, address_count}
use Rattle.vm_ranges.specs.Request.{Request, request_for}
use Rattle.vm_ranges.specs.Address.{AddressState, IsAddressState, IsClear, SplitsGap, holding, releasing}
use Rattle.vm_ranges.specs.Answer.{SPLIT_LIMIT_MIN_HELD, Allocates}
use Rattle.vm_space.specs.Spares.{HasSpare}
use Rattle.vm_addresses.specs.declared.address_allocator.moving.BegunMove.{BegunMove}
use Rattle.vm_ranges.specs.declared.error.Error.{Error}
use Rattle.vm_ranges.specs.declared.error.Error.TheVariants.{ResourceNotAvailable}
use Rattle.vm_ranges.specs.declared.constraint.AllocPolicy.TheVariants.{ExactMatch}

-- The request for as many addresses as the range r has, starting at t.
abbrev pub request_to : Range → ℕ → Request
request_to r t = request_for (address_count r) 1 (ExactMatch t)

-- The state after the range r is freed and the range q is allocated.
unfoldable pub replacing : Range → Range → AddressState → AddressState
replacing r q state = holding q (releasing r state)

-- The result of `move_constraint` for the range r: r is freed, and then a range is allocated for the request. An error changes
-- nothing. The first condition that is true decides:
-- - ResourceNotAvailable if r is not held.
-- - Otherwise the result of the request in the state in which r is free.
unfoldable pub MovesRange : AddressState → Range → Request → Result Range Error → AddressState → Type 0
MovesRange old r request answer new =
    Unless (Contains old.held r) ((answer ≡ Err ResourceNotAvailable) × (new ≡ old)) (
    (mid : AddressState) × Allocates (releasing r old) request answer mid ×
    MatchResult answer (λ _. new ≡ mid) (λ _. new ≡ old))

-- After the held range r is freed, the range q can be held: its addresses are clear and below MAX. If it splits its gap, there is
-- memory for that, and few ranges are held.
pub record CanReplace (old : AddressState) (r q : Range) (HasMemory : Type 0) : Type 0 where
  pub some : q.start ≤ q.end
  pub below : q.end < MAX
  pub clear : (x : ℕ) → IsIn q x → IsClear (releasing r old) x
  pub split : SplitsGap (releasing r old) q → HasMemory × (length old.held ≤ SPLIT_LIMIT_MIN_HELD)

-- A move of the held range r was begun in the state old, and led to the state mid. Its range is held beside r, or can replace r.
pub record IsBegun (old : AddressState) (r : Range) (begun : BegunMove) (mid : AddressState) : Type 0 where
  pub state : IsAddressState old
  pub held : Contains old.held r
  pub some : begun.range.start ≤ begun.range.end
  pub beside : begun.is_allocated ≡ true → (mid ≡ holding begun.range old) × ((x : ℕ) → IsIn begun.range x → IsClear old x)
  pub inside : begun.is_allocated ≡ false → (mid ≡ old) × CanReplace old r begun.range (begun.range ≢ r → HasSpare (length old.held) begun.spare)

-- The result of `begin_move`: the range of a move that will succeed, or the error of the move.
abbrev pub BeginsMove : AddressState → Range → Request → Result BegunMove Error → AddressState → Type 0
BeginsMove old r request (Ok begun) mid = MovesRange old r request (Ok begun.range) (replacing r begun.range old) × IsBegun old r begun mid
BeginsMove old r request (Err e) mid = MovesRange old r request (Err e) mid
