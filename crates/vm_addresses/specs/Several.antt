-- Several requests in one call.
use Rattle.std.specs.Prelude.{◌≡◌, ◌⊎◌, ℕ, List, [], ◌∷◌, ◌++◌, length, MatchOption, Result, Ok, Err, MatchResult}
use Rattle.vm_ranges.specs.Range.{Range, address_count}
use Rattle.vm_ranges.specs.Request.{Request, request_for}
use Rattle.vm_ranges.specs.Address.{AddressState, IsAddressState}
use Rattle.vm_ranges.specs.Answer.{Allocates}
use Rattle.vm_space.specs.Shape.{Shape}
use Rattle.vm_addresses.specs.Allocator.{state_of}
use Rattle.vm_ranges.specs.declared.error.Error.{Error}
use Rattle.vm_ranges.specs.declared.error.Error.TheVariants.{OutOfMemory}
use Rattle.vm_ranges.specs.declared.error.ListError.{ListError}
use Rattle.vm_ranges.specs.declared.constraint.AllocPolicy.TheVariants.{ExactMatch}

-- The ranges that requests get in their order, by the state of the allocator. Each is allocated in the state that the ones
-- before it leave.
abbrev pub AllocatesEach : AddressState → List Request → List Range → AddressState → Type 0
AllocatesEach old [] [] new = new ≡ old
AllocatesEach old [] (r ∷ rs) new = ⊥
AllocatesEach old (q ∷ qs) [] new = ⊥
AllocatesEach old (q ∷ qs) (r ∷ rs) new =
    (mid : AddressState) × Allocates old q (Ok r) mid × AllocatesEach mid qs rs new

-- One of the requests fails with this error after the ones before it got their ranges, by the state of the allocator.
abbrev pub RefusesOne : AddressState → List Request → Error → Type 0
RefusesOne old [] e = ⊥
RefusesOne old (q ∷ qs) e =
    Allocates old q (Err e) old
    ⊎ ((r : Range) × (mid : AddressState) × Allocates old q (Ok r) mid × RefusesOne mid qs e)

-- The request with this index fails with this error after the ones before it got their ranges: the requests are those before
-- it, then the request, then those after it.
pub record FailsAtIndex (old : AddressState) (requests : List Request) (index : ℕ) (error : Error) : Type 0 where
  pub before : List Request
  pub request : Request
  pub after : List Request
  pub cut : requests ≡ before ++ request ∷ after
  pub index_is : index ≡ length before
  pub ranges : List Range
  pub state : AddressState
  pub each : AllocatesEach old before ranges state
  pub fails : Allocates state request (Err error) state

-- The request that an error names fails with that error. An error that names none is OutOfMemory, and no request was tried:
-- the allocator is as before.
abbrev pub FailsAsNamed : Shape → List Request → ListError → Shape → Type 0
FailsAsNamed old requests failure new =
    MatchOption failure.index ((failure.error ≡ OutOfMemory) × (new ≡ old))
    (λ index. FailsAtIndex (state_of old) requests index failure.error)

-- The requests fail together: out of memory, or with the error of the first request that fails. The state is that before.
abbrev pub FailsAll : AddressState → List Request → Error → AddressState → Type 0
FailsAll old requests error new = (new ≡ old) × ((error ≡ OutOfMemory) ⊎ RefusesOne old requests error)

-- The result of `allocate_all`: a range for each request, or an error and the state before.
abbrev pub AllocatesAll : AddressState → List Request → Result (List Range) Error → AddressState → Type 0
AllocatesAll old requests answer new =
    MatchResult answer (λ ranges. AllocatesEach old requests ranges new) (λ error. FailsAll old requests error new)

-- The fact is true for the state after the requests got their ranges.
pub record IsTrueAfter (old : AddressState) (requests : List Request) (fact : AddressState → Type 0) : Type 0 where
  pub ranges : List Range
  pub state : AddressState
  pub each : AllocatesEach old requests ranges state
  pub is_true : fact state

-- The requests for exactly these ranges.
abbrev pub exact_requests : List Range → List Request
exact_requests [] = []
exact_requests (r ∷ rs) = request_for (address_count r) 1 (ExactMatch r.start) ∷ exact_requests rs

-- Allocations of ranges by their starts, one after the other in a new space, lead to the state with these ranges held.
abbrev pub HeldAsAllocated : Type 0
HeldAsAllocated =
    (space : Range) (held : List Range) (new : AddressState) →
    IsAddressState (record { space = space; held = held }) →
    AllocatesEach (record { space = space; held = [] }) (exact_requests held) held new →
    new ≡ record { space = space; held = held }
