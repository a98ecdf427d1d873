-- Requests, and the errors of invalid requests. A constraint is seen as its whole request. The places of a request
-- depend only on its size and its alignment.
use Rattle.std.specs.Prelude.{◌≡◌, ℕ, ◌%◌, ◌<◌, ◌&&◌, ◌==◌, if◌then◌else◌, Option, None, Some, Result, Ok, Err}
use Rattle.vm_ranges.specs.Cases.{IfElse, Unless}
use Rattle.vm_ranges.specs.Alignment.{IsAlignment}
use Rattle.vm_ranges.specs.Range.{Range, MAX}
use Rattle.vm_ranges.specs.declared.error.Error.{Error}
use Rattle.vm_ranges.specs.declared.error.Error.TheVariants.{InvalidSize, InvalidAlignment, UnalignedAddress, InvalidRange}
use Rattle.vm_ranges.specs.declared.constraint.AllocPolicy.{AllocPolicy}
use Rattle.vm_ranges.specs.declared.constraint.AllocPolicy.TheVariants.{FirstMatch, LastMatch, ExactMatch}

-- A request: the number of addresses, the alignment of the first one, the policy that chooses the place, and the window
-- in which the range must lie, if there is one.
pub record Request : Type 0 where
  pub size : ℕ
  pub align : ℕ
  pub policy : AllocPolicy
  pub window : Option Range

-- The request with this size, alignment and policy, and without a window.
abbrev pub request_for : ℕ → ℕ → AllocPolicy → Request
request_for size align policy = record { size = size; align = align; policy = policy; window = None }

-- One fact for each policy: for the lowest place, for the highest place, and for the given start.
abbrev pub ByPolicy : AllocPolicy → Type 0 → Type 0 → (ℕ → Type 0) → Type 0
ByPolicy FirstMatch lowest highest named = lowest
ByPolicy LastMatch lowest highest named = highest
ByPolicy (ExactMatch start) lowest highest named = named start

-- The start of ExactMatch is a multiple of the alignment. It is true for the other policies.
unfoldable pub IsStartAligned : ℕ → AllocPolicy → Type 0
IsStartAligned align policy = ByPolicy policy (Unit {0}) (Unit {0}) (λ start. start % align ≡ 0)

-- The request is valid.
pub record IsRequest (request : Request) : Type 0 where
  pub some : 0 < request.size
  pub aligned : IsAlignment request.align
  pub start : IsStartAligned request.align request.policy

-- The error of an invalid request. The first condition that is true decides:
--
-- - InvalidSize if the size is 0.
-- - InvalidAlignment if the alignment is not a power of two.
-- - UnalignedAddress if the policy is ExactMatch, and its start is not a multiple of the alignment.
-- - Otherwise `otherwise` is true.
unfoldable pub ByConstraint : Request → (Error → Type 0) → Type 0 → Type 0
ByConstraint request refused otherwise =
    IfElse (request.size ≡ 0) (refused (InvalidSize 0)) (
    Unless (IsAlignment request.align) (refused InvalidAlignment) (
    Unless (IsStartAligned request.align request.policy) (refused UnalignedAddress) otherwise))

-- The result of creating the constraint of a request.
unfoldable pub MakesConstraint : Request → Result Request Error → Type 0
MakesConstraint request answer = ByConstraint request (λ e. answer ≡ Err e) (answer ≡ Ok request)

-- The window from low to high, or None if it has all addresses.
abbrev pub window_between : ℕ → ℕ → Option Range
window_between low high =
    if low == 0 && high == MAX then None else Some (record { start = low; end = high })

-- The result of limiting a request to the addresses from low to high: InvalidRange if high is below low, otherwise the
-- request with this window.
abbrev pub MakesLimits : Request → ℕ → ℕ → Result Request Error → Type 0
MakesLimits request low high answer =
    IfElse (high < low) (answer ≡ Err (InvalidRange low high))
    (answer ≡ Ok (record request { window = window_between low high }))
