-- Laws of requests and the longest gap.
use Rattle.std.specs.Prelude.{◌≡◌, ◌↔◌, ◌<◌, ◌⊎◌, Result, Err, ◌≢◌, ◌+◌, ◌-◌, ◌≤◌}
use Rattle.vm_ranges.specs.Range.{Range}
use Rattle.vm_ranges.specs.Request.{Request, IsRequest}
use Rattle.vm_ranges.specs.Address.{AddressState, IsAddressState}
use Rattle.vm_ranges.specs.Answer.{Allocates}
use Rattle.vm_addresses.specs.Queries.{gaps_of, longest_in}
use Rattle.vm_ranges.specs.declared.error.Error.{Error}
use Rattle.vm_ranges.specs.declared.error.Error.TheVariants.{ResourceNotAvailable}
use Rattle.vm_ranges.specs.declared.constraint.AllocPolicy.TheVariants.{FirstMatch, LastMatch}

-- A valid request at alignment 1 returns ResourceNotAvailable if and only if it is longer than the longest gap, or than the
-- longest part of a gap in its window. This is true for FirstMatch and LastMatch.
abbrev pub LongestDecides : Type 0
LongestDecides =
    (old new : AddressState) (request : Request) (answer : Result Range Error) →
    IsAddressState old → IsRequest request → request.align ≡ 1 →
    (request.policy ≡ FirstMatch) ⊎ (request.policy ≡ LastMatch) → Allocates old request answer new →
    (answer ≡ Err ResourceNotAvailable) ↔ (longest_in request.window (gaps_of old) < request.size)

-- A valid request for n addresses at alignment a does not return ResourceNotAvailable if a gap has n + a - 1 addresses. If
-- the request has a window, a part of a gap in the window must have them. This is true for FirstMatch and LastMatch.
abbrev pub LongGapSuffices : Type 0
LongGapSuffices =
    (old new : AddressState) (request : Request) (answer : Result Range Error) →
    IsAddressState old → IsRequest request →
    (request.policy ≡ FirstMatch) ⊎ (request.policy ≡ LastMatch) →
    request.size + request.align - 1 ≤ longest_in request.window (gaps_of old) → Allocates old request answer new →
    answer ≢ Err ResourceNotAvailable
