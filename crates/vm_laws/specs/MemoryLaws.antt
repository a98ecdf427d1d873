-- Laws of the blocks of an address allocator.
use Rattle.std.specs.Prelude.{◌≡◌, ℕ, ◌+◌, ◌*◌, ◌≤◌, Ok, length}
use Rattle.vm_ranges.specs.Range.{Range}
use Rattle.vm_ranges.specs.Request.{Request}
use Rattle.vm_ranges.specs.Address.{AddressState, IsAddressState}
use Rattle.vm_ranges.specs.Answer.{Allocates, Frees}
use Rattle.vm_addresses.specs.Facts.{block_count, AreClearBeside}

-- An allocation adds one block for each part of the gap that is left: two, one, or none if the range fills its gap.
abbrev pub AllocationAddsParts : Type 0
AllocationAddsParts =
    (old new : AddressState) (request : Request) (r : Range) → IsAddressState old → Allocates old request (Ok r) new →
    (parts : ℕ) × AreClearBeside old r parts × (block_count new ≡ block_count old + parts)

-- Freeing a range removes one block for each gap next to the range: two, one or none.
abbrev pub FreeingRemovesGaps : Type 0
FreeingRemovesGaps =
    (old new : AddressState) (r : Range) → IsAddressState old → Frees old r (Ok tt) new →
    (gaps : ℕ) × AreClearBeside old r gaps × (block_count old ≡ block_count new + gaps)

-- A state with k held ranges has at most 2k + 1 blocks.
abbrev pub BlocksAreFew : Type 0
BlocksAreFew = (state : AddressState) → IsAddressState state → block_count state ≤ 2 * length state.held + 1
