-- The invariant of the loop: if requests got the ranges, some of them got the ranges that are left.
-- The prover guesses no invariant.
use Rattle.std.specs.Prelude.{List, length}
use Rattle.vm_ranges.specs.Request.{Request}
use Rattle.vm_ranges.specs.Address.{AddressState, IsAddressState}
use Rattle.vm_addresses.specs.Allocator.{state_of}
use Rattle.vm_addresses.specs.Several.{AllocatesEach}
use Rattle.vm_addresses.proofs.address_allocator.AddressAllocator.free_all.Given as goal

abbrev pub invariant-loop-range : goal.invariant-loop-range
invariant-loop-range l = record {
  left : (before : AddressState) (requests : List Request) → IsAddressState before →
      AllocatesEach before requests l.initial.ranges.items (state_of l.initial.self) →
      (ps : List Request) × AllocatesEach before ps l.ranges.items (state_of l.self);
}

abbrev pub decreases-loop-range : goal.decreases-loop-range
decreases-loop-range l = length l.ranges.items
