-- The invariant of the loop: the requests so far got the ranges so far, and the list has capacity for the others.
-- The prover guesses no invariant.
use Rattle.std.proofs.Common.{◌≡◌, ◌≤◌, length, take}
use Rattle.std.specs.Vec.{vec_len, vec_capacity}
use Rattle.vm_ranges.specs.Address.{IsAddressState}
use Rattle.vm_addresses.specs.Allocator.{state_of}
use Rattle.vm_addresses.specs.Several.{AllocatesEach}
use Rattle.vm_addresses.proofs.address_allocator.AddressAllocator.allocate_all.Given as goal

abbrev pub invariant-loop-index : goal.invariant-loop-index
invariant-loop-index l = record {
  each : AllocatesEach (state_of l.initial.self) (take l.index l.requests) l.ranges.items (state_of l.self);
  state : IsAddressState (state_of l.self);
  many : vec_len l.ranges ≡ l.index;
  room : length l.requests ≤ vec_capacity l.ranges;
}
