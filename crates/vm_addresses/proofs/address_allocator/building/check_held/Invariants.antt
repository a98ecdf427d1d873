-- The invariant of the loop: the ranges so far can be held, so the rest of the list decides the result.
-- The prover guesses no invariant.
use Rattle.std.proofs.Common.{◌≡◌, ◌≤◌, ◌+◌, drop}
use Rattle.vm_ranges.specs.Address.{AreInOrder}
use Rattle.vm_addresses.specs.Held.{first_fault, fault_index}
use Rattle.vm_addresses.proofs.address_allocator.building.check_held.Given as goal

abbrev pub invariant-loop-index : goal.invariant-loop-index
invariant-loop-index l = record {
  fault : first_fault l.fn.space.start l.end l.held ≡ first_fault l.next l.end (drop l.index l.held);
  index : fault_index 0 l.fn.space.start l.end l.held ≡ fault_index l.index l.next l.end (drop l.index l.held);
  order : AreInOrder l.next (drop l.index l.held) l.end → AreInOrder l.fn.space.start l.held l.end;
  within : l.next ≤ l.end + 1;
}
