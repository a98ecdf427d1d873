-- The invariant of the loop: the blocks and the free addresses so far, with those of the rest, are those of the space.
-- The prover guesses no invariant.
use Rattle.std.proofs.Common.{◌≡◌, ◌≤◌, ◌+◌, ◌*◌, length, drop}
use Rattle.vm_ranges.specs.Address.{AreInOrder}
use Rattle.vm_leaf.specs.SpaceBlocks.{blocks_between}
use Rattle.vm_addresses.specs.Queries.{count_of}
use Rattle.vm_addresses.proofs.address_allocator.building.count_blocks.Given as goal

abbrev pub invariant-loop-range : goal.invariant-loop-range
invariant-loop-range l = record {
  order : AreInOrder l.next (drop l.range-index l.held) l.end;
  blocks : length (blocks_between l.fn.space.start l.held l.end) ≡ l.count + length (blocks_between l.next (drop l.range-index l.held) l.end);
  left : l.left + count_of l.held + l.fn.space.start ≡ l.next + count_of (drop l.range-index l.held);
  few : l.count ≤ 2 * l.range-index;
  within : l.next ≤ l.end + 1;
}
