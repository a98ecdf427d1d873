-- The invariant of the loop: a skipped block has the other state, so the ranges that are left do not change.
-- The prover guesses no invariant.
use Rattle.std.proofs.Common.{◌≡◌, length}
use Rattle.vm_addresses.specs.Queries.{ranges_with}
use Rattle.vm_addresses.proofs.address_allocator.ranges.RangesInIterator.next.Given as goal

abbrev pub invariant-loop-block : goal.invariant-loop-block
invariant-loop-block l = record {
  state : l.self-inside.state ≡ l.initial.self-inside.state;
  ranges : ranges_with l.self-inside.state l.self-inside.blocks ≡ ranges_with l.initial.self-inside.state l.initial.self-inside.blocks;
}

abbrev pub decreases-loop-block : goal.decreases-loop-block
decreases-loop-block l = length l.self-inside.blocks
