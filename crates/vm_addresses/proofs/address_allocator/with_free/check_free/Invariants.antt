-- The invariant of the loop: the ranges so far are in order, and their last one and the number of their holes are known.
-- The prover guesses no invariant.
use Rattle.std.proofs.Common.{◌≡◌, ◌+◌, ◌≤◌, length, drop}
use Rattle.vm_addresses.specs.Holes.{holes_after, last_range_end, wrong_index}
use Rattle.vm_addresses.specs.Checks.FreeChecks.{AreRanges}
use Rattle.vm_addresses.proofs.address_allocator.with_free.check_free.Given as goal

abbrev pub invariant-loop-index : goal.invariant-loop-index
invariant-loop-index l = record {
  wrong : wrong_index 1 (l.fn.first.end + 1) l.others ≡ wrong_index (l.index + 1) (l.last.end + 1) (drop l.index l.others);
  last : last_range_end l.fn.first.end l.others ≡ last_range_end l.last.end (drop l.index l.others);
  holes : length (holes_after (l.fn.first.end + 1) l.others) ≡ l.holes + length (holes_after (l.last.end + 1) (drop l.index l.others));
  ranges : AreRanges (drop l.index l.others) → AreRanges l.others;
  few : l.holes ≤ l.index;
}
