-- The invariant of the loop: the longest part so far and the gaps that are left decide the result.
-- The prover guesses no invariant.
use Rattle.std.proofs.Common.{◌≡◌, length}
use Rattle.vm_addresses.proofs.Walking.LongestParts.{longest_of_parts}
use Rattle.vm_addresses.proofs.address_allocator.AddressAllocator.longest_gap_in.Given as goal

abbrev pub invariant-loop-gap : goal.invariant-loop-gap
invariant-loop-gap l = record {
  longest : longest_of_parts l.fn.window l.longest l.gaps ≡ longest_of_parts l.fn.window l.initial.longest l.initial.gaps;
}

abbrev pub decreases-loop-gap : goal.decreases-loop-gap
decreases-loop-gap l = length l.gaps
