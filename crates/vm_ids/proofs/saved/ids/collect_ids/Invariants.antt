-- The invariant of the loop: the list has the ids of the items so far.
-- The prover guesses no invariant.
use Rattle.std.specs.List.Sorted.{IsStrictlySortedBy}
use Rattle.std.specs.Ordering.{nat_cmp}
use Rattle.vm_ids.proofs.Ids.AscendingNumbers.{Gathers}
use Rattle.vm_ids.proofs.saved.ids.collect_ids.Given as goal

abbrev pub invariant-loop-item : goal.invariant-loop-item
invariant-loop-item l = record {
  ascending : IsStrictlySortedBy nat_cmp l.ids;
  so_far : Gathers l.item-index l.list l.ids;
}
