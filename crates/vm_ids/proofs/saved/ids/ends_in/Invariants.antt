-- The invariant of the loop: the ends are those of the ids so far.
-- The prover guesses no invariant.
use Rattle.std.proofs.Common.{ℕ, List}
use Rattle.vm_ids.specs.Checks.FreedChecks.{AreEndsOf}
use Rattle.vm_ids.proofs.Ids.AscendingNumbers.{Gathers}
use Rattle.vm_ids.proofs.saved.ids.ends_in.Given as goal

abbrev pub invariant-loop-item : goal.invariant-loop-item
invariant-loop-item l = record {
  ids : List ℕ;
  ends : AreEndsOf l.ends ids;
  so_far : Gathers l.item-index l.list ids;
}
