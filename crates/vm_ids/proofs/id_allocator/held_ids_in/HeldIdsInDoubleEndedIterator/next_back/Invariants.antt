-- The invariant of the loop: the ids that are left do not change, since only freed runs are passed.
-- The prover guesses no invariant.
use Rattle.std.proofs.Common.{◌≡◌, ◌-◌}
use Rattle.vm_ids.specs.Checks.IdQueries.{freed_from, freed_to, ids_left, AreIdsLeft, AreFilled}
use Rattle.vm_ids.proofs.id_allocator.held_ids_in.HeldIdsInDoubleEndedIterator.next_back.Given as goal

abbrev pub invariant-loop-self : goal.invariant-loop-self
invariant-loop-self l = record {
  valid : AreIdsLeft l.self-inside.next l.self-inside.bound (freed_from l.self-inside.next_freed l.self-inside.freed_above)
      (freed_to l.self-inside.freed_below l.self-inside.last_freed);
  above : AreFilled l.self-inside.next_freed l.self-inside.freed_above;
  below : AreFilled l.self-inside.last_freed l.self-inside.freed_below;
  same : ids_left l.self-inside.next l.self-inside.bound (freed_from l.self-inside.next_freed l.self-inside.freed_above)
      ≡ ids_left l.initial.self-inside.next l.initial.self-inside.bound
      (freed_from l.initial.self-inside.next_freed l.initial.self-inside.freed_above);
}

abbrev pub decreases-loop-self : goal.decreases-loop-self
decreases-loop-self l = l.self-inside.bound - l.self-inside.next
