-- The invariant of the loop: the ids that are left after the rest is passed do not change.
-- The prover guesses no invariant.
use Rattle.std.proofs.Common.{◌≡◌, ◌-◌, ℕ, List, length, take}
use Rattle.vm_ids.specs.Checks.IdQueries.{freed_from, freed_to, ids_left, AreIdsLeft, AreFilled}
use Rattle.vm_ids.proofs.id_allocator.held_ids_in.HeldIdsIn.advance_back_by.Given as goal

abbrev pub invariant-loop-rest : goal.invariant-loop-rest
invariant-loop-rest l =
    let now : List ℕ = ids_left l.self-inside.next l.self-inside.bound (freed_from l.self-inside.next_freed l.self-inside.freed_above) in
    let all : List ℕ = ids_left l.initial.self-inside.next l.initial.self-inside.bound
    (freed_from l.initial.self-inside.next_freed l.initial.self-inside.freed_above) in
    record {
      valid : AreIdsLeft l.self-inside.next l.self-inside.bound (freed_from l.self-inside.next_freed l.self-inside.freed_above)
          (freed_to l.self-inside.freed_below l.self-inside.last_freed);
      above : AreFilled l.self-inside.next_freed l.self-inside.freed_above;
      below : AreFilled l.self-inside.last_freed l.self-inside.freed_below;
      same : take (length now - l.rest) now ≡ take (length all - l.count) all;
    }

abbrev pub decreases-loop-rest : goal.decreases-loop-rest
decreases-loop-rest l = l.self-inside.bound - l.self-inside.next
