-- A turn passes the next freed run, or a row of held ids below it. The prover does not distinguish whether a freed run is left.
use Rattle.std.proofs.Common.{◌<◌, arith, IfSome}
use Rattle.std.proofs.lemmas.List.FromFn.{length-range_with_len}
use Rattle.vm_list.specs.declared.id_set.Run.{Run}
use Rattle.vm_ids.proofs.Ids.HeldIds.{passes_run, run_fits, filled_after, next_not_freed, visits_row, up_to_held_end, drops_row}
use Rattle.vm_ids.proofs.id_allocator.held_ids_in.HeldIdsIn.advance_by.Goals as goal
use Rattle.vm_ids.proofs.id_allocator.held_ids_in.HeldIdsIn.advance_by.Goals.{in_default-via-in-Some+else-from-self, in_default-via-in_default}

pub overflow_add-self : goal.overflow_add-self
overflow_add-self c =
    let h = c.loop-rest.invariant in
    let fits = run_fits _ _ c.in-Some.run' _ (rw c.in-Some.is at h.above) (rw c.in-Some.is at h.valid.from_next) in
    omega (arith, fits, c.from-in-Some.ensures)

pub loop-rest-preserved-then-from-self : goal.loop-rest-preserved-then-from-self
loop-rest-preserved-then-from-self c =
    let h = c.loop-rest.invariant in
    let filled = rw c.in-Some.is at h.above in
    let steps = c.next_run-self-inside.ensures in
    let p = passes_run _ _ c.in-Some.run' _ _ _ _ (omega (arith, c.if-from-self.true, c.from.ensures)) filled steps (rw c.in-Some.is at h.valid) in
    record {
      valid = rw c.from-in-Some.ensures p.0;
      above = filled_after _ _ _ _ filled steps;
      below = h.below;
      same = rw c.from-in-Some.ensures (rw p.1 at (rw c.in-Some.is at h.same));
    }

pub loop-rest-preserved : goal.loop-rest-preserved
loop-rest-preserved c =
    let h = c.loop-rest.invariant in
    let above : IfSome c.loop-rest.self-inside.next_freed (λ (run : Run). c.loop-rest.self-inside.next < run.first) = elim c.in_default.branch [
      | in_default-via-in-Some+else-from-self w ↦ rw w.in-Some.is (omega (arith, w.if-from-self.false, w.from.ensures))
      | in_default-via-in_default w ↦ rw w.in_default.is tt
    ] in
    let room = up_to_held_end _ _ _ _ c.min-step.result _ c.if-self.true above c.held_end.ensures c.min-step.ensures in
    let visit = visits_row _ _ _ room.0 _ _ h.valid (next_not_freed _ _ _ _ _ h.above room.1 h.valid.from_next) in
    let passed = drops_row _ _ _ _ c.loop-rest.rest visit.1 (length-range_with_len c.loop-rest.self-inside.next c.min-step.result) (omega (arith, c.min-step.ensures)) in
    record { valid = visit.0; above = h.above; below = h.below; same = rw passed at h.same }
