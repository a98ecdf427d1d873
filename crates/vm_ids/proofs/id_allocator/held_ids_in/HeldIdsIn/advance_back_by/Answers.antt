-- A turn passes the last freed run, or a row of held ids above it. The prover does not distinguish whether a freed run is left.
use Rattle.std.proofs.Common.{◌<◌, ◌+◌, ◌-◌, arith, IfSome}
use Rattle.std.proofs.lemmas.List.FromFn.{length-range_with_len}
use Rattle.vm_list.specs.declared.id_set.Run.{Run}
use Rattle.vm_ids.proofs.Ids.HeldIds.{passes_run_back, last_run_fits, filled_before, last_not_freed, visits_row_back, down_to_held_start, takes_row}
use Rattle.vm_ids.proofs.id_allocator.held_ids_in.HeldIdsIn.advance_back_by.Goals as goal
use Rattle.vm_ids.proofs.id_allocator.held_ids_in.HeldIdsIn.advance_back_by.Goals.{in_default-via-in-Some+else-self-from, in_default-via-in_default}

pub overflow_add-from : goal.overflow_add-from
overflow_add-from c =
    let h = c.loop-rest.invariant in
    let fits = last_run_fits _ _ c.in-Some.run' _ (rw c.in-Some.is at h.below) (rw c.in-Some.is at h.valid.to_bound) in
    omega (arith, fits, h.valid.ids, c.from.ensures)

pub loop-rest-smaller-then-self-from : goal.loop-rest-smaller-then-self-from
loop-rest-smaller-then-self-from c =
    let h = c.loop-rest.invariant in
    let filled = rw c.in-Some.is at h.below in
    let steps = c.last_run-self-inside.ensures in
    let p = passes_run_back _ _ c.in-Some.run' _ _ _ _ (omega (arith, c.if-self-from.true, c.from.ensures)) filled steps (rw c.in-Some.is at h.valid) in
    omega (arith, p.2, c.into-self-inside.ensures, c.if-self.true)

pub loop-rest-preserved-then-self-from : goal.loop-rest-preserved-then-self-from
loop-rest-preserved-then-self-from c =
    let h = c.loop-rest.invariant in
    let filled = rw c.in-Some.is at h.below in
    let steps = c.last_run-self-inside.ensures in
    let p = passes_run_back _ _ c.in-Some.run' _ _ _ _ (omega (arith, c.if-self-from.true, c.from.ensures)) filled steps (rw c.in-Some.is at h.valid) in
    record {
      valid = rw c.into-self-inside.ensures p.0;
      above = h.above;
      below = filled_before _ _ _ _ filled steps;
      same = rw c.into-self-inside.ensures (rw p.1 at h.same);
    }

pub loop-rest-preserved : goal.loop-rest-preserved
loop-rest-preserved c =
    let h = c.loop-rest.invariant in
    let below : IfSome c.loop-rest.self-inside.last_freed (λ (run : Run). run.last + 1 < c.loop-rest.self-inside.bound) = elim c.in_default.branch [
      | in_default-via-in-Some+else-self-from w ↦ rw w.in-Some.is (omega (arith, w.if-self-from.false, w.from.ensures))
      | in_default-via-in_default w ↦ rw w.in_default.is tt
    ] in
    let room = down_to_held_start _ _ _ _ c.min-step.result _ c.if-self.true below c.held_start.ensures c.min-step.ensures in
    let visit = visits_row_back _ _ _ room.0 _ _ h.valid (last_not_freed _ _ _ _ _ h.below room.1 h.valid.to_bound) in
    let row = length-range_with_len (c.loop-rest.self-inside.bound - c.min-step.result) c.min-step.result in
    let passed = takes_row _ _ _ _ c.loop-rest.rest visit.1 row (omega (arith, c.min-step.ensures)) in
    record {
      valid = visit.0;
      above = h.above;
      below = h.below;
      same = rw passed at h.same;
    }
