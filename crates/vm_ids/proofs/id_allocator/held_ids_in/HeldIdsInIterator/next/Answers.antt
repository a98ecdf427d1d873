-- The next id is held if no freed run starts there. The prover does not distinguish whether a freed run is left.
use Rattle.std.proofs.Common.{◌+◌, ◌≤◌, length, sym, ap, ◌∙◌, arith, IfSome}
use Rattle.vm_list.specs.declared.id_set.Run.{Run}
use Rattle.vm_ids.proofs.Ids.HeldIds.{passes_run, run_fits, filled_after, next_not_freed, visits_row}
use Rattle.vm_ids.proofs.id_allocator.held_ids_in.HeldIdsInIterator.next.Goals as goal
use Rattle.vm_ids.proofs.id_allocator.held_ids_in.HeldIdsInIterator.next.Goals.{in_default-via-in-Some+else-from-self, in_default-via-in_default}

pub overflow_add-self : goal.overflow_add-self
overflow_add-self c =
    let h = c.loop-self.invariant in
    let fits = run_fits _ _ c.in-Some.run' _ (rw c.in-Some.is at h.above) (rw c.in-Some.is at h.valid.from_next) in
    omega (arith, fits, c.from-in-Some.ensures)

pub loop-self-preserved : goal.loop-self-preserved
loop-self-preserved c =
    let h = c.loop-self.invariant in
    let filled = rw c.in-Some.is at h.above in
    let steps = c.next_run-self-inside.ensures in
    let p = passes_run _ _ c.in-Some.run' _ _ _ _ (omega (arith, c.if-from-self.true, c.from.ensures)) filled steps (rw c.in-Some.is at h.valid) in
    record {
      valid = rw c.from-in-Some.ensures p.0;
      above = filled_after _ _ _ _ filled steps;
      below = h.below;
      same = rw c.from-in-Some.ensures (sym p.1 ∙ rw c.in-Some.is at h.same);
    }

pub invariant_of-self-in_default : goal.invariant_of-self-in_default
invariant_of-self-in_default c =
    let h = c.loop-self.invariant in
    let above : IfSome c.loop-self.self-inside.next_freed (λ (run : Run). c.loop-self.self-inside.next + 1 ≤ run.first) = elim c.in_default.branch [
      | in_default-via-in-Some+else-from-self w ↦ rw w.in-Some.is (omega (arith, w.if-from-self.false, w.from.ensures))
      | in_default-via-in_default w ↦ rw w.in_default.is tt
    ] in
    ((visits_row _ _ 1 (omega (arith, c.loop-self-test.true)) _ _ h.valid (next_not_freed _ 1 _ _ _ h.above above h.valid.from_next)).0, h.above, h.below)

pub returns-in_default-clause-steps : goal.returns-in_default-clause-steps
returns-in_default-clause-steps c =
    let h = c.loop-self.invariant in
    let above : IfSome c.loop-self.self-inside.next_freed (λ (run : Run). c.loop-self.self-inside.next + 1 ≤ run.first) = elim c.in_default.branch [
      | in_default-via-in-Some+else-from-self w ↦ rw w.in-Some.is (omega (arith, w.if-from-self.false, w.from.ensures))
      | in_default-via-in_default w ↦ rw w.in_default.is tt
    ] in
    let visit = visits_row _ _ 1 (omega (arith, c.loop-self-test.true)) _ _ h.valid (next_not_freed _ 1 _ _ _ h.above above h.valid.from_next) in
    sym c.self.view_is ∙ sym h.same ∙ visit.1

pub returns-in_default-clause-goes : goal.returns-in_default-clause-goes
returns-in_default-clause-goes c =
    let first = returns-in_default-clause-steps c in
    record { on = λ _. (tt, tt, omega (arith, ap length first)); keeps = tt; rests = λ _. tt }
