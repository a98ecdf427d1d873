-- The id below the bound is held if no freed run ends there. The prover does not distinguish whether a freed run is left.
use Rattle.std.proofs.Common.{◌<◌, ◌+◌, length, sym, ap, ◌∙◌, arith, IfSome}
use Rattle.std.proofs.lemmas.List.{length_push}
use Rattle.vm_list.specs.declared.id_set.Run.{Run}
use Rattle.vm_ids.proofs.Ids.HeldIds.{passes_run_back, last_run_fits, filled_before, last_not_freed, visits_row_back}
use Rattle.vm_ids.proofs.id_allocator.held_ids_in.HeldIdsInDoubleEndedIterator.next_back.Goals as goal
use Rattle.vm_ids.proofs.id_allocator.held_ids_in.HeldIdsInDoubleEndedIterator.next_back.Goals.{in_default-via-in-Some+else-self-from, in_default-via-in_default}

pub overflow_add-from : goal.overflow_add-from
overflow_add-from c =
    let h = c.loop-self.invariant in
    let fits = last_run_fits _ _ c.in-Some.run' _ (rw c.in-Some.is at h.below) (rw c.in-Some.is at h.valid.to_bound) in
    omega (arith, fits, h.valid.ids, c.from.ensures)

pub loop-self-smaller : goal.loop-self-smaller
loop-self-smaller c =
    let h = c.loop-self.invariant in
    let filled = rw c.in-Some.is at h.below in
    let steps = c.last_run-self-inside.ensures in
    let p = passes_run_back _ _ c.in-Some.run' _ _ _ _ (omega (arith, c.if-self-from.true, c.from.ensures)) filled steps (rw c.in-Some.is at h.valid) in
    omega (arith, p.2, c.into-self-inside.ensures, c.loop-self-test.true)

pub loop-self-preserved : goal.loop-self-preserved
loop-self-preserved c =
    let h = c.loop-self.invariant in
    let filled = rw c.in-Some.is at h.below in
    let steps = c.last_run-self-inside.ensures in
    let p = passes_run_back _ _ c.in-Some.run' _ _ _ _ (omega (arith, c.if-self-from.true, c.from.ensures)) filled steps (rw c.in-Some.is at h.valid) in
    record {
      valid = rw c.into-self-inside.ensures p.0;
      above = h.above;
      below = filled_before _ _ _ _ filled steps;
      same = rw c.into-self-inside.ensures (sym p.1 ∙ h.same);
    }

pub invariant_of-self-in_default : goal.invariant_of-self-in_default
invariant_of-self-in_default c =
    let h = c.loop-self.invariant in
    let below : IfSome c.loop-self.self-inside.last_freed (λ (run : Run). run.last + 1 < c.loop-self.self-inside.bound) = elim c.in_default.branch [
      | in_default-via-in-Some+else-self-from w ↦ rw w.in-Some.is (omega (arith, w.if-self-from.false, w.from.ensures))
      | in_default-via-in_default w ↦ rw w.in_default.is tt
    ] in
    ((visits_row_back _ _ 1 (omega (arith, c.loop-self-test.true)) _ _ h.valid (last_not_freed _ _ 1 _ _ h.below below h.valid.to_bound)).0, h.above, h.below)

pub returns-in_default-clause-steps : goal.returns-in_default-clause-steps
returns-in_default-clause-steps c =
    let h = c.loop-self.invariant in
    let below : IfSome c.loop-self.self-inside.last_freed (λ (run : Run). run.last + 1 < c.loop-self.self-inside.bound) = elim c.in_default.branch [
      | in_default-via-in-Some+else-self-from w ↦ rw w.in-Some.is (omega (arith, w.if-self-from.false, w.from.ensures))
      | in_default-via-in_default w ↦ rw w.in_default.is tt
    ] in
    let visit = visits_row_back _ _ 1 (omega (arith, c.loop-self-test.true)) _ _ h.valid (last_not_freed _ _ 1 _ _ h.below below h.valid.to_bound) in
    sym c.self.view_is ∙ sym h.same ∙ visit.1

pub returns-in_default-clause-goes : goal.returns-in_default-clause-goes
returns-in_default-clause-goes c =
    let last = returns-in_default-clause-steps c in
    record { on = λ _. (tt, tt, omega (arith, ap length last ∙ length_push _ _)); keeps = tt; rests = λ _. tt }
