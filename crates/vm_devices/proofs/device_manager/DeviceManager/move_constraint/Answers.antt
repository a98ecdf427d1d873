-- The device gets the new range, or the move is undone. The prover does not replace the manager by its parts in the facts on its state.
use Rattle.std.proofs.Common.{◌≡◌, ℕ, sym, ap, ◌∙◌, subst, Some, Err, IfSome, rules}
use Rattle.std.specs.Ordering.{nat_cmp}
use Rattle.std.specs.FinMap as map
use Rattle.vm_ranges.specs.Range.{Range, Covers}
use Rattle.vm_ranges.specs.declared.error.Error.TheVariants.{OutOfMemory}
use Rattle.vm_addresses.specs.Allocator.{state_of}
use Rattle.vm_devices.specs.Checks.{StartsAt}
use Rattle.vm_devices.specs.Devices.{DeviceState, IsDeviceState, devices_of}
use Rattle.vm_devices.specs.Manager.{DevicesInTree}
use Rattle.vm_devices.proofs.DeviceMoves.{
  moved_start,
  moved_state,
  move_refused,
  move_undone,
  device_moved,
  moved_fits,
  moved_inside,
  move_cancelled,
  move_finished,
}
use Rattle.vm_devices.proofs.device_manager.DeviceManager.move_constraint.Goals as goal

-- The device starts where the range to come starts.
starts_there : (devices : map.FinMap nat_cmp Range) (id : ℕ) (q r to : Range) → map.get devices id ≡ Some q → to ≡ r → r.start ≡ q.start →
    StartsAt devices id to.start
starts_there devices id q r to device is e = rw (device, is) (ap Some (sym e))

pub returns-in_err-begun-clause-answer : goal.returns-in_err-begun-clause-answer
returns-in_err-begun-clause-answer c =
    let e = c.in_err-begun.field-0.0 in
    let is : c.from_residual.result ≡ Err e = search rules in
    let device = ap (λ (v : DevicesInTree). map.get v.devices c.args.id) c.self.view_is ∙ sym c.in-Some.ensures.value in
    let same = ap (λ a. devices_of c.self.inside.id_allocator (state_of a) c.self.inside.slots) c.in_err-begun.ensures.unchanged in
    rw (← c.self.view_is, is)
    (move_refused _ _ c.args.id c.in-Some.before device c.args.request e
    (rw c.in_err-begun.ensures.unchanged at c.in_err-begun.ensures.answer) same)

pub insert-requires : goal.insert-requires
insert-requires c =
    let device = ap (λ (v : DevicesInTree). map.get v.devices c.args.id) c.self.view_is ∙ sym c.in-Some.ensures.value in
    rw c.range-range.ensures
    (moved_start _ c.self.invariant c.args.id c.in-Some.before device c.args.request c.in_ok-begun.begun.range _
    c.in_ok-begun.ensures.answer.0)

pub invariant_of-self-in-Err : goal.invariant_of-self-in-Err
invariant_of-self-in-Err c =
    let old : DeviceState = devices_of c.self.inside.id_allocator (state_of c.self.inside.mmio_allocator) c.self.inside.slots in
    subst IsDeviceState
    (sym (move_cancelled old _ _ (c.cancel_move.ensures.same _ _ c.in_ok-begun.ensures.answer.1) c.in-Err.ensures.err))
    c.self.invariant

pub returns-in-Err-clause-unchanged : goal.returns-in-Err-clause-unchanged
returns-in-Err-clause-unchanged c =
    let old : DeviceState = devices_of c.self.inside.id_allocator (state_of c.self.inside.mmio_allocator) c.self.inside.slots in
    rw (← c.self.view_is)
    (move_cancelled old _ _ (c.cancel_move.ensures.same _ _ c.in_ok-begun.ensures.answer.1) c.in-Err.ensures.err)

pub returns-in-Err-clause-state : goal.returns-in-Err-clause-state
returns-in-Err-clause-state c = invariant_of-self-in-Err c

pub returns-in-Err-clause-answer : goal.returns-in-Err-clause-answer
returns-in-Err-clause-answer c =
    let is : c.into.result ≡ OutOfMemory = search rules in
    let old : DeviceState = devices_of c.self.inside.id_allocator (state_of c.self.inside.mmio_allocator) c.self.inside.slots in
    let device = ap (λ (v : DevicesInTree). map.get v.devices c.args.id) c.self.view_is ∙ sym c.in-Some.ensures.value in
    rw (← c.self.view_is, is)
    (move_undone old _ c.args.id c.in-Some.before device c.args.request c.in_ok-begun.begun.range _ c.in_ok-begun.ensures.answer.0
    (λ e. c.in-Err.ensures.start (starts_there _ c.args.id _ _ _ device c.range-range.ensures e))
    (move_cancelled old _ _ (c.cancel_move.ensures.same _ _ c.in_ok-begun.ensures.answer.1) c.in-Err.ensures.err))

pub invariant_of-self-2 : goal.invariant_of-self-2
invariant_of-self-2 c =
    let old : DeviceState = devices_of c.self.inside.id_allocator (state_of c.self.inside.mmio_allocator) c.self.inside.slots in
    let device = ap (λ (v : DevicesInTree). map.get v.devices c.args.id) c.self.view_is ∙ sym c.in-Some.ensures.value in
    subst IsDeviceState
    (sym (move_finished old c.args.id c.in-Some.before c.in_ok-begun.begun.range _ _
    (c.finish_move.ensures.moved _ c.in_ok-begun.ensures.answer.1) (rw c.range-range.ensures at c.in_default-insert.ensures.inserted)))
    (moved_state old c.self.invariant c.args.id c.in-Some.before device c.args.request c.in_ok-begun.begun.range _
    c.in_ok-begun.ensures.answer.0)

pub returns-clause-fits : goal.returns-clause-fits
returns-clause-fits c =
    rw c.range-range.ensures (moved_fits _ _ c.in-Some.before c.in_ok-begun.begun.range c.args.request c.in_ok-begun.ensures.answer.0)

pub returns-clause-inside : goal.returns-clause-inside
returns-clause-inside c =
    subst (λ (v : Range). IfSome c.args.request.window (λ w. Covers w v)) (sym c.range-range.ensures)
    (moved_inside _ _ c.in-Some.before c.in_ok-begun.begun.range c.args.request c.in_ok-begun.ensures.answer.0)

pub returns-clause-state : goal.returns-clause-state
returns-clause-state c = invariant_of-self-2 c

pub returns-clause-answer : goal.returns-clause-answer
returns-clause-answer c =
    let old : DeviceState = devices_of c.self.inside.id_allocator (state_of c.self.inside.mmio_allocator) c.self.inside.slots in
    let device = ap (λ (v : DevicesInTree). map.get v.devices c.args.id) c.self.view_is ∙ sym c.in-Some.ensures.value in
    rw (← c.self.view_is, c.range-range.ensures)
    (device_moved old _ c.args.id c.in-Some.before device c.args.request c.in_ok-begun.begun.range _ c.in_ok-begun.ensures.answer.0
    (move_finished old c.args.id c.in-Some.before c.in_ok-begun.begun.range _ _
    (c.finish_move.ensures.moved _ c.in_ok-begun.ensures.answer.1) (rw c.range-range.ensures at c.in_default-insert.ensures.inserted)))
