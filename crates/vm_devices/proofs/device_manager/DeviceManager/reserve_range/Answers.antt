-- The device gets the id and the range, or the range is freed again. The prover does not replace the manager by its parts.
use Rattle.std.proofs.Common.{◌≡◌, ap, refl, Err, rules}
use Rattle.vm_addresses.specs.Allocator.{state_of}
use Rattle.vm_devices.specs.Devices.{devices_of}
use Rattle.vm_devices.proofs.DeviceCalls.{entered, entered_state, undone, undone_state}
use Rattle.vm_devices.proofs.DeviceStarts.{no_device_of, new_start}
use Rattle.vm_devices.proofs.device_manager.DeviceManager.reserve_range.Goals as goal

pub returns-in_err-range-clause-answer : goal.returns-in_err-range-clause-answer
returns-in_err-range-clause-answer c =
    let e = c.in_err-range.field-0.0 in
    let is : c.from_residual.result ≡ Err e = search rules in
    let same = ap (λ a. devices_of c.self.inside.id_allocator (state_of a) c.self.inside.slots) c.in_err-range.ensures.unchanged in
    rw (← c.self.view_is, is) (Err e, state_of c.allocate_constraint.new.self, c.in_err-range.ensures.answer, (refl, same))

pub enter-requires-clause-id : goal.enter-requires-clause-id
enter-requires-clause-id c =
    let free = rw (← c.self.view_is) at c.requires in
    (free, no_device_of _ c.args.id c.self.invariant free)

pub enter-requires-clause-start : goal.enter-requires-clause-start
enter-requires-clause-start c =
    new_start _ (state_of c.allocate_constraint.new.self) c.args.request c.args.id c.in_ok-range.range c.self.invariant
    c.in_ok-range.ensures.answer

pub invariant_of-self-in-Err : goal.invariant_of-self-in-Err
invariant_of-self-in-Err c =
    undone_state _ c.args.request c.args.id c.in_ok-range.range _ c.self.invariant c.in_ok-range.ensures.answer _ _ _ c.free.result
    c.free.ensures.answer c.in-Err.ensures.unchanged

pub returns-in-Err-clause-answer : goal.returns-in-Err-clause-answer
returns-in-Err-clause-answer c =
    rw (← c.self.view_is, c.in-Err.ensures.memory)
    (undone _ c.args.request c.args.id c.in_ok-range.range _ c.self.invariant c.in_ok-range.ensures.answer _ _ _ c.free.result
    c.free.ensures.answer c.in-Err.ensures.unchanged)

pub invariant_of-self-in_default : goal.invariant_of-self-in_default
invariant_of-self-in_default c =
    entered_state _ c.args.request c.args.id c.in_ok-range.range _ c.self.invariant c.in_ok-range.ensures.answer _ _ _
    c.in_default.ensures.ids refl c.in_default.ensures.slots (rw (← c.self.view_is) at c.requires)

pub returns-clause-answer : goal.returns-clause-answer
returns-clause-answer c =
    rw (← c.self.view_is)
    (entered _ c.args.request c.args.id c.in_ok-range.range _ c.self.invariant c.in_ok-range.ensures.answer _ _ _
    c.in_default.ensures.ids refl c.in_default.ensures.slots)

pub returns-in-Err-clause-state : goal.returns-in-Err-clause-state
returns-in-Err-clause-state c = invariant_of-self-in-Err c

pub returns-clause-state : goal.returns-clause-state
returns-clause-state c = invariant_of-self-in_default c
