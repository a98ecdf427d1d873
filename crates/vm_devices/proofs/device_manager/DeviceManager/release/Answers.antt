-- The id and the range of the device are freed. The prover does not name this range, nor replace the manager by its parts.
use Rattle.std.proofs.Common.{◌≡◌, sym, ap, ◌∙◌, Err, rules}
use Rattle.std.specs.FinMap as map
use Rattle.vm_addresses.specs.Allocator.{state_of}
use Rattle.vm_ids.specs.Ids.{IdState}
use Rattle.vm_devices.specs.Devices.{devices_of}
use Rattle.vm_devices.specs.Manager.{DevicesInTree}
use Rattle.vm_devices.proofs.DeviceCalls.{release_refused, left, left_state, gone}
use Rattle.vm_devices.proofs.device_manager.DeviceManager.release.Goals as goal

pub returns-in_err-free_id-clause-answer : goal.returns-in_err-free_id-clause-answer
returns-in_err-free_id-clause-answer c =
    let e = c.in_err-free_id.field-0.0 in
    let is : c.from_residual.result ≡ Err e = search rules in
    let device = ap (λ (v : DevicesInTree). map.get v.devices c.args.id) c.self.view_is ∙ sym c.in-Some.ensures.value in
    let same = ap (λ (v : IdState). devices_of v (state_of c.self.inside.mmio_allocator) c.self.inside.slots)
    c.in_err-free_id.ensures.unchanged in
    rw (← c.self.view_is, is)
    (release_refused _ _ c.args.id c.in-Some.range e c.free_id.result c.self.invariant device c.free_id.ensures.held c.in_err-free_id.was
    same)

pub invariant_of-self-2 : goal.invariant_of-self-2
invariant_of-self-2 c =
    let device = ap (λ (v : DevicesInTree). map.get v.devices c.args.id) c.self.view_is ∙ sym c.in-Some.ensures.value in
    left_state _ c.args.id c.in-Some.range _ _ _ c.free.result c.self.invariant device c.in_ok-free_id.ensures.freed.1 c.free.ensures.answer
    c.remove.ensures

pub returns-clause-state : goal.returns-clause-state
returns-clause-state c = invariant_of-self-2 c

pub returns-clause-released : goal.returns-clause-released
returns-clause-released c =
    let device = ap (λ (v : DevicesInTree). map.get v.devices c.args.id) c.self.view_is ∙ sym c.in-Some.ensures.value in
    rw (← c.self.view_is) (
      c.in-Some.range,
      device,
      left _ c.args.id c.in-Some.range _ _ _ c.free.result c.self.invariant device
          c.in_ok-free_id.ensures.freed.1 c.free.ensures.answer c.remove.ensures,
    )

pub returns-clause-answer : goal.returns-clause-answer
returns-clause-answer c =
    let device = ap (λ (v : DevicesInTree). map.get v.devices c.args.id) c.self.view_is ∙ sym c.in-Some.ensures.value in
    rw (← c.self.view_is) (gone _ c.args.id c.in-Some.range _ _ _ c.free.result c.self.invariant device c.in_ok-free_id.ensures.freed.1
    c.free.ensures.answer c.remove.ensures)
