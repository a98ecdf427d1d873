-- A held range has a device with its start, so an id is found. The prover does not rewrite the start of the range in these facts.
use Rattle.std.proofs.Common.{◌≡◌, refl, Some, None, rules}
use Rattle.vm_devices.proofs.DeviceStarts.{device_found, device_missed}
use Rattle.vm_devices.proofs.device_manager.DeviceManager.device_at.Goals as goal

pub returns-in_err-id : goal.returns-in_err-id
returns-in_err-id c =
    let is : c.id_at.result ≡ None = search rules in
    absurd (device_missed c.self.invariant c.in_ok-range.ensures c.id_at.result (rw (← c.start.ensures.value) c.id_at.ensures) is)

pub returns : goal.returns
returns c = rw (← c.self.view_is)
    (device_found c.self.invariant c.in_ok-range.ensures (Some c.in_ok-id.id) (rw (← c.start.ensures.value) c.in_ok-id.ensures)
    c.in_ok-id.id refl)
