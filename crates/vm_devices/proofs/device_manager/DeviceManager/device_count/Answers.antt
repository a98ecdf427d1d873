-- There are as many devices as held ids. The prover does not replace the manager by its parts to join the equal numbers.
use Rattle.std.proofs.Common.{sym, ap, ◌∙◌}
use Rattle.vm_devices.specs.Manager.{DevicesInTree, device_state}
use Rattle.vm_devices.specs.Queries.{device_count}
use Rattle.vm_devices.proofs.Entries.{all_counted}
use Rattle.vm_devices.proofs.device_manager.DeviceManager.device_count.Goals as goal

pub returns : goal.returns
returns c =
    c.held_count.ensures.value
    ∙ sym (all_counted _ c.self.invariant.space c.self.invariant.pairs).ids_counted
    ∙ ap (λ (v : DevicesInTree). device_count (device_state v)) c.self.view_is
