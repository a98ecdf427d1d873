-- The list has the devices of the map, in order of their ids. The prover does not join these equations of lists.
use Rattle.std.proofs.Common.{ℕ, ap, ◌∙◌, map as map_list}
use Rattle.std.specs.FinMap as map
use Rattle.vm_list.specs.Entries.{between}
use Rattle.vm_devices.specs.declared.device_slot.DeviceSlot.{DeviceSlot}
use Rattle.vm_devices.specs.Queries.{device_of}
use Rattle.vm_devices.proofs.Tables.{listed}
use Rattle.vm_devices.proofs.device_manager.device_table.DeviceTable.iter_in.Goals as goal

pub returns : goal.returns
unfolding between
returns c =
    let key : DeviceSlot → ℕ = λ d. d.id in
    let e = rw (c.into.ensures, c.into-2.ensures) at c.iter_between.ensures.entries in
    e ∙ ap (between key c.args.first c.args.last) (listed c.self.inside.slots c.iter_between.ensures.order
    ∙ ap (λ m. map_list device_of (map.entries m)) c.self.view_is)
