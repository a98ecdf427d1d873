-- The list has the devices of the map, in order of their ids. The prover does not join these equations of lists.
use Rattle.std.proofs.Common.{length, sym, ap, ◌∙◌, map as map_list}
use Rattle.std.specs.FinMap as map
use Rattle.std.proofs.lemmas.List.{length-map}
use Rattle.vm_devices.specs.Queries.{device_of}
use Rattle.vm_devices.proofs.Tables.{listed}
use Rattle.vm_devices.proofs.device_manager.device_table.DeviceTable.iter.Goals as goal

pub returns : goal.returns
returns c =
    c.iter.ensures.entries ∙ listed c.self.inside.slots c.iter.ensures.order
    ∙ ap (λ m. map_list device_of (map.entries m)) c.self.view_is

pub invariant_of-result : goal.invariant_of-result
invariant_of-result c =
    c.requires ∙ map.len-entries c.args.self.now ∙ sym (length-map (map.entries c.args.self.now) device_of) ∙ sym (ap length (returns c))
