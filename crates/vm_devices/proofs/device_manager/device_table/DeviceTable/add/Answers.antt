-- The id and the start of the device are new to the table. The prover does not rewrite the two lists as maps.
use Rattle.std.proofs.Common.{ap, ◌∙◌}
use Rattle.std.specs.FinMap as map
use Rattle.vm_devices.proofs.Tables.{inserted_map, starts_with, starts_undone}
use Rattle.vm_devices.proofs.device_manager.device_table.DeviceTable.add.Goals as goal

pub invariant_of-self-in-Err : goal.invariant_of-self-in-Err
invariant_of-self-in-Err c =
    let only = rw (← c.self.view_is, ← c.start-start.ensures.value) at c.requires.only in
    rw (c.in-Err.ensures.unchanged, c.remove.ensures.rest, c.in_ok-insert.ensures.inserted)
    (starts_undone c.self.invariant (record { start = c.start-start.result; id = c.args.slot.id }) c.args.slot.range c.start-start.ensures.value
    only (rw (← c.self.view_is) at c.requires.new))

pub invariant_of-self-in_default : goal.invariant_of-self-in_default
invariant_of-self-in_default c =
    let only = rw (← c.self.view_is, ← c.start-start.ensures.value) at c.requires.only in
    rw (c.in_default.ensures.inserted, c.in_ok-insert.ensures.inserted, inserted_map c.self.inside.slots c.args.slot)
    (starts_with c.self.invariant (record { start = c.start-start.result; id = c.args.slot.id }) c.args.slot.range c.start-start.ensures.value
    only (rw (← c.self.view_is) at c.requires.new))

pub returns-clause-inserted : goal.returns-clause-inserted
returns-clause-inserted c =
    rw (c.in_default.ensures.inserted)
    (inserted_map c.self.inside.slots c.args.slot ∙ ap (λ m. map.insert m c.args.slot.id c.args.slot.range) c.self.view_is)
