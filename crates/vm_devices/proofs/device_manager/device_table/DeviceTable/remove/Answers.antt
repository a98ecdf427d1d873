-- The start of the device is removed with its id. The prover does not rewrite the two lists as maps.
use Rattle.std.proofs.Common.{ap, sym, ◌∙◌, option_map}
use Rattle.std.specs.FinMap as map
use Rattle.vm_devices.proofs.Tables.{got, removed_map, starts_without, starts_stay}
use Rattle.vm_devices.proofs.device_manager.device_table.DeviceTable.remove.Goals as goal

pub invariant_of-self : goal.invariant_of-self
invariant_of-self c =
    let is = sym (rw c.from.ensures at c.in-Some.ensures.entry) in
    rw (c.in-Some.ensures.rest, c.from.ensures, removed_map c.self.inside.slots c.args.id, c.remove-in-Some.ensures.rest, c.start.ensures.value)
    (starts_without c.self.invariant c.args.id c.in-Some.slot.range (got c.self.inside.slots c.args.id ∙ ap (option_map (λ d. d.range)) is))

pub invariant_of-self-in_default : goal.invariant_of-self-in_default
invariant_of-self-in_default c =
    let none = sym (rw c.from.ensures at c.in_default.ensures.entry) in
    rw (c.in_default.ensures.rest, c.from.ensures, removed_map c.self.inside.slots c.args.id)
    (starts_stay c.self.invariant c.args.id (got c.self.inside.slots c.args.id ∙ ap (option_map (λ d. d.range)) none))

pub returns-in-Some : goal.returns-in-Some
returns-in-Some c =
    rw (c.in-Some.ensures.rest, c.from.ensures)
    (removed_map c.self.inside.slots c.args.id ∙ ap (λ m. map.remove m c.args.id) c.self.view_is)

pub returns-in_default : goal.returns-in_default
returns-in_default c =
    rw (c.in_default.ensures.rest, c.from.ensures)
    (removed_map c.self.inside.slots c.args.id ∙ ap (λ m. map.remove m c.args.id) c.self.view_is)
