-- The list by start has the id of the device that starts there. The prover does not rewrite what was found in the invariant.
use Rattle.std.proofs.Common.{ap, sym, ◌∙◌, option_map}
use Rattle.std.specs.Option.{option_copied}
use Rattle.vm_devices.proofs.device_manager.device_table.DeviceTable.id_at.Goals as goal

pub returns-in_err-at : goal.returns-in_err-at
returns-in_err-at c id =
    rw (← c.self.view_is, c.from_residual.ensures ∙ ap (option_map (λ s. s.id)) (ap option_copied (sym c.in_err-at.was) ∙ c.get.ensures))
    (c.self.invariant.at c.args.start id)

pub returns : goal.returns
returns c id =
    rw (← c.self.view_is, ap (option_map (λ s. s.id)) (ap option_copied (sym c.in_ok-at.was) ∙ c.get.ensures)) (c.self.invariant.at c.args.start id)
