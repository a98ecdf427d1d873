-- A device can be inserted if its id and its range are held. The prover does not distinguish which part of the test decided.
use Rattle.std.proofs.Common.{sym, ◌∙◌}
use Rattle.vm_addresses.specs.Allocator.{state_of}
use Rattle.vm_devices.proofs.PairedDevices.{start_tested}
use Rattle.vm_devices.proofs.device_manager.saved.read_devices.can_be_inserted.Goals.{then-is_allocated, else-is_allocated}
use Rattle.vm_devices.proofs.device_manager.saved.read_devices.can_be_inserted.Goals as goal

pub returns-then-holds : goal.returns-then-holds
returns-then-holds c =
    elim c.if-is_allocated.branch [
      | then-is_allocated w ↦
          start_tested c.args.ids.now (state_of c.args.space.now) c.args.table.now c.args.device.now c.is_none.result c.id_at.result
          c.is_none.ensures
          (c.is_allocated.ensures.value.0 w.if-is_allocated.true) (w.holds.ensures.0 (sym w.value-is ∙ c.if-holds.true))
          (rw (← c.start.ensures.value) c.id_at.ensures)
      | else-is_allocated w ↦ absurd (cc (w.value-is, w.if-is_allocated.false, c.if-holds.true))
    ]
