use Rattle.vm_devices.proofs.DeviceCalls.{entry_undone}
use Rattle.vm_devices.proofs.device_manager.reserving.enter.Goals as goal

pub returns-in-Err-clause-unchanged : goal.returns-in-Err-clause-unchanged
returns-in-Err-clause-unchanged c = (
  c.in-Err.ensures.unchanged,
  entry_undone c.args.slots.now c.insert.new.self c.remove.new.self c.args.id c.args.range c.requires.id.1 c.in_ok-insert.ensures.inserted
      c.remove.ensures,
)
