use Rattle.vm_devices.proofs.SavedManagers.{AreReadSoFar}
use Rattle.vm_devices.proofs.device_manager.saved.slots.read_slots.Given as goal

-- The items so far encode the devices so far.
abbrev pub invariant-loop-item : goal.invariant-loop-item
invariant-loop-item l = AreReadSoFar l.list l.item-index l.devices
