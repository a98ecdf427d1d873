use Rattle.vm_addresses.specs.Allocator.{state_of}
use Rattle.vm_devices.proofs.PairedDevices.{ArePairedSoFar}
use Rattle.vm_devices.proofs.device_manager.saved.read_devices.pair_devices.Given as goal

-- The table has the devices so far. They are held, and no two have the same range.
abbrev pub invariant-loop-device : goal.invariant-loop-device
invariant-loop-device l = ArePairedSoFar l.ids (state_of l.space) l.devices l.device-index l.table
