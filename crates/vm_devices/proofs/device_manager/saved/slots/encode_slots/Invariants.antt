use Rattle.std.proofs.Common.{map}
use Rattle.serde_json.specs.View.{items_view}
use Rattle.vm_ranges.specs.Lists.{EncodesItems}
use Rattle.vm_devices.specs.Queries.{entry_of}
use Rattle.vm_devices.specs.Saved.{EncodesDevice}
use Rattle.vm_devices.proofs.device_manager.saved.slots.encode_slots.Given as goal

abbrev pub invariant-loop-device : goal.invariant-loop-device
invariant-loop-device l = EncodesItems EncodesDevice (items_view l.list.items) (map entry_of l.yielded)
