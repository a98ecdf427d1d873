-- The view of a manager in clauses, and its state.
use Rattle.std.specs.Prelude.{Result, Ok, Err, refl}
use Rattle.std.specs.Ordering.{nat_cmp}
use Rattle.std.specs.Coded.{Coded, code_by, coded×, coded_ℕ}
use Rattle.std.specs.FinMap as map
use Rattle.vm_ranges.specs.Range.{Range, range_code}
use Rattle.vm_ids.specs.Ids.{IdState, id_state_code}
use Rattle.vm_space.specs.Shape.{Shape}
use Rattle.vm_space.specs.Shape.{shape_code}
use Rattle.vm_addresses.specs.Allocator.{state_of}
use Rattle.vm_devices.specs.Devices.{DeviceState, devices_of}

-- The ids of a manager, the view of its address allocator, and the range of each device by its id.
pub record DevicesInTree : Type 0 where
  pub ids : IdState
  pub addresses : Shape
  pub devices : map.FinMap nat_cmp Range

-- Proof: encodes the view as the tuple of its fields.
abbrev pub devices_code : Coded DevicesInTree
devices_code =
    code_by (IdState × (Shape × map.FinMap nat_cmp Range))
    (coded× id_state_code (coded× shape_code (map.code coded_ℕ range_code)))
    (λ m. (m.ids, (m.addresses, m.devices)))
    (λ p. record { ids = p.0; addresses = p.1.0; devices = p.1.1 })
    (λ _. refl)

-- The state of a manager: its ids, the state of its address allocator, and its devices.
abbrev pub device_state : DevicesInTree → DeviceState
device_state manager = devices_of manager.ids (state_of manager.addresses) manager.devices

-- The result of creating or reading a manager, with its state instead of the manager.
abbrev pub made_manager : {E : Type 0} → Result DevicesInTree E → Result DeviceState E
made_manager (Ok manager) = Ok (device_state manager)
made_manager (Err error) = Err error
