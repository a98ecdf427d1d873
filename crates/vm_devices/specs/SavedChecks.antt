-- The checks of a manager's value and of its parts, in the order of the code, and the objects that encoding builds.
-- Only private functions cite them.
use Rattle.std.specs.Prelude.{◌≡◌, ℕ, if◌then◌else◌, List, Option, Some, None, option_map, option_and_then, Result, Ok, Err, codes}
use Rattle.std.specs.List.{Contains}
use Rattle.std.specs.Ordering.{nat_cmp}
use Rattle.std.specs.FinMap as map
use Rattle.serde_json.specs.Data.{Data, Items}
use Rattle.serde_json.specs.Find.{get, as_array}
use Rattle.vm_ranges.specs.Fields.{field_count, is_count}
use Rattle.vm_ranges.specs.Lists.{EncodesItems}
use Rattle.vm_ranges.specs.Numbers.{number_in, u32_in}
use Rattle.vm_ranges.specs.Range.{Range}
use Rattle.vm_ranges.specs.RangeValues.{decoded_range}
use Rattle.vm_ranges.specs.declared.saved.Condition.TheVariants.{Devices}
use Rattle.vm_ranges.specs.declared.saved.SavedError.{SavedError}
use Rattle.vm_ranges.specs.declared.saved.SavedError.TheVariants.{Violated, OutOfMemory}
use Rattle.vm_ranges.specs.Address.{AddressState}
use Rattle.vm_addresses.specs.Checks.AllocatorChecks.{WritesAllocator}
use Rattle.vm_ids.specs.Ids.{IdState, IsHeld}
use Rattle.vm_leaf.specs.declared.block.Block.{Block}
use Rattle.vm_devices.specs.declared.device_slot.DeviceSlot.{DeviceSlot}
use Rattle.vm_devices.specs.Checks.{StartsAt}
use Rattle.vm_devices.specs.Listed.{entries_of, HaveAscendingIds, AreDevicesOf}
use Rattle.vm_devices.specs.Saved.{EncodesDevice}

-- The device that a value encodes.
abbrev pub decoded_device : Data → Option (ℕ × Range)
decoded_device d =
    if is_count 2 (field_count d) then
    option_and_then (λ id. option_map (λ r. (id, r)) (option_and_then decoded_range (get (codes "mmio_range") d)))
    (u32_in (codes "id") d)
    else None

-- The items encode these devices, in this order, and their ids are strictly ascending.
pub record EncodesDevices (ds : Items) (devices : List DeviceSlot) : Type 0 where
  pub encoded : EncodesItems EncodesDevice ds (entries_of devices)
  pub ascending : HaveAscendingIds devices

-- The values of a manager's fields, if there are no other fields.
abbrev pub decoded_manager : Data → Option (ℕ × Data × Data × Items)
decoded_manager d =
    if is_count 4 (field_count d) then
    option_and_then (λ version. option_and_then (λ ids. option_and_then (λ space. option_map (λ slots. (version, ids, space, slots))
    (option_and_then as_array (get (codes "slots") d)))
    (get (codes "mmio_allocator") d))
    (get (codes "id_allocator") d))
    (number_in (codes "version") d)
    else None

-- The id and the range of the device are held, and no device of the table has the same start.
pub record CanBeInserted (ids : IdState) (space : AddressState) (table : map.FinMap nat_cmp Range) (device : DeviceSlot) : Type 0 where
  pub id_is_held : IsHeld ids device.id
  pub range_is_held : Contains space.held device.range
  pub start_is_new : (other : ℕ) → ¬ StartsAt table other device.range.start

-- The result of pairing devices: their table if they pair the held ids with the held ranges, otherwise Violated(Devices).
abbrev pub PairsDevices : IdState → AddressState → List DeviceSlot → Result (map.FinMap nat_cmp Range) SavedError → Type 0
PairsDevices ids space devices (Ok table) = AreDevicesOf ids space devices × (table ≡ map.from_entries (entries_of devices))
PairsDevices ids space devices (Err (Violated c)) = (c ≡ Devices) × ¬ AreDevicesOf ids space devices
PairsDevices ids space devices (Err OutOfMemory) = Unit {0}

-- The value is an object with exactly the two fields of a device.
pub record DeviceParts (d : Data) (id : ℕ) (range : Data) : Type 0 where
  pub two_fields : field_count d ≡ Some 2
  pub id_is : number_in (codes "id") d ≡ Some id
  pub range_is : get (codes "mmio_range") d ≡ Some range

-- The value is an object with exactly the four fields of a manager.
pub record ManagerParts (d ids space slots : Data) : Type 0 where
  pub four_fields : field_count d ≡ Some 4
  pub version_is : number_in (codes "version") d ≡ Some 1
  pub ids_is : get (codes "id_allocator") d ≡ Some ids
  pub space_is : get (codes "mmio_allocator") d ≡ Some space
  pub slots_is : get (codes "slots") d ≡ Some slots

-- The value is an object with exactly the four fields of a manager, and the tree of its addresses is the one that is written for
-- the blocks.
abbrev pub WritesManager : List Block → Data → Type 0
WritesManager bs d = (ids space slots : Data) × ManagerParts d ids space slots × WritesAllocator bs space
