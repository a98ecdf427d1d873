-- Managers of both allocators and the list of their devices, which are read one by one.
use Rattle.std.specs.Prelude.{◌≡◌, ℕ, List, [], ◌∷◌, ◌++◌, map as map_list, Result, Ok, Err}
use Rattle.std.specs.List.Sorted.{IsStrictlySortedBy}
use Rattle.std.specs.Map.{keys_of}
use Rattle.std.specs.Ordering.{nat_cmp}
use Rattle.std.specs.FinMap as map
use Rattle.vm_ranges.specs.Cases.{IfElse}
use Rattle.vm_ranges.specs.Range.{Range}
use Rattle.vm_ranges.specs.declared.saved.Condition.TheVariants.{Order, Version, Devices}
use Rattle.vm_ranges.specs.declared.saved.SavedError.{SavedError}
use Rattle.vm_ranges.specs.declared.saved.SavedError.TheVariants.{Violated, OutOfMemory}
use Rattle.vm_ranges.specs.Address.{AddressState}
use Rattle.vm_ids.specs.Ids.{IdState}
use Rattle.vm_devices.specs.declared.device_slot.DeviceSlot.{DeviceSlot}
use Rattle.vm_devices.specs.Devices.{DeviceState, ArePaired, devices_of}
use Rattle.vm_devices.specs.Queries.{entry_of}

-- The ids and the ranges of devices, in their order.
abbrev pub entries_of : List DeviceSlot → List (ℕ × Range)
entries_of devices = map_list entry_of devices

-- The ids of the devices are strictly ascending.
abbrev pub HaveAscendingIds : List DeviceSlot → Type 0
HaveAscendingIds devices = IsStrictlySortedBy nat_cmp (keys_of (entries_of devices))

-- The result of `push`: the device is the last of the list, or Violated(Order) if its id is not above the ids before it.
-- OutOfMemory is possible only for an id above them. An error changes nothing.
abbrev pub PushesDevice : List DeviceSlot → DeviceSlot → Result (Unit {0}) SavedError → List DeviceSlot → Type 0
PushesDevice old device (Ok _) new = (new ≡ old ++ device ∷ []) × HaveAscendingIds new
PushesDevice old device (Err (Violated c)) new = (c ≡ Order) × (new ≡ old) × ¬ HaveAscendingIds (old ++ device ∷ [])
PushesDevice old device (Err OutOfMemory) new = (new ≡ old) × HaveAscendingIds (old ++ device ∷ [])

-- The state with these ids, this space and these devices.
abbrev pub listed_state : IdState → AddressState → List DeviceSlot → DeviceState
listed_state ids space devices = devices_of ids space (map.from_entries (entries_of devices))

-- The ids of the devices are strictly ascending, and the devices pair the held ids with the held ranges.
pub record AreDevicesOf (ids : IdState) (space : AddressState) (devices : List DeviceSlot) : Type 0 where
  pub ascending : HaveAscendingIds devices
  pub pairs : ArePaired (listed_state ids space devices)

-- The result of `from_devices`: the state with these parts, Violated(Version) if the version is not 1, or
-- Violated(Devices) if the parts are not those of a manager. OutOfMemory is possible for all parts of version 1.
abbrev pub MakesOfDevices : ℕ → IdState → AddressState → List DeviceSlot → Result DeviceState SavedError → Type 0
MakesOfDevices version ids space devices (Ok state) =
    (version ≡ 1) × AreDevicesOf ids space devices × (state ≡ listed_state ids space devices)
MakesOfDevices version ids space devices (Err (Violated c)) =
    IfElse (version ≡ 1) ((c ≡ Devices) × ¬ AreDevicesOf ids space devices) (c ≡ Version)
MakesOfDevices version ids space devices (Err OutOfMemory) = version ≡ 1
