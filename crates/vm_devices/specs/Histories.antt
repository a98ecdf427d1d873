-- Histories of a manager of devices: lists of calls with their results.
use Rattle.std.specs.Prelude.{◌≡◌, ℕ, ◌%◌, ◌≤◌, ◌⊎◌, List, Ok, IfSome}
use Rattle.std.specs.List.{Contains}
use Rattle.std.specs.Result.{result_unwrap_or}
use Rattle.serde_json.specs.Data.{Data}
use Rattle.vm_ranges.specs.Range.{Range, MAX, Covers, span}
use Rattle.vm_ranges.specs.Request.{Request}
use Rattle.vm_ranges.specs.Cloning.{Clones}
use Rattle.vm_ranges.specs.Histories.{CallOf, IsHistory}
use Rattle.vm_ranges.specs.Address.{AddressState, IsAddressState}
use Rattle.vm_ids.specs.Ids.{MAX_ID, IdState, IsIdState}
use Rattle.vm_ids.specs.declared.id_request.IdRequest.{IdRequest}
use Rattle.vm_devices.specs.declared.device_slot.DeviceSlot.{DeviceSlot}
use Rattle.vm_devices.specs.Devices.{DeviceState, IsDevice, MakesManager, Reserves, Releases, MovesDevice}
use Rattle.vm_devices.specs.Listed.{MakesOfDevices}
use Rattle.vm_devices.specs.Saved.{EncodesManager}

-- A call without its result. It reserves a device for two requests, releases or moves the device with an id, or creates a
-- clone.
pub data DeviceAsked : Type 0 where
  Reserve : IdRequest → Request → DeviceAsked
  Release : ℕ → DeviceAsked
  Move : ℕ → Request → DeviceAsked
  Clone : DeviceAsked

-- The type of the value that a call returns: a device, nothing, a range, or the state of a clone.
abbrev pub DeviceValue : DeviceAsked → Type 0
DeviceValue (Reserve which request) = DeviceSlot
DeviceValue (Release id) = Unit {0}
DeviceValue (Move id request) = Range
DeviceValue Clone = DeviceState

-- A call with its result.
abbrev pub DeviceCall : Type 0
DeviceCall = CallOf DeviceValue

-- In the state old the call has its result, and leaves the state new. After a clone is made, new is the state of the
-- clone.
abbrev pub IsDeviceCallFrom : DeviceState → DeviceCall → DeviceState → Type 0
IsDeviceCallFrom old (Reserve which request, answer) new = Reserves old which request answer new
IsDeviceCallFrom old (Release id, answer) new = Releases old id answer new
IsDeviceCallFrom old (Move id request, answer) new = MovesDevice old id request answer new
IsDeviceCallFrom old (Clone, answer) new = Clones old answer × (new ≡ result_unwrap_or answer old)

-- The calls lead from the state old to the state new: each begins in the state that the call before it left.
abbrev pub IsDeviceHistoryFrom : DeviceState → List DeviceCall → DeviceState → Type 0
IsDeviceHistoryFrom = IsHistory IsDeviceCallFrom

-- The state of a new manager.
pub record IsManagerMade (state : DeviceState) : Type 0 where
  pub lo : ℕ
  pub hi : ℕ
  pub base : ℕ
  pub size : ℕ
  pub id : hi ≤ MAX_ID
  pub word : size ≤ MAX
  pub made : MakesManager lo hi base size (Ok state)

-- The state of a manager that was created of both allocators and their devices.
pub record IsManagerListed (state : DeviceState) : Type 0 where
  pub version : ℕ
  pub ids : IdState
  pub space : AddressState
  pub devices : List DeviceSlot
  pub valid_ids : IsIdState ids
  pub valid_space : IsAddressState space
  pub made : MakesOfDevices version ids space devices (Ok state)

-- A state that a saved value encodes.
pub record IsManagerRead (state : DeviceState) : Type 0 where
  pub value : Data
  pub encoded : EncodesManager value state

-- There can be devices from the start: the manager was created of its devices, or was read.
abbrev pub BeginsWithDevices : DeviceState → Type 0
BeginsWithDevices first = IsManagerListed first ⊎ IsManagerRead first

-- The calls lead to the state from a manager that was made or read. The state can be that of a clone.
pub record AreDevicesReached (calls : List DeviceCall) (state : DeviceState) : Type 0 where
  pub first : DeviceState
  pub begins : IsManagerMade first ⊎ BeginsWithDevices first
  pub history : IsDeviceHistoryFrom first calls state

-- A call reserved the range for the id, or moved the device to it: with the requested length, at a multiple of the requested
-- alignment, and in the window of the request, if it has one.
pub record WasReserved (calls : List DeviceCall) (id : ℕ) (r : Range) : Type 0 where
  pub request : Request
  pub call : ((which : IdRequest) × Contains calls (Reserve which request, Ok (record { id = id; range = r })))
      ⊎ Contains calls (Move id request, Ok r)
  pub aligned : r.start % request.align ≡ 0
  pub long : r ≡ span r.start request.size
  pub inside : IfSome request.window (λ window. Covers window r)

-- The device is in the first state, from the start.
pub record WasThereFirst (first : DeviceState) (id : ℕ) (r : Range) : Type 0 where
  pub begins : BeginsWithDevices first
  pub device : IsDevice first id r
