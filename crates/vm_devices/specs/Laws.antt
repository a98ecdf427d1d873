-- Laws of every history of a manager of devices that was made or read.
use Rattle.std.specs.Prelude.{◌≡◌, ◌≢◌, ℕ, ◌<◌, ◌≤◌, ◌⊎◌, ◌↔◌, List, ◌∷◌, ◌++◌, map, length, Option, Some, Result, Ok, Err, MatchResult}
use Rattle.std.specs.List.{Contains}
use Rattle.serde_json.specs.Data.{Data}
use Rattle.serde_json.specs.Errors.{IsMemory}
use Rattle.serde_json.specs.View.{view}
use Rattle.serde_json.specs.declared.error.Error as json
use Rattle.serde_json.specs.declared.value.Value.{Value}
use Rattle.vm_ranges.specs.Range.{Range, MAX, IsIn, Overlaps, Covers, address_count}
use Rattle.vm_ranges.specs.Request.{Request, request_for}
use Rattle.vm_ranges.specs.Histories.{EveryCallIsAnswered, CallsAreDetermined}
use Rattle.vm_ranges.specs.Texts.{IsTextOf, Parses}
use Rattle.vm_ranges.specs.Answer.{SPLIT_LIMIT_MIN_HELD}
use Rattle.vm_ranges.specs.Address.{AddressState}
use Rattle.vm_ids.specs.Ids.{IdState, IsOfRange, held_count, held_ids}
use Rattle.vm_ids.specs.declared.id_request.IdRequest.{IdRequest}
use Rattle.vm_ids.specs.declared.id_request.IdRequest.TheVariants.{Lowest, Exact}
use Rattle.vm_ranges.specs.declared.error.Error.{Error}
use Rattle.vm_ranges.specs.declared.error.Error.TheVariants.{Overflow, OutOfMemory}
use Rattle.vm_ranges.specs.declared.saved.SavedError.{SavedError}
use Rattle.vm_ranges.specs.declared.saved.SavedError.TheVariants as saved_errors
use Rattle.vm_ranges.specs.declared.saved.ValueError.{ValueError}
use Rattle.vm_ranges.specs.declared.saved.ValueError.TheVariants as unread
use Rattle.vm_ranges.specs.declared.constraint.AllocPolicy.TheVariants.{ExactMatch}
use Rattle.vm_devices.specs.declared.device_slot.DeviceSlot.{DeviceSlot}
use Rattle.vm_devices.specs.Devices.{DeviceState, IsDevice, IsDeviceState, MakesManager, Reserves, Releases}
use Rattle.vm_devices.specs.Listed.{HaveAscendingIds, PushesDevice, listed_state, AreDevicesOf, MakesOfDevices}
use Rattle.vm_devices.specs.Queries.{device_list, device_count, DeviceAt}
use Rattle.vm_devices.specs.Saved.{EncodesManager, ReadsInParts}
use Rattle.vm_devices.specs.Histories.{DeviceCall, IsDeviceCallFrom, AreDevicesReached, WasReserved, WasThereFirst}

-- In every history the devices pair the held ids with the held ranges, and no two devices share an address. Each device
-- has an id of the range and a range in the space, below MAX. It was reserved as requested, or was there from the start.
pub record DevicesAreValid : Type 0 where
  pub state : (calls : List DeviceCall) (old : DeviceState) → AreDevicesReached calls old → IsDeviceState old
  pub apart : (calls : List DeviceCall) (old : DeviceState) (i j : ℕ) (r s : Range) → AreDevicesReached calls old →
      IsDevice old i r → IsDevice old j s → i ≢ j → ¬ Overlaps r s
  pub inside : (calls : List DeviceCall) (old : DeviceState) (id : ℕ) (r : Range) → AreDevicesReached calls old →
      IsDevice old id r → IsOfRange old.ids id × Covers old.space.space r × (r.end < MAX)
  pub reserved : (calls : List DeviceCall) (old : DeviceState) (id : ℕ) (r : Range) (reached : AreDevicesReached calls old) →
      IsDevice old id r → WasReserved calls id r ⊎ WasThereFirst reached.first id r

-- The result is OutOfMemory, or it is Overflow and at least SPLIT_LIMIT_MIN_HELD ranges are held.
abbrev pub IsLimit : DeviceState → Result DeviceSlot Error → Type 0
IsLimit old answer =
    (answer ≡ Err OutOfMemory) ⊎ ((SPLIT_LIMIT_MIN_HELD ≤ length old.space.held) × (answer ≡ Err Overflow))

-- If a device was just reserved and released, the same requests reserve it again, with the same id and range, unless memory
-- runs out.
abbrev pub ReservedAgain : Type 0
ReservedAgain =
    (old mid new later : DeviceState) (which : IdRequest) (request : Request) (slot : DeviceSlot)
    (released : Result (Unit {0}) Error) (answer : Result DeviceSlot Error) → IsDeviceState old →
    Reserves old which request (Ok slot) mid → Releases mid slot.id released new → released ≢ Err OutOfMemory →
    Reserves new which request answer later → (answer ≡ Ok slot) ⊎ (answer ≡ Err OutOfMemory)

-- The range of a released device can be reserved at once, by its start: with the lowest id, and with the same id.
pub record RangeIsReservedAgain : Type 0 where
  pub lowest : (old new later : DeviceState) (id : ℕ) (r : Range)
      (released : Result (Unit {0}) Error) (answer : Result DeviceSlot Error) → IsDeviceState old →
      IsDevice old id r → Releases old id released new → released ≢ Err OutOfMemory →
      Reserves new Lowest (request_for (address_count r) 1 (ExactMatch r.start)) answer later →
      ((some : ℕ) × (answer ≡ Ok (record { id = some; range = r }))) ⊎ IsLimit new answer
  pub exact : (old new later : DeviceState) (id : ℕ) (r : Range)
      (released : Result (Unit {0}) Error) (answer : Result DeviceSlot Error) → IsDeviceState old →
      IsDevice old id r → Releases old id released new → released ≢ Err OutOfMemory →
      Reserves new (Exact id) (request_for (address_count r) 1 (ExactMatch r.start)) answer later →
      (answer ≡ Ok (record { id = id; range = r })) ⊎ IsLimit new answer

-- A call has one result and one next state in each state, if memory suffices.
pub record DevicesDecide : Type 0 where
  pub made : (lo hi base size : ℕ) (answer other : Result DeviceState Error) →
      answer ≢ Err OutOfMemory → other ≢ Err OutOfMemory →
      MakesManager lo hi base size answer → MakesManager lo hi base size other → answer ≡ other
  pub called : CallsAreDetermined IsDeviceCallFrom

-- In every state each call has a result other than OutOfMemory. So has the creation of a manager.
pub record EveryDeviceCallIsAnswered : Type 0 where
  pub made : (lo hi base size : ℕ) →
      (answer : Result DeviceState Error) × MakesManager lo hi base size answer × (answer ≢ Err OutOfMemory)
  pub called : EveryCallIsAnswered IsDeviceCallFrom

-- The value that was written for a manager is read as this manager, unless memory runs out. A value encodes at most one
-- manager.
pub record ManagerIsReadAgain : Type 0 where
  pub one : (d : Data) (a b : DeviceState) → EncodesManager d a → EncodesManager d b → a ≡ b
  pub again : (d : Data) (old : DeviceState) (answer : Result DeviceState ValueError) →
      EncodesManager d old → ReadsInParts (EncodesManager d) answer →
      (answer ≡ Ok old) ⊎ (answer ≡ Err unread.OutOfMemory)

-- The text of the value that was written for a manager is parsed, and the value of the text is read as this manager,
-- unless memory runs out.
abbrev pub ManagerIsReadFromText : Type 0
ManagerIsReadFromText =
    (old : DeviceState) (value : Value) (text : List ℕ) (parsed : Result Value json.Error) →
    EncodesManager (view value) old → IsTextOf text (view value) → Parses text parsed →
    MatchResult parsed (λ again. (answer : Result DeviceState ValueError) →
    ReadsInParts (EncodesManager (view again)) answer → (answer ≡ Ok old) ⊎ (answer ≡ Err unread.OutOfMemory)) IsMemory

-- The devices pair the held ids with the held ranges: the list of the devices has the held ids, in their order, and exactly
-- the held ranges.
pub record DevicesAreListed : Type 0 where
  pub ids : (state : DeviceState) → IsDeviceState state → map (λ device. device.id) (device_list state) ≡ held_ids state.ids
  pub ranges : (state : DeviceState) (r : Range) → IsDeviceState state →
      Contains (map (λ device. device.range) (device_list state)) r ↔ Contains state.space.held r
  pub counted : (state : DeviceState) → IsDeviceState state →
      (length (device_list state) ≡ device_count state) × (device_count state ≡ held_count state.ids)
      × (device_count state ≡ length state.space.held)

-- The parts of a manager are read as this manager: its ids, its space and the devices that `devices` returns. `push`
-- accepts each of these devices, and `from_devices` returns the manager, unless memory runs out.
pub record WrittenManagersAreRead : Type 0 where
  pub ascending : (state : DeviceState) → IsDeviceState state → HaveAscendingIds (device_list state)
  pub accepted : (state : DeviceState) → IsDeviceState state → AreDevicesOf state.ids state.space (device_list state)
  pub same : (state : DeviceState) → IsDeviceState state → listed_state state.ids state.space (device_list state) ≡ state
  pub pushed : (state : DeviceState) (front rest : List DeviceSlot) (device : DeviceSlot)
      (answer : Result (Unit {0}) SavedError) (new : List DeviceSlot) →
      IsDeviceState state → device_list state ≡ front ++ device ∷ rest →
      PushesDevice front device answer new → (answer ≡ Ok tt) ⊎ (answer ≡ Err saved_errors.OutOfMemory)
  pub read : (state : DeviceState) (answer : Result DeviceState SavedError) → IsDeviceState state →
      MakesOfDevices 1 state.ids state.space (device_list state) answer →
      (answer ≡ Ok state) ⊎ (answer ≡ Err saved_errors.OutOfMemory)

-- `push` and `from_devices` have one result for the same arguments, unless memory runs out. A device that is not in order,
-- and a version that is not 1, is never out of memory.
pub record PartsDecideManagers : Type 0 where
  pub pushed : (old new newer : List DeviceSlot) (device : DeviceSlot) (answer other : Result (Unit {0}) SavedError) →
      answer ≢ Err saved_errors.OutOfMemory → other ≢ Err saved_errors.OutOfMemory →
      PushesDevice old device answer new → PushesDevice old device other newer → (answer ≡ other) × (new ≡ newer)
  pub refused : (old new newer : List DeviceSlot) (device : DeviceSlot) (other : Result (Unit {0}) SavedError) →
      PushesDevice old device (Err saved_errors.OutOfMemory) new → PushesDevice old device other newer →
      (new ≡ old) × ((other ≡ Ok tt) ⊎ (other ≡ Err saved_errors.OutOfMemory))
  pub made : (version : ℕ) (ids : IdState) (space : AddressState) (devices : List DeviceSlot)
      (answer other : Result DeviceState SavedError) →
      answer ≢ Err saved_errors.OutOfMemory → other ≢ Err saved_errors.OutOfMemory →
      MakesOfDevices version ids space devices answer → MakesOfDevices version ids space devices other → answer ≡ other
  pub version : (version : ℕ) (ids : IdState) (space : AddressState) (devices : List DeviceSlot) →
      MakesOfDevices version ids space devices (Err saved_errors.OutOfMemory) → version ≡ 1

-- Managers are equal if and only if their ids, their spaces and the lists of their devices are.
abbrev pub EqualManagersHaveEqualParts : Type 0
EqualManagersHaveEqualParts =
    (a b : DeviceState) → (a ≡ b) ↔ ((a.ids ≡ b.ids) × (a.space ≡ b.space) × (device_list a ≡ device_list b))

-- The device at an address of a device's range is this device.
abbrev pub DeviceIsAtItsAddresses : Type 0
DeviceIsAtItsAddresses =
    (state : DeviceState) (id : ℕ) (r : Range) (address : ℕ) (answer : Option DeviceSlot) → IsDeviceState state →
    IsDevice state id r → IsIn r address → DeviceAt state address answer → answer ≡ Some (record { id = id; range = r })
