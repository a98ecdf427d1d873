-- Devices: ids and ranges, held in pairs, and the results of the calls of their manager.
use Rattle.std.specs.Prelude.{◌≡◌, ◌≢◌, ℕ, ◌⊎◌, ◌↔◌, Some, IsSome, MatchOption, Result, Ok, Err, refl}
use Rattle.std.specs.List.{Contains}
use Rattle.std.specs.Ordering.{nat_cmp}
use Rattle.std.specs.Coded.{Coded, code_by, coded×, coded_ℕ}
use Rattle.std.specs.FinMap as map
use Rattle.vm_ranges.specs.Range.{Range, range_code}
use Rattle.vm_ranges.specs.Address.{AddressState, address_state_code, IsAddressState, holding, releasing}
use Rattle.vm_ranges.specs.Request.{Request}
use Rattle.vm_ranges.specs.Answer.{Allocates, Makes}
use Rattle.vm_addresses.specs.Moves.{MovesRange, replacing}
use Rattle.vm_ids.specs.Ids.{IdState, id_state_code, IsHeld, IsIdState, MakesIds, holding_id, releasing_id}
use Rattle.vm_ids.specs.IdRequests.{Peeks}
use Rattle.vm_ids.specs.declared.id_request.IdRequest.{IdRequest}
use Rattle.vm_ranges.specs.declared.error.Error.{Error}
use Rattle.vm_ranges.specs.declared.error.Error.TheVariants.{NeverAllocated, OutOfMemory}
use Rattle.vm_devices.specs.declared.device_slot.DeviceSlot.{DeviceSlot}

-- The state of a manager: its ids, its space, and the range of each device by its id.
pub record DeviceState : Type 0 where
  pub ids : IdState
  pub space : AddressState
  pub devices : map.FinMap nat_cmp Range

-- Proof: encodes the state as the tuple of its fields.
abbrev pub device_state_code : Coded DeviceState
device_state_code =
    code_by (IdState × (AddressState × map.FinMap nat_cmp Range))
    (coded× id_state_code (coded× address_state_code (map.code coded_ℕ range_code)))
    (λ s. (s.ids, (s.space, s.devices)))
    (λ p. record { ids = p.0; space = p.1.0; devices = p.1.1 })
    (λ _. refl)

-- The state that ids, a space and a table represent.
abbrev pub devices_of : IdState → AddressState → map.FinMap nat_cmp Range → DeviceState
devices_of ids space devices = record { ids = ids; space = space; devices = devices }

-- There is a device with this id and this range.
abbrev pub IsDevice : DeviceState → ℕ → Range → Type 0
IsDevice state id r = map.get state.devices id ≡ Some r

-- The held ids are the ids of the devices, and the held ranges are their ranges. No two devices have the same range.
pub record ArePaired (state : DeviceState) : Type 0 where
  pub ids : (id : ℕ) → IsHeld state.ids id ↔ IsSome (map.get state.devices id)
  pub held : (id : ℕ) (r : Range) → IsDevice state id r → Contains state.space.held r
  pub owned : (r : Range) → Contains state.space.held r → (id : ℕ) × IsDevice state id r
  pub once : (i j : ℕ) (r : Range) → IsDevice state i r → IsDevice state j r → i ≡ j

-- The state is valid: its ids and its space are valid, and the devices pair the held ids with the held ranges.
pub record IsDeviceState (state : DeviceState) : Type 0 where
  pub ids : IsIdState state.ids
  pub space : IsAddressState state.space
  pub pairs : ArePaired state

-- The state after a device is reserved.
abbrev pub with_device : ℕ → Range → DeviceState → DeviceState
with_device id r state =
    record {
      ids = holding_id id state.ids;
      space = holding r state.space;
      devices = map.insert state.devices id r;
    }

-- The state after a device is released.
abbrev pub without_device : ℕ → Range → DeviceState → DeviceState
without_device id r state =
    record {
      ids = releasing_id id state.ids;
      space = releasing r state.space;
      devices = map.remove state.devices id;
    }

-- The state after the device with this id moves from the range q to the range r.
abbrev pub with_range : ℕ → Range → Range → DeviceState → DeviceState
with_range id q r state =
    record {
      ids = state.ids;
      space = replacing q r state.space;
      devices = map.insert state.devices id r;
    }

-- The state without devices, if both allocators are created. Otherwise the first error, and the ids are first.
abbrev pub made_devices : Result IdState Error → Result AddressState Error → Result DeviceState Error
made_devices (Err e) space = Err e
made_devices (Ok ids) (Err e) = Err e
made_devices (Ok ids) (Ok space) = Ok (record { ids = ids; space = space; devices = map.empty })

-- The result of `new` for the ids from lo to hi and the size addresses starting at base.
unfoldable pub MakesManager : ℕ → ℕ → ℕ → ℕ → Result DeviceState Error → Type 0
MakesManager lo hi base size answer =
    (ids : Result IdState Error) × (space : Result AddressState Error)
    × MakesIds lo hi ids × Makes base size space × (answer ≡ made_devices ids space)

-- The id and the allocated range become a device, or the result is OutOfMemory. If no range is allocated, the result is
-- the error of the request. An error changes nothing.
abbrev pub Pairs : DeviceState → ℕ → Result Range Error → Result DeviceSlot Error → DeviceState → Type 0
Pairs old id (Err e) answer new = (answer ≡ Err e) × (new ≡ old)
Pairs old id (Ok r) answer new =
    ((answer ≡ Ok (record { id = id; range = r })) × (new ≡ with_device id r old))
    ⊎ ((answer ≡ Err OutOfMemory) × (new ≡ old))

-- The result of a reservation with this id, or with the error that there is no id. An error changes nothing.
abbrev pub ReservesFor : DeviceState → Request → Result ℕ Error → Result DeviceSlot Error → DeviceState → Type 0
ReservesFor old request (Err e) answer new = (answer ≡ Err e) × (new ≡ old)
ReservesFor old request (Ok id) answer new =
    (given : Result Range Error) × (space : AddressState)
    × Allocates old.space request given space × Pairs old id given answer new

-- The result of `reserve_with_id`: the id of the first request and the range of the second become a device. The error of
-- the id is first, and an error changes nothing.
unfoldable pub Reserves : DeviceState → IdRequest → Request → Result DeviceSlot Error → DeviceState → Type 0
Reserves old which request answer new = (id : Result ℕ Error) × Peeks old.ids which id × ReservesFor old request id answer new

-- The result of `release`: NeverAllocated if no device has the id. Otherwise the id and the range are freed, or the
-- result is OutOfMemory and nothing changes.
unfoldable pub Releases : DeviceState → ℕ → Result (Unit {0}) Error → DeviceState → Type 0
Releases old id answer new =
    MatchOption (map.get old.devices id)
    ((answer ≡ Err (NeverAllocated id)) × (new ≡ old))
    (λ r.
    ((answer ≡ Ok tt) × (new ≡ without_device id r old))
    ⊎ ((answer ≡ Err OutOfMemory) × (new ≡ old)))

-- The device with the range q gets the range that it moves to, or the result is OutOfMemory, which is possible only for another
-- start. If it cannot move, the result is the error of the move. An error changes nothing.
abbrev pub Replaces : DeviceState → ℕ → Range → Result Range Error → Result Range Error → DeviceState → Type 0
Replaces old id q (Err e) answer new = (answer ≡ Err e) × (new ≡ old)
Replaces old id q (Ok r) answer new =
    ((answer ≡ Ok r) × (new ≡ with_range id q r old))
    ⊎ ((r.start ≢ q.start) × (answer ≡ Err OutOfMemory) × (new ≡ old))

-- The result of `move_constraint`: NeverAllocated if no device has the id. Otherwise the range of the device moves, or the
-- result is OutOfMemory. An error changes nothing.
unfoldable pub MovesDevice : DeviceState → ℕ → Request → Result Range Error → DeviceState → Type 0
MovesDevice old id request answer new =
    MatchOption (map.get old.devices id)
    ((answer ≡ Err (NeverAllocated id)) × (new ≡ old))
    (λ q.
    (given : Result Range Error) × (space : AddressState)
    × MovesRange old.space q request given space × Replaces old id q given answer new)
