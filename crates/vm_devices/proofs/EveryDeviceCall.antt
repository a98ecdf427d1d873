-- Every call of a manager has a result, so every list of calls has a history.
use Rattle.std.proofs.Common.{◌≡◌, ◌≢◌, ℕ, refl, ap, arith, inl, Option, Some, None, Result, Ok, Err}
use Rattle.std.specs.FinMap as map
use Rattle.vm_ranges.specs.Range.{Range}
use Rattle.vm_ranges.specs.Request.{Request}
use Rattle.vm_ranges.specs.Address.{AddressState}
use Rattle.vm_ranges.specs.Answer.{Allocates}
use Rattle.vm_ids.specs.Ids.{IdState}
use Rattle.vm_ids.specs.declared.id_request.IdRequest.{IdRequest}
use Rattle.vm_ranges.specs.declared.error.Error.{Error}
use Rattle.vm_ranges.specs.declared.error.Error.TheVariants.{NeverAllocated, OutOfMemory}
use Rattle.vm_addresses.specs.Histories.AddressHistories.{Allocate, MoveTo}
use Rattle.vm_addresses.proofs.Results.EveryAddressCall.{every_call}
use Rattle.vm_ids.proofs.Ids.EveryIdCall.{every_call as every_id_call}
use Rattle.vm_devices.specs.declared.device_slot.DeviceSlot.{DeviceSlot}
use Rattle.vm_devices.specs.Devices.{
  DeviceState,
  made_devices,
  with_device,
  without_device,
  with_range,
  MakesManager,
  Reserves,
  ReservesFor,
  Releases,
  Replaces,
  MovesDevice,
}
use Rattle.vm_devices.specs.Histories.{Reserve, Release, Move, Clone, IsDeviceCallFrom}
use Rattle.vm_devices.specs.Laws.{EveryDeviceCallIsAnswered}
use Rattle.vm_ranges.specs.Histories.{EveryCallIsAnswered, EveryListHasHistory}
use Rattle.vm_ranges.proofs.Histories.{every_list}

-- ---- Creating
-- Creating runs out of memory only if the ids or the space do.
made_plainly : (ids : Result IdState Error) (space : Result AddressState Error) → ids ≢ Err OutOfMemory → space ≢ Err OutOfMemory →
    made_devices ids space ≢ Err OutOfMemory
made_plainly ids space p q h = grind arith

-- Creating a manager has a result other than OutOfMemory.
total_makes : (lo hi base size : ℕ) → (answer : Result DeviceState Error) × MakesManager lo hi base size answer × (answer ≢ Err OutOfMemory)
unfolding MakesManager
total_makes lo hi base size =
    let ids = every_id_call.made lo hi in
    let space = every_call.made base size in
    (made_devices ids.0 space.0, (ids.0, space.0, ids.1, space.1, refl), made_plainly ids.0 space.0 ids.2 space.2)

-- ---- Reserving
-- A reservation for an id has a result other than OutOfMemory, and a next state.
abbrev IsAnswered : DeviceState → Request → Result ℕ Error → Type 0
IsAnswered old request id =
    (answer : Result DeviceSlot Error) × (new : DeviceState) × ReservesFor old request id answer new × (answer ≢ Err OutOfMemory)

-- A reservation has a result if its range has one.
with_given : (old : DeviceState) (request : Request) (id : ℕ) (given : Result Range Error) (space : AddressState) →
    Allocates old.space request given space → given ≢ Err OutOfMemory → IsAnswered old request (Ok id)
with_given old request id (Err e) space a plain =
    (Err e, old, (Err e, space, a, (refl, refl)), λ h. let same : e ≡ OutOfMemory = cc (h) in plain (ap (λ (v : Error). Err v) same))
with_given old request id (Ok r) space a plain =
    (Ok (record { id = id; range = r }), with_device id r old, (Ok r, space, a, inl (refl, refl)), λ h. cc (h))

-- A reservation has a result if its id has one.
with_id : (old : DeviceState) (request : Request) (id : Result ℕ Error) → id ≢ Err OutOfMemory → IsAnswered old request id
with_id old request (Err e) plain =
    (Err e, old, (refl, refl), λ h. let same : e ≡ OutOfMemory = cc (h) in plain (ap (λ (v : Error). Err v) same))
with_id old request (Ok id) plain = let a = every_call.called old.space (Allocate request) in with_given old request id a.0 a.1 a.2 a.3

-- Each reservation has a result other than OutOfMemory.
total_reserves : (old : DeviceState) (which : IdRequest) (request : Request) →
    (answer : Result DeviceSlot Error) × (new : DeviceState) × Reserves old which request answer new × (answer ≢ Err OutOfMemory)
unfolding Reserves
total_reserves old which request =
    let p = every_id_call.peeked old.ids which in
    let a = with_id old request p.0 p.2 in
    (a.0, a.1, (p.0, p.1, a.2), a.3)

-- ---- Releasing
-- Each release has a result, whatever entry the id has.
total_releases_at : (old : DeviceState) (id : ℕ) (at : Option Range) → map.get old.devices id ≡ at →
    (answer : Result (Unit {0}) Error) × (new : DeviceState) × Releases old id answer new × (answer ≢ Err OutOfMemory)
unfolding Releases
total_releases_at old id None e = (Err (NeverAllocated id), old, rw e (refl, refl), λ h. cc (h))
total_releases_at old id (Some r) e = (Ok tt, without_device id r old, rw e (inl (refl, refl)), λ h. cc (h))

-- ---- Moving
-- Each move has a result, whatever entry the id has.
total_replaces : (old : DeviceState) (id : ℕ) (q : Range) (given : Result Range Error) → given ≢ Err OutOfMemory →
    (answer : Result Range Error) × (new : DeviceState) × Replaces old id q given answer new × (answer ≢ Err OutOfMemory)
total_replaces old id q (Err e) plain =
    (Err e, old, (refl, refl), λ h. let same : e ≡ OutOfMemory = cc (h) in plain (ap (λ (v : Error). Err v) same))
total_replaces old id q (Ok r) plain = (Ok r, with_range id q r old, inl (refl, refl), λ h. cc (h))

total_moves_at : (old : DeviceState) (id : ℕ) (request : Request) (at : Option Range) → map.get old.devices id ≡ at →
    (answer : Result Range Error) × (new : DeviceState) × MovesDevice old id request answer new × (answer ≢ Err OutOfMemory)
unfolding MovesDevice
total_moves_at old id request None e = (Err (NeverAllocated id), old, rw e (refl, refl), λ h. cc (h))
total_moves_at old id request (Some q) e =
    let m = every_call.called old.space (MoveTo q request) in
    let a = total_replaces old id q m.0 m.3 in
    (a.0, a.1, rw e (m.0, m.1, m.2, a.2), a.3)

-- Each call has a result and a next state.
total_call : EveryCallIsAnswered IsDeviceCallFrom
total_call old (Reserve which request) = total_reserves old which request
total_call old (Release id) = total_releases_at old id (map.get old.devices id) refl
total_call old (Move id request) = total_moves_at old id request (map.get old.devices id) refl
total_call old Clone = (Ok old, old, (inl refl, refl), λ h. cc (h))

pub every_device_call : EveryDeviceCallIsAnswered
every_device_call = record { made = total_makes; called = total_call }

pub every_list_of_devices : EveryListHasHistory IsDeviceCallFrom
every_list_of_devices = every_list IsDeviceCallFrom total_call

pub ruleset answers = (every_device_call, every_list_of_devices)
