-- Facts of every history of a manager.
use Rattle.std.proofs.Common.{◌≡◌, ◌≢◌, ℕ, ◌<◌, ◌⊎◌, List, [], ◌∷◌, suc, arith, sym, ap, ◌∙◌, inl, inr, ⊎_elim, subst, Some, Result, Ok}
use Rattle.std.specs.Ordering.{nat_cmp}
use Rattle.std.specs.FinMap as map
use Rattle.vm_ranges.specs.Range.{Range, MAX, Overlaps, Covers}
use Rattle.vm_ranges.specs.Address.{holding, releasing}
use Rattle.vm_ids.specs.Ids.{IsOfRange}
use Rattle.vm_addresses.proofs.Results.AddressResults.{lie_apart}
use Rattle.vm_addresses.proofs.Callers.{given, request_fits, request_inside}
use Rattle.vm_addresses.proofs.Histories.MoveSteps.{moved_parts}
use Rattle.vm_ranges.specs.Request.{Request}
use Rattle.vm_devices.specs.declared.device_slot.DeviceSlot.{DeviceSlot}
use Rattle.vm_devices.specs.Devices.{DeviceState, IsDevice, IsDeviceState, MovesDevice}
use Rattle.vm_ranges.proofs.Clones.{cloning_keeps}
use Rattle.vm_ranges.proofs.Histories.{history_keeps}
use Rattle.vm_ranges.specs.declared.error.Error.{Error}
use Rattle.vm_devices.specs.Histories.{
  Reserve,
  Release,
  Move,
  Clone,
  DeviceCall,
  IsDeviceCallFrom,
  IsDeviceHistoryFrom,
  IsManagerMade,
  BeginsWithDevices,
  AreDevicesReached,
  WasReserved,
  WasThereFirst,
}
use Rattle.vm_devices.specs.Laws.{DevicesAreValid}
use Rattle.vm_devices.proofs.Tables.{with_cases, without_is}
use Rattle.vm_devices.proofs.Pairs.{id_held}
use Rattle.vm_devices.proofs.DeviceCalls.{made_state, IsPlaced, reserving_outcome, releasing_outcome, reserved_state, released_state}
use Rattle.vm_devices.proofs.DeviceMoves.{moving_outcome, moving_state, moved_device}
use Rattle.vm_devices.proofs.SavedManagers.{encoded_state}

-- ---- Every reached state is valid
-- Each call leaves a valid state.
call_state : (call : DeviceCall) (old new : DeviceState) → IsDeviceState old → IsDeviceCallFrom old call new → IsDeviceState new
call_state (Reserve which request, answer) old new i h = reserved_state old new which request answer i h
call_state (Release id, answer) old new i h = released_state old new id answer i h
call_state (Move id request, answer) old new i h = moving_state old new id request answer i h
call_state (Clone, answer) old new i h = subst IsDeviceState (sym (cloning_keeps old new answer h.0 h.1)) i

-- Each first state of a history is valid.
first_state : (first : DeviceState) → IsManagerMade first ⊎ BeginsWithDevices first → IsDeviceState first
first_state first (inl m) = (made_state m.lo m.hi m.base m.size first m.id m.word m.made).0
first_state first (inr (inl m)) = subst IsDeviceState (sym m.made.2)
    (record { ids = m.valid_ids; space = m.valid_space; pairs = m.made.1.pairs })
first_state first (inr (inr r)) = encoded_state r.value first r.encoded

-- Each state that is reached is valid.
reached_state : (calls : List DeviceCall) (old : DeviceState) → AreDevicesReached calls old → IsDeviceState old
reached_state calls old r = history_keeps IsDeviceCallFrom IsDeviceState call_state calls r.first old (first_state r.first r.begins)
    r.history

-- ---- Each device was reserved
-- A device that was reserved by some calls was reserved by these and one more.
reserved_later : (call : DeviceCall) (calls : List DeviceCall) (id : ℕ) (r : Range) → WasReserved calls id r →
    WasReserved (call ∷ calls) id r
reserved_later call calls id r g =
    record {
      request = g.request;
      call = ⊎_elim (λ c. inl (c.0, (suc c.1.0, omega (arith, c.1.1), c.1.2))) (λ c. inr (suc c.0, omega (arith, c.1), c.2)) g.call;
      aligned = g.aligned;
      long = g.long;
      inside = g.inside;
    }

-- A move to the range is one of the calls.
moved_by : (old new : DeviceState) (q : ℕ) (request : Request) (answer : Result Range Error) (calls : List DeviceCall) (id : ℕ)
    (r : Range) → MovesDevice old q request answer new → q ≡ id → answer ≡ Ok r → WasReserved ((Move q request, answer) ∷ calls) id r
moved_by old new q request answer calls id r h same is =
    let move : ℕ → Result Range Error → DeviceCall = λ i x. (Move i request, x) in
    let m = moved_device old new q request r (subst (λ (x : Result Range Error). MovesDevice old q request x new) is h) in
    let s = moved_parts old.space m.space m.before r request m.move in
    let fits = request_fits (releasing m.before old.space) m.space request (Ok r) s.allocated in
    record {
      request = request;
      call = inr (0, omega arith, ap (λ (i : ℕ). move i answer) same ∙ ap (move id) is);
      aligned = fits.1;
      long = (given (releasing m.before old.space) m.space request r s.allocated).long;
      inside = request_inside (releasing m.before old.space) m.space request (Ok r) s.allocated;
    }

-- A device after a call was a device before it, or the call reserved it or moved it.
call_reserves : (old new : DeviceState) (call : DeviceCall) (calls : List DeviceCall) (id : ℕ) (r : Range) → IsDeviceCallFrom old call new →
    IsDevice new id r → IsDevice old id r ⊎ WasReserved (call ∷ calls) id r
call_reserves old new (Reserve which request, answer) calls id r h d =
    ⊎_elim
    (λ refused. inl (rw refused.2 at d))
    (λ made.
    let slot = made.0 in
    ⊎_elim
    (λ same.
    let is : slot ≡ record { id = id; range = r } = λ k. record { id = sym same.0 k; range = sym same.1 k } in
    let m = subst (λ (s : DeviceSlot). IsPlaced old request s new) is made.2.placed in
    let call_of : Result DeviceSlot Error → DeviceCall = λ x. (Reserve which request, x) in
    inr (record {
      request = request;
      call = inl (which, (0, omega arith, ap call_of (made.1 ∙ ap (λ (s : DeviceSlot). Ok s) is)));
      aligned = m.fits.1;
      long = (given old.space (holding r old.space) request r m.given).long;
      inside = m.inside;
    }))
    (λ before. inl before)
    (with_cases old.devices slot.id slot.range id r (rw made.2.placed.left at d)))
    (reserving_outcome old new which request answer h)
call_reserves old new (Release q, answer) calls id r h d =
    inl (⊎_elim (λ refused. rw refused.2 at d) (λ left. (without_is old.devices q id r (rw left.3 at d)).1)
    (releasing_outcome old new q answer h))
call_reserves old new (Move q request, answer) calls id r h d =
    ⊎_elim
    (λ refused. inl (rw refused.2 at d))
    (λ moved.
    let p = moved.0 in
    let m = moved.2 in
    ⊎_elim
    (λ same. inr (moved_by old new q request answer calls id r h (sym same.0) (moved.1 ∙ ap (λ (v : Range). Ok v) (sym same.1))))
    (λ before. inl before)
    (with_cases old.devices q p id r (rw m.left at d)))
    (moving_outcome old new q request answer h)
call_reserves old new (Clone, answer) calls id r h d = inl (rw (cloning_keeps old new answer h.0 h.1) at d)

-- A device after a history was there before it, or was reserved by it.
history_reserves : (calls : List DeviceCall) (first last : DeviceState) (id : ℕ) (r : Range) → IsDeviceHistoryFrom first calls last →
    IsDevice last id r → IsDevice first id r ⊎ WasReserved calls id r
history_reserves [] first last id r h d = inl (rw h at d)
history_reserves (call ∷ calls) first last id r h d =
    ⊎_elim
    (λ (k : IsDevice h.0 id r). call_reserves first h.0 call calls id r h.1 k)
    (λ (g : WasReserved calls id r). inr (reserved_later call calls id r g))
    (history_reserves calls h.0 last id r h.2 d)

-- A new manager has no device. So a device of the first state was there from the start.
first_devices : (first : DeviceState) (id : ℕ) (r : Range) → IsManagerMade first ⊎ BeginsWithDevices first → IsDevice first id r →
    WasThereFirst first id r
first_devices first id r (inl m) k =
    let none = (made_state m.lo m.hi m.base m.size first m.id m.word m.made).1 in
    let empty = map.get-empty {X = Range} nat_cmp id in
    absurd (cc (none, empty, k))
first_devices first id r (inr begins) k = record { begins = begins; device = k }

-- A device of a state that is reached was reserved, or was there first.
reached_reserved : (calls : List DeviceCall) (old : DeviceState) (id : ℕ) (r : Range) (h : AreDevicesReached calls old) →
    IsDevice old id r → WasReserved calls id r ⊎ WasThereFirst h.first id r
reached_reserved calls old id r h d =
    ⊎_elim (λ k. inr (first_devices h.first id r h.begins k)) (λ g. inl g) (history_reserves calls h.first old id r h.history d)

-- ---- The ids and ranges of devices
-- The ranges of two devices do not overlap.
devices_apart : (old : DeviceState) (i j : ℕ) (r s : Range) → IsDeviceState old → IsDevice old i r → IsDevice old j s → i ≢ j →
    ¬ Overlaps r s
devices_apart old i j r s is d f ne o =
    let p = is.pairs in
    let same : r ≡ s = (lie_apart old.space is.space).apart r s (p.held i r d) (p.held j s f) o in
    ne (p.once i j s (d ∙ ap Some same) f)

-- The id and the range of a device are within those of the manager.
device_inside : (old : DeviceState) (id : ℕ) (r : Range) → IsDeviceState old → IsDevice old id r →
    IsOfRange old.ids id × Covers old.space.space r × (r.end < MAX)
device_inside old id r is d =
    let l = lie_apart old.space is.space in
    let c = is.pairs.held id r d in
    let out = is.ids.held id (id_held old id r is d) in
    ((out.0, omega (arith, out.1, is.ids.bound.1)), (l.inside r c).1, l.below r c)

-- The devices of each state that is reached are valid.
pub devices_are_valid : DevicesAreValid
devices_are_valid = record {
  state = reached_state;
  apart = λ calls old i j r s h. devices_apart old i j r s (reached_state calls old h);
  inside = λ calls old id r h. device_inside old id r (reached_state calls old h);
  reserved = reached_reserved;
}
