-- The results of the calls of a manager, case by case, and the results that follow from those of its parts.
use Rattle.std.proofs.Common.{
  ◌≡◌,
  ℕ,
  ◌≤◌,
  arith,
  refl,
  sym,
  ap,
  ◌∙◌,
  ⊎_elim,
  subst,
  Some,
  None,
  Result,
  Ok,
  Err,
  ◌%◌,
  inl,
  inr,
  ◌⊎◌,
  Option,
  MatchOption,
  IfSome,
}
use Rattle.std.proofs.lemmas.Bool.{both_ways}
use Rattle.std.specs.List.{Contains}
use Rattle.std.specs.Ordering.{nat_cmp}
use Rattle.std.specs.FinMap as map
use Rattle.std.specs.FinSet as set
use Rattle.vm_ranges.specs.Range.{Range, MAX, Covers, address_count}
use Rattle.vm_ranges.specs.Address.{AddressState, holding, releasing}
use Rattle.vm_ranges.specs.Answer.{Makes, IsChosen, Allocates, Frees}
use Rattle.std.specs.Cmp.{nat_cmp_total}
use Rattle.vm_ids.specs.Ids.{MAX_ID, IdState, IsHeld, IsNotHeld, MakesIds, new_ids, holding_id, releasing_id}
use Rattle.vm_ids.specs.IdRequests.{Peeks}
use Rattle.vm_ids.specs.declared.id_request.IdRequest.{IdRequest}
use Rattle.vm_ids.proofs.Ids.PeekedIds.{peeked_not_held, lowest_peeked, allocated_or_memory}
use Rattle.vm_ranges.specs.declared.error.Error.{Error}
use Rattle.vm_addresses.proofs.Results.AddressResults.{made_is, state_is_preserved, freeing_undoes}
use Rattle.vm_ids.proofs.Ids.IdResults.{made_ids}
use Rattle.vm_devices.specs.Devices.{
  DeviceState,
  IsDeviceState,
  MakesManager,
  IsDevice,
  with_device,
  without_device,
  Reserves,
  ReservesFor,
  Releases,
  devices_of,
}
use Rattle.vm_devices.proofs.Tables.{get_with, get_without}
use Rattle.vm_ranges.specs.Request.{Request, MakesConstraint}
use Rattle.vm_ranges.specs.declared.error.Error.TheVariants.{NeverAllocated, OutOfMemory}
use Rattle.vm_addresses.proofs.Callers.{given, allocated_chosen, request_fits, request_inside}
use Rattle.vm_devices.specs.declared.device_slot.DeviceSlot.{DeviceSlot}
use Rattle.vm_devices.proofs.Pairs.{state_with, state_without, id_held}
use Rattle.vm_ranges.proofs.Requests.{constraint_made}
use Rattle.vm_addresses.proofs.Results.Requests.{allocates_refused}
use Rattle.vm_addresses.proofs.Results.EveryAddressCall.{every_call}

-- ---- A reservation
-- A reserved device has a range that the request allocates: as long as asked, aligned and in the window, at the place that the
-- policy chooses.
pub record IsPlaced (old : DeviceState) (request : Request) (slot : DeviceSlot) (new : DeviceState) : Type 0 where
  pub given : Allocates old.space request (Ok slot.range) (holding slot.range old.space)
  pub left : new ≡ with_device slot.id slot.range old
  pub fits : (address_count slot.range ≡ request.size) × (slot.range.start % request.align ≡ 0)
  pub inside : IfSome request.window (λ w. Covers w slot.range)
  pub chosen : IsChosen request old.space slot.range.start

-- It also has the id that was requested.
pub record IsReserved (old : DeviceState) (which : IdRequest) (request : Request) (slot : DeviceSlot) (new : DeviceState) : Type 0 where
  pub peeked : Peeks old.ids which (Ok slot.id)
  pub placed : IsPlaced old request slot new

-- A successful reservation for an id is a device with this id and a range for the request.
pub placed_device : (old new : DeviceState) (request : Request) (id : ℕ) (slot : DeviceSlot) →
    ReservesFor old request (Ok id) (Ok slot) new → IsPlaced old request slot new
placed_device old new request id slot (Err e, space, a, p) = absurd (cc (p.0))
placed_device old new request id slot (Ok r, space, a, inr p) = absurd (cc (p.0))
placed_device old new request id slot (Ok r, space, a, inl p) =
    let same : slot ≡ record { id = id; range = r } = cc (p.0) in
    rw same (record {
      given = subst (Allocates old.space request (Ok r)) (given old.space space request r a).left a;
      left = p.1;
      fits = request_fits old.space space request (Ok r) a;
      inside = request_inside old.space space request (Ok r) a;
      chosen = allocated_chosen old.space space request (Ok r) a;
    })

placed_id : (old new : DeviceState) (request : Request) (id : ℕ) (slot : DeviceSlot) → ReservesFor old request (Ok id) (Ok slot) new →
    slot.id ≡ id
placed_id old new request id slot (Err e, space, a, p) = absurd (cc (p.0))
placed_id old new request id slot (Ok r, space, a, inr p) = absurd (cc (p.0))
placed_id old new request id slot (Ok r, space, a, inl p) = let same : slot ≡ record { id = id; range = r } = cc (p.0) in
    ap (λ (s : DeviceSlot). s.id) same

-- A reservation for an id that fails changes nothing.
pub placing_unchanged : (old new : DeviceState) (request : Request) (id : Result ℕ Error) (e : Error) →
    ReservesFor old request id (Err e) new → new ≡ old
placing_unchanged old new request (Err f) e h = h.1
placing_unchanged old new request (Ok id) e (Err f, space, a, p) = p.1
placing_unchanged old new request (Ok id) e (Ok r, space, a, inl p) = absurd (cc (p.0))
placing_unchanged old new request (Ok id) e (Ok r, space, a, inr p) = p.1

-- Either an error that changes nothing, or a reserved device.
abbrev pub IsRefusedOrReserved : DeviceState → IdRequest → Request → Result DeviceSlot Error → DeviceState → Type 0
IsRefusedOrReserved old which request answer new =
    ((e : Error) × (answer ≡ Err e) × (new ≡ old))
    ⊎ ((slot : DeviceSlot) × (answer ≡ Ok slot) × IsReserved old which request slot new)

-- A reservation is an error that changes nothing, or a reserved device.
pub reserving_outcome : (old new : DeviceState) (which : IdRequest) (request : Request) (answer : Result DeviceSlot Error) →
    Reserves old which request answer new → IsRefusedOrReserved old which request answer new
unfolding Reserves
reserving_outcome old new which request (Err e) h = inl (e, refl, placing_unchanged old new request h.0 e h.2)
reserving_outcome old new which request (Ok slot) (Err e, p, h) = absurd (cc (h.0))
reserving_outcome old new which request (Ok slot) (Ok id, p, h) =
    inr (
      slot,
      refl,
      record {
        peeked = subst (λ (i : ℕ). Peeks old.ids which (Ok i)) (sym (placed_id old new request id slot h)) p;
        placed = placed_device old new request id slot h;
      },
    )

-- A successful reservation is a reserved device.
pub reserved_device : (old new : DeviceState) (which : IdRequest) (request : Request) (slot : DeviceSlot) →
    Reserves old which request (Ok slot) new → IsReserved old which request slot new
reserved_device old new which request slot h =
    ⊎_elim
    (λ r. absurd (cc (r.1)))
    (λ d. let same : d.0 ≡ slot = cc (d.1) in subst (λ (s : DeviceSlot). IsReserved old which request s new) same d.2)
    (reserving_outcome old new which request (Ok slot) h)

-- A reservation that fails changes nothing.
pub reserving_unchanged : (old new : DeviceState) (which : IdRequest) (request : Request) (e : Error) →
    Reserves old which request (Err e) new → new ≡ old
unfolding Reserves
reserving_unchanged old new which request e h = placing_unchanged old new request h.0 e h.2

-- ---- A release
-- Either an error that changes nothing, or a released device.
abbrev pub IsRefusedOrReleased : DeviceState → ℕ → Result (Unit {0}) Error → DeviceState → Type 0
IsRefusedOrReleased old id answer new =
    ((e : Error) × (answer ≡ Err e) × (new ≡ old))
    ⊎ ((r : Range) × IsDevice old id r × (answer ≡ Ok tt) × (new ≡ without_device id r old))

-- The result for the entry of the id is the result of the release.
released_outcome : (old new : DeviceState) (id : ℕ) (answer : Result (Unit {0}) Error) (at : Option Range) → map.get old.devices id ≡ at →
    MatchOption at ((answer ≡ Err (NeverAllocated id)) × (new ≡ old))
    (λ r. ((answer ≡ Ok tt) × (new ≡ without_device id r old)) ⊎ ((answer ≡ Err OutOfMemory) × (new ≡ old))) →
    IsRefusedOrReleased old id answer new
released_outcome old new id answer None e h = inl (NeverAllocated id, h.0, h.1)
released_outcome old new id answer (Some r) e h =
    ⊎_elim (λ t. inr (r, e, t.0, t.1)) (λ m. inl (OutOfMemory, m.0, m.1)) h

-- A release is an error that changes nothing, or a released device.
pub releasing_outcome : (old new : DeviceState) (id : ℕ) (answer : Result (Unit {0}) Error) → Releases old id answer new →
    IsRefusedOrReleased old id answer new
unfolding Releases
releasing_outcome old new id answer h = released_outcome old new id answer (map.get old.devices id) refl h

-- ---- Each call preserves the pairs
-- The state after a reservation is valid.
pub reserved_state : (old new : DeviceState) (which : IdRequest) (request : Request) (answer : Result DeviceSlot Error) →
    IsDeviceState old → Reserves old which request answer new → IsDeviceState new
reserved_state old new which request answer i h =
    ⊎_elim
    (λ r. subst IsDeviceState (sym r.2) i)
    (λ d.
    let slot = d.0 in
    let made = d.2 in
    subst IsDeviceState (sym made.placed.left)
    (state_with old slot.id slot.range request i (peeked_not_held old.ids which (Ok slot.id) made.peeked) made.placed.given))
    (reserving_outcome old new which request answer h)

-- The state after a release is valid.
pub released_state : (old new : DeviceState) (id : ℕ) (answer : Result (Unit {0}) Error) → IsDeviceState old → Releases old id answer new →
    IsDeviceState new
released_state old new id answer i h =
    ⊎_elim
    (λ r. subst IsDeviceState (sym r.2) i)
    (λ d. subst IsDeviceState (sym d.3) (state_without old id d.0 i d.1))
    (releasing_outcome old new id answer h)

-- ---- Creating
module _ (lo hi base size : ℕ) where
  -- If the ids cannot be made, their error is returned.
  pub ids_refused : (e : Error) → MakesIds lo hi (Err e) → MakesManager lo hi base size (Err e)
  unfolding MakesManager
  ids_refused e m = let space = every_call.made base size in (Err e, space.0, m, space.1, refl)

  -- If the space cannot be made, its error is returned.
  pub space_refused : (ids : IdState) (e : Error) → MakesIds lo hi (Ok ids) → Makes base size (Err e) → MakesManager lo hi base size (Err e)
  unfolding MakesManager
  space_refused ids e m n = (Ok ids, Err e, m, n, refl)

  -- If both can be made, the manager has them and no device.
  pub manager_made : (ids : IdState) (space : AddressState) (slots : map.FinMap nat_cmp Range) → MakesIds lo hi (Ok ids) →
      Makes base size (Ok space) → slots ≡ map.empty → MakesManager lo hi base size (Ok (devices_of ids space slots))
  unfolding MakesManager
  manager_made ids space slots m n e = (Ok ids, Ok space, m, n, ap (λ t. Ok (devices_of ids space t)) e)

pub ruleset makes_managers = (ids_refused, space_refused, manager_made)

-- No id and no range is held, and there is no device.
no_devices : (lo hi base size : ℕ) (ids : IdState) (space : AddressState) → hi ≤ MAX_ID → size ≤ MAX → MakesIds lo hi (Ok ids) →
    Makes base size (Ok space) →
    IsDeviceState (record { ids = ids; space = space; devices = map.empty })
unfolding MakesIds
no_devices lo hi base size ids space id word ids_made space_made =
    let none = λ (q : ℕ). map.get-empty {X = Range} nat_cmp q in
    let fresh : ids ≡ new_ids lo hi = ⊎_elim (λ l. absurd (cc (l.1))) (λ r. cc (r.1)) ids_made in
    let held : (r : Range) → ¬ Contains space.held r =
    λ r c. let none = subst (λ (v : AddressState). Contains v.held r) (made_is base size space space_made).2 c in let below = none.1 in
    omega (arith, below) in
    record {
      ids = made_ids lo hi ids id ids_made;
      space = state_is_preserved.made base size space word space_made;
      pairs = record {
        ids = λ q. (
          λ h. absurd (both_ways _ (set.contains-empty nat_cmp q) (subst (λ (v : IdState). IsHeld v q) fresh h)),
          λ h. let n = none q in absurd (cc (n, h)),
        );
        held = λ q r d. let n = none q in absurd (cc (n, d));
        owned = λ r c. absurd (held r c);
        once = λ i j r d f. let n = none i in absurd (cc (n, d));
      };
    }

-- The state of a new manager is valid and has no device.
pub made_state : (lo hi base size : ℕ) (state : DeviceState) → hi ≤ MAX_ID → size ≤ MAX → MakesManager lo hi base size (Ok state) →
    IsDeviceState state × (state.devices ≡ map.empty)
unfolding MakesManager
made_state lo hi base size state id word (Err e, space, m, n, h) = absurd (cc (h))
made_state lo hi base size state id word (Ok ids, Err e, m, n, h) = absurd (cc (h))
made_state lo hi base size state id word (Ok ids, Ok space, m, n, h) =
    let same : state ≡ record { ids = ids; space = space; devices = map.empty } = cc (h) in
    (rw same (no_devices lo hi base size ids space id word m n), ap (λ (s : DeviceState). s.devices) same)

-- ---- Reserving
module _ (old new : DeviceState) (which : IdRequest) (request : Request) where
  -- If there is no id, its error is returned.
  pub id_refused : (e : Error) → Peeks old.ids which (Err e) → new ≡ old → Reserves old which request (Err e) new
  unfolding Reserves
  id_refused e p same = (Err e, p, (refl, same))

  -- If there is an id, the result is that for the id.
  pub id_peeked : (id : ℕ) (answer : Result DeviceSlot Error) → Peeks old.ids which (Ok id) → ReservesFor old request (Ok id) answer new →
      Reserves old which request answer new
  unfolding Reserves
  id_peeked id answer p h = (Ok id, p, h)

-- If the request is not valid, its error is returned.
pub request_refused : (old : DeviceState) (which : IdRequest) (request : Request) (id : ℕ) (e : Error) → Peeks old.ids which (Ok id) →
    MakesConstraint request (Err e) → Reserves old which request (Err e) old
request_refused old which request id e p m =
    id_peeked old old which request id (Err e) p (Err e, old.space, allocates_refused old.space request e m, (refl, refl))

pub ruleset reserves = (
  id_refused,
  id_peeked,
  request_refused,
  constraint_made,
  placed_device,
  placing_unchanged,
  lowest_peeked,
  peeked_not_held,
)

-- A device that is inserted and removed leaves the table.
pub entry_undone : (devices with_it left : map.FinMap nat_cmp Range) (id : ℕ) (r : Range) → map.get devices id ≡ None →
    with_it ≡ map.insert devices id r → left ≡ map.remove with_it id → left ≡ devices
entry_undone devices with_it left id r n e f =
    f ∙ ap (λ (m : map.FinMap nat_cmp Range). map.remove m id) e
    ∙ map.same_map nat_cmp_total map.nat_cmp-IsAntisymmetric (map.remove (map.insert devices id r) id) devices
    (λ q. grind (arith, get_without (map.insert devices id r) id q, get_with devices id r q, n))

pub ruleset enters = (entry_undone, allocated_or_memory)

module _ (old : DeviceState) (request : Request) (id : ℕ) (r : Range) (mid : AddressState) (i : IsDeviceState old)
    (a : Allocates old.space request (Ok r) mid) (ids : IdState) (space : AddressState) (slots : map.FinMap nat_cmp Range) where
  -- The id and the range are entered.
  module _ (t : ids ≡ holding_id id old.ids) (f : space ≡ mid) (e : slots ≡ map.insert old.devices id r) where
    pub entered : ReservesFor old request (Ok id) (Ok (record { id = id; range = r })) (devices_of ids space slots)
    entered = (Ok r, mid, a, inl (refl, cc (t, (given old.space mid request r a).left, e, f)))

    -- The state with the new device is valid.
    pub entered_state : IsNotHeld old.ids id → IsDeviceState (devices_of ids space slots)
    entered_state n =
        let left = (given old.space mid request r a).left in
        let whole : devices_of ids space slots ≡ with_device id r old = cc (t, left, e, f) in
        subst IsDeviceState (sym whole)
        (state_with old id r request i n (subst (Allocates old.space request (Ok r)) left a))

  -- The range is freed again.
  module _ (answer : Result (Unit {0}) Error) (f : Frees mid r answer space) (same : (ids ≡ old.ids) × (slots ≡ old.devices)) where
    -- The state is the one before the call.
    left_as_it_was : devices_of ids space slots ≡ old
    left_as_it_was = rw (same.0, (freeing_undoes old.space mid space request r answer i.space a f).1, same.1) refl

    -- If the device cannot be entered, the call returns OutOfMemory.
    pub undone : ReservesFor old request (Ok id) (Err OutOfMemory) (devices_of ids space slots)
    undone = (Ok r, mid, a, inr (refl, left_as_it_was))

    -- The state after an undone reservation is valid.
    pub undone_state : IsDeviceState (devices_of ids space slots)
    undone_state = rw left_as_it_was i

-- ---- Releasing
-- An id without a device is NeverAllocated.
pub no_device : (old new : DeviceState) (id : ℕ) → map.get old.devices id ≡ None → new ≡ old → Releases old id (Err (NeverAllocated id)) new
unfolding Releases
no_device old new id e same = rw e (refl, same)

-- The id of a device is held, so freeing it fails only if memory runs out.
pub release_refused : (old new : DeviceState) (id : ℕ) (r : Range) (e : Error) (back : Result ℕ Error) → IsDeviceState old →
    IsDevice old id r →
    (IsHeld old.ids id → (back ≡ Ok id) ⊎ (back ≡ Err OutOfMemory)) → back ≡ Err e → new ≡ old → Releases old id (Err e) new
unfolding Releases
release_refused old new id r e back i d held is same =
    let memory : e ≡ OutOfMemory = ⊎_elim (λ k. absurd (cc (k, is))) (λ k. cc (k, is)) (held (id_held old id r i d)) in
    rw d (inr (ap (λ (v : Error). Err v) memory, same))

-- Freeing a held range leaves the state without it.
range_freed : (old new : AddressState) (r : Range) (answer : Result (Unit {0}) Error) → Contains old.held r → Frees old r answer new →
    new ≡ releasing r old
unfolding Frees
range_freed old new r answer c f = grind arith

-- The id and the range of a device are freed, and its entry is removed from the table.
module _ (old : DeviceState) (id : ℕ) (r : Range) (ids : IdState) (space : AddressState) (slots : map.FinMap nat_cmp Range)
    (answer : Result (Unit {0}) Error)
    (i : IsDeviceState old) (d : IsDevice old id r) (e : ids ≡ releasing_id id old.ids) (f : Frees old.space r answer space)
    (g : slots ≡ map.remove old.devices id) where
  pub left : devices_of ids space slots ≡ without_device id r old
  left = cc (e, range_freed old.space space r answer (i.pairs.held id r d) f, g)

  -- The state without the device is valid.
  pub left_state : IsDeviceState (devices_of ids space slots)
  left_state = rw left (state_without old id r i d)

  -- The release succeeds.
  pub gone : Releases old id (Ok tt) (devices_of ids space slots)
  unfolding Releases
  gone = rw (left, d) (inl (refl, refl))
