-- The id and the range of a released device can be reserved again.
use Rattle.std.proofs.Common.{◌≡◌, ◌≢◌, ℕ, ◌⊎◌, arith, refl, sym, ap, ◌∙◌, inl, inr, ⊎_elim, subst, Result, Ok, Err}
use Rattle.std.specs.FinMap as map
use Rattle.vm_ranges.proofs.NumberSets.{from_removed}
use Rattle.vm_ranges.specs.Range.{Range, address_count}
use Rattle.vm_ranges.specs.Address.{AddressState, holding, releasing}
use Rattle.vm_ranges.specs.Request.{Request, request_for}
use Rattle.vm_ranges.specs.Answer.{Allocates}
use Rattle.vm_ids.specs.Ids.{IdState, IsOfRange, AreAllHeld, ByLowestNotHeld, PeeksId, releasing_id}
use Rattle.vm_ids.specs.IdRequests.{Peeks}
use Rattle.vm_ids.specs.declared.id_request.IdRequest.{IdRequest}
use Rattle.vm_ids.specs.declared.id_request.IdRequest.TheVariants.{Lowest, Exact}
use Rattle.vm_ids.proofs.Ids.PeekedIds.{peeks_once, peeked_again}
use Rattle.vm_ranges.specs.declared.error.Error.{Error}
use Rattle.vm_ranges.specs.declared.error.Error.TheVariants.{OutOfMemory}
use Rattle.vm_ranges.specs.declared.constraint.AllocPolicy.TheVariants.{ExactMatch}
use Rattle.vm_addresses.proofs.Callers.{IsSplitError, allocated_held, allocated_again, frees_held}
use Rattle.vm_addresses.proofs.Results.Once.{allocates_once}
use Rattle.vm_addresses.proofs.Results.AddressResults.{freeing_undoes}
use Rattle.vm_devices.specs.declared.device_slot.DeviceSlot.{DeviceSlot}
use Rattle.vm_devices.specs.Devices.{DeviceState, IsDevice, IsDeviceState, with_device, without_device, Pairs, Reserves, ReservesFor, Releases}
use Rattle.vm_devices.specs.Laws.{IsLimit, ReservedAgain, RangeIsReservedAgain}
use Rattle.vm_devices.proofs.Tables.{with_here}
use Rattle.vm_devices.proofs.Pairs.{id_held}
use Rattle.vm_devices.proofs.DeviceCalls.{reserved_device}

-- A device that was released is gone, unless memory ran out.
device_released : (old new : DeviceState) (id : ℕ) (r : Range) (answer : Result (Unit {0}) Error) → IsDevice old id r →
    Releases old id answer new →
    answer ≢ Err OutOfMemory → new ≡ without_device id r old
unfolding Releases
device_released old new id r answer d h plain = ⊎_elim (λ t. t.1) (λ m. absurd (plain m.0)) (rw d at h)

-- The result of a reservation, if its request gets the range or memory runs out, and if its split fails.
told_in_memory : (old new : DeviceState) (id : ℕ) (given : Result Range Error) (answer : Result DeviceSlot Error) (r : Range) →
    Pairs old id given answer new → (given ≡ Ok r) ⊎ (given ≡ Err OutOfMemory) →
    (answer ≡ Ok (record { id = id; range = r })) ⊎ (answer ≡ Err OutOfMemory)
told_in_memory old new id given answer r p e = grind arith

-- A reservation for which the range fits again returns this range, or one of the two errors.
told : (old new : DeviceState) (id : ℕ) (given : Result Range Error) (answer : Result DeviceSlot Error) (r : Range) →
    Pairs old id given answer new → (given ≡ Ok r) ⊎ IsSplitError old.space given →
    (answer ≡ Ok (record { id = id; range = r })) ⊎ IsLimit old answer
told old new id given answer r p e = grind arith

-- ---- The same request
-- A reservation is the one for the id that is peeked.
for_peeked : (old new : DeviceState) (which : IdRequest) (request : Request) (id : ℕ) (answer : Result DeviceSlot Error) →
    Peeks old.ids which (Ok id) → Reserves old which request answer new → ReservesFor old request (Ok id) answer new
unfolding Reserves
for_peeked old new which request id answer p h =
    subst (λ (i : Result ℕ Error). ReservesFor old request i answer new) (peeks_once old.ids which h.0 (Ok id) h.1 p) h.2

-- The same range is allocated, or memory runs out.
same_given : (old new : AddressState) (request : Request) (r : Range) (given : Result Range Error) →
    Allocates old request (Ok r) (holding r old) → Allocates old request given new → (given ≡ Ok r) ⊎ (given ≡ Err OutOfMemory)
same_given old new request r given a b =
    let once = allocates_once old (holding r old) new request (Ok r) given a b in
    grind (arith, once)

-- The request of a released device reserves it again.
pub reserved_again : ReservedAgain
reserved_again old mid new later which request slot released answer i s f plain t =
    let m = reserved_device old mid which request slot s in
    let id = slot.id in
    let r = slot.range in
    let device : IsDevice mid id r = ap (λ (v : DeviceState). map.get v.devices id) m.placed.left ∙ with_here old.devices id r in
    let left : new ≡ without_device id r (with_device id r old) = device_released mid new id r released device f plain
    ∙ ap (without_device id r) m.placed.left in
    let given = holding r old.space in
    let frees = frees_held given r (allocated_held old.space given request r m.placed.given) in
    let back : releasing r given ≡ old.space =
    (freeing_undoes old.space given (releasing r given) request r (Ok tt) i.space m.placed.given frees).1 in
    let space : new.space ≡ old.space = ap (λ (v : DeviceState). v.space) left ∙ back in
    let peeked : Peeks new.ids which (Ok id) = subst (λ (v : IdState). Peeks v which (Ok id)) (sym (ap (λ (v : DeviceState). v.ids) left))
    (peeked_again old.ids which id m.peeked) in
    let u = for_peeked new later which request id answer peeked t in
    let first = subst (λ (v : AddressState). Allocates v request (Ok r) (holding r v)) (sym space) m.placed.given in
    told_in_memory new later id u.0 answer r u.3 (same_given new.space u.1 request r u.0 first u.2)

-- ---- The same range
-- After an id is freed, some id is not held.
some_peeked : (ids : IdState) (id : ℕ) (answer : Result ℕ Error) → IsOfRange ids id → Peeks (releasing_id id ids) Lowest answer →
    (some : ℕ) × (answer ≡ Ok some)
unfolding Peeks PeeksId ByLowestNotHeld AreAllHeld
some_peeked ids id answer inside (inl h) = (h.0, h.2)
some_peeked ids id answer inside (inr h) = absurd ((from_removed ids.held id id (h.0 id inside)).0 refl)

-- A freed id is peeked by a request for it.
freed_peeked : (ids : IdState) (id : ℕ) → IsOfRange ids id → Peeks (releasing_id id ids) (Exact id) (Ok id)
unfolding Peeks
freed_peeked ids id inside = inr (inside, inr (λ k. (from_removed ids.held id id k).0 refl, refl))

module _ (old new later : DeviceState) (id : ℕ) (r : Range) (released : Result (Unit {0}) Error) (answer : Result DeviceSlot Error)
    (i : IsDeviceState old) (d : IsDevice old id r) (f : Releases old id released new) (plain : released ≢ Err OutOfMemory) where
  left_by : new ≡ without_device id r old
  left_by = device_released old new id r released d f plain

  inside : IsOfRange old.ids id
  inside = let out = i.ids.held id (id_held old id r i d) in (out.0, omega (arith, out.1, i.ids.bound.1))

  -- The range is reserved again with the id that is peeked.
  range_again : (which : IdRequest) (some : ℕ) → Peeks (releasing_id id old.ids) which (Ok some) →
      Reserves new which (request_for (address_count r) 1 (ExactMatch r.start)) answer later →
      (answer ≡ Ok (record { id = some; range = r })) ⊎ IsLimit new answer
  range_again which some p t =
      let request = request_for (address_count r) 1 (ExactMatch r.start) in
      let t' = subst (λ (v : DeviceState). Reserves v which request answer later) left_by t in
      let u = for_peeked (without_device id r old) later which request some answer p t' in
      let held = i.pairs.held id r d in
      let frees = frees_held old.space r held in
      let given = allocated_again old.space (releasing r old.space) u.1 r (Ok tt) u.0 i.space held frees u.2 in
      ⊎_elim
      (λ e. inl e)
      (λ e. inr (subst (λ (v : DeviceState). IsLimit v answer) (sym left_by) e))
      (told (without_device id r old) later some u.0 answer r u.3 given)

-- The lowest id that is not held is peeked after a release.
lowest_after : (old new later : DeviceState) (id : ℕ) (request : Request) (answer : Result DeviceSlot Error) → IsOfRange old.ids id →
    new.ids ≡ releasing_id id old.ids → Reserves new Lowest request answer later →
    (some : ℕ) × Peeks (releasing_id id old.ids) Lowest (Ok some)
unfolding Reserves
lowest_after old new later id request answer o same h =
    let p = subst (λ (v : IdState). Peeks v Lowest h.0) same h.1 in
    let some = some_peeked old.ids id h.0 o p in
    (some.0, subst (λ (a : Result ℕ Error). Peeks (releasing_id id old.ids) Lowest a) some.1 p)

-- The range of a released device can be reserved again.
pub range_comes_back : RangeIsReservedAgain
range_comes_back = record {
  lowest = λ old new later id r released answer i d f plain t.
      let ids = ap (λ (v : DeviceState). v.ids) (left_by old new later id r released answer i d f plain) in
      let some = lowest_after old new later id _ answer (inside old new later id r released answer i d f plain) ids t in
      ⊎_elim (λ e. inl (some.0, e)) (λ e. inr e)
      (range_again old new later id r released answer i d f plain Lowest some.0 some.1 t);
  exact = λ old new later id r released answer i d f plain t.
      range_again old new later id r released answer i d f plain (Exact id) id
      (freed_peeked old.ids id (inside old new later id r released answer i d f plain)) t;
}

pub ruleset again = (reserved_again, range_comes_back)
