-- The parts of a manager are read as this manager, and managers are equal if and only if their parts are.
use Rattle.std.proofs.Common.{◌≡◌, ◌≢◌, ◌⊎◌, ℕ, List, [], ◌∷◌, ◌++◌, Result, Ok, Err, inl, inr, refl, sym, ap, ◌∙◌, subst, append_assoc, ◌↔◌, Bool, IsTrue}
use Rattle.std.specs.FinMap as map
use Rattle.vm_ranges.specs.Range.{Range}
use Rattle.vm_ranges.specs.declared.saved.Condition.{Condition}
use Rattle.vm_ranges.specs.declared.saved.SavedError.{SavedError}
use Rattle.vm_ranges.specs.declared.saved.SavedError.TheVariants.{Violated, OutOfMemory}
use Rattle.vm_ranges.specs.Address.{AddressState}
use Rattle.vm_ids.specs.Ids.{IdState}
use Rattle.vm_ids.proofs.Ids.RisingIds.{keys_rise}
use Rattle.vm_ids.proofs.Ids.ComparedIds.{id_state_cmp-Equal}
use Rattle.vm_devices.specs.declared.device_slot.DeviceSlot.{DeviceSlot}
use Rattle.vm_devices.specs.Devices.{DeviceState, IsDeviceState, devices_of}
use Rattle.vm_devices.specs.Laws.{WrittenManagersAreRead, PartsDecideManagers, EqualManagersHaveEqualParts}
use Rattle.vm_devices.specs.Listed.{HaveAscendingIds, PushesDevice, listed_state, AreDevicesOf, MakesOfDevices}
use Rattle.vm_devices.specs.Queries.{device_list, entry_cmp, device_state_cmp, device_state_cmp-total}
use Rattle.vm_devices.proofs.Entries.{entries_again, whole_map}
use Rattle.vm_devices.proofs.AscendingIds.{Sorted, front_ascends}
use Rattle.std.proofs.lemmas.Bool.Decides.{same_from_decides}
use Rattle.std.proofs.lemmas.Cmp.{tied_itself}
use Rattle.std.specs.declared.cmp.Ordering.TheVariants.{Equal}
use Rattle.std.specs.Ordering.{eq_by_cmp, is_eq}
use Rattle.std.specs.Cmp.{Equal-is}
use Rattle.std.specs.FinMap.{slice_cmp-IsAntisymmetric, nat_cmp-IsAntisymmetric}
use Rattle.vm_ranges.proofs.RangeOrders.{both_equal, range_cmp-exact}
use Rattle.vm_addresses.proofs.Comparing.StateOrders.{one_state, equal_states, state_cmp-Equal}
use Rattle.vm_devices.specs.Checks.{HaveSameAllocators}

-- The ids of the listed devices are strictly ascending.
list_ascends : (state : DeviceState) → HaveAscendingIds (device_list state)
list_ascends state = subst Sorted (sym (entries_again (map.entries state.devices))) (keys_rise state.devices)

-- A state is made of its parts.
same_state : (state : DeviceState) → listed_state state.ids state.space (device_list state) ≡ state
same_state state =
    ap (λ (es : List (ℕ × Range)). devices_of state.ids state.space (map.from_entries es)) (entries_again (map.entries state.devices))
    ∙ ap (devices_of state.ids state.space) (whole_map state.devices)

-- The listed devices of a valid state are those of its ids and its space.
its_devices : (state : DeviceState) → IsDeviceState state → AreDevicesOf state.ids state.space (device_list state)
its_devices state i = record { ascending = list_ascends state; pairs = rw (same_state state) i.pairs }

-- Each listed device can be pushed, unless memory runs out.
its_pushes : (state : DeviceState) (front rest : List DeviceSlot) (device : DeviceSlot) (answer : Result (Unit {0}) SavedError)
    (new : List DeviceSlot) → IsDeviceState state →
    device_list state ≡ front ++ device ∷ rest → PushesDevice front device answer new → (answer ≡ Ok tt) ⊎ (answer ≡ Err OutOfMemory)
its_pushes state front rest device (Ok u) new i e p = inl refl
its_pushes state front rest device (Err (Violated c)) new i e p =
    absurd (p.2 (front_ascends (front ++ device ∷ []) rest
    (subst HaveAscendingIds (e ∙ sym (append_assoc front (device ∷ []) rest)) (list_ascends state))))
its_pushes state front rest device (Err OutOfMemory) new i e p = inr refl

-- The parts of a state make this state, unless memory runs out.
its_answer : (state : DeviceState) (answer : Result DeviceState SavedError) → IsDeviceState state →
    MakesOfDevices 1 state.ids state.space (device_list state) answer →
    (answer ≡ Ok state) ⊎ (answer ≡ Err OutOfMemory)
its_answer state (Ok again) i made = inl (ap (λ (v : DeviceState). Ok v) (made.2 ∙ same_state state))
its_answer state (Err (Violated c)) i (inl refused) = absurd (refused.1.1 (its_devices state i))
its_answer state (Err (Violated c)) i (inr refused) = absurd (refused.0 refl)
its_answer state (Err OutOfMemory) i made = inr refl

-- The parts of a written manager are read as this manager.
pub parts_read : WrittenManagersAreRead
parts_read = record {
  ascending = λ state i. list_ascends state;
  accepted = its_devices;
  same = λ state i. same_state state;
  pushed = its_pushes;
  read = its_answer;
}

-- A push has one result, unless memory runs out.
pushes_once : (old new newer : List DeviceSlot) (device : DeviceSlot) (answer other : Result (Unit {0}) SavedError) →
    answer ≢ Err OutOfMemory → other ≢ Err OutOfMemory →
    PushesDevice old device answer new → PushesDevice old device other newer → (answer ≡ other) × (new ≡ newer)
pushes_once old new newer device (Ok u) (Ok v) m n p q = (refl, p.0 ∙ sym q.0)
pushes_once old new newer device (Ok u) (Err (Violated c)) m n p q = absurd (q.2 (subst HaveAscendingIds p.0 p.1))
pushes_once old new newer device (Err (Violated c)) (Ok u) m n p q = absurd (p.2 (subst HaveAscendingIds q.0 q.1))
pushes_once old new newer device (Err (Violated c)) (Err (Violated d)) m n p q =
    (ap (λ (v : Condition). Err (Violated v)) (p.0 ∙ sym q.0), p.1 ∙ sym q.1)
pushes_once old new newer device (Err OutOfMemory) other m n p q = absurd (m refl)
pushes_once old new newer device answer (Err OutOfMemory) m n p q = absurd (n refl)

-- A push that is out of memory changes nothing, and is in order.
push_refused : (old new newer : List DeviceSlot) (device : DeviceSlot) (other : Result (Unit {0}) SavedError) →
    PushesDevice old device (Err OutOfMemory) new → PushesDevice old device other newer →
    (new ≡ old) × ((other ≡ Ok tt) ⊎ (other ≡ Err OutOfMemory))
push_refused old new newer device (Ok u) p q = (p.0, inl refl)
push_refused old new newer device (Err (Violated c)) p q = absurd (q.2 p.1)
push_refused old new newer device (Err OutOfMemory) p q = (p.0, inr refl)

-- Parts make one manager or one error, unless memory runs out.
makes_once : (version : ℕ) (ids : IdState) (space : AddressState) (devices : List DeviceSlot)
    (answer other : Result DeviceState SavedError) → answer ≢ Err OutOfMemory → other ≢ Err OutOfMemory →
    MakesOfDevices version ids space devices answer → MakesOfDevices version ids space devices other → answer ≡ other
makes_once version ids space devices (Ok s) (Ok t) m n p q = ap (λ (v : DeviceState). Ok v) (p.2 ∙ sym q.2)
makes_once version ids space devices (Ok s) (Err (Violated c)) m n p (inl q) = absurd (q.1.1 p.1)
makes_once version ids space devices (Ok s) (Err (Violated c)) m n p (inr q) = absurd (q.0 p.0)
makes_once version ids space devices (Err (Violated c)) (Ok s) m n (inl p) q = absurd (p.1.1 q.1)
makes_once version ids space devices (Err (Violated c)) (Ok s) m n (inr p) q = absurd (p.0 q.0)
makes_once version ids space devices (Err (Violated c)) (Err (Violated d)) m n (inl p) (inl q) =
    ap (λ (v : Condition). Err (Violated v)) (p.1.0 ∙ sym q.1.0)
makes_once version ids space devices (Err (Violated c)) (Err (Violated d)) m n (inl p) (inr q) = absurd (q.0 p.0)
makes_once version ids space devices (Err (Violated c)) (Err (Violated d)) m n (inr p) (inl q) = absurd (p.0 q.0)
makes_once version ids space devices (Err (Violated c)) (Err (Violated d)) m n (inr p) (inr q) =
    ap (λ (v : Condition). Err (Violated v)) (p.1 ∙ sym q.1)
makes_once version ids space devices (Err OutOfMemory) other m n p q = absurd (m refl)
makes_once version ids space devices answer (Err OutOfMemory) m n p q = absurd (n refl)

-- The parts decide the result of a push and of the manager that is made of them, unless memory runs out.
pub parts_decide : PartsDecideManagers
parts_decide = record {
  pushed = pushes_once;
  refused = push_refused;
  made = makes_once;
  version = λ version ids space devices made. made;
}

-- Managers are equal if and only if their parts are.
pub equal_parts : EqualManagersHaveEqualParts
equal_parts a b = (
  λ e. (ap (λ (v : DeviceState). v.ids) e, ap (λ (v : DeviceState). v.space) e, ap device_list e),
  λ e.
      let listed : listed_state a.ids a.space (device_list a)
      ≡ listed_state b.ids b.space (device_list b) = λ k. listed_state (e.0 k) (e.1 k) (e.2 k) in
      sym (same_state a) ∙ listed ∙ same_state b,
)

pub ruleset written = (parts_read, parts_decide, equal_parts)

pub ruleset spaces = (one_state, equal_states)

-- ---- Lists of entries
-- Entries that compare as Equal are equal.
entry_cmp-exact : (x y : ℕ × Range) → entry_cmp x y ≡ Equal → x ≡ y
entry_cmp-exact x y h =
    let p = both_equal _ _ h in
    let id = nat_cmp-IsAntisymmetric x.0 y.0 p.0 in
    let range = range_cmp-exact x.1 y.1 p.1 in
    λ i. (id i, range i)

-- ---- States
-- The order returns Equal if and only if both states are the same.
device_state_cmp-Equal : (a b : DeviceState) → IsDeviceState a → IsDeviceState b → (device_state_cmp a b ≡ Equal) ↔ (a ≡ b)
device_state_cmp-Equal a b s t = (
  λ h.
      let p = both_equal _ _ h in
      let q = both_equal _ _ p.1 in
      let ids = (id_state_cmp-Equal a.ids b.ids s.ids t.ids).0 p.0 in
      let space = one_state a.space b.space ((state_cmp-Equal a.space b.space).0 q.0) in
      let devices = map.same_entries_map a.devices b.devices
      (slice_cmp-IsAntisymmetric entry_cmp-exact (map.entries a.devices) (map.entries b.devices) q.1) in
      λ i. record { ids = ids i; space = space i; devices = devices i },
  λ e. ap (device_state_cmp a) (sym e) ∙ tied_itself device_state_cmp-total a,
)

-- A test of equality of valid states agrees with the order.
pub tested_by_order : (a b : DeviceState) (r : Bool) → IsDeviceState a → IsDeviceState b → IsTrue r ↔ (a ≡ b) →
    r ≡ eq_by_cmp device_state_cmp a b
tested_by_order a b r s t h =
    let k = device_state_cmp-Equal a b s t in
    same_from_decides r (is_eq (device_state_cmp a b)) h
    (λ v. k.0 ((Equal-is (device_state_cmp a b)).0 v), λ e. (Equal-is (device_state_cmp a b)).1 (k.1 e))

-- With equal allocators, the devices decide.
pub tested : (s t : DeviceState) (r : Bool) → HaveSameAllocators s t → IsTrue r ↔ (device_list s ≡ device_list t) → IsTrue r ↔ (s ≡ t)
tested s t r h k = (λ v. (equal_parts s t).1 (h.0, h.1, k.0 v), λ e. k.1 (ap device_list e))
