-- Devices start at different addresses, and a new device starts at none of them. The device at an address is found by a start.
use Rattle.std.proofs.Common.{◌≡◌, ℕ, refl, sym, ap, ◌∙◌, subst, Option, Some, None, IsSome, Ok, ◌↔◌, option_map}
use Rattle.std.specs.FinMap as map
use Rattle.vm_ranges.proofs.Steps.{map_some}
use Rattle.vm_ranges.specs.Range.{Range, IsIn}
use Rattle.vm_ranges.specs.Request.{Request}
use Rattle.vm_ranges.specs.Address.{AddressState}
use Rattle.vm_ranges.specs.Answer.{Allocates}
use Rattle.vm_ids.specs.Ids.{IsNotHeld}
use Rattle.vm_addresses.proofs.Callers.{one_start, start_was_free}
use Rattle.vm_devices.specs.Devices.{DeviceState, IsDevice, IsDeviceState}
use Rattle.vm_devices.proofs.Tables.{absent}
use Rattle.vm_devices.specs.Checks.{IsOnlyStart, StartsAt}
use Rattle.vm_addresses.specs.Queries.{IsHeldAt}
use Rattle.vm_devices.specs.Queries.{DeviceAt}

-- Devices with the same start are the same device.
pub devices_start_apart : (state : DeviceState) (j k : ℕ) (q r : Range) → IsDeviceState state → IsDevice state j q → IsDevice state k r →
    q.start ≡ r.start → j ≡ k
devices_start_apart state j k q r i a b e =
    i.pairs.once j k r (a ∙ ap Some (one_start state.space i.space q r (i.pairs.held j q a) (i.pairs.held k r b) e)) b

-- An id that is not held has no device.
pub no_device_of : (old : DeviceState) (id : ℕ) → IsDeviceState old → IsNotHeld old.ids id → map.get old.devices id ≡ None
no_device_of old id i n = absent (map.get old.devices id) (λ q e. n.1 ((i.pairs.ids id).1 (subst IsSome (sym e) refl)))

-- No device starts where a new range starts.
pub new_start : (old : DeviceState) (mid : AddressState) (request : Request) (id : ℕ) (r : Range) → IsDeviceState old →
    Allocates old.space request (Ok r) mid → IsOnlyStart old.devices id r.start
new_start old mid request id r i a other h =
    let f = map_some (λ (q : Range). q.start) (map.get old.devices other) r.start h in
    absurd (start_was_free old.space mid request f.0 r i.space a (i.pairs.held other f.0 f.1) f.2)

-- No held range contains the address.
pub no_range_at : (state : DeviceState) (x : ℕ) → IsDeviceState state → IsHeldAt state.space x None → DeviceAt state x None
unfolding DeviceAt
no_range_at state x i none = λ id r d. let c = i.pairs.held id r d in subst (λ (v : Range). ¬ IsIn v x) c.2 (none c.0 r c.1)

-- A held range contains the address, and these ids are found at its start: exactly that of its device.
module _ {state : DeviceState} {x : ℕ} {r : Range} (i : IsDeviceState state) (held : IsHeldAt state.space x (Some r)) (at : Option ℕ)
    (ids : (id : ℕ) → (at ≡ Some id) ↔ StartsAt state.devices id r.start) where
  owner : (id : ℕ) × IsDevice state id r
  owner = i.pairs.owned r held.0

  -- The id that is found at the start is that of the device.
  pub device_found : (id : ℕ) → at ≡ Some id → DeviceAt state x (Some (record { id = id; range = r }))
  unfolding DeviceAt
  device_found id e =
      let f = map_some (λ (q : Range). q.start) (map.get state.devices id) r.start ((ids id).0 e) in
      (subst (λ (v : ℕ). IsDevice state v r) (devices_start_apart state owner.0 id r f.0 i owner.1 f.1 (sym f.2)) owner.1, held.1)

  -- An id is found at the start of a held range.
  pub device_missed : ¬ (at ≡ None)
  device_missed e = let some = (ids owner.0).1 (ap (option_map (λ (q : Range). q.start)) owner.1) in absurd (cc (e, some))

pub ruleset found = (no_range_at)
