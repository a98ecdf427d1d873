-- The devices of a manager as a list, the device at an address, and the order of states.
use Rattle.std.specs.Prelude.{ℕ, List, map as map_list, Option, MatchOption, nat_le, ◌&&◌}
use Rattle.std.specs.declared.cmp.Ordering.{Ordering}
use Rattle.std.specs.List.{filter}
use Rattle.std.specs.Ordering.{nat_cmp, on, then_cmp}
use Rattle.std.specs.Cmp.{IsTotalOrder}
use Rattle.std.specs.Cmp.Lexicographic.{slice_cmp}
use Rattle.std.proofs.lemmas.Cmp.{lists_total, then_total, on_total, nat_cmp_total}
use Rattle.std.specs.FinMap as map
use Rattle.vm_ranges.specs.Range.{Range, IsIn}
use Rattle.vm_ranges.specs.RangeOrder.{range_cmp, range_cmp-total}
use Rattle.vm_addresses.specs.Comparison.{state_cmp, state_cmp-total}
use Rattle.vm_ids.specs.IdOrder.{id_state_cmp, id_state_cmp-total}
use Rattle.vm_devices.specs.declared.device_slot.DeviceSlot.{DeviceSlot}
use Rattle.vm_devices.specs.Devices.{DeviceState, IsDevice}

-- The device with this id and this range.
abbrev pub device_of : ℕ × Range → DeviceSlot
device_of entry = record { id = entry.0; range = entry.1 }

-- The id and the range of a device, as a pair.
abbrev pub entry_of : DeviceSlot → ℕ × Range
entry_of device = (device.id, device.range)

-- The devices, by ascending ids.
abbrev pub device_list : DeviceState → List DeviceSlot
device_list state = map_list device_of (map.entries state.devices)

-- The devices with ids from `first` to `last`, by ascending ids.
abbrev pub device_list_in : ℕ → ℕ → DeviceState → List DeviceSlot
device_list_in first last state = filter (λ d. nat_le first d.id && nat_le d.id last) (device_list state)

-- The number of devices.
abbrev pub device_count : DeviceState → ℕ
device_count state = map.len state.devices

-- The result of `device_at`: the device whose range contains the address, or None if no device has the address.
unfoldable pub DeviceAt : DeviceState → ℕ → Option DeviceSlot → Type 0
DeviceAt state address answer =
    MatchOption answer
    ((id : ℕ) (r : Range) → IsDevice state id r → ¬ IsIn r address)
    (λ device. IsDevice state device.id device.range × IsIn device.range address)

-- The order of entries: by id, then by range.
abbrev pub entry_cmp : ℕ × Range → ℕ × Range → Ordering
entry_cmp = then_cmp (on (λ e. e.0) nat_cmp) (on (λ e. e.1) range_cmp)

-- The order of states: by ids, then by space, then by devices. Only equality uses it.
abbrev pub device_state_cmp : DeviceState → DeviceState → Ordering
device_state_cmp =
    then_cmp (on (λ s. s.ids) id_state_cmp) (
    then_cmp (on (λ s. s.space) state_cmp) (on (λ s. map.entries s.devices) (slice_cmp entry_cmp)))

-- The order of entries is total.
pub entry_cmp-total : IsTotalOrder entry_cmp
entry_cmp-total =
    then_total (on_total (λ (e : ℕ × Range). e.0) nat_cmp_total) (on_total (λ (e : ℕ × Range). e.1) range_cmp-total)

-- The order of states is total.
pub device_state_cmp-total : IsTotalOrder device_state_cmp
device_state_cmp-total =
    then_total (on_total (λ (s : DeviceState). s.ids) id_state_cmp-total) (
    then_total (on_total (λ (s : DeviceState). s.space) state_cmp-total)
    (on_total (λ (s : DeviceState). map.entries s.devices) (lists_total entry_cmp-total)))
