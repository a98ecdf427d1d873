-- The tables of the devices by id and by start, and a part of equality. Only private functions cite these definitions.
use Rattle.std.specs.Prelude.{◌≡◌, ◌↔◌, ℕ, List, Option, Some, option_map}
use Rattle.std.specs.Ordering.{nat_cmp}
use Rattle.std.specs.FinMap as map
use Rattle.vm_ranges.specs.Range.{Range}
use Rattle.vm_list.specs.Entries.{entry_at}
use Rattle.vm_devices.specs.declared.device_manager.device_table.DeviceStart.{DeviceStart}
use Rattle.vm_devices.specs.Devices.{DeviceState}

-- The device with this id has a range that starts at `start`.
abbrev pub StartsAt : map.FinMap nat_cmp Range → ℕ → ℕ → Type 0
StartsAt devices id start = option_map (λ r. r.start) (map.get devices id) ≡ Some start

-- The id of the entry with this start.
abbrev pub id_at : ℕ → List DeviceStart → Option ℕ
id_at start starts = option_map (λ s. s.id) (entry_at (λ s. s.start) start starts)

-- The ids are those of the devices, by the starts of their ranges.
pub record AreIdsByStart (devices : map.FinMap nat_cmp Range) (starts : List DeviceStart) : Type 0 where
  pub at : (start id : ℕ) → (id_at start starts ≡ Some id) ↔ StartsAt devices id start

-- No range of another device starts at `start`.
abbrev pub IsOnlyStart : map.FinMap nat_cmp Range → ℕ → ℕ → Type 0
IsOnlyStart devices id start = (other : ℕ) → StartsAt devices other start → other ≡ id

-- The managers have equal allocators.
abbrev pub HaveSameAllocators : DeviceState → DeviceState → Type 0
HaveSameAllocators a b = (a.ids ≡ b.ids) × (a.space ≡ b.space)
