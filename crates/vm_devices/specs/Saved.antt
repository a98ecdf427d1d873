-- The saved value of a manager of devices.
use Rattle.std.specs.Prelude.{◌≡◌, ℕ, ◌≤◌, List, Some, Result, Ok, Err, codes}
use Rattle.std.specs.List.Sorted.{IsStrictlySortedBy}
use Rattle.std.specs.Map.{keys_of}
use Rattle.std.specs.Ordering.{nat_cmp}
use Rattle.std.specs.FinMap as map
use Rattle.serde_json.specs.Data.{Data}
use Rattle.vm_ranges.specs.Fields.{field_count, FieldIs}
use Rattle.vm_ranges.specs.Lists.{EncodesListOf}
use Rattle.vm_ranges.specs.Numbers.{number_in}
use Rattle.vm_ranges.specs.Range.{Range}
use Rattle.vm_ids.specs.Ids.{MAX_ID}
use Rattle.vm_ranges.specs.RangeValues.{EncodesRange}
use Rattle.vm_addresses.specs.Values.AllocatorValues.{EncodesAddresses}
use Rattle.vm_ids.specs.Values.IdValues.{EncodesIds}
use Rattle.vm_ranges.specs.declared.saved.ValueError.{ValueError}
use Rattle.vm_ranges.specs.declared.saved.ValueError.TheVariants.{NotAState, OutOfMemory}
use Rattle.vm_devices.specs.Devices.{DeviceState, ArePaired}

-- The value is an object with exactly an id and a range, those of the device.
pub record EncodesDevice (d : Data) (device : ℕ × Range) : Type 0 where
  pub two_fields : field_count d ≡ Some 2
  pub id : number_in (codes "id") d ≡ Some device.0
  pub word : device.0 ≤ MAX_ID
  pub mmio_range : FieldIs (codes "mmio_range") d (λ v. EncodesRange v device.1)

-- The value is the list of these devices.
abbrev pub EncodesList : Data → List (ℕ × Range) → Type 0
EncodesList d es = EncodesListOf EncodesDevice d es

-- The value is an object with exactly a version, the two allocators and the devices. The version is 1. The ids of the
-- devices are strictly ascending, and the devices pair the held ids with the held ranges.
pub record EncodesManager (d : Data) (state : DeviceState) : Type 0 where
  pub four_fields : field_count d ≡ Some 4
  pub version : number_in (codes "version") d ≡ Some 1
  pub id_allocator : FieldIs (codes "id_allocator") d (λ v. EncodesIds v state.ids)
  pub mmio_allocator : FieldIs (codes "mmio_allocator") d (λ v. EncodesAddresses v state.space)
  pub listed : List (ℕ × Range)
  pub slots : FieldIs (codes "slots") d (λ v. EncodesList v listed)
  pub ascending : IsStrictlySortedBy nat_cmp (keys_of listed)
  pub devices : state.devices ≡ map.from_entries listed
  pub pairs : ArePaired state

-- The result of reading a value in parts: the object that it encodes, or NotAState if it encodes none. OutOfMemory is
-- possible for every value, because its parts are read one after the other.
abbrev pub ReadsInParts : {X : Type 0} → (X → Type 0) → Result X ValueError → Type 0
ReadsInParts States (Ok x) = States x
ReadsInParts {X} States (Err NotAState) = ¬ ((x : X) × States x)
ReadsInParts States (Err OutOfMemory) = Unit {0}
