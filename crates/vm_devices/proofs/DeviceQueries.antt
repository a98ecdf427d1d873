-- The devices as a list, and the device at an address.
use Rattle.std.proofs.Common.{◌≡◌, List, map as map_list, sym, ap, ◌∙◌, subst, Some, None}
use Rattle.std.proofs.lemmas.List.{length-map}
use Rattle.std.proofs.lemmas.Simd.{map-map}
use Rattle.std.specs.List.{Contains}
use Rattle.std.specs.FinMap as map
use Rattle.vm_ranges.proofs.NumberSets.{same_test}
use Rattle.vm_ranges.specs.Range.{Range, Overlaps}
use Rattle.vm_addresses.proofs.Results.AddressResults.{lie_apart}
use Rattle.vm_ids.specs.Ids.{held_ids}
use Rattle.vm_ids.proofs.Ids.HeldIds.{listed_held, in_held_ids}
use Rattle.vm_ids.proofs.Ids.RisingIds.{keys_rise, same_rising}
use Rattle.vm_devices.specs.declared.device_slot.DeviceSlot.{DeviceSlot}
use Rattle.vm_devices.specs.Devices.{DeviceState, IsDeviceState}
use Rattle.vm_devices.specs.Laws.{DevicesAreListed, DeviceIsAtItsAddresses}
use Rattle.vm_devices.specs.Queries.{device_of, device_list, DeviceAt}
use Rattle.vm_devices.proofs.Entries.{all_counted, has_range, range_had}

-- ---- The list
-- The ids of the listed devices are the held ids.
listed_ids : (state : DeviceState) → IsDeviceState state →
    map_list (λ (device : DeviceSlot). device.id) (device_list state) ≡ held_ids state.ids
listed_ids state i =
    map-map (λ (device : DeviceSlot). device.id) device_of (map.entries state.devices)
    ∙ same_rising (map.keys state.devices) (held_ids state.ids) (keys_rise state.devices) (listed_held.ascending state.ids) (λ q.
    same_test _ _
    (λ t. in_held_ids state.ids i.ids q ∙ (i.pairs.ids q).1 (map.contains_key-keys state.devices q ∙ t))
    (λ t. sym (map.contains_key-keys state.devices q) ∙ (i.pairs.ids q).0 (sym (in_held_ids state.ids i.ids q) ∙ t)))

-- The list has the held ids in their order, and exactly the held ranges.
pub devices_listed : DevicesAreListed
devices_listed = record {
  ids = listed_ids;
  ranges = λ state r i. (
    λ c. let d = range_had state.devices r
        (subst (λ (rs : List Range). Contains rs r) (map-map (λ (device : DeviceSlot). device.range) device_of (map.entries state.devices)) c)
        in i.pairs.held d.0 r d.1,
    λ c.
        let d = i.pairs.owned r c in
        subst (λ (rs : List Range). Contains rs r)
        (sym (map-map (λ (device : DeviceSlot). device.range) device_of (map.entries state.devices))) (has_range state.devices d.0 r d.1),
  );
  counted = λ state i.
      let all = all_counted state i.space i.pairs in
      (length-map (map.entries state.devices) device_of ∙ sym (map.len-entries state.devices), all.ids_counted, all.ranges_counted);
}

-- ---- An address
-- A device is found at each of its addresses.
pub at_its_addresses : DeviceIsAtItsAddresses
unfolding DeviceAt Overlaps
at_its_addresses state id r x None i d at none = absurd (none id r d at)
at_its_addresses state id r x (Some other) i d at found =
    let mine = i.pairs.held id r d in
    let its = i.pairs.held other.id other.range found.0 in
    let range : other.range ≡ r = (lie_apart state.space i.space).apart other.range r its mine (x, found.1, at) in
    let same : other.id ≡ id = i.pairs.once other.id id r (found.0 ∙ ap Some range) d in
    λ k. Some (record { id = same k; range = range k })

pub ruleset queries = (devices_listed, at_its_addresses)
