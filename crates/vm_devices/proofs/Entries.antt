-- The entries of a map of ids to ranges. Devices pair all held ids with all held ranges if their number is right, each is
-- held, and no two have the same range.
use Rattle.std.proofs.Common.{
  ◌≡◌,
  ◌≢◌,
  ℕ,
  ◌<◌,
  cond,
  List,
  [],
  ◌∷◌,
  length,
  get_or,
  map as map_list,
  refl,
  sym,
  ap,
  ◌∙◌,
  arith,
  Some,
  IsSome,
  ◌↔◌,
  subst,
  Option,
  None,
}
use Rattle.std.proofs.lemmas.Cmp.{eq_by_cmp_equiv}
use Rattle.std.proofs.lemmas.Simd.{map-map}
use Rattle.std.proofs.lemmas.List.{map-id, get_or-map, length-map}
use Rattle.std.proofs.lemmas.List.Elements.{Contains-get_or, All-map}
use Rattle.std.proofs.lemmas.Map.Keys.{IsDistinct-from_sorted, below_from_sorted}
use Rattle.std.proofs.lemmas.Map.Lookups.{exact_unsigned}
use Rattle.std.proofs.lemmas.Map.Made.{Contains-values_of, Contains-from_values_of}
use Rattle.std.proofs.lemmas.Map.Views.{tells_apart, Contains-from_any, list_any-from_Contains, Contains-from_lookup, lookup-from_Contains}
use Rattle.std.specs.Cmp.{nat_cmp_total}
use Rattle.std.specs.List.{AllPairs, Contains}
use Rattle.std.specs.Map.{lookup}
use Rattle.std.specs.Ordering.{nat_cmp, eq_by_cmp}
use Rattle.std.specs.FinMap as map
use Rattle.vm_ranges.specs.Range.{Range}
use Rattle.vm_ids.proofs.Ids.RisingIds.{keys_rise, entries_of_sorted}
use Rattle.vm_addresses.proofs.Callers.{ranges_listed}
use Rattle.vm_ids.proofs.Ids.IdCounts.{ids_listed}
use Rattle.vm_devices.specs.Queries.{device_of, entry_of}
use Rattle.vm_ranges.specs.Address.{AddressState, IsAddressState}
use Rattle.vm_ids.specs.Ids.{IdState, IsHeld, held_count}
use Rattle.vm_devices.specs.Devices.{DeviceState, ArePaired}

-- The value of a key in a list of entries is that of the first entry with this key.
found : (q : ℕ) (es : List (ℕ × Range)) → map.find nat_cmp q es ≡ lookup (eq_by_cmp nat_cmp q) es
found q [] = refl
found q (e ∷ es) = ap (cond (eq_by_cmp nat_cmp q e.0) (Some e.1)) (found q es)

-- A map is made of its entries again.
pub whole_map : (m : map.FinMap nat_cmp Range) → map.from_entries (map.entries m) ≡ m
whole_map m = map.same_entries_map _ _ (entries_of_sorted (map.entries m) (keys_rise m))

-- Entries that are made devices are made the same entries again.
pub entries_again : (es : List (ℕ × Range)) → map_list entry_of (map_list device_of es) ≡ es
entries_again es = map-map entry_of device_of es ∙ map-id es

module _ (m : map.FinMap nat_cmp Range) where
  -- A key has a value if and only if the map has their entry.
  pub entry_got : (id : ℕ) (r : Range) → map.get m id ≡ Some r → Contains (map.entries m) (id, r)
  entry_got id r d = Contains-from_lookup (tells_apart exact_unsigned) id r (map.entries m)
      (sym (map.get-entries m id ∙ found id (map.entries m)) ∙ d)

  pub got_entry : (id : ℕ) (r : Range) → Contains (map.entries m) (id, r) → map.get m id ≡ Some r
  got_entry id r c =
      map.get-entries m id
      ∙ found id (map.entries m)
      ∙ lookup-from_Contains (eq_by_cmp_equiv nat_cmp_total) id r (map.entries m)
      (IsDistinct-from_sorted nat_cmp (map.keys m) (keys_rise m)) c

  -- The key of the entry at an index has the value of this entry.
  pub entry_at : (k : ℕ) (e : ℕ × Range) → k < length (map.entries m) →
      map.get m (get_or (map.entries m) k e).0 ≡ Some (get_or (map.entries m) k e).1
  entry_at k e l = got_entry _ _ (Contains-get_or (map.entries m) k e l)

  -- The ids and the ranges, as lists.
  pub has_id : (id : ℕ) → IsSome (map.get m id) → Contains (map.keys m) id
  has_id id h = Contains-from_any (tells_apart exact_unsigned) id (map.keys m) (sym (map.contains_key-keys m id) ∙ h)

  -- A key has a value.
  pub id_had : (id : ℕ) → Contains (map.keys m) id → IsSome (map.get m id)
  id_had id c = map.contains_key-keys m id ∙ list_any-from_Contains (eq_by_cmp_equiv nat_cmp_total) id (map.keys m) c

  -- The values of the map are those of its keys.
  pub has_range : (id : ℕ) (r : Range) → map.get m id ≡ Some r → Contains (map.values m) r
  has_range id r d = Contains-values_of (map.entries m) id r (entry_got id r d)

  pub range_had : (r : Range) → Contains (map.values m) r → (id : ℕ) × (map.get m id ≡ Some r)
  range_had r c = let e = Contains-from_values_of (map.entries m) r c in (e.0, got_entry e.0 r e.1)

  -- No key is in the map twice.
  pub ids_differ : AllPairs (λ i j. i ≢ j) (map.keys m)
  ids_differ i j d l k same = omega (arith, below_from_sorted (map.keys m) i j d (keys_rise m) l k, same)

  -- If no two ids have the same range, the ranges are different.
  pub ranges_differ : ((i j : ℕ) (r : Range) → map.get m i ≡ Some r → map.get m j ≡ Some r → i ≡ j) → AllPairs (λ r s. r ≢ s) (map.values m)
  ranges_differ once i j r l k same =
      let es = map.entries m in
      let long : j < length es = omega (arith, k, length-map es (λ (e : ℕ × Range). e.1)) in
      let range = λ (n : ℕ) (b : n < length es). get_or-map (λ (e : ℕ × Range). e.1) es n (0, r) r b in
      let id = λ (n : ℕ) (b : n < length es). get_or-map (λ (e : ℕ × Range). e.0) es n (0, r) 0 b in
      let one = sym (range i (omega arith)) ∙ same ∙ range j long in
      let tie = once _ _ _ (entry_at i (0, r) (omega arith) ∙ ap Some one) (entry_at j (0, r) long) in
      let below = below_from_sorted (map.keys m) i j 0 (keys_rise m) l (omega (arith, long, length-map es (λ (e : ℕ × Range). e.0))) in
      omega (arith, below, id i (omega arith), id j long, tie)

-- The id and the range of each device are held, and no two devices have the same range.
pub record AreHeld (ids : IdState) (space : AddressState) (m : map.FinMap nat_cmp Range) : Type 0 where
  pub held : (id : ℕ) (r : Range) → map.get m id ≡ Some r → IsHeld ids id × Contains space.held r
  pub once : (i j : ℕ) (r : Range) → map.get m i ≡ Some r → map.get m j ≡ Some r → i ≡ j

-- The number of devices is the number of held ids and of held ranges.
pub record AreCounted (ids : IdState) (space : AddressState) (m : map.FinMap nat_cmp Range) : Type 0 where
  pub ids_counted : map.len m ≡ held_count ids
  pub ranges_counted : map.len m ≡ length space.held

-- An option that has a value has some value.
pub some_range : (o : Option Range) → IsSome o → (r : Range) × (o ≡ Some r)
some_range None h = absurd (cc (h))
some_range (Some r) h = (r, refl)

module _ (state : DeviceState) (i : IsAddressState state.space) where
  module _ (h : AreHeld state.ids state.space state.devices) where
    -- There are as many devices as held ids if and only if each held id has a device.
    counted_ids : (length (map.keys state.devices) ≡ held_count state.ids)
        ↔ ((id : ℕ) → IsHeld state.ids id → Contains (map.keys state.devices) id)
    counted_ids =
        ids_listed state.ids (map.keys state.devices) (ids_differ state.devices)
        (All-map (IsHeld state.ids) (λ (e : ℕ × Range). e.0) (map.entries state.devices)
        (λ k e l. (h.held _ _ (entry_at state.devices k e l)).0))

    -- There are as many devices as held ranges if and only if each held range has a device.
    counted_ranges : (length (map.values state.devices) ≡ length state.space.held)
        ↔ ((r : Range) → Contains state.space.held r → Contains (map.values state.devices) r)
    counted_ranges =
        ranges_listed state.space (map.values state.devices) i (ranges_differ state.devices h.once)
        (All-map (Contains state.space.held) (λ (e : ℕ × Range). e.1) (map.entries state.devices)
        (λ k e l. (h.held _ _ (entry_at state.devices k e l)).1))

    -- If the number of held devices is right, they pair all ids with all ranges.
    pub pairs_all : AreCounted state.ids state.space state.devices → ArePaired state
    pairs_all a =
        let m = state.devices in
        let each_id = counted_ids.0 (length-map (map.entries m) (λ (e : ℕ × Range). e.0) ∙ sym (map.len-entries m) ∙ a.ids_counted) in
        let each_range = counted_ranges.0
        (length-map (map.entries m) (λ (e : ℕ × Range). e.1) ∙ sym (map.len-entries m) ∙ a.ranges_counted) in
        record {
          ids = λ id. (λ k. id_had m id (each_id id k), λ k. let d = some_range (map.get m id) k in (h.held id d.0 d.1).0);
          held = λ id r d. (h.held id r d).1;
          owned = λ r c. range_had m r (each_range r c);
          once = h.once;
        }

  -- Paired devices are held.
  pub all_held : ArePaired state → AreHeld state.ids state.space state.devices
  all_held p = record { held = λ id r d. ((p.ids id).1 (subst IsSome (sym d) refl), p.held id r d); once = p.once }

  -- Paired devices are as many as the held ids and ranges.
  pub all_counted : ArePaired state → AreCounted state.ids state.space state.devices
  all_counted p =
      let m = state.devices in
      record {
        ids_counted = map.len-entries m ∙ sym (length-map (map.entries m) (λ (e : ℕ × Range). e.0))
            ∙ (counted_ids (all_held p)).1 (λ id h. has_id m id ((p.ids id).0 h));
        ranges_counted = map.len-entries m ∙ sym (length-map (map.entries m) (λ (e : ℕ × Range). e.1)) ∙ (counted_ranges (all_held p)).1
            (λ r h. let d = p.owned r h in has_range m d.0 r d.1);
      }
