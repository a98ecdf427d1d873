-- Devices that are entered in a table one by one: the table of all of them pairs the held ids with the held ranges, and a
-- device that is not entered shows that they do not.
use Rattle.std.proofs.Common.{
  ◌≡◌,
  ℕ,
  ◌+◌,
  ◌<◌,
  ◌≤◌,
  ◌↔◌,
  List,
  [],
  ◌∷◌,
  ◌++◌,
  length,
  get_or,
  take,
  drop,
  refl,
  sym,
  ap,
  ◌∙◌,
  subst,
  arith,
  Option,
  Some,
  None,
  Bool,
  true,
  false,
  is_some,
  not,
}
use Rattle.std.proofs.lemmas.Grind.{common_steps}
use Rattle.std.proofs.lemmas.List.{length-map, get_or-map, map-append, take_more, take_all, take-append-drop, length-take-le}
use Rattle.std.proofs.lemmas.List.Elements.{Contains-get_or}
use Rattle.std.proofs.lemmas.Map.Keys.{below_from_sorted}
use Rattle.std.specs.Cmp.{nat_cmp_total}
use Rattle.std.specs.List.{Contains}
use Rattle.std.specs.Ordering.{nat_cmp}
use Rattle.std.specs.FinMap as map
use Rattle.vm_ranges.proofs.Steps.{map_some}
use Rattle.vm_ranges.specs.Cases.{IsTestOf}
use Rattle.vm_ranges.specs.Range.{Range}
use Rattle.vm_ranges.specs.Address.{AddressState, IsAddressState}
use Rattle.vm_addresses.proofs.Callers.{one_start}
use Rattle.vm_ids.specs.Ids.{IdState, IsHeld, held_count}
use Rattle.vm_ids.proofs.Ids.RisingIds.{entries_of_sorted}
use Rattle.vm_devices.specs.declared.device_slot.DeviceSlot.{DeviceSlot}
use Rattle.vm_devices.specs.Checks.{StartsAt, IsOnlyStart}
use Rattle.vm_devices.specs.Listed.{entries_of, HaveAscendingIds, listed_state, AreDevicesOf}
use Rattle.vm_devices.specs.Queries.{entry_of}
use Rattle.vm_devices.specs.SavedChecks.{CanBeInserted}
use Rattle.vm_devices.proofs.Entries.{AreHeld, pairs_all, all_held, all_counted, entry_got, got_entry}
use Rattle.vm_devices.proofs.AscendingIds.{ids_of, front_ascends, id_at, ids_long}
use Rattle.vm_devices.proofs.Tables.{absent, get_with}

-- A device that is held can be inserted if and only if no id is found at its start.
pub start_tested : (ids : IdState) (space : AddressState) (table : map.FinMap nat_cmp Range) (d : DeviceSlot) (new : Bool)
    (found : Option ℕ) → is_some found ≡ not new →
    IsHeld ids d.id → Contains space.held d.range → ((id : ℕ) → (found ≡ Some id) ↔ StartsAt table id d.range.start) →
    IsTestOf new (CanBeInserted ids space table d)
start_tested ids space table d true None e i r h = record
    { id_is_held = i; range_is_held = r; start_is_new = λ id s. absurd (cc ((h id).1 s)) }
start_tested ids space table d true (Some j) e i r h = absurd (cc (e))
start_tested ids space table d false None e i r h = absurd (cc (e))
start_tested ids space table d false (Some j) e i r h = λ can. can.start_is_new j ((h j).0 refl)

-- ---- The table of a list of devices
abbrev table_of : List DeviceSlot → map.FinMap nat_cmp Range
table_of ds = map.from_entries (entries_of ds)

module _ (ds : List DeviceSlot) (s : HaveAscendingIds ds) where
  -- The table of devices in order has their entries.
  entries_are : map.entries (table_of ds) ≡ entries_of ds
  entries_are = entries_of_sorted (entries_of ds) s

  -- The table has as many devices as the list.
  table_long : map.len (table_of ds) ≡ length ds
  table_long = map.len-entries (table_of ds) ∙ ap (λ (es : List (ℕ × Range)). length es) entries_are ∙ length-map ds entry_of

  -- Each device of the list is in the table, and each device of the table is in the list.
  placed : (k : ℕ) (d : DeviceSlot) → k < length ds → map.get (table_of ds) (get_or ds k d).id ≡ Some (get_or ds k d).range
  placed k d l =
      let at = get_or-map entry_of ds k d (entry_of d) l in
      let c = Contains-get_or (entries_of ds) k (entry_of d) (omega (arith, l, length-map ds entry_of)) in
      got_entry (table_of ds) _ _ (rw entries_are (subst (Contains (entries_of ds)) at c))

  -- A device of the table has an index in the list.
  place_of : (id : ℕ) (r : Range) → map.get (table_of ds) id ≡ Some r →
      (k : ℕ) × (k < length ds) × (get_or ds k (record { id = id; range = r }) ≡ record { id = id; range = r })
  place_of id r h =
      let d : DeviceSlot = record { id = id; range = r } in
      let c = rw entries_are at (entry_got (table_of ds) id r h) in
      let l : c.0 < length ds = omega (arith, c.1, length-map ds entry_of) in
      let e = sym (get_or-map entry_of ds c.0 d (entry_of d) l) ∙ c.2 in
      (c.0, l, λ i. record { id = (e i).0; range = (e i).1 })

module _ (ids : IdState) (space : AddressState) (ds : List DeviceSlot) where
  -- The devices so far are those of the table. They are held, and no two have the same range.
  pub record ArePairedSoFar (i : ℕ) (table : map.FinMap nat_cmp Range) : Type 0 where
    pub table_is : table ≡ table_of (take i ds)
    pub held : AreHeld ids space table

  -- An empty table has no device of the list.
  pub none_so_far : (table : map.FinMap nat_cmp Range) → table ≡ map.empty → ArePairedSoFar 0 table
  none_so_far table e = record {
    table_is = e;
    held = record {
      held = λ id r h. let none = map.get-empty {X = Range} nat_cmp id in absurd (cc (e, none, h));
      once = λ j k r h l. let none = map.get-empty {X = Range} nat_cmp j in absurd (cc (e, none, h));
    };
  }

module _ (ids : IdState) (space : AddressState) (ds : List DeviceSlot) (s : HaveAscendingIds ds) where
  -- A manager of these parts has all devices.
  module _ (v : IsAddressState space) where
    -- If there are more or fewer held ids than devices, the devices are not all.
    pub other_ids_held : ¬ (held_count ids ≡ length ds) → ¬ AreDevicesOf ids space ds
    other_ids_held other a = other (sym (all_counted (listed_state ids space ds) v a.pairs).ids_counted ∙ table_long ds s)

    -- If there are more or fewer held ranges than devices, the devices are not all.
    pub other_ranges_held : ¬ (length space.held ≡ length ds) → ¬ AreDevicesOf ids space ds
    other_ranges_held other a = other (sym (all_counted (listed_state ids space ds) v a.pairs).ranges_counted ∙ table_long ds s)

  -- The next device.
  module _ (i : ℕ) (table : map.FinMap nat_cmp Range) (p : ArePairedSoFar ids space ds i table) (d : DeviceSlot) (l : i < length ds)
      (e : d ≡ get_or ds i d) where
    front : HaveAscendingIds (take i ds)
    front = front_ascends (take i ds) (drop i ds) (rw take-append-drop s)

    -- A device of the table is in the list, with a lower id.
    before : (id : ℕ) (r : Range) → map.get table id ≡ Some r → (map.get (table_of ds) id ≡ Some r) × (id < d.id)
    before id r h =
        let f : DeviceSlot = record { id = id; range = r } in
        let k = place_of (take i ds) front id r (ap (λ (m : map.FinMap nat_cmp Range). map.get m id) (sym p.table_is) ∙ h) in
        let long = length-take-le i ds (omega arith) in
        let same : get_or ds k.0 f ≡ f = grind (arith, common_steps, k.2) in
        let below = below_from_sorted (ids_of ds) k.0 i 0 s (omega arith) (omega (arith, l, ids_long ds)) in (
          subst (λ (g : DeviceSlot). map.get (table_of ds) g.id ≡ Some g.range) same (placed ds s k.0 f (omega arith)),
          omega (
            arith,
            below,
            id_at ds k.0 f (omega arith),
            id_at ds i d l,
            ap (λ (g : DeviceSlot). g.id) same,
            ap
                (λ (g : DeviceSlot). g.id) e,
          ),
        )

    -- The id of the next device is not in the table.
    id_is_new : map.get table d.id ≡ None
    id_is_new = absent (map.get table d.id) (λ r h. let b = (before d.id r h).1 in omega (arith, b))

    -- The start of a device that can be inserted is new.
    pub is_new : CanBeInserted ids space table d → IsOnlyStart table d.id d.range.start
    is_new can other s = absurd (can.start_is_new other s)

    -- If the devices are those of the manager, each can be inserted.
    pub all_can_be_inserted : IsAddressState space → AreDevicesOf ids space ds → CanBeInserted ids space table d
    all_can_be_inserted v a =
        let all = all_held (listed_state ids space ds) v a.pairs in
        let mine : map.get (table_of ds) d.id ≡ Some d.range = subst (λ (f : DeviceSlot). map.get (table_of ds) f.id ≡ Some f.range) (sym e)
        (placed ds s i d l) in
        let here = all.held d.id d.range mine in
        record {
          id_is_held = here.0;
          range_is_held = here.1;
          start_is_new = λ id h.
              let f = map_some (λ (r : Range). r.start) (map.get table id) d.range.start h in
              let its = before id f.0 f.1 in
              let one = one_start space v f.0 d.range (all.held id f.0 its.0).1 here.1 f.2 in
              let same = all.once id d.id d.range (its.0 ∙ ap Some one) mine in
              absurd (omega (arith, same, its.1));
        }

    module _ (can : CanBeInserted ids space table d) (new : map.FinMap nat_cmp Range) (u : new ≡ map.insert table d.id d.range) where
      pub one_paired : ArePairedSoFar ids space ds (i + 1) new
      one_paired = record {
        table_is = u
            ∙ ap (λ (m : map.FinMap nat_cmp Range). map.insert m d.id d.range) p.table_is
            ∙ sym (map.from_entries_push nat_cmp_total map.nat_cmp-IsAntisymmetric (entries_of (take i ds)) d.id d.range
            (sym (map.get-from_entries nat_cmp_total (entries_of (take i ds)) d.id)
            ∙ ap (λ (m : map.FinMap nat_cmp Range). map.get m d.id) (sym p.table_is) ∙ id_is_new))
            ∙ ap (λ (es : List (ℕ × Range)). map.from_entries es)
            (ap (λ (f : DeviceSlot). entries_of (take i ds) ++ entry_of f ∷ []) e
            ∙ sym (map-append entry_of (take i ds) (get_or ds i d ∷ []))
            ∙ ap (λ (fs : List DeviceSlot). entries_of fs) (sym (take_more ds i d l)));
        held = record {
          held = λ id r h. grind (arith, u, get_with table d.id d.range id, p.held.held id r, can.id_is_held, can.range_is_held, h);
          once = λ j k r g h.
              grind (
                arith,
                u,
                get_with table d.id d.range j,
                get_with table d.id d.range k,
                p.held.once j k r,
                can.start_is_new j,
                can.start_is_new k,
                g,
                h,
              );
        };
      }

  -- After the last device.
  pub all_in_pairs : (i : ℕ) (table : map.FinMap nat_cmp Range) → ArePairedSoFar ids space ds i table → length ds ≤ i →
      IsAddressState space →
      held_count ids ≡ length ds → length space.held ≡ length ds → AreDevicesOf ids space ds × (table ≡ map.from_entries (entries_of ds))
  all_in_pairs i table p l v m n =
      let same : table ≡ table_of ds = p.table_is ∙ ap (λ (fs : List DeviceSlot). table_of fs) (take_all i ds l) in (
        record {
          ascending = s;
          pairs = pairs_all (listed_state ids space ds) v (subst (AreHeld ids space) same p.held)
              (record { ids_counted = table_long ds s ∙ sym m; ranges_counted = table_long ds s ∙ sym n });
        },
        same,
      )
