-- Maps with numbers as keys, after one key is inserted or removed, devices in lists, and their ids by their starts.
use Rattle.std.proofs.Common.{
  ◌≡◌,
  ◌≢◌,
  ◌==◌,
  ℕ,
  suc,
  ◌-◌,
  ◌<◌,
  ◌⊎◌,
  cond,
  List,
  [],
  ◌∷◌,
  ◌++◌,
  length,
  reverse,
  map as map_list,
  refl,
  sym,
  ap,
  ◌∙◌,
  subst,
  arith,
  Option,
  Some,
  None,
  IsSome,
  option_map,
}
use Rattle.std.specs.Cmp.{nat_cmp_is, nat_cmp_total, unsigned_tied}
use Rattle.std.specs.List.{All}
use Rattle.std.specs.Ordering.{nat_cmp}
use Rattle.std.specs.declared.cmp.Ordering.TheVariants.{Greater}
use Rattle.std.specs.FinMap.Entries.{put}
use Rattle.std.specs.FinMap as map
use Rattle.std.proofs.lemmas.List.{get_or-reverse, length-reverse, reverse-append, nil_from_length, map-id}
use Rattle.std.proofs.lemmas.Simd.{map-map}
use Rattle.std.proofs.lemmas.List.Elements.{All-head, All-tail}
use Rattle.vm_ranges.specs.Range.{Range}
use Rattle.vm_list.specs.Entries.{IsDescendingBy, with_entry, without, entry_at}
use Rattle.vm_list.proofs.EntryLaws.{entries_are_by_key}
use Rattle.vm_devices.specs.declared.device_slot.DeviceSlot.{DeviceSlot}
use Rattle.vm_devices.specs.declared.device_manager.device_table.DeviceStart.{DeviceStart}
use Rattle.vm_devices.specs.Checks.{StartsAt, IsOnlyStart, AreIdsByStart, id_at}
use Rattle.vm_devices.specs.Listed.{entries_of}
use Rattle.vm_devices.specs.Queries.{device_of, entry_of}

-- An option that is no value is None.
pub absent : {X : Type 0} (o : Option X) → ((x : X) → ¬ (o ≡ Some x)) → o ≡ None
absent None h = refl
absent (Some x) h = absurd (h x refl)

module _ {X : Type 0} where
  -- The key that is inserted has the value, and the other keys have their former values.
  pub get_with : (m : map.FinMap nat_cmp X) (k : ℕ) (v : X) (q : ℕ) → map.get (map.insert m k v) q ≡ cond (q == k) (Some v) (map.get m q)
  get_with m k v q = map.get-insert nat_cmp_total m k v q ∙ ap (λ t. cond t (Some v) (map.get m q)) (unsigned_tied q k)

  -- The key that is removed has no value, and the other keys have their former values.
  pub get_without : (m : map.FinMap nat_cmp X) (k q : ℕ) → map.get (map.remove m k) q ≡ cond (q == k) None (map.get m q)
  get_without m k q = map.get-remove nat_cmp_total m k q ∙ ap (λ t. cond t None (map.get m q)) (unsigned_tied q k)

  pub with_here : (m : map.FinMap nat_cmp X) (k : ℕ) (v : X) → map.get (map.insert m k v) k ≡ Some v
  with_here m k v = let at = get_with m k v k in grind (arith, at)

  -- A value after an insertion is the new one or a former one.
  pub with_cases : (m : map.FinMap nat_cmp X) (k : ℕ) (v : X) (q : ℕ) (w : X) → map.get (map.insert m k v) q ≡ Some w →
      ((q ≡ k) × (w ≡ v)) ⊎ (map.get m q ≡ Some w)
  with_cases m k v q w h = let at = get_with m k v q in grind (arith, at, h)

  -- A value after a removal is a former one of another key.
  pub without_is : (m : map.FinMap nat_cmp X) (k q : ℕ) (w : X) → map.get (map.remove m k) q ≡ Some w → ¬ (q ≡ k) × (map.get m q ≡ Some w)
  without_is m k q w h = let at = get_without m k q in (λ e. grind (arith, at, h, e), grind (arith, at, h))

-- ---- The map of a list of devices
abbrev id_of : DeviceSlot → ℕ
id_of d = d.id

abbrev start_of : DeviceStart → ℕ
start_of s = s.start

abbrev map_of : List DeviceSlot → map.FinMap nat_cmp Range
map_of ds = map.from_entries (entries_of ds)

found : (q : ℕ) (ds : List DeviceSlot) → map.find nat_cmp q (entries_of ds) ≡ option_map (λ d. d.range) (entry_at id_of q ds)
unfolding entry_at
found q [] = refl
found q (d ∷ ds) = grind (arith, unsigned_tied q d.id, found q ds)

-- An id has the same range in the map as in the list.
pub got : (ds : List DeviceSlot) (q : ℕ) → map.get (map_of ds) q ≡ option_map (λ d. d.range) (entry_at id_of q ds)
got ds q = map.get-from_entries nat_cmp_total (entries_of ds) q ∙ found q ds

pub ruleset gets = (got)

-- A device that is put into the list is inserted into the map.
pub inserted_map : (ds : List DeviceSlot) (d : DeviceSlot) → map_of (with_entry id_of d ds) ≡ map.insert (map_of ds) d.id d.range
inserted_map ds d = map.same_map nat_cmp_total map.nat_cmp-IsAntisymmetric _ _
    (λ q. grind (arith, got (with_entry id_of d ds) q, got ds q, (entries_are_by_key id_of).put d ds q, get_with (map_of ds) d.id d.range q))

-- A device that is taken out of the list is removed from the map.
pub removed_map : (ds : List DeviceSlot) (k : ℕ) → map_of (without id_of k ds) ≡ map.remove (map_of ds) k
removed_map ds k = map.same_map nat_cmp_total map.nat_cmp-IsAntisymmetric _ _
    (λ q. grind (arith, got (without id_of k ds) q, got ds q, (entries_are_by_key id_of).taken k ds q, get_without (map_of ds) k q))

-- A device with the highest id is put last.
put_last : (ds : List DeviceSlot) (d : DeviceSlot) → All (λ e. e.id < d.id) ds → put nat_cmp d.id d.range (entries_of ds) ≡ entries_of (ds ++ d ∷ [])
put_last [] d a = refl
put_last (e ∷ ds) d a =
    let higher = nat_cmp_is d.id e.id Greater (All-head (λ (e : DeviceSlot). e.id < d.id) e ds a) in
    rw (← higher) (ap (λ es. (e.id, e.range) ∷ es) (put_last ds d (All-tail (λ (e : DeviceSlot). e.id < d.id) e ds a)))

-- The map has the devices in ascending order.
entries_turned : (ds : List DeviceSlot) → IsDescendingBy id_of ds → map.entries (map_of ds) ≡ entries_of (reverse ds)
entries_turned [] down = nil_from_length _ (sym (map.len-entries (map_of [])) ∙ map.len-empty nat_cmp Range)
entries_turned (d ∷ ds) down =
    map.entries-insert nat_cmp_total (map_of ds) d.id d.range
    ∙ ap (put nat_cmp d.id d.range)
    (entries_turned ds (λ i j d l w. down (suc i) (suc j) d (omega (arith, l)) (omega (arith, w))))
    ∙ put_last (reverse ds) d (λ k e w.
    let n = length-reverse ds in
    subst (λ (e : DeviceSlot). e.id < d.id) (sym (get_or-reverse ds k e (omega arith)))
    (down 0 (suc (length ds - 1 - k)) e (omega arith) (omega arith)))
    ∙ sym (ap (λ (es : List DeviceSlot). entries_of es) (reverse-append (d ∷ []) ds))

-- The devices of the map are the list in ascending order.
pub listed : (ds : List DeviceSlot) → IsDescendingBy id_of ds → reverse ds ≡ map_list device_of (map.entries (map_of ds))
listed ds down =
    sym (ap (λ (es : List (ℕ × Range)). map_list device_of es) (entries_turned ds down) ∙ map-map device_of entry_of (reverse ds) ∙ map-id (reverse ds))

-- An id with a range is in a device of the list.
pub id_is_known : (ds : List DeviceSlot) (q start : ℕ) → StartsAt (map_of ds) q start → IsSome (entry_at id_of q ds)
id_is_known ds q start k = known (entry_at id_of q ds) (ap (option_map (λ r. r.start)) (sym (got ds q)) ∙ k)
  where
    known : (o : Option DeviceSlot) → option_map (λ r. r.start) (option_map (λ d. d.range) o) ≡ Some start → IsSome o
    known None k = absurd (cc k)
    known (Some d) k = refl

-- ---- The ids of devices by their starts
-- The start that is put into the list has the id, and the others have their former ids.
put_id : (starts : List DeviceStart) (s : DeviceStart) (x : ℕ) →
    id_at x (with_entry start_of s starts) ≡ cond (x == s.start) (Some s.id) (id_at x starts)
put_id starts s x = grind (arith, (entries_are_by_key start_of).put s starts x)

-- The start that is taken out of the list has no id, and the others have their former ids.
taken_id : (starts : List DeviceStart) (k x : ℕ) → id_at x (without start_of k starts) ≡ cond (x == k) None (id_at x starts)
taken_id starts k x = grind (arith, (entries_are_by_key start_of).taken k starts x)

-- Without devices, no id is found by its start.
pub no_starts : AreIdsByStart (map_of []) []
unfolding entry_at
no_starts = record {
  at = λ start id. (λ h. grind (arith, h), λ h. grind (arith, map.get-empty {X = Range} nat_cmp id, h));
}

module _ {devices : map.FinMap nat_cmp Range} {starts : List DeviceStart} (a : AreIdsByStart devices starts) where
  -- The range of a device is entered by its start. No other device has this start.
  module _ (s : DeviceStart) (r : Range) (is : s.start ≡ r.start) (only : IsOnlyStart devices s.id s.start) where
    -- A device that is new is found by its start.
    pub starts_with : map.get devices s.id ≡ None → AreIdsByStart (map.insert devices s.id r) (with_entry start_of s starts)
    starts_with n = record {
      at = λ x q. (
        λ h. grind (arith, put_id starts s x, get_with devices s.id r q, (a.at x q).0, n, is, h),
        λ h. grind (arith, put_id starts s x, get_with devices s.id r q, (a.at x q).1, only q, is, h),
      );
    }

    -- A device that moves is found by its new start only.
    pub starts_moved : (before : ℕ) → StartsAt devices s.id before → before ≢ s.start →
        AreIdsByStart (map.insert devices s.id r) (without start_of before (with_entry start_of s starts))
    starts_moved before d k = record {
      at = λ x q.
          let at = put_id starts s x in
          let gone = taken_id (with_entry start_of s starts) before x in (
            λ h. grind (arith, at, gone, get_with devices s.id r q, (a.at x q).0, d, is, h),
            λ h. grind (arith, at, gone, get_with devices s.id r q, (a.at x q).1, (a.at x s.id).1, only q, d, is, k, h),
          );
    }

    -- An insertion that is undone leaves the ids of the devices.
    pub starts_undone : map.get devices s.id ≡ None → AreIdsByStart devices (without start_of s.start (with_entry start_of s starts))
    starts_undone n = record {
      at = λ x q.
          let at = put_id starts s x in
          let gone = taken_id (with_entry start_of s starts) s.start x in
          (λ h. grind (arith, at, gone, (a.at x q).0, h), λ h. grind (arith, at, gone, (a.at x q).1, only q, n, h));
    }

  -- A device that keeps its start is found by it.
  pub starts_kept : (id : ℕ) (r : Range) → StartsAt devices id r.start → AreIdsByStart (map.insert devices id r) starts
  starts_kept id r d = record {
    at = λ x q. (
      λ h. grind (arith, get_with devices id r q, (a.at x q).0, d, h),
      λ h. grind (arith, get_with devices id r q, (a.at x q).1, d, h),
    );
  }

  -- An id that no device has can be removed.
  pub starts_stay : (id : ℕ) → map.get devices id ≡ None → AreIdsByStart (map.remove devices id) starts
  starts_stay id n = record {
    at = λ x q. (
      λ h. grind (arith, get_without devices id q, (a.at x q).0, n, h),
      λ h. grind (arith, get_without devices id q, (a.at x q).1, n, h),
    );
  }

  -- A device that is removed is no longer found by its start.
  pub starts_without : (id : ℕ) (r : Range) → map.get devices id ≡ Some r →
      AreIdsByStart (map.remove devices id) (without start_of r.start starts)
  starts_without id r d = record {
    at = λ x q.
        let gone = taken_id starts r.start x in (
          λ h. grind (arith, gone, get_without devices id q, (a.at x q).0, d, h),
          λ h. grind (arith, gone, get_without devices id q, (a.at x q).1, (a.at x id).1, d, h),
        );
  }
