-- Lists of devices whose ids are strictly ascending: the devices before another one, and one more at the end.
use Rattle.std.proofs.Common.{◌≡◌, ℕ, ◌+◌, ◌-◌, ◌<◌, ◌≤◌, List, [], ◌∷◌, ◌++◌, length, get_or, ap, ◌∙◌, subst, arith, Some, None}
use Rattle.std.proofs.lemmas.Grind.{common_steps}
use Rattle.std.proofs.lemmas.List.{get_or-map, length-map, map-append}
use Rattle.std.proofs.lemmas.Map.Keys.{sorted_from_strictly_increasing, below_from_sorted}
use Rattle.std.proofs.lemmas.Option.{slice_get-get_or, slice_get_within, get_or_from_slice_get}
use Rattle.std.specs.List.{slice_get}
use Rattle.std.specs.List.Sorted.{IsStrictlySortedBy}
use Rattle.std.specs.Map.{keys_of}
use Rattle.std.specs.Ordering.{nat_cmp}
use Rattle.vm_ranges.specs.Range.{Range}
use Rattle.vm_devices.specs.declared.device_slot.DeviceSlot.{DeviceSlot}
use Rattle.vm_devices.specs.Listed.{entries_of, HaveAscendingIds}
use Rattle.vm_devices.specs.Queries.{entry_of}

-- ---- Numbers
-- The numbers are strictly ascending.
abbrev pub Rise : List ℕ → Type 0
Rise ns = IsStrictlySortedBy nat_cmp ns

-- No numbers are strictly ascending.
pub none_rises : Rise []
none_rises = sorted_from_strictly_increasing [] (λ k l. absurd (omega arith))

-- The first of some ascending numbers are ascending.
front_rises : (ms ns : List ℕ) → Rise (ms ++ ns) → Rise ms
front_rises ms ns s =
    sorted_from_strictly_increasing ms (λ k l. grind (arith, common_steps, below_from_sorted (ms ++ ns) k (k + 1) 0 s))

-- One more number that is above the last one keeps the order.
rises_last : (ms : List ℕ) (n : ℕ) → Rise ms → (0 < length ms → get_or ms (length ms - 1) 0 < n) → Rise (ms ++ n ∷ [])
rises_last ms n s h =
    sorted_from_strictly_increasing (ms ++ n ∷ []) (λ k l. grind (arith, common_steps, below_from_sorted ms k (k + 1) 0 s, h))

-- The last of several ascending numbers is above the one before it.
last_rises : (ms : List ℕ) (n : ℕ) → Rise (ms ++ n ∷ []) → 0 < length ms → get_or ms (length ms - 1) 0 < n
last_rises ms n s l = grind (arith, common_steps, below_from_sorted (ms ++ n ∷ []) (length ms - 1) (length ms) 0 s)

-- ---- The ids of devices
abbrev pub ids_of : List DeviceSlot → List ℕ
ids_of ds = keys_of (entries_of ds)

ids_more : (ds es : List DeviceSlot) → ids_of (ds ++ es) ≡ ids_of ds ++ ids_of es
ids_more ds es = ap (λ (l : List (ℕ × Range)). keys_of l) (map-append entry_of ds es)
    ∙ map-append (λ (e : ℕ × Range). e.0) (entries_of ds) (entries_of es)

pub ids_long : (ds : List DeviceSlot) → length (ids_of ds) ≡ length ds
ids_long ds = length-map (entries_of ds) (λ (e : ℕ × Range). e.0) ∙ length-map ds entry_of

pub id_at : (ds : List DeviceSlot) (k : ℕ) (d : DeviceSlot) → k < length ds → get_or (ids_of ds) k 0 ≡ (get_or ds k d).id
id_at ds k d l =
    get_or-map (λ (e : ℕ × Range). e.0) (entries_of ds) k (entry_of d) 0 (omega (arith, l, length-map ds entry_of))
    ∙ ap (λ (e : ℕ × Range). e.0) (get_or-map entry_of ds k d (entry_of d) l)

-- ---- A part of the list
-- The ids of the entries are strictly ascending.
abbrev pub Sorted : List (ℕ × Range) → Type 0
Sorted es = Rise (keys_of es)

-- The first of some sorted entries are sorted.
pub front_entries : (es fs : List (ℕ × Range)) → Sorted (es ++ fs) → Sorted es
front_entries es fs s = front_rises (keys_of es) (keys_of fs) (subst Rise (map-append (λ (e : ℕ × Range). e.0) es fs) s)

-- The first of some devices in order are in order.
pub front_ascends : (ds es : List DeviceSlot) → HaveAscendingIds (ds ++ es) → HaveAscendingIds ds
front_ascends ds es s = front_entries (entries_of ds) (entries_of es) (subst Sorted (map-append entry_of ds es) s)

-- ---- One more device
module _ (ds : List DeviceSlot) (d : DeviceSlot) where
  -- A device with a higher id than the last one keeps the order.
  pushed : HaveAscendingIds ds → (0 < length ds → (get_or ds (length ds - 1) d).id < d.id) → HaveAscendingIds (ds ++ d ∷ [])
  pushed s h =
      rw (ids_more ds (d ∷ []))
      (rises_last (ids_of ds) d.id s (λ p.
      let long = ids_long ds in
      rw long (omega (arith, id_at ds (length ds - 1) d (omega arith), h (omega arith)))))

  -- The first device is in order.
  pub first_pushed : slice_get ds (length ds - 1) ≡ None → HaveAscendingIds ds → HaveAscendingIds (ds ++ d ∷ [])
  first_pushed e s = pushed s (λ p. let some = slice_get-get_or ds (length ds - 1) d (omega arith) in absurd (cc (e, some)))

  module _ (last : DeviceSlot) (e : slice_get ds (length ds - 1) ≡ Some last) where
    -- A device is in order if and only if its id is above that of the last one.
    pub more_pushed : HaveAscendingIds ds → last.id < d.id → HaveAscendingIds (ds ++ d ∷ [])
    more_pushed s l = pushed s (λ p. rw (get_or_from_slice_get ds (length ds - 1) last d e) l)

    pub not_pushed : d.id ≤ last.id → ¬ HaveAscendingIds (ds ++ d ∷ [])
    not_pushed l s =
        let some = slice_get_within ds (length ds - 1) last e in
        let long = ids_long ds in
        let at = id_at ds (length ds - 1) d some ∙ ap (λ (x : DeviceSlot). x.id) (get_or_from_slice_get ds (length ds - 1) last d e) in
        let below = rw long at (last_rises (ids_of ds) d.id (subst Rise (ids_more ds (d ∷ [])) s) (omega arith)) in
        omega arith

pub ruleset pushes = (first_pushed, more_pushed, not_pushed)
