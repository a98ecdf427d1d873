-- The list of values behind the table of a map, the indices of the values, and the iterator over both. Only private functions
-- cite these definitions.
use Rattle.std.specs.Prelude.{◌≡◌, ◌≢◌, ℕ, ◌<◌, List, [], ◌∷◌, length, map as map_list, Option, Some, None, option_map, IfSome, IsSome}
use Rattle.std.specs.List.{Contains, slice_get, cons_option}
use Rattle.std.specs.Ordering.{nat_cmp}
use Rattle.std.specs.FinMap as map
use Rattle.vm_ranges.specs.Range.{Range}
use Rattle.vm_list.specs.Entries.{entry_at, with_entry}
use Rattle.vm_range_map.specs.RangeMaps.{with_values}
use Rattle.vm_range_map.specs.declared.range_map.value_table.ValueAt.{ValueAt}
use Rattle.vm_range_map.specs.declared.range_map.value_table.IndexAt.{IndexAt}

-- The start of an entry, its key.
abbrev pub start_of : IndexAt → ℕ
start_of e = e.start

-- The start and the index of an entry, as a pair.
abbrev pub entry_of : IndexAt → ℕ × ℕ
entry_of e = (e.start, e.index)

-- The table of indices that a list of entries represents.
abbrev pub indices_of : List IndexAt → map.FinMap nat_cmp ℕ
indices_of es = map.from_entries (map_list entry_of es)

module _ {X : Type 0} where
  -- The start and the value of an item, as a pair.
  abbrev pub pair_of : ValueAt X → ℕ × X
  pair_of v = (v.start, v.value)

  abbrev pub value_of : ValueAt X → X
  value_of v = v.value

  -- The table of values that a list of items represents.
  abbrev pub values_of : List (ValueAt X) → map.FinMap nat_cmp X
  values_of vs = map.from_entries (map_list pair_of vs)

  -- The indices are those of the items: each item is found by its start, and each index is that of an item with this start.
  pub record AreIndexed (indices : map.FinMap nat_cmp ℕ) (vs : List (ValueAt X)) : Type 0 where
    pub found : (k : ℕ) (v : ValueAt X) → slice_get vs k ≡ Some v → map.get indices v.start ≡ Some k
    pub there : (s k : ℕ) → map.get indices s ≡ Some k → (v : ValueAt X) × (slice_get vs k ≡ Some v) × (v.start ≡ s)

  -- The entries by ascending starts, and the items of a table at their indices.
  pub record AreListed (table : map.FinMap nat_cmp X) (es : List IndexAt) (vs : List (ValueAt X)) : Type 0 where
    pub indices : map.FinMap nat_cmp ℕ
    pub indexed : AreIndexed indices vs
    pub entries : map.entries indices ≡ map_list entry_of es
    pub values : values_of vs ≡ table

  -- Each of the ranges starts where no value is, and no two of them have the same start.
  abbrev pub AreNewStarts : map.FinMap nat_cmp X → List Range → Type 0
  AreNewStarts values [] = Unit {0}
  AreNewStarts values (r ∷ rs) =
      (map.get values r.start ≡ None) × ((q : Range) → Contains rs q → q.start ≢ r.start) × AreNewStarts values rs

  -- The table after is the one before, after each range got a value. Before, no value was at its start.
  pub record AreInserted (before : map.FinMap nat_cmp X) (rs : List Range) (vs : List X) (after : map.FinMap nat_cmp X) : Type 0 where
    pub many : length rs ≡ length vs
    pub new : AreNewStarts before rs
    pub table : after ≡ with_values before rs vs

  -- The item at k has an entry, if there is one.
  abbrev pub IsKnownAt : List (ValueAt X) → ℕ → List IndexAt → Type 0
  IsKnownAt vs k es = IfSome (slice_get vs k) (λ v. IsSome (entry_at start_of v.start es))

  -- The entries with the index of the item at k, if there is one.
  abbrev pub renumbered : Option (ValueAt X) → ℕ → List IndexAt → List IndexAt
  renumbered None k es = es
  renumbered (Some v) k es = with_entry start_of (record { start = v.start; index = k }) es

  -- The value of the item at an index, if there is one.
  abbrev pub value_in : List (ValueAt X) → Option ℕ → Option X
  value_in vs None = None
  value_in vs (Some k) = option_map value_of (slice_get vs k)

  -- The ranges with the values at the indices of the entries at the same places.
  abbrev pub pair_up : List (ValueAt X) → List Range → List IndexAt → List (Range × X)
  pair_up vs [] es = []
  pair_up vs (r ∷ rs) [] = []
  pair_up vs (r ∷ rs) (e ∷ es) =
      cons_option (option_map (λ v. (r, v.value)) (slice_get vs e.index)) (pair_up vs rs es)

  -- There is an entry for each range, and an item at the index of each entry.
  abbrev pub AreMatched : List (ValueAt X) → List Range → List IndexAt → Type 0
  AreMatched vs [] [] = Unit {0}
  AreMatched vs [] (e ∷ es) = ⊥
  AreMatched vs (r ∷ rs) [] = ⊥
  AreMatched vs (r ∷ rs) (e ∷ es) = (e.index < length vs) × AreMatched vs rs es
