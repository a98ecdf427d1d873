-- The items of a list by their indices, after an item is added, replaced or taken out, and the index of an entry.
use Rattle.std.proofs.Common.{◌≡◌, ◌≢◌, ℕ, zero, suc, ◌-◌, ◌<◌, ◌≤◌, List, [], ◌∷◌, ◌++◌, length, take, get_or, slice_set, refl, sym, ap, ◌∙◌, arith, subst, ◌⊎◌, inl, inr, Option, Some, None, IsSome, option_map, true, false, Result, Ok, Err, is_ok, OnOk, OnErr}
use Rattle.std.proofs.lemmas.Option.{slice_get_past, slice_get_within, slice_get_read, slice_get-get_or}
use Rattle.std.specs.List.{slice_get, swap_remove}
use Rattle.std.specs.FinMap as map
use Rattle.std.specs.Ordering.{nat_cmp}
use Rattle.vm_list.specs.Entries.{entry_at, with_entry, without}
use Rattle.vm_list.proofs.EntryLaws.{entries_are_by_key}
use Rattle.vm_range_map.specs.declared.range_map.value_table.ValueAt.{ValueAt}
use Rattle.vm_range_map.specs.declared.range_map.value_table.IndexAt.{IndexAt}
use Rattle.vm_range_map.specs.Checks.{start_of, indices_of, values_of, renumbered, IsKnownAt, AreIndexed}
use Rattle.vm_range_map.proofs.Tables.{got, get_without, without_here, put_table, taken_table, same_table, same_or_not, moved_nowhere, moved_later, replaced_value, put_again, kept_value}
use Rattle.vm_range_map.proofs.Indices.{value_here, no_value, no_index, same_starts, other_index, added, values_added, moved, values_moved, cut, values_cut}

module _ {Y : Type 0} where
  -- ---- An item that is added at the end
  pub push_here : (xs : List Y) (y : Y) → slice_get (xs ++ y ∷ []) (length xs) ≡ Some y
  push_here [] y = refl
  push_here (x ∷ xs) y = push_here xs y

  pub push_other : (xs : List Y) (y : Y) (j : ℕ) → j ≢ length xs → slice_get (xs ++ y ∷ []) j ≡ slice_get xs j
  push_other [] y zero n = absurd (n refl)
  push_other [] y (suc j) n = refl
  push_other (x ∷ xs) y zero n = refl
  push_other (x ∷ xs) y (suc j) n = push_other xs y j (λ e. n (ap suc e))

  -- ---- An item that is replaced
  pub set_here : (xs : List Y) (k : ℕ) (y : Y) → k < length xs → slice_get (slice_set xs k y) k ≡ Some y
  set_here [] k y l = absurd (omega (arith, l))
  set_here (x ∷ xs) zero y l = refl
  set_here (x ∷ xs) (suc k) y l = set_here xs k y (omega (arith, l))

  pub set_other : (xs : List Y) (k : ℕ) (y : Y) (j : ℕ) → j ≢ k → slice_get (slice_set xs k y) j ≡ slice_get xs j
  set_other [] k y j n = refl
  set_other (x ∷ xs) zero y zero n = absurd (n refl)
  set_other (x ∷ xs) zero y (suc j) n = refl
  set_other (x ∷ xs) (suc k) y zero n = refl
  set_other (x ∷ xs) (suc k) y (suc j) n = set_other xs k y j (λ e. n (ap suc e))

  -- ---- The first items
  pub take_here : (n : ℕ) (xs : List Y) (j : ℕ) → j < n → slice_get (take n xs) j ≡ slice_get xs j
  take_here zero xs j l = absurd (omega (arith, l))
  take_here (suc n) [] j l = refl
  take_here (suc n) (x ∷ xs) zero l = refl
  take_here (suc n) (x ∷ xs) (suc j) l = take_here n xs j (omega (arith, l))

  pub take_past : (n : ℕ) (xs : List Y) (j : ℕ) → n ≤ j → slice_get (take n xs) j ≡ None
  take_past zero xs j l = refl
  take_past (suc n) [] j l = refl
  take_past (suc n) (x ∷ xs) zero l = absurd (omega (arith, l))
  take_past (suc n) (x ∷ xs) (suc j) l = take_past n xs j (omega (arith, l))

  take_set : (n : ℕ) (xs : List Y) (k : ℕ) (y : Y) (j : ℕ) → j ≢ k → slice_get (take n (slice_set xs k y)) j ≡ slice_get (take n xs) j
  take_set zero xs k y j m = refl
  take_set (suc n) [] k y j m = refl
  take_set (suc n) (x ∷ xs) zero y zero m = absurd (m refl)
  take_set (suc n) (x ∷ xs) zero y (suc j) m = refl
  take_set (suc n) (x ∷ xs) (suc k) y zero m = refl
  take_set (suc n) (x ∷ xs) (suc k) y (suc j) m = take_set n xs k y j (λ e. m (ap suc e))

  -- ---- An item that is taken out, whose place the last one takes
  module _ (xs : List Y) (k : ℕ) (d : Y) (w : k < length xs) where
    abbrev last_item : Y
    last_item = get_or xs (length xs - 1) d

    pub end_item : slice_get xs (length xs - 1) ≡ Some last_item
    end_item = slice_get-get_or xs (length xs - 1) d (omega (arith, w))

    pub out_here : k ≢ length xs - 1 → slice_get (swap_remove xs k d) k ≡ Some last_item
    out_here n =
        take_here (length xs - 1) (slice_set xs k last_item) k (omega (arith, w, n)) ∙ set_here xs k last_item w

    pub out_past : slice_get (swap_remove xs k d) (length xs - 1) ≡ None
    out_past = take_past (length xs - 1) (slice_set xs k last_item) (length xs - 1) (omega arith)

    by_side : (j : ℕ) → (j < length xs - 1) ⊎ (length xs ≤ j) → slice_get (take (length xs - 1) xs) j ≡ slice_get xs j
    by_side j (inl l) = take_here (length xs - 1) xs j l
    by_side j (inr l) = take_past (length xs - 1) xs j (omega (arith, l)) ∙ sym (slice_get_past xs j l)

    -- Without the last one, the others stay.
    pub first_kept : (j : ℕ) → j ≢ length xs - 1 → slice_get (take (length xs - 1) xs) j ≡ slice_get xs j
    first_kept j m = by_side j (grind (arith, m))

    pub out_kept : (j : ℕ) → j ≢ k → slice_get (swap_remove xs k d) j ≡ slice_get (take (length xs - 1) xs) j
    out_kept j n = take_set (length xs - 1) xs k last_item j n

    pub out_other : (j : ℕ) → j ≢ k → j ≢ length xs - 1 → slice_get (swap_remove xs k d) j ≡ slice_get xs j
    out_other j n m = out_kept j n ∙ first_kept j m

-- ---- The index of an entry
module _ {X : Type 0} (es : List IndexAt) (vs : List (ValueAt X)) (i : AreIndexed (indices_of es) vs) (s : ℕ) where
  pub entry_index : (e : IndexAt) → entry_at start_of s es ≡ Some e → map.get (indices_of es) s ≡ Some e.index
  entry_index e h = got start_of (λ (f : IndexAt). f.index) s es ∙ ap (λ (o : Option IndexAt). option_map (λ (f : IndexAt). f.index) o) h

  pub entry_none : entry_at start_of s es ≡ None → map.get (indices_of es) s ≡ None
  entry_none h = got start_of (λ (f : IndexAt). f.index) s es ∙ ap (λ (o : Option IndexAt). option_map (λ (f : IndexAt). f.index) o) h

  pub value_none : entry_at start_of s es ≡ None → map.get (values_of vs) s ≡ None
  value_none h = no_value (indices_of es) vs i s (entry_none h)

  -- The item at the index of an entry has its start.
  pub entry_item : (e : IndexAt) → entry_at start_of s es ≡ Some e → (v : ValueAt X) × (slice_get vs e.index ≡ Some v) × (v.start ≡ s)
  entry_item e h = i.there s e.index (entry_index e h)

  pub entry_within : (e : IndexAt) → entry_at start_of s es ≡ Some e → e.index < length vs
  entry_within e h = let t = entry_item e h in slice_get_within vs e.index t.0 t.1

  -- The item that is read there.
  pub item_read : (e : IndexAt) (v : ValueAt X) → entry_at start_of s es ≡ Some e → v ≡ get_or vs e.index v →
      (slice_get vs e.index ≡ Some v) × (v.start ≡ s)
  item_read e v h r =
      let t = entry_item e h in
      let read = slice_get_read vs (length vs) e.index v refl (entry_within e h) r in
      let same : t.0 ≡ v = cc (sym t.1 ∙ read) in
      (read, ap (λ (u : ValueAt X). u.start) (sym same) ∙ t.2)

  pub value_read : (e : IndexAt) (v : ValueAt X) → entry_at start_of s es ≡ Some e → v ≡ get_or vs e.index v →
      map.get (values_of vs) s ≡ Some v.value
  value_read e v h r = value_here (indices_of es) vs i s e.index v (entry_index e h) (item_read e v h r).0

  -- A start with an index has an entry.
  some_entry : (k : ℕ) (o : Option IndexAt) → entry_at start_of s es ≡ o → map.get (indices_of es) s ≡ Some k → IsSome o
  some_entry k None h g = absurd (cc (g, entry_none h))
  some_entry k (Some e) h g = refl

  pub entry_of_index : (k : ℕ) → map.get (indices_of es) s ≡ Some k → IsSome (entry_at start_of s es)
  entry_of_index k g = some_entry k (entry_at start_of s es) refl g

  -- A start with a value has an entry.
  pub entry_there : IsSome (map.get (values_of vs) s) → entry_at start_of s es ≡ None → ⊥
  entry_there some h = let index = (same_starts (indices_of es) vs i s).0 some in cc (index, entry_none h)

-- ---- The table after an item is added, replaced, moved or taken out
-- The result of a call that succeeded, or failed.
pub done_of : {A E : Type 0} (r : Result A E) (P : Type 0) → true ≡ is_ok r → OnOk r P → P
done_of (Ok a) P t h = h
done_of (Err e) P t h = absurd (cc (t))

pub failed_of : {A E : Type 0} (r : Result A E) (P : Type 0) → false ≡ is_ok r → OnErr r P → P
failed_of (Ok a) P t h = absurd (cc (t))
failed_of (Err e) P t h = h

-- A key without a value can be removed.
pub removed_nowhere : {X : Type 0} (m : map.FinMap nat_cmp X) (k : ℕ) → map.get m k ≡ None → map.remove m k ≡ m
removed_nowhere m k h = same_table (map.remove m k) m (λ q. grind (arith, get_without m k q, h))

abbrev pub index_of : IndexAt → ℕ
index_of f = f.index

module _ {X : Type 0} (es : List IndexAt) (vs : List (ValueAt X)) (i : AreIndexed (indices_of es) vs) where
  -- An item is added at the end.
  module _ (n : ℕ) (item : ValueAt X) (long : n ≡ length vs) (none : map.get (values_of vs) item.start ≡ None) where
    abbrev entry_added : List IndexAt
    entry_added = with_entry start_of (record { start = item.start; index = n }) es

    no_item : slice_get vs n ≡ None
    no_item = slice_get_past vs n (omega (arith, long))

    item_here : slice_get (vs ++ item ∷ []) n ≡ Some item
    item_here = ap (λ (k : ℕ). slice_get (vs ++ item ∷ []) k) long ∙ push_here vs item

    item_others : (j : ℕ) → j ≢ n → slice_get (vs ++ item ∷ []) j ≡ slice_get vs j
    item_others j d = push_other vs item j (λ e. d (e ∙ sym long))

    pub item_added : AreIndexed (indices_of entry_added) (vs ++ item ∷ [])
    item_added =
        subst (λ (m : map.FinMap nat_cmp ℕ). AreIndexed m (vs ++ item ∷ []))
        (sym (put_table start_of index_of (record { start = item.start; index = n }) es))
        (added (indices_of es) vs (vs ++ item ∷ []) i n item (no_index (indices_of es) vs i item.start none) no_item item_here item_others)

    pub values_with_item : values_of (vs ++ item ∷ []) ≡ map.insert (values_of vs) item.start item.value
    values_with_item =
        values_added (indices_of es) vs (vs ++ item ∷ []) i n item (no_index (indices_of es) vs i item.start none) no_item item_here item_others

  module _ (s : ℕ) (e : IndexAt) (found : entry_at start_of s es ≡ Some e) where
    within : e.index < length vs
    within = entry_within es vs i s e found

    -- The value of an item is replaced.
    module _ (old : ValueAt X) (value : X) (read : old ≡ get_or vs e.index old) where
      abbrev written_item : ValueAt X
      written_item = record { start = old.start; value = value }

      pub item_written : AreIndexed (indices_of es) (slice_set vs e.index written_item)
      item_written =
          let at = item_read es vs i s e old found read in
          subst (λ (m : map.FinMap nat_cmp ℕ). AreIndexed m (slice_set vs e.index written_item))
          (sym (moved_nowhere (indices_of es) old.start old.start e.index refl (i.found e.index old at.0)))
          (moved (indices_of es) vs (slice_set vs e.index written_item) i e.index old at.0 (λ j n. set_other vs e.index written_item j n)
          written_item (set_here vs e.index written_item within) (λ n. absurd (n refl)))

      pub values_with : values_of (slice_set vs e.index written_item) ≡ map.insert (values_of vs) s value
      values_with =
          let at = item_read es vs i s e old found read in
          values_moved (indices_of es) vs (slice_set vs e.index written_item) i e.index old at.0
          (λ j n. set_other vs e.index written_item j n) written_item (set_here vs e.index written_item within) (λ n. absurd (n refl))
          ∙ replaced_value (values_of vs) old.start value ∙ ap (λ (q : ℕ). map.insert (values_of vs) q value) at.1

    -- An item is moved to another start.
    module _ (old : ValueAt X) (to : ℕ) (read : old ≡ get_or vs e.index old) (none : map.get (values_of vs) to ≡ None) where
      abbrev moved_item : ValueAt X
      moved_item = record { start = to; value = old.value }

      moved_entries : (q : ℕ) → q ≡ s → to ≢ q →
          map.insert (map.remove (indices_of es) q) to e.index ≡ indices_of (without start_of s (with_entry start_of (record { start = to; index = e.index }) es))
      moved_entries q same apart =
          moved_later (indices_of es) q to e.index apart
          ∙ ap (λ (k : ℕ). map.remove (map.insert (indices_of es) to e.index) k) same
          ∙ sym (taken_table start_of index_of s (with_entry start_of (record { start = to; index = e.index }) es)
          ∙ ap (λ (m : map.FinMap nat_cmp ℕ). map.remove m s) (put_table start_of index_of (record { start = to; index = e.index }) es))

      pub item_moved : AreIndexed (indices_of (without start_of s (with_entry start_of (record { start = to; index = e.index }) es))) (slice_set vs e.index moved_item)
      item_moved =
          let at = item_read es vs i s e old found read in
          let none_there = no_index (indices_of es) vs i to none in
          subst (λ (m : map.FinMap nat_cmp ℕ). AreIndexed m (slice_set vs e.index moved_item))
          (moved_entries old.start at.1 (λ f. cc (sym (i.found e.index old at.0) ∙ ap (λ (q : ℕ). map.get (indices_of es) q) (sym f) ∙ none_there)))
          (moved (indices_of es) vs (slice_set vs e.index moved_item) i e.index old at.0 (λ j n. set_other vs e.index moved_item j n)
          moved_item (set_here vs e.index moved_item within) (λ _. none_there))

      pub values_with_moved : values_of (slice_set vs e.index moved_item) ≡ map.insert (map.remove (values_of vs) s) to old.value
      values_with_moved =
          let at = item_read es vs i s e old found read in
          values_moved (indices_of es) vs (slice_set vs e.index moved_item) i e.index old at.0 (λ j n. set_other vs e.index moved_item j n)
          moved_item (set_here vs e.index moved_item within) (λ _. no_index (indices_of es) vs i to none)
          ∙ ap (λ (q : ℕ). map.insert (map.remove (values_of vs) q) to old.value) at.1

    -- An item is taken out, and the last one takes its place.
    module _ (d : ValueAt X) where
      abbrev left : List (ValueAt X)
      left = swap_remove vs e.index d

      abbrev others : List IndexAt
      others = without start_of s es

      item : (v : ValueAt X) × (slice_get vs e.index ≡ Some v) × (v.start ≡ s)
      item = entry_item es vs i s e found

      abbrev the_last : ValueAt X
      the_last = get_or vs (length vs - 1) d

      others_indices : indices_of others ≡ map.remove (indices_of es) s
      others_indices = taken_table start_of index_of s es

      -- The last item is another one.
      module _ (apart : e.index ≢ length vs - 1) where
        last_start : the_last.start ≢ s
        last_start =
            other_index (indices_of es) vs left i the_last.start s (length vs - 1) e.index
            (i.found (length vs - 1) the_last (end_item vs e.index d within)) (entry_index es vs i s e found) (λ f. apart (sym f))

      known_by : (e.index ≡ length vs - 1) ⊎ (e.index ≢ length vs - 1) → IsKnownAt left e.index others
      known_by (inl f) = rw (ap (λ (k : ℕ). slice_get left k) f ∙ out_past vs e.index d within) tt
      known_by (inr n) =
          rw (out_here vs e.index d within n)
          (let index = i.found (length vs - 1) the_last (end_item vs e.index d within) in
          let there = entry_of_index es vs i the_last.start (length vs - 1) index in
          let kept = (entries_are_by_key start_of).taken s es the_last.start in
          let apart = last_start n in
          grind (arith, there, kept, apart))

      -- The last item has an entry.
      pub left_known : IsKnownAt left e.index others
      left_known = known_by (same_or_not e.index (length vs - 1))

      left_by : (e.index ≡ length vs - 1) ⊎ (e.index ≢ length vs - 1) →
          AreIndexed (indices_of (renumbered (slice_get left e.index) e.index others)) left × (values_of left ≡ map.remove (values_of vs) s)
      left_by (inl f) =
          let none : slice_get left e.index ≡ None = ap (λ (k : ℕ). slice_get left k) f ∙ out_past vs e.index d within in
          let same : (j : ℕ) → j ≢ e.index → slice_get left j ≡ slice_get vs j = λ j n. out_other vs e.index d within j n (λ k. n (k ∙ sym f)) in (
            subst (λ (o : Option (ValueAt X)). AreIndexed (indices_of (renumbered o e.index others)) left) (sym none)
                (subst (λ (m : map.FinMap nat_cmp ℕ). AreIndexed m left)
                (ap (λ (q : ℕ). map.remove (indices_of es) q) item.2 ∙ sym others_indices)
                (cut (indices_of es) vs left i e.index item.0 item.1 same none)),
            values_cut (indices_of es) vs left i e.index item.0 item.1 same none
                ∙ ap (λ (q : ℕ). map.remove (values_of vs) q) item.2,
          )
      left_by (inr n) =
          let l = length vs - 1 in
          let here = out_here vs e.index d within n in
          let end = end_item vs e.index d within in
          let mid = take l vs in
          let first : (j : ℕ) → j ≢ l → slice_get mid j ≡ slice_get vs j = λ j m. first_kept vs e.index d within j m in
          let gone : slice_get mid l ≡ None = take_past l vs l (omega arith) in
          let fewer = cut (indices_of es) vs mid i l the_last end first gone in
          let there : slice_get mid e.index ≡ Some item.0 = first e.index n ∙ item.1 in
          let free : the_last.start ≢ item.0.start → map.get (map.remove (indices_of es) the_last.start) the_last.start ≡ None =
          λ _. without_here (indices_of es) the_last.start in
          let same : (j : ℕ) → j ≢ e.index → slice_get left j ≡ slice_get mid j = λ j m. out_kept vs e.index d within j m in
          let entries =
          put_again (indices_of es) the_last.start item.0.start e.index
          ∙ ap (λ (q : ℕ). map.insert (map.remove (indices_of es) q) the_last.start e.index) item.2
          ∙ ap (λ (m : map.FinMap nat_cmp ℕ). map.insert m the_last.start e.index) (sym others_indices)
          ∙ sym (put_table start_of index_of (record { start = the_last.start; index = e.index }) others) in
          let value = value_here (indices_of es) vs i the_last.start l the_last (i.found l the_last end) end in (
            subst (λ (o : Option (ValueAt X)). AreIndexed (indices_of (renumbered o e.index others)) left) (sym here)
                (subst (λ (m : map.FinMap nat_cmp ℕ). AreIndexed m left) entries
                (moved (map.remove (indices_of es) the_last.start) mid left fewer e.index item.0 there same the_last here free)),
            values_moved (map.remove (indices_of es) the_last.start) mid left fewer e.index item.0 there same the_last here free
                ∙ ap (λ (m : map.FinMap nat_cmp X). map.insert (map.remove m item.0.start) the_last.start the_last.value)
                (values_cut (indices_of es) vs mid i l the_last end first gone)
                ∙ put_again (values_of vs) the_last.start item.0.start the_last.value
                ∙ kept_value (values_of vs) the_last.start item.0.start the_last.value value (λ f. last_start n (f ∙ item.2))
                ∙ ap (λ (q : ℕ). map.remove (values_of vs) q) item.2,
          )

      pub left_indexed : AreIndexed (indices_of (renumbered (slice_get left e.index) e.index others)) left
      left_indexed = (left_by (same_or_not e.index (length vs - 1))).0

      pub values_left : values_of left ≡ map.remove (values_of vs) s
      values_left = (left_by (same_or_not e.index (length vs - 1))).1
