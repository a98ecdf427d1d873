-- The values in a list in no order, found by their indices, are those of the table.
use Rattle.std.proofs.Common.{◌≡◌, ◌≢◌, ◌↔◌, ◌==◌, ℕ, zero, suc, Bool, true, false, cond, List, [], ◌∷◌, nat_eq, refl, sym, ap, ◌∙◌, arith, subst, ⊎_elim, Option, Some, None, IsSome, option_map}
use Rattle.std.specs.List.{slice_get}
use Rattle.std.specs.Ordering.{nat_cmp}
use Rattle.std.specs.FinMap as map
use Rattle.vm_list.specs.Entries.{entry_at}
use Rattle.vm_range_map.specs.declared.range_map.value_table.ValueAt.{ValueAt}
use Rattle.vm_range_map.specs.Checks.{value_of, values_of, value_in, AreIndexed}
use Rattle.vm_range_map.proofs.MapStates.{absent}
use Rattle.vm_range_map.proofs.Tables.{get_with, get_without, same_table, same_or_not, got}

module _ {X : Type 0} where
  -- The start of an item, its key.
  abbrev key_of : ValueAt X → ℕ
  key_of v = v.start

  -- ---- An item that is found by its start
  -- The item with the start q has a place in the list.
  abbrev Place : ℕ → List (ValueAt X) → ValueAt X → Type 0
  Place q vs v = (k : ℕ) × (slice_get vs k ≡ Some v) × (v.start ≡ q)

  this_or_later : (q : ℕ) (x v : ValueAt X) (xs : List (ValueAt X)) (b : Bool) → nat_eq x.start q ≡ b →
      (entry_at key_of q xs ≡ Some v → Place q xs v) → cond b (Some x) (entry_at key_of q xs) ≡ Some v → Place q (x ∷ xs) v
  this_or_later q x v xs true t later h =
      let same : x ≡ v = cc (h) in
      let start : x.start ≡ q = grind (arith, t) in
      (0, h, ap (λ (u : ValueAt X). u.start) (sym same) ∙ start)
  this_or_later q x v xs false t later h = let p = later h in (suc p.0, p.1, p.2)

  place : (q : ℕ) (xs : List (ValueAt X)) (v : ValueAt X) → entry_at key_of q xs ≡ Some v → Place q xs v
  unfolding entry_at
  place q [] v h = absurd (cc (h))
  place q (x ∷ xs) v h = this_or_later q x v xs (nat_eq x.start q) refl (place q xs v) h

  some_of : (b : Bool) (x : ValueAt X) (o : Option (ValueAt X)) → IsSome o → IsSome (cond b (Some x) o)
  some_of true x o s = refl
  some_of false x o s = s

  here_some : (b : Bool) (x : ValueAt X) (o : Option (ValueAt X)) → b ≡ true → IsSome (cond b (Some x) o)
  here_some true x o s = refl
  here_some false x o s = absurd (cc (s))

  found_here : (q : ℕ) (xs : List (ValueAt X)) (k : ℕ) (v : ValueAt X) → slice_get xs k ≡ Some v → v.start ≡ q → IsSome (entry_at key_of q xs)
  unfolding entry_at
  found_here q [] k v h s = absurd (cc (h))
  found_here q (x ∷ xs) zero v h s =
      let same : x ≡ v = cc (h) in
      let start : x.start ≡ q = ap (λ (u : ValueAt X). u.start) same ∙ s in
      here_some (nat_eq x.start q) x (entry_at key_of q xs) (grind (arith, start))
  found_here q (x ∷ xs) (suc k) v h s = some_of (nat_eq x.start q) x (entry_at key_of q xs) (found_here q xs k v h s)

  -- ---- The values of a table with indices
  module _ (indices : map.FinMap nat_cmp ℕ) (vs : List (ValueAt X)) (i : AreIndexed indices vs) where
    by_both : (q : ℕ) (o : Option ℕ) (f : Option (ValueAt X)) → map.get indices q ≡ o → entry_at key_of q vs ≡ f →
        option_map value_of f ≡ value_in vs o
    by_both q None None a b = refl
    by_both q (Some k) None a b =
        let t = i.there q k a in
        let some : IsSome (entry_at key_of q vs) = found_here q vs k t.0 t.1 t.2 in
        absurd (cc (some, b))
    by_both q o (Some v) a b =
        let p = place q vs v b in
        let at : map.get indices q ≡ Some p.0 = ap (λ (s : ℕ). map.get indices s) (sym p.2) ∙ i.found p.0 v p.1 in
        subst (λ (t : Option ℕ). option_map value_of (Some v) ≡ value_in vs t) (sym at ∙ a) (ap (λ (u : Option (ValueAt X)). option_map value_of u) (sym p.1))

    -- The value of a start is that of the item at its index.
    pub got_value : (q : ℕ) → map.get (values_of vs) q ≡ value_in vs (map.get indices q)
    got_value q = got key_of value_of q vs ∙ by_both q (map.get indices q) (entry_at key_of q vs) refl refl

    pub value_here : (q k : ℕ) (v : ValueAt X) → map.get indices q ≡ Some k → slice_get vs k ≡ Some v →
        map.get (values_of vs) q ≡ Some v.value
    value_here q k v a b = got_value q ∙ ap (λ (o : Option ℕ). value_in vs o) a ∙ ap (λ (u : Option (ValueAt X)). option_map value_of u) b

    pub no_value : (q : ℕ) → map.get indices q ≡ None → map.get (values_of vs) q ≡ None
    no_value q a = got_value q ∙ ap (λ (o : Option ℕ). value_in vs o) a

    both_or_none : (q : ℕ) (o : Option ℕ) → map.get indices q ≡ o → IsSome (map.get (values_of vs) q) ↔ IsSome o
    both_or_none q None a = (λ s. absurd (cc (s, no_value q a)), λ s. absurd (cc (s)))
    both_or_none q (Some k) a = let t = i.there q k a in (λ _. refl, λ _. rw (value_here q k t.0 a t.1) refl)

    -- A start has an index if and only if it has a value.
    pub same_starts : (q : ℕ) → IsSome (map.get (values_of vs) q) ↔ IsSome (map.get indices q)
    same_starts q = both_or_none q (map.get indices q) refl

    pub no_index : (q : ℕ) → map.get (values_of vs) q ≡ None → map.get indices q ≡ None
    no_index q h = absent (map.get indices q) (λ s. let some = (same_starts q).1 s in cc (some, h))

    -- The table is that of other indices and items if it has their values.
    same_values : (m : map.FinMap nat_cmp X) → ((q : ℕ) → value_in vs (map.get indices q) ≡ map.get m q) → values_of vs ≡ m
    same_values m h = same_table (values_of vs) m (λ q. got_value q ∙ h q)

  module _ (indices : map.FinMap nat_cmp ℕ) (vs new : List (ValueAt X)) (i : AreIndexed indices vs) where
    -- A start with a value at another index is another start.
    pub other_index : (a b j k : ℕ) → map.get indices a ≡ Some j → map.get indices b ≡ Some k → j ≢ k → a ≢ b
    other_index a b j k g h n e =
        let same : Some j ≡ Some k = sym g ∙ ap (λ (s : ℕ). map.get indices s) e ∙ h in n (cc (same))

    -- ---- An item that is added at the end
    module _ (n : ℕ) (item : ValueAt X) (none : map.get indices item.start ≡ None) (past : slice_get vs n ≡ None)
        (here : slice_get new n ≡ Some item) (others : (j : ℕ) → j ≢ n → slice_get new j ≡ slice_get vs j) where
      abbrev more : map.FinMap nat_cmp ℕ
      more = map.insert indices item.start n

      not_past : (s j : ℕ) → map.get indices s ≡ Some j → j ≢ n
      not_past s j g e =
          let t = i.there s j g in cc (sym t.1 ∙ ap (λ (k : ℕ). slice_get vs k) e ∙ past)

      added_there : (s j : ℕ) → map.get more s ≡ Some j → (v : ValueAt X) × (slice_get new j ≡ Some v) × (v.start ≡ s)
      added_there s j h =
          ⊎_elim
          (λ (e : s ≡ item.start). (item, grind (arith, h, e, here, get_with indices item.start n s), sym e))
          (λ (d : s ≢ item.start).
          let old : map.get indices s ≡ Some j = grind (arith, h, d, get_with indices item.start n s) in
          let t = i.there s j old in (t.0, others j (not_past s j old) ∙ t.1, t.2))
          (same_or_not s item.start)

      pub added : AreIndexed more new
      added = record {
        found = λ j v h. grind (arith, h, here, none, others j, i.found j v, get_with indices item.start n v.start);
        there = added_there;
      }

      added_value : (q : ℕ) (o : Option ℕ) → map.get indices q ≡ o →
          value_in new (map.get more q) ≡ map.get (map.insert (values_of vs) item.start item.value) q
      added_value q None g =
          grind (arith, g, here, get_with indices item.start n q, get_with (values_of vs) item.start item.value q, got_value indices vs i q)
      added_value q (Some j) g =
          let same = others j (not_past q j g) in
          grind (arith, g, here, same, get_with indices item.start n q, get_with (values_of vs) item.start item.value q, got_value indices vs i q)

      pub values_added : values_of new ≡ map.insert (values_of vs) item.start item.value
      values_added = same_values more new added _ (λ q. added_value q (map.get indices q) refl)

    -- ---- The items other than one keep their indices
    module _ (k : ℕ) (old : ValueAt X) (at : slice_get vs k ≡ Some old) (others : (j : ℕ) → j ≢ k → slice_get new j ≡ slice_get vs j) where
      -- The index of the item before.
      index : map.get indices old.start ≡ Some k
      index = i.found k old at

      -- An item with another start is at another index.
      other_item : (s j : ℕ) → map.get indices s ≡ Some j → s ≢ old.start → j ≢ k
      other_item s j g d e =
          let t = i.there s j g in
          let is : old ≡ t.0 = cc (sym at ∙ ap (λ (m : ℕ). slice_get vs m) (sym e) ∙ t.1) in
          d (sym t.2 ∙ ap (λ (u : ValueAt X). u.start) (sym is))

      other_value : (q : ℕ) (o : Option ℕ) → map.get indices q ≡ o → q ≢ old.start → value_in new o ≡ value_in vs o
      other_value q None g d = refl
      other_value q (Some j) g d = ap (λ (u : Option (ValueAt X)). option_map value_of u) (others j (other_item q j g d))

      other_there : (s j : ℕ) → map.get indices s ≡ Some j → s ≢ old.start → (v : ValueAt X) × (slice_get new j ≡ Some v) × (v.start ≡ s)
      other_there s j g d = let t = i.there s j g in (t.0, others j (other_item s j g d) ∙ t.1, t.2)

      -- ---- The item is replaced by one at the same start, or at one without a value
      module _ (item : ValueAt X) (here : slice_get new k ≡ Some item) (free : item.start ≢ old.start → map.get indices item.start ≡ None) where
        abbrev moved_indices : map.FinMap nat_cmp ℕ
        moved_indices = map.insert (map.remove indices old.start) item.start k

        moved_at : (s : ℕ) → map.get moved_indices s ≡ cond (s == item.start) (Some k) (cond (s == old.start) None (map.get indices s))
        moved_at s =
            get_with (map.remove indices old.start) item.start k s
            ∙ ap (λ (o : Option ℕ). cond (s == item.start) (Some k) o) (get_without indices old.start s)

        moved_there : (s j : ℕ) → map.get moved_indices s ≡ Some j → (v : ValueAt X) × (slice_get new j ≡ Some v) × (v.start ≡ s)
        moved_there s j h =
            ⊎_elim
            (λ (e : s ≡ item.start). (item, grind (arith, h, e, here, moved_at s), sym e))
            (λ (d : s ≢ item.start). other_there s j (grind (arith, h, d, moved_at s)) (grind (arith, h, d, moved_at s)))
            (same_or_not s item.start)

        pub moved : AreIndexed moved_indices new
        moved = record {
          found = λ j v h. grind (arith, h, here, free, index, others j, i.found j v, moved_at v.start);
          there = moved_there;
        }

        abbrev moved_values : map.FinMap nat_cmp X
        moved_values = map.insert (map.remove (values_of vs) old.start) item.start item.value

        moved_value : (q : ℕ) (o : Option ℕ) → map.get indices q ≡ o → value_in new (map.get moved_indices q) ≡ map.get moved_values q
        moved_value q o g =
            let others = other_value q o g in
            let put = get_with (map.remove (values_of vs) old.start) item.start item.value q in
            grind (arith, g, here, index, others, moved_at q, put, get_without (values_of vs) old.start q, got_value indices vs i q)

        pub values_moved : values_of new ≡ moved_values
        values_moved = same_values moved_indices new moved moved_values (λ q. moved_value q (map.get indices q) refl)

      -- ---- The item is the last one, and is taken out
      module _ (past : slice_get new k ≡ None) where
        pub cut : AreIndexed (map.remove indices old.start) new
        cut = record {
          found = λ j v h. grind (arith, h, past, index, others j, i.found j v, get_without indices old.start v.start);
          there = λ s j h. other_there s j (grind (arith, h, get_without indices old.start s)) (grind (arith, h, get_without indices old.start s));
        }

        cut_value : (q : ℕ) (o : Option ℕ) → map.get indices q ≡ o →
            value_in new (map.get (map.remove indices old.start) q) ≡ map.get (map.remove (values_of vs) old.start) q
        cut_value q o g =
            let others = other_value q o g in
            grind (arith, g, others, get_without indices old.start q, get_without (values_of vs) old.start q, got_value indices vs i q)

        pub values_cut : values_of new ≡ map.remove (values_of vs) old.start
        values_cut = same_values (map.remove indices old.start) new cut _ (λ q. cut_value q (map.get indices q) refl)

-- A list without items has no index.
pub nothing_indexed : {X : Type 0} → AreIndexed {X = X} map.empty []
nothing_indexed = record {
  found = λ k v h. absurd (cc (h));
  there = λ s k h. absurd (cc (h, map.get-empty {X = ℕ} nat_cmp s));
}
