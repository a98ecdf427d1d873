-- The ranges of a map with their values as lists: the entries of the indices are those of the held ranges, in order.
use Rattle.std.proofs.Common.{
  ◌≡◌,
  ◌≢◌,
  ◌==◌,
  ℕ,
  suc,
  ◌+◌,
  ◌<◌,
  ◌⊎◌,
  ◌&&◌,
  Bool,
  true,
  false,
  cond,
  T,
  List,
  [],
  ◌∷◌,
  ◌++◌,
  length,
  reverse,
  map as map_list,
  get_or,
  refl,
  sym,
  ap,
  ◌∙◌,
  arith,
  inl,
  inr,
  ⊎_elim,
  subst,
  Option,
  Some,
  None,
}
use Rattle.std.proofs.lemmas.List.{map-append, reverse-append}
use Rattle.std.specs.Option.{unwrap_or}
use Rattle.std.specs.declared.cmp.Ordering.TheVariants.{Greater}
use Rattle.std.specs.Ordering.{nat_cmp, is_lt}
use Rattle.std.specs.Cmp.{nat_cmp_total, nat_cmp_is, unsigned_tied}
use Rattle.std.specs.FinMap.Entries.{below_all, is_sorted, find, put, same_entries}
use Rattle.std.specs.FinMap as map
use Rattle.vm_ranges.specs.Range.{Range}
use Rattle.vm_ranges.proofs.Items.{less}
use Rattle.vm_ranges.specs.Address.{AreInOrder}
use Rattle.vm_ranges.proofs.PlainWords.{IsHeld, contains_held, held_contains}
use Rattle.vm_list.specs.Entries.{IsDescendingBy}
use Rattle.vm_range_map.specs.declared.range_map.value_table.IndexAt.{IndexAt}
use Rattle.vm_range_map.specs.RangeMaps.{MapState, IsMapState}
use Rattle.vm_range_map.specs.Checks.{start_of, entry_of, indices_of}
use Rattle.vm_range_map.proofs.MapStates.{some_value, absent}

-- ---- The entries of a descending list, in ascending order
-- The starts of the entries are below k.
abbrev AreBelow : ℕ → List IndexAt → Type 0
AreBelow k [] = Unit {0}
AreBelow k (e ∷ es) = (e.start < k) × AreBelow k es

below_append : (k : ℕ) (xs ys : List IndexAt) → AreBelow k xs → AreBelow k ys → AreBelow k (xs ++ ys)
below_append k [] ys a b = b
below_append k (x ∷ xs) ys a b = (a.0, below_append k xs ys a.1 b)

reverse_cons : (x : IndexAt) (xs : List IndexAt) → reverse (x ∷ xs) ≡ reverse xs ++ x ∷ []
reverse_cons x xs = reverse-append (x ∷ []) xs

below_reverse : (k : ℕ) (xs : List IndexAt) → AreBelow k xs → AreBelow k (reverse xs)
below_reverse k [] a = tt
below_reverse k (x ∷ xs) a =
    subst (AreBelow k) (sym (reverse_cons x xs)) (below_append k (reverse xs) (x ∷ []) (below_reverse k xs a.1) (a.0, tt))

-- Entries whose starts are below k one by one are below k.
below_each : (k : ℕ) (xs : List IndexAt) → ((j : ℕ) (d : IndexAt) → j < length xs → (get_or xs j d).start < k) → AreBelow k xs
below_each k [] h = tt
below_each k (x ∷ xs) h = (h 0 x (omega arith), below_each k xs (λ j d l. h (suc j) d (omega (arith, l))))

-- A key above all others is put at the end.
put_last : (k v : ℕ) (xs : List IndexAt) → AreBelow k xs → put nat_cmp k v (map_list entry_of xs) ≡ map_list entry_of xs ++ (k, v) ∷ []
put_last k v [] a = refl
put_last k v (x ∷ xs) a =
    let above : Greater ≡ nat_cmp k x.start = nat_cmp_is k x.start Greater a.0 in
    rw (← above) (ap (λ es. entry_of x ∷ es) (put_last k v xs a.1))

empty_list : (es : List (ℕ × ℕ)) → length es ≡ 0 → es ≡ []
empty_list [] l = refl
empty_list (e ∷ es) l = absurd (omega (arith, l))

no_entries : map.entries (map.empty {X = ℕ} {R = nat_cmp}) ≡ []
no_entries = empty_list _ (sym (map.len-entries (map.empty {X = ℕ} {R = nat_cmp})) ∙ map.len-empty nat_cmp ℕ)

-- The entries of the table of a descending list are those of the list, in ascending order.
pub entries_listed : (xs : List IndexAt) → IsDescendingBy start_of xs → map.entries (indices_of xs) ≡ map_list entry_of (reverse xs)
entries_listed [] down = no_entries
entries_listed (x ∷ xs) down =
    let rest = entries_listed xs (λ i j d l w. down (suc i) (suc j) d (omega (arith, l)) (omega (arith, w))) in
    let below = below_each x.start xs (λ j d l. down 0 (suc j) d (omega arith) (omega (arith, l))) in
    map.entries-insert nat_cmp_total (indices_of xs) x.start x.index
    ∙ ap (put nat_cmp x.start x.index) rest
    ∙ put_last x.start x.index (reverse xs) (below_reverse x.start xs below)
    ∙ sym (ap (map_list entry_of) (reverse_cons x xs) ∙ map-append entry_of (reverse xs) (x ∷ []))

pub ruleset listed = (entries_listed)

-- ---- The entries of the held ranges
module _ (values : map.FinMap nat_cmp ℕ) where
  -- The start of the range, with its value in the table.
  abbrev pub pair_in : Range → ℕ × ℕ
  pair_in r = (r.start, unwrap_or (map.get values r.start) 0)

  both : (a b : Bool) → T a → T b → T (a && b)
  both true b p q = q
  both false b p q = p

  starts_above : (k lo hi : ℕ) (hs : List Range) → k < lo → AreInOrder lo hs hi → T (below_all nat_cmp k (map_list pair_in hs))
  starts_above k lo hi [] l o = tt
  starts_above k lo hi (r ∷ rs) l o =
      both _ _ (subst (λ c. T (is_lt c)) (sym (less k r.start (omega (arith, l, o.0)))) tt)
      (starts_above k (r.end + 1) hi rs (omega (arith, l, o.0, o.1)) o.4)

  starts_rise : (lo hi : ℕ) (hs : List Range) → AreInOrder lo hs hi → T (is_sorted nat_cmp (map_list pair_in hs))
  starts_rise lo hi [] o = tt
  starts_rise lo hi (r ∷ rs) o =
      both _ _ (starts_above r.start (r.end + 1) hi rs (omega (arith, o.1)) o.4) (starts_rise (r.end + 1) hi rs o.4)

  -- A held range starts at q, and its value is found there, or none does, and none is found.
  abbrev IsFound : List Range → ℕ → Option ℕ → Type 0
  IsFound hs q found =
      (((r : Range) × IsHeld hs r × (r.start ≡ q)) × (found ≡ Some (unwrap_or (map.get values q) 0)))
      ⊎ (((r : Range) → IsHeld hs r → r.start ≢ q) × (found ≡ None))

  -- A look-up in a list finds the value of the first range, or what a look-up in the others finds.
  first_or_later : (r : Range) (rs : List Range) (q : ℕ) (found : Option ℕ) → (q ≡ r.start) ⊎ (q ≢ r.start) → IsFound rs q found →
      IsFound (r ∷ rs) q (cond (q == r.start) (Some (unwrap_or (map.get values r.start) 0)) found)
  first_or_later r rs q found (inl e) h =
      inl ((r, inl refl, sym e), rw (← e) (grind arith))
  first_or_later r rs q found (inr n) (inl h) =
      inl ((h.0.0, inr h.0.1, h.0.2), grind (arith, n, h.1))
  first_or_later r rs q found (inr n) (inr h) =
      inr (λ t k. ⊎_elim (λ (e : r ≡ t) s. n (sym s ∙ sym (ap (λ (v : Range). v.start) e))) (λ c. h.0 t c) k, grind (arith, n, h.1))

  same_or_not : (a b : ℕ) → (a ≡ b) ⊎ (a ≢ b)
  same_or_not a b = grind arith

  found_held : (hs : List Range) (q : ℕ) → IsFound hs q (find nat_cmp q (map_list pair_in hs))
  found_held [] q = inr (λ r h. absurd h, refl)
  found_held (r ∷ rs) q =
      subst (λ b. IsFound (r ∷ rs) q (cond b (Some (unwrap_or (map.get values r.start) 0)) (find nat_cmp q (map_list pair_in rs))))
      (sym (unsigned_tied q r.start))
      (first_or_later r rs q _ (same_or_not q r.start) (found_held rs q))

-- The table has the value of each held range, and no other value.
got_held : (state : MapState ℕ) → IsMapState state → (q : ℕ) →
    find nat_cmp q (map_list (pair_in state.values) state.space.held) ≡ map.get state.values q
got_held state i q =
    ⊎_elim
    (λ f.
    let v = some_value (map.get state.values q) ((i.starts q).1 (f.0.0, contains_held state.space.held f.0.0 f.0.1, f.0.2)) in
    f.1 ∙ ap (λ (o : Option ℕ). Some (unwrap_or o 0)) v.1 ∙ sym v.1)
    (λ n. n.1 ∙ sym (absent (map.get state.values q) (λ s.
    let r = (i.starts q).0 s in n.0 r.0 (held_contains state.space.held r.0 r.1) r.2)))
    (found_held state.values state.space.held q)

-- The entries of the table are those of the held ranges, in order.
pub entries_held : (state : MapState ℕ) → IsMapState state → map.entries state.values ≡ map_list (pair_in state.values) state.space.held
entries_held state i =
    sym (same_entries nat_cmp nat_cmp_total map.nat_cmp-IsAntisymmetric _ (map.entries state.values)
    (starts_rise state.values state.space.space.start state.space.space.end state.space.held i.space.in_order) (map.entries_sorted state.values)
    (λ q. got_held state i q ∙ map.get-entries state.values q))
