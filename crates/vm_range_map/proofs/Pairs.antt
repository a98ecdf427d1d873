-- Ranges and entries in pairs, and the values at the indices of the entries.
use Rattle.std.proofs.Common.{◌≡◌, ℕ, zero, suc, ◌<◌, List, [], ◌∷◌, ◌++◌, length, map as map_list, refl, sym, ap, ◌∙◌, arith, inl, inr, subst, Option, Some, None, IsSome, option_map}
use Rattle.std.proofs.lemmas.List.{length-append}
use Rattle.std.proofs.lemmas.Option.{slice_get_within}
use Rattle.std.specs.Option.{unwrap_or}
use Rattle.std.specs.List.{slice_get, cons_option, filter_map}
use Rattle.std.specs.Ordering.{nat_cmp}
use Rattle.std.specs.FinMap as map
use Rattle.vm_ranges.specs.Range.{Range}
use Rattle.vm_ranges.specs.Address.{AddressState}
use Rattle.vm_ranges.proofs.PlainWords.{IsHeld, contains_held}
use Rattle.vm_range_map.specs.declared.range_map.value_table.IndexAt.{IndexAt}
use Rattle.vm_range_map.specs.declared.range_map.value_table.ValueAt.{ValueAt}
use Rattle.vm_range_map.specs.RangeMaps.{MapState, map_of, IsMapState}
use Rattle.vm_range_map.specs.Queries.{valued_in, valued_ranges}
use Rattle.vm_range_map.specs.Checks.{entry_of, value_of, values_of, pair_up, AreIndexed, AreListed, AreMatched}
use Rattle.vm_range_map.proofs.MapStates.{some_value}
use Rattle.vm_range_map.proofs.Indices.{value_here, same_starts}
use Rattle.vm_range_map.proofs.ValuedLists.{pair_in, entries_held}

-- An item within the list is there.
within_some : {X : Type 0} (xs : List X) (k : ℕ) → k < length xs → slice_get xs k ≡ None → ⊥
within_some [] k l h = omega (arith, l)
within_some (x ∷ xs) zero l h = cc (h)
within_some (x ∷ xs) (suc k) l h = within_some xs k (omega (arith, l)) h

module _ {X : Type 0} (vs : List (ValueAt X)) where
  -- ---- The pairs that an iterator has left
  -- The item at the index, with its range.
  abbrev pair_at : Range → IndexAt → List (Range × X) → List (Range × X)
  pair_at r e others = cons_option (option_map (λ v. (r, v.value)) (slice_get vs e.index)) others

  one_more : (r : Range) (o : Option (ValueAt X)) (others : List (Range × X)) (n : ℕ) → (o ≡ None → ⊥) → length others ≡ n →
      length (cons_option (option_map (λ v. (r, v.value)) o) others) ≡ suc n
  one_more r None others n s h = absurd (s refl)
  one_more r (Some v) others n s h = ap suc h

  inside : (k : ℕ) → k < length vs → slice_get vs k ≡ None → ⊥
  inside k l h = within_some vs k l h

  pair_of_value : (r : Range) (o : Option (ValueAt X)) (value : X) (others : List (Range × X)) → Some value ≡ option_map value_of o →
      cons_option (option_map (λ v. (r, v.value)) o) others ≡ (r, value) ∷ others
  pair_of_value r None value others h = absurd (cc (h))
  pair_of_value r (Some v) value others h = let same : value ≡ v.value = cc (h) in ap (λ (x : X). (r, x) ∷ others) (sym same)

  -- There are as many pairs as ranges.
  pub pair_long : (rs : List Range) (es : List IndexAt) → AreMatched vs rs es → length (pair_up vs rs es) ≡ length rs
  pair_long [] es m = refl
  pair_long (r ∷ rs) [] m = absurd m
  pair_long (r ∷ rs) (e ∷ es) m =
      one_more r (slice_get vs e.index) (pair_up vs rs es) (length rs) (inside e.index m.0) (pair_long rs es m.1)

  -- There is an entry for a range.
  no_range : (rs : List Range) (es : List IndexAt) → es ≡ [] → AreMatched vs rs es → rs ≡ []
  no_range [] es h m = refl
  no_range (q ∷ rs) [] h m = absurd m
  no_range (q ∷ rs) (e ∷ es) h m = absurd (cc (h))

  pub pair_none : (rs others : List Range) (r : Range) (es : List IndexAt) → rs ≡ others ++ r ∷ [] → es ≡ [] → AreMatched vs rs es → ⊥
  pair_none rs others r es h t m =
      let long = ap (λ (xs : List Range). length xs) (sym h ∙ no_range rs es t m) in
      let more = length-append others (r ∷ []) in
      omega (arith, long, more)

  -- The last range and the last entry, and the others.
  module _ (r : Range) (e : IndexAt) where
    parted : (rs : List Range) (es : List IndexAt) → AreMatched vs (rs ++ r ∷ []) (es ++ e ∷ []) → (e.index < length vs) × AreMatched vs rs es
    parted [] [] m = m
    parted [] (f ∷ []) m = absurd m.1
    parted [] (f ∷ g ∷ es) m = absurd m.1
    parted (q ∷ []) [] m = absurd m.1
    parted (q ∷ p ∷ rs) [] m = absurd m.1
    parted (q ∷ rs) (f ∷ es) m = let k = parted rs es m.1 in (k.0, (m.0, k.1))

    after : (q : Range) (o : Option (ValueAt X)) (xs ys zs : List (Range × X)) → xs ≡ ys ++ zs →
        cons_option (option_map (λ v. (q, v.value)) o) xs ≡ cons_option (option_map (λ v. (q, v.value)) o) ys ++ zs
    after q None xs ys zs h = h
    after q (Some v) xs ys zs h = ap (λ ws. (q, v.value) ∷ ws) h

    pair_pushed : (rs : List Range) (es : List IndexAt) → AreMatched vs rs es →
        pair_up vs (rs ++ r ∷ []) (es ++ e ∷ []) ≡ pair_up vs rs es ++ pair_at r e []
    pair_pushed [] [] m = refl
    pair_pushed [] (f ∷ es) m = absurd m
    pair_pushed (q ∷ rs) [] m = absurd m
    pair_pushed (q ∷ rs) (f ∷ es) m = after q (slice_get vs f.index) _ _ _ (pair_pushed rs es m.1)

  module _ (all rs : List Range) (every es : List IndexAt) (r : Range) (e : IndexAt) (m : AreMatched vs all every) where
    -- The last pair is that of the last range and the last entry.
    module _ (s : all ≡ rs ++ r ∷ []) (t : every ≡ es ++ e ∷ []) where
      matched_last : AreMatched vs (rs ++ r ∷ []) (es ++ e ∷ [])
      matched_last =
          subst (λ (xs : List IndexAt). AreMatched vs (rs ++ r ∷ []) xs) t (subst (λ (xs : List Range). AreMatched vs xs every) s m)

      pub last_within : e.index < length vs
      last_within = (parted r e rs es matched_last).0

      pub last_left : AreMatched vs rs es
      last_left = (parted r e rs es matched_last).1

      pub pair_last : (value : X) → Some value ≡ option_map value_of (slice_get vs e.index) →
          pair_up vs all every ≡ pair_up vs rs es ++ (r, value) ∷ []
      pair_last value h =
          ap (λ (xs : List Range). pair_up vs xs every) s ∙ ap (λ (xs : List IndexAt). pair_up vs (rs ++ r ∷ []) xs) t
          ∙ pair_pushed r e rs es last_left
          ∙ ap (λ (xs : List (Range × X)). pair_up vs rs es ++ xs) (pair_of_value r (slice_get vs e.index) value [] h)

  -- ---- The pairs of a map
  module _ (indices : map.FinMap nat_cmp ℕ) (i : AreIndexed indices vs) where
    -- If the entries are those of the ranges, each range has its value.
    pub pairs_valued : (rs : List Range) (es : List IndexAt) → ((r : Range) → IsHeld rs r → IsSome (map.get indices r.start)) →
        map_list entry_of es ≡ map_list (pair_in indices) rs →
        AreMatched vs rs es × (pair_up vs rs es ≡ filter_map (valued_in (values_of vs)) rs)
    pairs_valued [] [] some h = (tt, refl)
    pairs_valued [] (e ∷ es) some h = absurd (cc (h))
    pairs_valued (r ∷ rs) [] some h = absurd (cc (h))
    pairs_valued (r ∷ rs) (e ∷ es) some h =
        let k = some_value (map.get indices r.start) (some r (inl refl)) in
        let at : e.index ≡ unwrap_or (map.get indices r.start) 0 = grind (arith, h) in
        let is : e.index ≡ k.0 = at ∙ ap (λ (o : Option ℕ). unwrap_or o 0) k.1 in
        let t = i.there r.start k.0 k.1 in
        let got : slice_get vs e.index ≡ Some t.0 = ap (λ (j : ℕ). slice_get vs j) is ∙ t.1 in
        let value = value_here indices vs i r.start k.0 t.0 k.1 t.1 in
        let rest = pairs_valued rs es (λ q c. some q (inr c)) (cc (h)) in (
          (slice_get_within vs e.index t.0 got, rest.0),
          ap (λ (o : Option (ValueAt X)). cons_option (option_map (λ u. (r, u.value)) o) (pair_up vs rs es)) got
              ∙ ap (λ ws. (r, t.0.value) ∷ ws) rest.1
              ∙ ap (λ (o : Option X). cons_option (option_map (λ v. (r, v)) o) (filter_map (valued_in (values_of vs)) rs)) (sym value),
        )

    -- The indices are those of a map with the same ranges.
    pub index_state : (space : AddressState) → IsMapState (map_of space (values_of vs)) → IsMapState (map_of space indices)
    index_state space s = record {
      space = s.space;
      starts = λ q. (
        λ h. (s.starts q).0 ((same_starts indices vs i q).1 h),
        λ h. (same_starts indices vs i q).0 ((s.starts q).1 h),
      );
    }

    pub pairs_of_map : (space : AddressState) (es : List IndexAt) → IsMapState (map_of space (values_of vs)) →
        map.entries indices ≡ map_list entry_of es →
        AreMatched vs space.held es × (pair_up vs space.held es ≡ valued_ranges (map_of space (values_of vs)))
    pairs_of_map space es s h =
        let state : MapState ℕ = map_of space indices in
        let valid = index_state space s in
        pairs_valued space.held es
        (λ r c. (valid.starts r.start).1 (r, contains_held space.held r c, refl))
        (sym h ∙ entries_held state valid)

-- The iterator of a map has a pair for each held range.
pub listed_pairs : {X : Type 0} (state : MapState X) (es : List IndexAt) (vs : List (ValueAt X)) → IsMapState state → AreListed state.values es vs →
    AreMatched vs state.space.held es × (pair_up vs state.space.held es ≡ valued_ranges state)
listed_pairs {X} state es vs s l =
    let valid : IsMapState (map_of state.space (values_of vs)) =
    subst (λ (m : map.FinMap nat_cmp X). IsMapState (map_of state.space m)) (sym l.values) s in
    let p = pairs_of_map vs l.indices l.indexed state.space es valid l.entries in
    (p.0, p.1 ∙ ap (λ (m : map.FinMap nat_cmp X). valued_ranges (map_of state.space m)) l.values)

pub ruleset pair_lists = (pair_long)
