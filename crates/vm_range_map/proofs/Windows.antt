-- The held ranges in a window with their values, taken one by one from both ends.
use Rattle.std.proofs.Common.{◌≡◌, Bool, true, false, cond, List, [], ◌∷◌, ◌++◌, Option, Some, IsSome, option_map, filter, refl, sym, ap, ◌∙◌, subst, inl, inr}
use Rattle.std.proofs.lemmas.List.Elements.{filter_map-append}
use Rattle.std.specs.List.{cons_option, filter_map}
use Rattle.std.specs.Ordering.{nat_cmp}
use Rattle.std.specs.FinMap as map
use Rattle.vm_ranges.specs.Range.{Range}
use Rattle.vm_ranges.proofs.PlainWords.{IsHeld, contains_held}
use Rattle.vm_addresses.specs.Queries.{meeting}
use Rattle.vm_range_map.specs.RangeMaps.{MapState, IsMapState}
use Rattle.vm_range_map.specs.Queries.{valued_in, AreValued}

module _ {X : Type 0} (values : map.FinMap nat_cmp X) where
  -- ---- The ranges that have a value
  valued_each : (rs : List Range) → ((r : Range) → IsHeld rs r → IsSome (map.get values r.start)) → AreValued values rs
  valued_each [] h = tt
  valued_each (r ∷ rs) h = (h r (inl refl), valued_each rs (λ q c. h q (inr c)))

  valued_or_not : (b : Bool) (r : Range) (rs : List Range) → IsSome (map.get values r.start) → AreValued values rs → AreValued values (cond b (r ∷ rs) rs)
  valued_or_not true r rs s h = (s, h)
  valued_or_not false r rs s h = h

  valued_some : (p : Range → Bool) (rs : List Range) → AreValued values rs → AreValued values (filter p rs)
  valued_some p [] h = tt
  valued_some p (r ∷ rs) h = valued_or_not (p r) r (filter p rs) h.0 (valued_some p rs h.1)

  -- ---- The range that is taken
  one_value : (r : Range) (o : Option X) (value : X) (others : List (Range × X)) → Some value ≡ o →
      cons_option (option_map (λ v. (r, v)) o) others ≡ (r, value) ∷ others
  one_value r o value others h = ap (λ (p : Option X). cons_option (option_map (λ v. (r, v)) p) others) (sym h)

  parted : (rs : List Range) (r : Range) → AreValued values (rs ++ r ∷ []) → AreValued values rs × IsSome (map.get values r.start)
  parted [] r h = (tt, h.0)
  parted (q ∷ rs) r h = let k = parted rs r h.1 in ((h.0, k.0), k.1)

  module _ (all rs : List Range) (r : Range) (h : AreValued values all) where
    module _ (s : all ≡ r ∷ rs) where
      pub first_valued : IsSome (map.get values r.start) × AreValued values rs
      first_valued = subst (λ (xs : List Range). AreValued values xs) s h

    module _ (s : all ≡ rs ++ r ∷ []) where
      pub last_valued : AreValued values rs × IsSome (map.get values r.start)
      last_valued = parted rs r (subst (λ (xs : List Range). AreValued values xs) s h)

      pub last_taken : (value : X) → Some value ≡ map.get values r.start →
          filter_map (valued_in values) all ≡ filter_map (valued_in values) rs ++ (r, value) ∷ []
      last_taken value k =
          ap (λ (xs : List Range). filter_map (valued_in values) xs) s
          ∙ filter_map-append (valued_in values) rs (r ∷ [])
          ∙ ap (λ (ps : List (Range × X)). filter_map (valued_in values) rs ++ ps) (one_value r _ value [] k)

-- The held ranges of a window have values.
pub held_valued : {X : Type 0} (state : MapState X) (window : Range) → IsMapState state → AreValued state.values (meeting window state.space.held)
held_valued state window i =
    valued_some state.values _ state.space.held
    (valued_each state.values state.space.held (λ r c. (i.starts r.start).1 (r, contains_held state.space.held r c, refl)))
