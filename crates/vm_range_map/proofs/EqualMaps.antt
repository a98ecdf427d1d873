-- Maps are the same if and only if their spaces and the lists of their ranges with values are.
use Rattle.std.proofs.Common.{◌≡◌, ◌↔◌, ◌&&◌, ℕ, Bool, eqb, true, false, IsTrue, List, [], ◌∷◌, Option, Some, None, IsSome, IfSome, MatchOption, option_map, refl, sym, ap, ◌∙◌, subst, inl, inr, ⊎_elim}
use Rattle.std.specs.List.{AllZip, Contains, cons_option, filter_map}
use Rattle.std.specs.declared.cmp.Ordering.{Ordering}
use Rattle.std.specs.declared.cmp.Ordering.TheVariants.{Less, Equal, Greater}
use Rattle.std.specs.Ordering.{nat_cmp, eq_by_cmp, is_eq, ordering_then}
use Rattle.std.specs.Iterator.{YieldsFirstBy, YieldsThen, ComparesItemsByEq}
use Rattle.std.specs.Cmp.{IsEquivalence, Equal-is, unsigned_tied}
use Rattle.std.specs.Cmp.Lexicographic.{pointwise}
use Rattle.std.specs.FinMap as map
use Rattle.vm_ranges.specs.Range.{Range}
use Rattle.vm_ranges.specs.Address.{AddressState}
use Rattle.vm_ranges.specs.RangeOrder.{range_cmp}
use Rattle.vm_ranges.proofs.RangeOrders.{range_cmp-exact}
use Rattle.vm_ranges.proofs.PlainWords.{IsHeld, contains_held, held_contains}
use Rattle.vm_addresses.specs.Comparison.{state_cmp}
use Rattle.vm_addresses.proofs.Comparing.StateOrders.{one_state, state_cmp-Equal}
use Rattle.vm_range_map.specs.RangeMaps.{MapState, IsMapState, map_of}
use Rattle.vm_range_map.specs.Queries.{valued_in, valued_ranges, same_valued, same_maps, same_maps-equivalence}
use Rattle.vm_range_map.specs.Laws.{EqualMapsAreTheSame}
use Rattle.vm_range_map.proofs.Tables.{same_table}

-- Two tests that hold together are the same.
same_bool : (a b : Bool) → (a ≡ true → b ≡ true) → (b ≡ true → a ≡ true) → a ≡ b
same_bool true true f g = refl
same_bool true false f g = sym (f refl)
same_bool false true f g = g refl
same_bool false false f g = refl

-- Both parts of a test that is true.
both_true : (a b : Bool) → a && b ≡ true → (a ≡ true) × (b ≡ true)
both_true true b h = (refl, h)
both_true false b h = absurd (cc (h))

module _ {X : Type 0} where
  -- ---- States with the same list of ranges with values
  abbrev first_value : X → List (Range × X) → X
  first_value d [] = d
  first_value d (p ∷ ps) = p.1

  abbrev others_of : List (Range × X) → List (Range × X)
  others_of [] = []
  others_of (p ∷ ps) = ps

  one_more : (r : Range) (a b : Option X) (xs ys : List (Range × X)) → IsSome a → IsSome b →
      cons_option (option_map (λ v. (r, v)) a) xs ≡ cons_option (option_map (λ v. (r, v)) b) ys → (a ≡ b) × (xs ≡ ys)
  one_more r None b xs ys s t h = absurd (cc (s))
  one_more r (Some v) None xs ys s t h = absurd (cc (t))
  one_more r (Some v) (Some w) xs ys s t h = (ap (λ (u : X). Some u) (ap (first_value v) h), ap others_of h)

  -- Tables that have the same values of the ranges have the same value of each.
  values_same : (m n : map.FinMap nat_cmp X) (rs : List Range) → ((r : Range) → IsHeld rs r → IsSome (map.get m r.start)) →
      ((r : Range) → IsHeld rs r → IsSome (map.get n r.start)) → filter_map (valued_in m) rs ≡ filter_map (valued_in n) rs →
      (r : Range) → IsHeld rs r → map.get m r.start ≡ map.get n r.start
  values_same m n [] s t h r c = absurd c
  values_same m n (q ∷ rs) s t h r c =
      let first = one_more q (map.get m q.start) (map.get n q.start) _ _ (s q (inl refl)) (t q (inl refl)) h in
      ⊎_elim
      (λ (e : q ≡ r). subst (λ (u : Range). map.get m u.start ≡ map.get n u.start) e first.0)
      (λ (d : IsHeld rs r). values_same m n rs (λ u k. s u (inr k)) (λ u k. t u (inr k)) first.1 r d)
      c

  module _ (space : AddressState) (m n : map.FinMap nat_cmp X) (s : IsMapState (map_of space m)) (t : IsMapState (map_of space n))
      (same : valued_ranges (map_of space m) ≡ valued_ranges (map_of space n)) where
    held_same : (r : Range) → Contains space.held r → map.get m r.start ≡ map.get n r.start
    held_same r c =
        values_same m n space.held
        (λ q k. (s.starts q.start).1 (q, contains_held space.held q k, refl))
        (λ q k. (t.starts q.start).1 (q, contains_held space.held q k, refl))
        same r (held_contains space.held r c)

    by_start : (q : ℕ) (o p : Option X) → map.get m q ≡ o → map.get n q ≡ p → o ≡ p
    by_start q None None a b = refl
    by_start q (Some v) p a b =
        let r = (s.starts q).0 (rw a refl) in
        sym a ∙ ap (λ (k : ℕ). map.get m k) (sym r.2) ∙ held_same r.0 r.1 ∙ ap (λ (k : ℕ). map.get n k) r.2 ∙ b
    by_start q None (Some w) a b =
        let r = (t.starts q).0 (rw b refl) in
        sym a ∙ ap (λ (k : ℕ). map.get m k) (sym r.2) ∙ held_same r.0 r.1 ∙ ap (λ (k : ℕ). map.get n k) r.2 ∙ b

    same_values : m ≡ n
    same_values = same_table m n (λ q. by_start q (map.get m q) (map.get n q) refl refl)

  -- Maps with the same space and the same list of ranges with values have the same state.
  same_state : (a b : MapState X) → IsMapState a → IsMapState b → a.space ≡ b.space → valued_ranges a ≡ valued_ranges b → a ≡ b
  same_state a b s t e h =
      let values =
      same_values a.space a.values b.values s
      (subst (λ (space : AddressState). IsMapState (map_of space b.values)) (sym e) t)
      (subst (λ (space : AddressState). valued_ranges a ≡ valued_ranges (map_of space b.values)) (sym e) h) in
      λ k. record { space = e k; values = values k }

  -- ---- Where equal values are the same
  module _ (eq : X → X → Bool) (exact : (v w : X) → IsTrue (eq v w) ↔ (v ≡ w)) where
    valued_exact : (p q : Range × X) → same_valued eq p q ≡ true → p ≡ q
    valued_exact p q h =
        let both = both_true (eq_by_cmp range_cmp p.0 q.0) (eq p.1 q.1) h in
        let range = range_cmp-exact p.0 q.0 ((Equal-is (range_cmp p.0 q.0)).0 both.0) in
        let value = (exact p.1 q.1).0 both.1 in
        λ k. (range k, value k)

    list_exact : (xs ys : List (Range × X)) → pointwise (same_valued eq) xs ys ≡ true → xs ≡ ys
    list_exact [] [] h = refl
    list_exact [] (y ∷ ys) h = absurd (cc (h))
    list_exact (x ∷ xs) [] h = absurd (cc (h))
    list_exact (x ∷ xs) (y ∷ ys) h =
        let both = both_true (same_valued eq x y) (pointwise (same_valued eq) xs ys) h in
        let first = valued_exact x y both.0 in
        let others = list_exact xs ys both.1 in
        λ k. first k ∷ others k

    equivalence : IsEquivalence eq
    equivalence = record {
      refl = λ v. (exact v v).1 refl;
      symm = λ v w. same_bool (eq v w) (eq w v) (λ h. (exact w v).1 (sym ((exact v w).0 h))) (λ h. (exact v w).1 (sym ((exact w v).0 h)));
      congr = λ v w u h. ap (λ (x : X). eq x u) ((exact v w).0 h);
    }

    pub same_maps-exact : (a b : MapState X) → IsMapState a → IsMapState b → IsTrue (same_maps eq a b) ↔ (a ≡ b)
    same_maps-exact a b s t = (
      λ h.
          let both = both_true (eq_by_cmp state_cmp a.space b.space) (pointwise (same_valued eq) (valued_ranges a) (valued_ranges b)) h in
          let space = one_state a.space b.space ((state_cmp-Equal a.space b.space).0 ((Equal-is (state_cmp a.space b.space)).0 both.0)) in
          same_state a b s t space (list_exact (valued_ranges a) (valued_ranges b) both.1),
      λ e. subst (λ (c : MapState X). same_maps eq a c ≡ true) e ((same_maps-equivalence equivalence).refl a),
    )

pub equal_maps : {X : Type 0} → EqualMapsAreTheSame X
equal_maps eq exact a b s t = same_maps-exact eq exact a b s t

pub ruleset equal = (equal_maps)

-- ---- Iterators that are compared pair by pair
module _ {A B : Type 0} (view : A → B) (eq : A → A → Bool) (same : B → B → Bool) (is : (x y : A) → eq x y ≡ same (view x) (view y)) (r : Bool) where
  -- The iterators over s and t returned the equal items xs and ys, and then o and p.
  compared : (xs ys : List A) (o p : Option A) (s t u v : List B) → YieldsThen (YieldsFirstBy view (λ l. l)) s xs o u →
      YieldsThen (YieldsFirstBy view (λ l. l)) t ys p v → AllZip (λ x y. eq x y ≡ true) xs ys →
      MatchOption o (MatchOption p (r ≡ true) (λ _. r ≡ false)) (λ x. (r ≡ false) × IfSome p (λ y. eq x y ≡ false)) → r ≡ pointwise same s t
  compared [] [] None None s t u v a b z h = rw (a.1, a.2.0, b.1, b.2.0, h) refl
  compared [] [] None (Some y) s t u v a b z h = rw (a.1, a.2.0, b.1, b.2, h) refl
  compared [] [] (Some x) None s t u v a b z h = rw (a.1, a.2, b.1, b.2.0, h.0) refl
  compared [] [] (Some x) (Some y) s t u v a b z h = rw (a.1, a.2, b.1, b.2, h.0) (ap (λ c. c && pointwise same u v) (sym h.1 ∙ is x y))
  compared [] (y ∷ ys) o p s t u v a b z h = absurd z
  compared (x ∷ xs) [] o p s t u v a b z h = absurd z
  compared (x ∷ xs) (y ∷ ys) o p s t u v a b z h =
      rw (a.1.1, b.1.1)
      (compared xs ys o p a.1.0 b.1.0 u v (a.0, a.1.2, a.2) (b.0, b.1.2, b.2) z.1 h
      ∙ ap (λ c. c && pointwise same a.1.0 b.1.0) (sym z.0 ∙ is x y))

  -- `eq` returns whether both iterators return the same items.
  pub pairs_compared : (s t : List B) → ComparesItemsByEq (YieldsFirstBy view (λ l. l)) (λ x y. y ≡ x) (YieldsFirstBy view (λ l. l)) s t eq r →
      r ≡ pointwise same s t
  pairs_compared s t d = subst (λ (l : List B). r ≡ pointwise same s l) d.7 (compared d.1 d.2 d.3 d.4 s d.0 d.5 d.6 d.8 d.9 d.10 d.11)

-- ---- The test of two maps
-- Two ranges are the same if their ends are.
eq_of_then : (o p : Ordering) → is_eq (ordering_then o p) ≡ is_eq o && is_eq p
eq_of_then Less p = refl
eq_of_then Equal p = refl
eq_of_then Greater p = refl

pub ends_tied : (a b : Range) → eqb a.start b.start && eqb a.end b.end ≡ eq_by_cmp range_cmp a b
ends_tied a b =
    sym (eq_of_then (nat_cmp a.start b.start) (nat_cmp a.end b.end)
    ∙ ap (λ c. c && is_eq (nat_cmp a.end b.end)) (unsigned_tied a.start b.start)
    ∙ ap (λ c. eqb a.start b.start && c) (unsigned_tied a.end b.end))

-- With equal spaces, the ranges with their values decide.
pub maps_compared : {X : Type 0} (same : X → X → Bool) (a b : MapState X) (r : Bool) → true ≡ eq_by_cmp state_cmp a.space b.space →
    r ≡ pointwise (same_valued same) (valued_ranges a) (valued_ranges b) → r ≡ same_maps same a b
maps_compared same a b r s h = h ∙ ap (λ c. c && pointwise (same_valued same) (valued_ranges a) (valued_ranges b)) s
