-- Lists in strictly ascending order, and the entries of maps.
use Rattle.std.proofs.Common.{◌≡◌, ℕ, arith, ⊎_elim, Bool, true, false, ◌&&◌, T, List, [], ◌∷◌, refl, sym, ◌∙◌, subst, Less}
use Rattle.std.specs.declared.cmp.Ordering.{Ordering}
use Rattle.std.specs.declared.cmp.Ordering.TheVariants.{Equal, Greater}
use Rattle.std.specs.List.{AllByRecursion, list_any}
use Rattle.std.specs.List.Sorted.{IsStrictlySortedBy}
use Rattle.std.specs.Map.{keys_of}
use Rattle.std.specs.Ordering.{nat_cmp, eq_by_cmp, is_lt}
use Rattle.std.specs.Cmp.{nat_cmp_total}
use Rattle.std.specs.FinMap.Entries.{below_all, is_sorted, find, same_entries}
use Rattle.std.specs.FinMap as map
use Rattle.std.proofs.lemmas.Bool.{both_ways, or_left, or_cases}
use Rattle.vm_ranges.proofs.NumberSets.{tied_here, tied_is}
use Rattle.vm_ids.proofs.Ids.AscendingBounds.{rises_below}

-- ---- The two forms of strictly ascending keys
both : (a b : Bool) → T a → T b → T (a && b)
both true b p q = q
both false b p q = p

parts : (a b : Bool) → T (a && b) → T a × T b
parts true b p = (tt, p)
parts false b p = absurd p

less : (o : Ordering) → T (is_lt o) → o ≡ Less
less Less p = refl
less Equal p = absurd p
less Greater p = absurd p

module _ {X : Type 0} where
  below_keys : (k : ℕ) (es : List (ℕ × X)) → AllByRecursion (λ q. nat_cmp k q ≡ Less) (keys_of es) → T (below_all nat_cmp k es)
  below_keys k [] a = tt
  below_keys k (e ∷ es) a = both _ _ (subst (λ o. T (is_lt o)) (sym a.0) tt) (below_keys k es a.1)

  keys_above : (k : ℕ) (es : List (ℕ × X)) → T (below_all nat_cmp k es) → AllByRecursion (λ q. nat_cmp k q ≡ Less) (keys_of es)
  keys_above k [] a = tt
  keys_above k (e ∷ es) a = let p = parts _ _ a in (less _ p.0, keys_above k es p.1)

  sorted_entries : (es : List (ℕ × X)) → IsStrictlySortedBy nat_cmp (keys_of es) → T (is_sorted nat_cmp es)
  unfolding IsStrictlySortedBy
  sorted_entries [] s = tt
  sorted_entries (e ∷ es) s = both _ _ (below_keys e.0 es s.0) (sorted_entries es s.1)

  sorted_keys : (es : List (ℕ × X)) → T (is_sorted nat_cmp es) → IsStrictlySortedBy nat_cmp (keys_of es)
  unfolding IsStrictlySortedBy
  sorted_keys [] s = tt
  sorted_keys (e ∷ es) s = let p = parts _ _ s in (keys_above e.0 es p.0, sorted_keys es p.1)

  -- The keys of a map are strictly ascending.
  pub keys_rise : (m : map.FinMap nat_cmp X) → IsStrictlySortedBy nat_cmp (map.keys m)
  keys_rise m = sorted_keys (map.entries m) (map.entries_sorted m)

  -- The entries of a map are the list in this order with the same values.
  pub entries_are : (m : map.FinMap nat_cmp X) (es : List (ℕ × X)) → IsStrictlySortedBy nat_cmp (keys_of es) →
      ((q : ℕ) → find nat_cmp q es ≡ map.get m q) → map.entries m ≡ es
  entries_are m es s h =
      sym (same_entries nat_cmp nat_cmp_total map.nat_cmp-IsAntisymmetric es (map.entries m) (sorted_entries es s) (map.entries_sorted m)
      (λ q. h q ∙ map.get-entries m q))

  -- A map of entries in order has these entries.
  pub entries_of_sorted : (es : List (ℕ × X)) → IsStrictlySortedBy nat_cmp (keys_of es) →
      map.entries (map.from_entries {R = nat_cmp} es) ≡ es
  entries_of_sorted es s = entries_are (map.from_entries es) es s (λ q. sym (map.get-from_entries nat_cmp_total es q))

-- ---- Lists of numbers
-- Two lists in strictly ascending order with the same members are equal.
pub same_rising : (xs ys : List ℕ) → IsStrictlySortedBy nat_cmp xs → IsStrictlySortedBy nat_cmp ys →
    ((q : ℕ) → list_any (eq_by_cmp nat_cmp q) xs ≡ list_any (eq_by_cmp nat_cmp q) ys) → xs ≡ ys
unfolding IsStrictlySortedBy
same_rising [] [] s t h = refl
same_rising [] (y ∷ ys) s t h = absurd (both_ways false refl (h y ∙ or_left _ _ (tied_here y)))
same_rising (x ∷ xs) [] s t h = absurd (both_ways false refl (sym (h x) ∙ or_left _ _ (tied_here x)))
same_rising (x ∷ xs) (y ∷ ys) s t h =
    let first : x ≡ y = ⊎_elim (λ (e : eq_by_cmp nat_cmp x y ≡ true). tied_is x y e)
    (λ (m : list_any (eq_by_cmp nat_cmp x) ys ≡ true). ⊎_elim (λ (e : eq_by_cmp nat_cmp y x ≡ true). sym (tied_is y x e))
    (λ (n : list_any (eq_by_cmp nat_cmp y) xs ≡ true). absurd (omega (arith, rises_below x y xs s.0 n, rises_below y x ys t.0 m)))
    (or_cases _ _ (h y ∙ or_left _ _ (tied_here y))))
    (or_cases _ _ (sym (h x) ∙ or_left _ _ (tied_here x))) in
    let rest = same_rising xs ys s.1 t.1 (λ q. grind (arith, h q, first, rises_below x q xs s.0, rises_below y q ys t.0)) in
    rw (first, rest) refl
