-- Numbers in strictly ascending order, and items that encode ids in this order.
use Rattle.std.proofs.Common.{◌≡◌, ℕ, ◌+◌, ◌^◌, ◌<◌, ◌≤◌, true, leb, List, [], ◌∷◌, Some, option_and_then, false, refl, subst, arith, nat_cmp, Less, ⊎_elim}
use Rattle.std.proofs.lemmas.Bool.{le-leb, leb-true, both_ways, or_cases, or_left, or_right}
use Rattle.std.specs.List.{AllByRecursion, list_any}
use Rattle.std.specs.List.Sorted.{IsStrictlySortedBy}
use Rattle.std.specs.Ordering.{eq_by_cmp}
use Rattle.serde_json.specs.Data.{Items, no_items, item}
use Rattle.vm_ranges.proofs.NumberSets.{tied_here}
use Rattle.vm_ranges.proofs.NumberSteps.{u32-some, some-u32}
use Rattle.vm_ranges.proofs.Steps.{and_then_some, map_some, if_some}
use Rattle.vm_ranges.specs.Numbers.{whole_number, u32_from}
use Rattle.vm_ranges.proofs.Items.{less, less_is}
use Rattle.vm_ranges.specs.Lists.{EncodesItems}
use Rattle.vm_ids.specs.Values.IdValues.{EncodesNumber}
use Rattle.vm_ids.specs.Checks.IdChecks.{ids_from}
use Rattle.vm_ids.specs.Checks.IdQueries.{AscendWithin}

-- ---- Lists
-- A number below all numbers of a list in ascending order is its first.
pub rises_above : (i : ℕ) (xs : List ℕ) → ((q : ℕ) → list_any (eq_by_cmp nat_cmp q) xs ≡ true → i < q) → IsStrictlySortedBy nat_cmp xs →
    IsStrictlySortedBy nat_cmp (i ∷ xs)
unfolding IsStrictlySortedBy
rises_above i xs h s = (all xs h, s) where
  all : (ys : List ℕ) → ((q : ℕ) → list_any (eq_by_cmp nat_cmp q) ys ≡ true → i < q) → AllByRecursion (λ m. nat_cmp i m ≡ Less) ys
  all [] h = tt
  all (y ∷ ys) h = (less i y (h y (or_left _ _ (tied_here y))), all ys (λ q t. h q (or_right _ _ t)))

pub rises_below : (i j : ℕ) (is : List ℕ) → AllByRecursion (λ m. nat_cmp i m ≡ Less) is → list_any (eq_by_cmp nat_cmp j) is ≡ true → i < j
rises_below i j [] a t = absurd (both_ways false refl t)
rises_below i j (k ∷ is) a t =
    ⊎_elim (λ (e : eq_by_cmp nat_cmp j k ≡ true). grind (arith, less_is i k a.0))
    (λ (m : list_any (eq_by_cmp nat_cmp j) is ≡ true). rises_below i j is a.1 m) (or_cases _ _ t)

pub within : (lo bound q : ℕ) (ns : List ℕ) → AscendWithin lo bound ns → list_any (eq_by_cmp nat_cmp q) ns ≡ true → (lo ≤ q) × (q < bound)
within lo bound q [] r t = absurd (both_ways false refl t)
within lo bound q (n ∷ ns) r t =
    ⊎_elim (λ (e : eq_by_cmp nat_cmp q n ≡ true). grind arith)
    (λ (m : list_any (eq_by_cmp nat_cmp q) ns ≡ true). let w = within (n + 1) bound q ns r.2 m in omega (arith, w, r.0)) (or_cases _ _ t)

pub sorted : (lo bound : ℕ) (ns : List ℕ) → AscendWithin lo bound ns → IsStrictlySortedBy nat_cmp ns
unfolding IsStrictlySortedBy
sorted lo bound [] r = tt
sorted lo bound (n ∷ ns) r = rises_above n ns (λ q t. let w = within (n + 1) bound q ns r.2 t in omega (arith, w)) (sorted (n + 1) bound ns r.2)

pub rise : (lo bound : ℕ) (ns : List ℕ) → IsStrictlySortedBy nat_cmp ns →
    ((i : ℕ) → list_any (eq_by_cmp nat_cmp i) ns ≡ true → (lo ≤ i) × (i < bound)) → AscendWithin lo bound ns
unfolding IsStrictlySortedBy
rise lo bound [] s m = tt
rise lo bound (n ∷ ns) s m =
    let h = m n (or_left _ _ (tied_here n)) in
    (h.0, h.1, rise (n + 1) bound ns s.1 (λ i t. let l = rises_below n i ns s.0 t in omega (arith, l, (m i (or_right _ _ t)).1)))

-- ---- Items
pub ids-encoded : (lowest : ℕ) (ds : Items) (ns : List ℕ) → ids_from lowest ds ≡ Some ns →
    EncodesItems EncodesNumber ds ns × AscendWithin lowest (2 ^ 32) ns
ids-encoded lowest no_items [] e = (tt, tt)
ids-encoded lowest no_items (n ∷ ns) e = absurd (cc)
ids-encoded lowest (item d ds) ns e =
    let a = and_then_some _ (option_and_then u32_from (whole_number d)) ns e in
    let w = and_then_some u32_from (whole_number d) a.0 a.1 in
    let u = u32-some w.0 a.0 w.2 in
    let b = if_some (leb lowest a.0) _ ns a.2 in
    let m = map_some _ (ids_from (a.0 + 1) ds) ns b.1 in
    let r = ids-encoded (a.0 + 1) ds m.0 m.1 in
    subst (λ (x : List ℕ). EncodesItems EncodesNumber (item d ds) x × AscendWithin lowest (2 ^ 32) x) m.2
    ((rw u.0 at w.1, r.0), (leb-true lowest a.0 b.0, omega (arith, u.1), r.1))

pub encoded-ids : (ns : List ℕ) (lowest : ℕ) (ds : Items) → EncodesItems EncodesNumber ds ns → AscendWithin lowest (2 ^ 32) ns →
    ids_from lowest ds ≡ Some ns
encoded-ids [] lowest no_items s r = refl
encoded-ids [] lowest (item d ds) s r = absurd s
encoded-ids (n ∷ ns) lowest no_items s r = absurd s
encoded-ids (n ∷ ns) lowest (item d ds) s r =
    rw (s.0, some-u32 n (omega (arith, r.1)), le-leb lowest n r.0, encoded-ids ns (n + 1) ds s.1 r.2) refl
