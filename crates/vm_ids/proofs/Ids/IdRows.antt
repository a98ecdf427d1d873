-- Rows: the numbers from a to below a + n.
use Rattle.std.proofs.Common.{◌≡◌, ℕ, zero, suc, ◌+◌, ◌<◌, ◌≤◌, ◌&&◌, Bool, true, leb, ltb, List, [], ◌∷◌, ◌++◌, refl, ap, ◌∙◌, arith}
use Rattle.std.proofs.lemmas.Map.Views.{any-filter_same}
use Rattle.std.proofs.lemmas.List.Kept.{IsStrictlySortedBy-filter}
use Rattle.std.specs.List.{filter, list_any, range_with_len}
use Rattle.std.specs.List.Sorted.{IsStrictlySortedBy}
use Rattle.std.specs.Ordering.{nat_cmp, eq_by_cmp}
use Rattle.vm_ids.proofs.Ids.IdSets.{row_test}
use Rattle.vm_ids.specs.Checks.IdQueries.{AscendWithin}
use Rattle.vm_ids.proofs.Ids.AscendingBounds.{sorted}

-- Two tests that agree on a row keep the same ids of it.
pub same_kept : (p q : ℕ → Bool) (a n : ℕ) → ((i : ℕ) → a ≤ i → i < a + n → p i ≡ q i) →
    filter p (range_with_len a n) ≡ filter q (range_with_len a n)
same_kept p q a zero h = refl
same_kept p q a (suc n) h =
    rw (h a (omega arith) (omega arith), same_kept p q (a + 1) n (λ i l u. h i (omega arith) (omega arith))) refl

-- A test that is true of a row keeps all of it.
pub row_kept : (p : ℕ → Bool) (a n : ℕ) → ((i : ℕ) → a ≤ i → i < a + n → p i ≡ true) → filter p (range_with_len a n) ≡ range_with_len a n
row_kept p a zero h = refl
row_kept p a (suc n) h =
    rw (h a (omega arith) (omega arith), row_kept p (a + 1) n (λ i l u. h i (omega arith) (omega arith))) refl

-- A row in two parts.
pub row_parted : (a m n : ℕ) → range_with_len a (m + n) ≡ range_with_len a m ++ range_with_len (a + m) n
row_parted a zero n =
    let all : 0 + n ≡ n = omega arith in
    let first : a ≡ a + 0 = omega arith in
    ap (range_with_len a) all ∙ ap (λ (i : ℕ). range_with_len i n) first
row_parted a (suc m) n =
    let more : suc m + n ≡ suc (m + n) = omega arith in
    let next : a + 1 + m ≡ a + suc m = omega arith in
    ap (range_with_len a) more
    ∙ ap (λ (is : List ℕ). a ∷ is) (row_parted (a + 1) m n ∙ ap (λ (i : ℕ). range_with_len (a + 1) m ++ range_with_len i n) next)

-- The last number of a row.
pub row_end : (a n : ℕ) → range_with_len a (suc n) ≡ range_with_len a n ++ (a + n) ∷ []
row_end a zero = let last : a ≡ a + 0 = omega arith in ap (λ (i : ℕ). i ∷ []) last
row_end a (suc n) =
    let last : a + 1 + n ≡ a + suc n = omega arith in
    ap (λ (is : List ℕ). a ∷ is) (row_end (a + 1) n ∙ ap (λ (i : ℕ). range_with_len (a + 1) n ++ i ∷ []) last)

row_rises : (n a bound : ℕ) → a + n ≡ bound → AscendWithin a bound (range_with_len a n)
row_rises zero a bound e = tt
row_rises (suc n) a bound e = (omega arith, omega arith, row_rises n (a + 1) bound (omega arith))

-- The numbers of a range that pass a test are in ascending order.
pub passed_rise : (p : ℕ → Bool) (a n : ℕ) → IsStrictlySortedBy nat_cmp (filter p (range_with_len a n))
passed_rise p a n =
    IsStrictlySortedBy-filter nat_cmp p (range_with_len a n) (sorted a (a + n) (range_with_len a n) (row_rises n a (a + n) refl))

-- The members of the part of a row that passes a test.
pub row_passed : (p : ℕ → Bool) (a n q : ℕ) →
    list_any (eq_by_cmp nat_cmp q) (filter p (range_with_len a n)) ≡ (p q && (leb a q && ltb q (a + n)))
row_passed p a n q =
    any-filter_same (eq_by_cmp nat_cmp q) p (p q) (λ k t. ap p (grind arith)) (range_with_len a n)
    ∙ ap (λ (b : Bool). p q && b) (row_test a n q)
