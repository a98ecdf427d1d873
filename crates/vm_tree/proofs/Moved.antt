-- Arrays after a part of them was moved.
use Rattle.std.proofs.Common.{rules, ◌≡◌, ℕ, ◌+◌, ◌-◌, ◌≤◌, ◌<◌, max, zero, suc, List, [], ◌∷◌, ◌++◌, length, take, drop, set, get_or, arith, length-take-le, take_all, add-one, refl, ap, ◌∙◌}
use Rattle.std.proofs.lemmas.List.{same_lists, places, get_or-set_same}
use Rattle.std.proofs.lemmas.Slice.{take-put_mid, drop-put_mid}
use Rattle.std.proofs.lemmas.Bool.{cases_eq, cases_lt}
use Rattle.std.specs.List.{copy_within, insert, remove}
use borrow.Rule.Slice.PartMut.{put_mid}
use Rattle.vm_tree.specs.Padded.{greatest, IsOrdered}

module _ {X : Type 0} where
  -- The part after an index is moved up by one, and one item is written at the index.
  pub inserted : (xs : List X) (len at : ℕ) (x : X) → at ≤ len → len < length xs
      → take (len + 1) (set (copy_within xs at len (at + 1)) at x) ≡ insert (take len xs) at x
  inserted xs len at x h l =
      same_lists _ _ (search (rules, places)) (λ k d q. grind (arith, places, get_or-set_same, cases_eq k at, cases_lt k at))

  pub inserted_pads : (xs : List X) (len at : ℕ) (x : X) → at ≤ len → len < length xs
      → drop (len + 1) (set (copy_within xs at len (at + 1)) at x) ≡ drop (len + 1) xs
  inserted_pads xs len at x h l =
      same_lists _ _ (search (rules, places)) (λ k d q. grind (arith, places))

  -- The part after an item is moved down over it.
  pub removed : (xs : List X) (len at : ℕ) (x : X) → at < len → len ≤ length xs
      → take (len - 1) (set (copy_within xs (at + 1) len at) (len - 1) x) ≡ remove (take len xs) at
  removed xs len at x h l =
      same_lists _ _ (search (rules, places)) (λ k d q. grind (arith, places, cases_lt k at))

  pub removed_pads : (xs : List X) (len at : ℕ) (x : X) → at < len → len ≤ length xs
      → drop (len - 1) (set (copy_within xs (at + 1) len at) (len - 1) x) ≡ x ∷ drop len xs
  removed_pads xs len at x h l =
      same_lists _ _ (search (rules, places)) (λ k d q. grind (arith, places, get_or-set_same, cases_eq k 0))

  -- The first n items of another array are written at an index.
  pub copied : (xs ys : List X) (at n : ℕ) → at + n ≤ length xs → n ≤ length ys
      → take (at + n) (put_mid at (at + n - at) xs (take n ys)) ≡ take at xs ++ take n ys
  copied xs ys at n h l = take-put_mid at (at + n - at) xs (take n ys) (at + n) (omega (arith, length-take-le n ys l)) (omega arith)

  pub copied_rest : (xs ys : List X) (at n : ℕ) → at + n ≤ length xs → n ≤ length ys
      → drop (at + n) (put_mid at (at + n - at) xs (take n ys)) ≡ drop (at + n) xs
  copied_rest xs ys at n h l = drop-put_mid at (at + n - at) xs (take n ys) (at + n) (omega arith) (omega arith) (omega (arith, length-take-le n ys l))

pub ordered : (xs : List ℕ) (a i j : ℕ) → IsOrdered xs a → 0 < i → i ≤ j → j < length xs → get_or xs j 0 ≤ a → get_or xs i 0 ≤ a
ordered xs a i j h p q r s = h i j p q r s

greatest_suc : (xs : List ℕ) (i : ℕ) → i < length xs → greatest (take (suc i) xs) ≡ max (greatest (take i xs)) (get_or xs i 0)
greatest_suc [] i h = absurd (omega arith)
greatest_suc (x ∷ xs) zero h = omega arith
greatest_suc (x ∷ xs) (suc i) h = omega (arith, greatest_suc xs i (omega arith))

pub greatest_next : (xs : List ℕ) (i : ℕ) → i < length xs → greatest (take (i + 1) xs) ≡ max (greatest (take i xs)) (get_or xs i 0)
greatest_next xs i h = rw add-one (greatest_suc xs i h)

-- The greatest of the first items, and of four more.
pub greatest_four : (xs : List ℕ) (i low high n : ℕ) → i + 4 ≤ length xs → low ≡ max (get_or xs i 0) (get_or xs (i + 1) 0)
    → high ≡ max (get_or xs (i + 2) 0) (get_or xs (i + 3) 0) → n ≡ max low high → greatest (take (i + 4) xs) ≡ max (greatest (take i xs)) n
greatest_four xs i low high n l p q r =
    let a = next i (i + 1) (omega arith) (omega arith) in
    let b = next (i + 1) (i + 2) (omega arith) (omega arith) in
    let c = next (i + 2) (i + 3) (omega arith) (omega arith) in
    let d = next (i + 3) (i + 4) (omega arith) (omega arith) in
    omega (arith, a, b, c, d, p, q, r)
  where
    next : (j k : ℕ) → k ≡ j + 1 → j < length xs → greatest (take k xs) ≡ max (greatest (take j xs)) (get_or xs j 0)
    next j k e h = ap (λ m. greatest (take m xs)) e ∙ greatest_next xs j h

pub greatest_all : (xs : List ℕ) (a b c d low high n : ℕ) → length xs ≡ 16 → greatest (take 4 xs) ≡ max (greatest (take 0 xs)) a
    → greatest (take 8 xs) ≡ max (greatest (take 4 xs)) b → greatest (take 12 xs) ≡ max (greatest (take 8 xs)) c
    → greatest (take 16 xs) ≡ max (greatest (take 12 xs)) d → low ≡ max a b → high ≡ max c d → n ≡ max low high → n ≡ greatest xs
greatest_all xs a b c d low high n l e f g h p q r =
    let z : greatest (take 0 xs) ≡ 0 = none xs in
    let w : greatest (take 16 xs) ≡ greatest xs = ap greatest (take_all 16 xs (omega (arith, l))) in
    omega (arith, z, w, e, f, g, h, p, q, r)
  where
    none : (xs : List ℕ) → greatest (take 0 xs) ≡ 0
    none [] = refl
    none (x ∷ xs) = refl
