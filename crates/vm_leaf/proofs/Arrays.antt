-- Arrays after a part of them was moved.
use Rattle.std.proofs.Common.{rules, ◌≡◌, ℕ, ◌+◌, ◌-◌, ◌<◌, ◌≤◌, List, [], ◌∷◌, ◌++◌, length, get_or, take, drop, set, replicate, ◌∙◌, arith, length-take-le, length-drop, append_assoc, add-one}
use Rattle.std.proofs.lemmas.List.{same_lists, places, get_or-set_same}
use Rattle.std.proofs.lemmas.List.Edits.{sets-eq}
use Rattle.std.proofs.lemmas.Slice.{take-put_mid, overwrites}
use Rattle.std.proofs.lemmas.Bool.{cases_eq, cases_lt}
use Rattle.std.specs.List.{copy_within}
use Rattle.vm_ranges.specs.Range.{MAX}
use Rattle.vm_leaf.specs.Cuts.{ArePads}
use Rattle.vm_leaf.specs.declared.leaf.TheConstants.{CUTS}
use borrow.Rule.Slice.PartMut.{put_mid}

-- The part after an index is moved up by one, and one cut is written at the index.
pub inserted_one : (xs : List ℕ) (len at x : ℕ) → at ≤ len → len + 1 ≤ length xs
    → take (len + 1) (set (copy_within xs at len (at + 1)) at x) ≡ take at xs ++ (x ∷ drop at (take len xs))
inserted_one xs len at x h l =
    same_lists _ _ (search (rules, places)) (λ k d q. grind (arith, places, get_or-set_same, cases_eq k at, cases_lt k at))

-- The pads behind the cuts stay.
pub pads_one : (xs : List ℕ) (len at x : ℕ) → at ≤ len → len + 1 ≤ CUTS → length xs ≡ CUTS → ArePads xs len →
    ArePads (set (copy_within xs at len (at + 1)) at x) (len + 1)
unfolding ArePads
pads_one xs len at x h l e p k u v = grind (arith, places, p k)

-- The pads stay if an entry before them is written.
pub pads_set : (xs : List ℕ) (n at x : ℕ) → at < n → ArePads xs n → ArePads (set xs at x) n
unfolding ArePads
pads_set xs n at x l p k u v = grind (arith, places, p k)

-- The first pad becomes a cut.
pub pads_more : (xs : List ℕ) (n x : ℕ) → ArePads xs n → ArePads (set xs n x) (n + 1)
unfolding ArePads
pads_more xs n x p k u v = grind (arith, places, p k)

-- An array of pads.
all_pads : (n k : ℕ) → k < n → get_or (replicate n MAX) k 0 ≡ MAX
all_pads n k l = search (rules, places)

-- The first two entries of an array of pads are written.
pub pads_new : (c e : ℕ) → ArePads (set (set (replicate CUTS MAX) 0 c) 1 e) 2
unfolding ArePads
pads_new c e k l u = let p = all_pads CUTS k u in grind (arith, places)

-- Two writes, one after another.
set_two : (ys : List ℕ) (at x y : ℕ) → at + 2 ≤ length ys
    → set (set ys at x) (at + 1) y ≡ take at ys ++ (x ∷ (y ∷ drop (at + 2) ys))
set_two ys at x y h =
    let e = sets-eq (x ∷ y ∷ []) ys at h in
    rw add-one (e ∙ append_assoc (take at ys) (x ∷ y ∷ []) (drop (at + 2) ys))

-- The part after an index is moved up by two, and two cuts are written at the index.
pub inserted_two : (xs : List ℕ) (len at x y : ℕ) → at ≤ len → len + 2 ≤ length xs
    → take (len + 2) (set (set (copy_within xs at len (at + 2)) at x) (at + 1) y) ≡ take at xs ++ (x ∷ (y ∷ drop at (take len xs)))
inserted_two xs len at x y h l =
    let n : length (copy_within xs at len (at + 2)) ≡ length xs = search (rules, places) in
    rw (set_two (copy_within xs at len (at + 2)) at x y (omega arith)) (same_lists _ _ (search (rules, places)) (λ k d q.
    grind (arith, places, cases_eq k at, cases_eq k (at + 1), cases_lt k at)))

pub pads_two : (xs : List ℕ) (len at x y : ℕ) → at ≤ len → len + 2 ≤ CUTS → length xs ≡ CUTS → ArePads xs len →
    ArePads (set (set (copy_within xs at len (at + 2)) at x) (at + 1) y) (len + 2)
unfolding ArePads
pads_two xs len at x y h l e p k u v = grind (arith, places, p k)

-- The part after some cuts is moved down over them.
pub removed : (xs : List ℕ) (len to from : ℕ) → to ≤ from → from ≤ len → len ≤ length xs
    → take (len - from + to) (copy_within xs from len to) ≡ take to xs ++ drop from (take len xs)
removed xs len to from o h l =
    same_lists _ _ (search (rules, places)) (λ k d q. grind (arith, places, cases_lt k to))

pub pads_removed : (xs : List ℕ) (len to from : ℕ) → to ≤ from → from ≤ len → len ≤ CUTS → length xs ≡ CUTS → ArePads xs len →
    ArePads (copy_within xs from len to) len
unfolding ArePads
pads_removed xs len to from o h l e p k u v = grind (arith, places, p k)

-- Pads are written to the indices from `at` up to `len`.
pub cleared : (xs ys : List ℕ) (at n : ℕ) → at ≤ length xs → take at (put_mid at n xs ys) ≡ take at xs
cleared xs ys at n l = search (rules, overwrites)

pub pads_cleared : (xs ys : List ℕ) (len at : ℕ) → at ≤ len → len ≤ CUTS → length xs ≡ CUTS → ys ≡ replicate (len - at) MAX → ArePads xs len →
    ArePads (put_mid at (len - at) xs ys) at
unfolding ArePads
pads_cleared xs ys len at h l e f p k u v = rw f (grind (arith, places, p k, cases_lt k len))

-- The first n items of another array after its first one are written at an index.
pub copied : (xs ys : List ℕ) (at n : ℕ) → at + n ≤ length xs → n + 1 ≤ length ys
    → take (at + n) (put_mid at (at + n - at) xs (take n (drop 1 ys))) ≡ take at xs ++ take n (drop 1 ys)
copied xs ys at n h l = take-put_mid at (at + n - at) xs (take n (drop 1 ys)) (at + n)
    (omega (arith, length-take-le n (drop 1 ys) (omega (arith, length-drop 1 ys)))) (omega arith)

pub pads_copied : (xs ys : List ℕ) (at n : ℕ) → at + n ≤ CUTS → length xs ≡ CUTS → length ys ≡ n → ArePads xs at →
    ArePads (put_mid at (at + n - at) xs ys) (at + n)
unfolding ArePads
pads_copied xs ys at n l e m p k u v = grind (arith, places, p k)
