-- Lists that descend, in parts.
use Rattle.std.proofs.Common.{ℕ, zero, suc, ◌<◌, ◌≤◌, List, [], ◌∷◌, ◌++◌, length, get_or, arith}
use Rattle.vm_tree.specs.Subtree.{AllOf}
use Rattle.vm_list.specs.Entries.{IsDescendingBy}
use Rattle.vm_list.specs.Leaves.{lowest_key}

module _ {X : Type 0} where
  module _ (P : X → Type 0) where
    pub all_by : (xs : List X) → ((j : ℕ) (d : X) → j < length xs → P (get_or xs j d)) → AllOf P xs
    all_by [] f = tt
    all_by (x ∷ xs) f = (f 0 x (omega arith), all_by xs (λ j d l. f (suc j) d (omega (arith, l))))

    pub all_at : (xs : List X) → AllOf P xs → (j : ℕ) (d : X) → j < length xs → P (get_or xs j d)
    all_at [] a j d l = absurd (omega (arith, l))
    all_at (x ∷ xs) a zero d l = a.0
    all_at (x ∷ xs) a (suc j) d l = all_at xs a.1 j d (omega (arith, l))

    pub all_left : (xs ys : List X) → AllOf P (xs ++ ys) → AllOf P xs
    all_left [] ys a = tt
    all_left (x ∷ xs) ys a = (a.0, all_left xs ys a.1)

    pub all_right : (xs ys : List X) → AllOf P (xs ++ ys) → AllOf P ys
    all_right [] ys a = a
    all_right (x ∷ xs) ys a = all_right xs ys a.1

    pub all_both : (xs ys : List X) → AllOf P xs → AllOf P ys → AllOf P (xs ++ ys)
    all_both [] ys a b = b
    all_both (x ∷ xs) ys a b = (a.0, all_both xs ys a.1 b)

  pub all_weaker : (P Q : X → Type 0) → ((x : X) → P x → Q x) → (xs : List X) → AllOf P xs → AllOf Q xs
  all_weaker P Q f [] a = tt
  all_weaker P Q f (x ∷ xs) a = (f x a.0, all_weaker P Q f xs a.1)

module _ {X : Type 0} (key : X → ℕ) where
  -- Each key is above those after it.
  abbrev pub Falls : List X → Type 0
  Falls [] = Unit {0}
  Falls (x ∷ xs) = AllOf (λ y. key y < key x) xs × Falls xs

  pub falls : (xs : List X) → IsDescendingBy key xs → Falls xs
  falls [] d = tt
  falls (x ∷ xs) d = (
    all_by (λ y. key y < key x) xs (λ j e l. d 0 (suc j) e (omega arith) (omega (arith, l))),
    falls xs (λ i j e l w. d (suc i) (suc j) e (omega (arith, l)) (omega (arith, w))),
  )

  pub descends : (xs : List X) → Falls xs → IsDescendingBy key xs
  descends [] f i j e l w = absurd (omega (arith, w))
  descends (x ∷ xs) f i zero e l w = absurd (omega (arith, l))
  descends (x ∷ xs) f zero (suc j) e l w = all_at (λ y. key y < key x) xs f.0 j e (omega (arith, w))
  descends (x ∷ xs) f (suc i) (suc j) e l w = descends xs f.1 i j e (omega (arith, l)) (omega (arith, w))

  pub falls_left : (xs ys : List X) → Falls (xs ++ ys) → Falls xs
  falls_left [] ys f = tt
  falls_left (x ∷ xs) ys f = (all_left (λ y. key y < key x) xs ys f.0, falls_left xs ys f.1)

  pub falls_right : (xs ys : List X) → Falls (xs ++ ys) → Falls ys
  falls_right [] ys f = f
  falls_right (x ∷ xs) ys f = falls_right xs ys f.1

  -- All keys of the first part are above those of the second one.
  abbrev pub AreOver : List X → List X → Type 0
  AreOver xs ys = AllOf (λ x. AllOf (λ y. key y < key x) ys) xs

  pub falls_over : (xs ys : List X) → Falls (xs ++ ys) → AreOver xs ys
  falls_over [] ys f = tt
  falls_over (x ∷ xs) ys f = (all_right (λ y. key y < key x) xs ys f.0, falls_over xs ys f.1)

  pub falls_both : (xs ys : List X) → Falls xs → Falls ys → AreOver xs ys → Falls (xs ++ ys)
  falls_both [] ys f h o = h
  falls_both (x ∷ xs) ys f h o = (all_both (λ y. key y < key x) xs ys f.0 o.0, falls_both xs ys f.1 h o.1)

  -- The lowest key is the least.
  pub lowest_least : (xs : List X) → Falls xs → AllOf (λ x. lowest_key key xs ≤ key x) xs
  lowest_least [] f = tt
  lowest_least (x ∷ []) f = (omega arith, tt)
  lowest_least (x ∷ y ∷ xs) f =
      let r = lowest_least (y ∷ xs) f.1 in
      let l = r.0 in
      let h = f.0.0 in
      (omega (arith, l, h), r)
