-- The lowest key of a list.
use Rattle.std.proofs.Common.{◌≡◌, ℕ, ◌<◌, List, [], ◌∷◌, ◌++◌, length, arith, refl}
use Rattle.vm_tree.specs.Subtree.{AllOf}
use Rattle.vm_list.specs.Leaves.{lowest_key}

module _ {X : Type 0} (key : X → ℕ) where
  lowest_cons : (x : X) (ys : List X) → 0 < length ys → lowest_key key (x ∷ ys) ≡ lowest_key key ys
  lowest_cons x [] l = absurd (omega (arith, l))
  lowest_cons x (y ∷ ys) l = refl

  -- It is that of the last part.
  pub lowest_append : (xs ys : List X) → 0 < length ys → lowest_key key (xs ++ ys) ≡ lowest_key key ys
  lowest_append [] ys l = refl
  lowest_append (x ∷ []) ys l = lowest_cons x ys l
  lowest_append (x ∷ z ∷ xs) ys l = lowest_append (z ∷ xs) ys l

  pub lowest_push : (xs ys : List X) (x : X) → ys ≡ xs ++ x ∷ [] → key x ≡ lowest_key key ys
  lowest_push xs ys x e = rw e (rw (lowest_append xs (x ∷ []) (omega arith)))

  -- A fact of each key is one of the lowest.
  pub lowest_of : (P : ℕ → Type 0) (xs : List X) → 0 < length xs → AllOf (λ x. P (key x)) xs → P (lowest_key key xs)
  lowest_of P [] l a = absurd (omega (arith, l))
  lowest_of P (x ∷ []) l a = a.0
  lowest_of P (x ∷ y ∷ xs) l a = lowest_of P (y ∷ xs) (omega arith) a.1
