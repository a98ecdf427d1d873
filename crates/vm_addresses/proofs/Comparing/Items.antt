-- Iterators that are compared item by item.
use Rattle.std.proofs.Common.{◌≡◌, ◌↔◌, List, [], ◌∷◌, sym, Bool, true, false, IsTrue, Option, None, Some, MatchOption, IfSome, arith}
use Rattle.std.specs.List.{AllZip}
use Rattle.std.specs.Iterator.{YieldsFirst, YieldsThen, ComparesItemsByEq}

module _ {A : Type 0} (eq : A → A → Bool) (exact : (x y : A) → IsTrue (eq x y) ↔ (x ≡ y)) (r : Bool) where
  -- The iterators over s and t returned the equal items xs and ys, and then o and p.
  compared : (xs ys : List A) (o p : Option A) (s t u v : List A) → YieldsThen (YieldsFirst (λ l. l)) s xs o u →
      YieldsThen (YieldsFirst (λ l. l)) t ys p v → AllZip (λ x y. eq x y ≡ true) xs ys →
      MatchOption o (MatchOption p (r ≡ true) (λ _. r ≡ false)) (λ x. (r ≡ false) × IfSome p (λ y. eq x y ≡ false)) → IsTrue r ↔ (s ≡ t)
  compared [] [] None None s t u v a b z h = rw (a.1, a.2.0, b.1, b.2.0, h) (grind arith)
  compared [] [] None (Some y) s t u v a b z h = rw (a.1, a.2.0, b.1, b.2, h) (grind arith)
  compared [] [] (Some x) None s t u v a b z h = rw (a.1, a.2, b.1, b.2.0, h.0) (grind arith)
  compared [] [] (Some x) (Some y) s t u v a b z h = rw (a.1, a.2, b.1, b.2, h.0) (grind (arith, exact x y, h.1))
  compared [] (y ∷ ys) o p s t u v a b z h = absurd z
  compared (x ∷ xs) [] o p s t u v a b z h = absurd z
  compared (x ∷ xs) (y ∷ ys) o p s t u v a b z h =
      rw (a.1.1, b.1.1)
      (grind (arith, exact x y, z.0, compared xs ys o p a.1.0 b.1.0 u v (a.0, a.1.2, a.2) (b.0, b.1.2, b.2) z.1 h))

  -- `eq` returns true if and only if both iterators return the same items.
  pub same_items : (s t : List A) → ComparesItemsByEq (YieldsFirst (λ l. l)) (λ x y. y ≡ x) (YieldsFirst (λ l. l)) s t eq r →
      IsTrue r ↔ (s ≡ t)
  same_items s t d = rw (sym d.7) (compared d.1 d.2 d.3 d.4 s d.0 d.5 d.6 d.8 d.9 d.10 d.11)
