-- Copies of children, one after the other.
use Rattle.std.proofs.Common.{◌≡◌, ℕ, zero, suc, ◌+◌, ◌<◌, List, [], ◌∷◌, map, length, take, get_or, Option, Some, Box, ◌∙◌, sym, refl, ap, arith, add-one}
use Rattle.std.specs.declared.alloc.Global.{Global}
use Rattle.std.specs.List.{insert}
use Rattle.std.proofs.lemmas.List.Edits.{length-insert}
use Rattle.vm_tree.specs.Slots.{held, IsDense}
use Rattle.vm_tree.specs.Subtree.{Subtree, AreFull}
use Rattle.vm_tree.specs.Copies.{AreCopies}
use Rattle.vm_tree.proofs.Dense.{kid_at}

module _ {X C : Type 0} (tree : Box C Global → Subtree X) where
  at_end : (xs ys : List (Box C Global)) (i : ℕ) (x k : Box C Global) → i ≡ length ys → i < length xs → get_or xs i k ≡ k → tree x ≡ tree k
      → map tree ys ≡ take i (map tree xs) → map tree (insert ys i x) ≡ take (suc i) (map tree xs)
  at_end [] ys i x k n l g e h = absurd (omega arith)
  at_end (z ∷ xs) [] zero x k n l g e h = ap (λ v. v ∷ []) (e ∙ ap tree (sym g))
  at_end (z ∷ xs) (y ∷ ys) zero x k n l g e h = absurd (omega arith)
  at_end (z ∷ xs) [] (suc i) x k n l g e h = absurd (omega arith)
  at_end (z ∷ xs) (y ∷ ys) (suc i) x k n l g e h =
      let same : tree y ≡ tree z = cc in
      let rest : map tree ys ≡ take i (map tree xs) = cc in
      let r = at_end xs ys i x k (omega arith) (omega arith) g e rest in
      ap (λ v. v ∷ map tree (insert ys i x)) same ∙ ap (λ vs. tree z ∷ vs) r

  pub copied_first : (from to : List (Option (Box C Global))) → IsDense to → held to ≡ [] → AreCopies tree 0 from to
  copied_first from to d e = record { dense = d; count = ap length e; trees = ap (map tree) e ∙ sym (none (map tree (held from))) }
    where
      none : (xs : List (Subtree X)) → take 0 xs ≡ []
      none [] = refl
      none (x ∷ xs) = refl

  pub copied_next : (from to to2 : List (Option (Box C Global))) (i : ℕ) (o : Option (Box C Global)) (k x : Box C Global) → IsDense from
      → i < length (held from) → get_or from i o ≡ Some k → AreCopies tree i from to → tree x ≡ tree k → IsDense to2
      → held to2 ≡ insert (held to) i x → AreCopies tree (i + 1) from to2
  copied_next from to to2 i o k x d l g a e d2 h =
      let n : length (held to) ≡ i = a.count in
      record {
        dense = d2;
        count = ap length h ∙ length-insert (held to) i x (omega arith) ∙ omega arith;
        trees = rw add-one (ap (map tree) h ∙ at_end (held from) (held to) i x k (sym n) l (kid_at from i o k d l g) e a.trees);
      }

  length-trees : (bs : List (Box C Global)) → length (map tree bs) ≡ length bs
  length-trees [] = refl
  length-trees (b ∷ bs) = omega (arith, length-trees bs)

  -- The height of a child.
  full_height : (enough : X → Type 0) (h : ℕ) (bs : List (Box C Global)) (i : ℕ) (k : Box C Global) → AreFull enough h (map tree bs) → i < length bs
      → get_or bs i k ≡ k → (tree k).height ≡ h
  full_height enough h [] i k a l e = absurd (omega arith)
  full_height enough h (b ∷ bs) zero k a l e = ap (λ b. (tree b).height) (sym e) ∙ a.0.height
  full_height enough h (b ∷ bs) (suc i) k a l e = full_height enough h bs i k a.1 (omega arith) e

  pub kid_height : (enough : X → Type 0) (h : ℕ) (os : List (Option (Box C Global))) (i : ℕ) (o : Option (Box C Global)) (k : Box C Global) →
      AreFull enough h (map tree (held os)) → IsDense os → i < length (held os) → get_or os i o ≡ Some k → (tree k).height ≡ h
  kid_height enough h os i o k a d l e = full_height enough h (held os) i k a l (kid_at os i o k d l e)
