-- A child below its slot.
use Rattle.std.proofs.Common.{◌≡◌, ℕ, zero, suc, ◌<◌, List, [], ◌∷◌, map, length, get_or, Option, Some, Box, ◌∙◌, sym, refl, ap, arith}
use Rattle.std.specs.declared.alloc.Global.{Global}
use Rattle.vm_tree.specs.Slots.{held, IsDense}
use Rattle.vm_tree.specs.Subtree.{Subtree, leaf_of, nth_tree}
use Rattle.vm_tree.specs.Nodes.{leaf_tree}
use Rattle.vm_tree.proofs.Dense.{kid_at}

module _ {X C : Type 0} (tree : Box C Global → Subtree X) where
  nth : (bs : List (Box C Global)) (i : ℕ) (b : Box C Global) → i < length bs → nth_tree (map tree bs) i ≡ tree (get_or bs i b)
  nth [] i b l = absurd (omega arith)
  nth (k ∷ bs) zero b l = refl
  nth (k ∷ bs) (suc i) b l = nth bs i b (omega arith)

  pub child_at : (os : List (Option (Box C Global))) (i : ℕ) (o : Option (Box C Global)) (k : Box C Global) → IsDense os → i < length (held os)
      → get_or os i o ≡ Some k → tree k ≡ nth_tree (map tree (held os)) i
  child_at os i o k d l h = sym (nth (held os) i k l ∙ ap tree (kid_at os i o k d l h))

pub leaf_at : {X : Type 0} (os : List (Option (Box X Global))) (i : ℕ) (o : Option (Box X Global)) (k : Box X Global) (v : X) → IsDense os
    → i < length (held os) → get_or os i o ≡ Some k → v ≡ k.value → leaf_of v ≡ nth_tree (map leaf_tree (held os)) i
leaf_at os i o k v d l h e = ap leaf_of e ∙ child_at leaf_tree os i o k d l h
