-- Facts of a node with this number of children.
use Rattle.std.specs.Prelude.{◌≡◌, ℕ, ◌-◌, ◌*◌, ◌^◌, ◌≤◌, ◌<◌, length}
use Rattle.vm_tree.specs.Subtree.{Subtree, kids, AllOf, IsFull}
use Rattle.vm_tree.specs.Sized.{IsSizedTree}

-- The node s has n children.
pub record HasKids {X : Type 0} (enough : X → Type 0) (n : ℕ) (s : Subtree X) : Type 0 where
  pub kids : n ≡ kids s
  pub tall : 0 < n → 2 ≤ s.height
  pub bound : n * 5 ^ (s.height - 1) ≤ 5 * length s.leaves
  pub some : 0 < n → 0 < length s.leaves
  pub all : AllOf enough s.leaves
  pub full : 5 ≤ n → IsFull enough s.height s
  pub sized : 2 ≤ n → IsSizedTree s
