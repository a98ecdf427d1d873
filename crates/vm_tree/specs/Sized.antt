-- The height of a tree, by its leaves and nodes.
use Rattle.std.specs.Prelude.{◌+◌, ◌-◌, ◌*◌, ◌^◌, ◌≤◌, length}
use Rattle.vm_tree.specs.Subtree.{Subtree}

-- Each inner node has 5 to 16 children, or 2 to 16 if it is the root. So these are the bounds on the leaves and the inner nodes
-- of a tree with a leaf.
pub record IsSizedTree {X : Type 0} (s : Subtree X) : Type 0 where
  pub high : 1 ≤ s.height
  pub most : 15 * (length s.sizes + length s.leaves) + 1 ≤ 16 ^ s.height
  pub few : 4 * length s.sizes ≤ length s.leaves + 2
  pub inner : 2 ≤ s.height → 1 ≤ length s.sizes
  pub fewest : 2 ≤ s.height → 2 * 5 ^ (s.height - 2) ≤ length s.leaves
