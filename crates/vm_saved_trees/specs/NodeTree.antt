-- The nodes of a saved tree, with one node for each block.
use Rattle.std.specs.Prelude.{ℕ, ◌+◌, max, List, [], ◌∷◌, ◌++◌}
use Rattle.vm_leaf.specs.declared.block.Block.{Block}
use Rattle.vm_leaf.specs.TreeHeights.{DifferByAtMost}

-- An empty tree, or a block between a left and a right child.
pub data NodeTree : Type 0 where
  Tip : NodeTree
  Fork : NodeTree → Block → NodeTree → NodeTree

-- The blocks of the tree, from left to right.
abbrev pub node_blocks : NodeTree → List Block
node_blocks Tip = []
node_blocks (Fork l b r) = node_blocks l ++ b ∷ node_blocks r

-- The height: the number of nodes on the longest path.
abbrev pub node_height : NodeTree → ℕ
node_height Tip = 0
node_height (Fork l b r) = max (node_height l) (node_height r) + 1

-- The heights of both children of each node are at most one apart.
abbrev pub HasBalancedNodes : NodeTree → Type 0
HasBalancedNodes Tip = Unit {0}
HasBalancedNodes (Fork l b r) = HasBalancedNodes l × HasBalancedNodes r × DifferByAtMost 1 (node_height l) (node_height r)
