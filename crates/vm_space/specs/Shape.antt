-- Trees without pointers: the model of a space.
use Rattle.std.specs.Prelude.{ℕ, ◌+◌, ◌≤◌, ◌<◌, List, length, refl}
use Rattle.std.specs.Coded.{Coded, code_by, coded×, coded_ℕ, coded_list}
use Rattle.vm_leaf.specs.declared.block.Block.{Block}
use Rattle.vm_leaf.specs.declared.leaf.TheConstants.{CAPACITY}
use Rattle.vm_leaf.specs.Block.{blocks_code}
use Rattle.vm_leaf.specs.Entries.{HasEnough}
use Rattle.vm_tree.specs.Subtree.{Subtree, AllOf}
use Rattle.vm_space.specs.Leaves.{blocks_of}

-- The height of a tree, the number of children of each inner node in preorder, and the blocks of each leaf. All leaves are at
-- the same depth, so these determine each node.
abbrev pub Shape : Type 0
Shape = Subtree (List Block)

-- The blocks of the tree, from left to right.
abbrev pub blocks : Shape → List Block
blocks s = blocks_of s.leaves

-- The height: the number of nodes on the path to a leaf. A leaf is a node.
abbrev pub height_of : Shape → ℕ
height_of s = s.height

-- The number of leaves.
abbrev pub leaf_count : Shape → ℕ
leaf_count s = length s.leaves

-- The number of nodes. A leaf is a node.
abbrev pub node_count : Shape → ℕ
node_count s = length s.sizes + length s.leaves

-- Each leaf has MIN_BLOCKS to CAPACITY blocks. A leaf that is the whole tree can have fewer.
pub record IsTree (s : Shape) : Type 0 where
  pub leaves : AllOf (λ bs. (0 < length bs) × (length bs ≤ CAPACITY)) s.leaves
  pub full : 2 ≤ leaf_count s → AllOf HasEnough s.leaves

-- Proof: encodes a tree as lists. The prover needs this to use trees as values.
abbrev pub shape_code : Coded Shape
shape_code = code_by (ℕ × (List ℕ × List (List Block))) (coded× coded_ℕ (coded× (coded_list coded_ℕ) (coded_list blocks_code)))
    (λ s. (s.height, (s.sizes, s.leaves))) (λ p. record { height = p.0; sizes = p.1.0; leaves = p.1.1 }) (λ _. refl)
