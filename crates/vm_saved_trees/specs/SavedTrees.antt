-- Saved trees, without the format that they are saved in, and the trees of a space that they represent.
use Rattle.std.specs.Prelude.{◌≡◌, ◌≢◌, ℕ, ◌+◌, ◌≤◌, max, List, length}
use Rattle.vm_ranges.specs.Range.{Range, MAX, IsRange}
use Rattle.vm_ranges.specs.Address.{AddressState}
use Rattle.vm_ranges.specs.Answer.{SPLIT_LIMIT_MIN_HELD}
use Rattle.vm_leaf.specs.declared.block.Block.{Block}
use Rattle.vm_leaf.specs.SpaceBlocks.{held_of, AreKeysIn, AreBelowMax, IsTiling}
use Rattle.vm_saved_trees.specs.NodeTree.{NodeTree, Tip, Fork, node_blocks, node_height, HasBalancedNodes}
use Rattle.vm_leaf.specs.TreeHeights.{MAX_HEIGHT}
use Rattle.vm_saved_trees.specs.KeyValues.{MAX_NESTING_REPAIRED}
use Rattle.vm_saved_trees.specs.declared.span.Form.{Form}
use Rattle.vm_saved_trees.specs.declared.span.Form.TheVariants.{Strict, Repaired}

-- A saved tree, which has a node for each block, unlike the tree of an allocator: no node, or a node with its block, both children
-- and the height that is saved for it.
pub data Saved : Type 0 where
  Absent : Saved
  Node : Saved → Block → Saved → ℕ → Saved

-- The nodes of a saved tree without the saved heights.
abbrev pub nodes_of_saved : Saved → NodeTree
nodes_of_saved Absent = Tip
nodes_of_saved (Node l b r h) = Fork (nodes_of_saved l) b (nodes_of_saved r)

-- The blocks of a saved tree, from left to right.
abbrev pub saved_blocks : Saved → List Block
saved_blocks t = node_blocks (nodes_of_saved t)

-- The keys of the held blocks of a saved tree, from left to right.
abbrev pub held_keys : Saved → List Range
held_keys t = held_of (saved_blocks t)

-- The ends of each key are those of a range.
abbrev pub HasRanges : Saved → Type 0
HasRanges Absent = Unit {0}
HasRanges (Node l b r h) = HasRanges l × HasRanges r × IsRange b.key.start b.key.end

-- Each saved height is that of the node.
abbrev pub HasHeights : Saved → Type 0
HasHeights Absent = Unit {0}
HasHeights (Node l b r h) = HasHeights l × HasHeights r × (h ≡ max (node_height (nodes_of_saved l)) (node_height (nodes_of_saved r)) + 1)

-- Nodes are nested at most MAX_NESTING_REPAIRED deep, keys are in order and share no address, and no held key ends at MAX.
pub record IsReadable (t : Saved) : Type 0 where
  pub nested : node_height (nodes_of_saved t) ≤ MAX_NESTING_REPAIRED
  pub keys : AreKeysIn 0 (saved_blocks t) MAX
  pub below : AreBelowMax (held_keys t)

-- The saved tree is valid for the space: it has a node, correct heights, at most MAX_HEIGHT levels, balanced nodes, and valid
-- blocks. So it has fewer than TOO_MANY_BLOCKS.
pub record IsSavedTree (space : Range) (t : Saved) : Type 0 where
  pub some_node : t ≢ Absent
  pub heights : HasHeights t
  pub nested : node_height (nodes_of_saved t) ≤ MAX_HEIGHT
  pub balanced : HasBalancedNodes (nodes_of_saved t)
  pub blocks : IsTiling space (saved_blocks t)

-- The held keys of the saved tree are the held ranges of a state of the space. All else that a tree has can be wrong.
pub record HasHeldKeys (space : Range) (t : Saved) (state : AddressState) : Type 0 where
  pub nested : node_height (nodes_of_saved t) ≤ MAX_NESTING_REPAIRED
  pub keys : AreKeysIn space.start (saved_blocks t) space.end
  pub below : AreBelowMax (held_keys t)
  pub few : length (held_keys t) ≤ SPLIT_LIMIT_MIN_HELD
  pub held : held_keys t ≡ state.held
  pub is_space : state.space ≡ space

-- The saved tree is one of the space, node for node, and has the held ranges of the state.
pub record HasTreeOf (space : Range) (t : Saved) (state : AddressState) : Type 0 where
  pub tree : IsSavedTree space t
  pub held : held_keys t ≡ state.held
  pub is_space : state.space ≡ space

-- The saved tree is accepted for the space in this form, and has the held ranges of the state.
abbrev pub HasHeldAs : Form → Range → Saved → AddressState → Type 0
HasHeldAs Strict = HasTreeOf
HasHeldAs Repaired = HasHeldKeys
