-- The values that encode the held ranges of a space by the keys of nodes. Bugs of vm-allocator 0.1.4 can
-- lose the tree, leave free neighbours, or leave gaps between keys.
use Rattle.std.specs.Prelude.{◌≡◌, ℕ, ◌≤◌, length}
use Rattle.serde_json.specs.Data.{Data}
use Rattle.vm_ranges.specs.Range.{Range}
use Rattle.vm_ranges.specs.Address.{AddressState}
use Rattle.vm_ranges.specs.Answer.{SPLIT_LIMIT_MIN_HELD}
use Rattle.vm_leaf.specs.SpaceBlocks.{held_of, AreKeysIn, AreBelowMax}
use Rattle.vm_saved_trees.specs.NodeTree.{NodeTree, node_blocks, node_height}
use Rattle.vm_saved_trees.specs.TreeValues.{HasNodes, EncodesSpaceTree}
use Rattle.vm_saved_trees.specs.declared.span.Form.{Form}
use Rattle.vm_saved_trees.specs.declared.span.Form.TheVariants.{Strict, Repaired}

-- The maximum nesting of the nodes that a reader accepts: no tree that vm-allocator saves is higher.
abbrev pub MAX_NESTING_REPAIRED : ℕ
MAX_NESTING_REPAIRED = 50

-- The value has any nodes or none, nested at most MAX_NESTING_REPAIRED deep, and their keys are in order in the space.
-- Held keys end below MAX. At most SPLIT_LIMIT_MIN_HELD keys are held: with that number, the next split fails. They are the
-- held ranges of the state, and all other addresses of the space are clear.
pub record EncodesKeys (d : Data) (space : Range) (state : AddressState) : Type 0 where
  pub tree : NodeTree
  pub nodes : HasNodes d tree
  pub nested : node_height tree ≤ MAX_NESTING_REPAIRED
  pub keys : AreKeysIn space.start (node_blocks tree) space.end
  pub below : AreBelowMax (held_of (node_blocks tree))
  pub few : length (held_of (node_blocks tree)) ≤ SPLIT_LIMIT_MIN_HELD
  pub held : held_of (node_blocks tree) ≡ state.held
  pub is_space : state.space ≡ space

-- The value encodes the state in the space, as a tree that is accepted in this form.
abbrev pub EncodesAs : Form → Data → Range → AddressState → Type 0
EncodesAs Strict = EncodesSpaceTree
EncodesAs Repaired = EncodesKeys
