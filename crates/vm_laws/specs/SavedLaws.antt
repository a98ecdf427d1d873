-- Laws of saved trees.
use Rattle.std.specs.Prelude.{◌≡◌, List, Option, Some}
use Rattle.serde_json.specs.Data.{Data}
use Rattle.vm_ranges.specs.Range.{Range}
use Rattle.vm_ranges.specs.Address.{AddressState}
use Rattle.vm_leaf.specs.declared.block.Block.{Block}
use Rattle.vm_space.specs.Shape.{Shape, blocks}
use Rattle.vm_addresses.specs.Allocator.{space_of, state_of, IsSpaceTree}
use Rattle.vm_saved_trees.specs.SavedTrees.{Saved, Node, HasRanges, IsReadable, HasHeldKeys, HasTreeOf}
use Rattle.vm_saved_trees.specs.TreeValues.{EncodesSpaceTree}
use Rattle.vm_saved_trees.specs.KeyValues.{EncodesKeys}
use Rattle.vm_saved_trees.specs.ValueNodes.{EncodesSaved}
use Rattle.vm_saved_trees.specs.WrittenTrees.{IsWritten, WritesNode}
use Rattle.vm_saved_trees.specs.Spans.{StandsFor}
use Rattle.vm_saved_trees.specs.declared.span.Span.{Span}
use Rattle.vm_saved_trees.specs.declared.written.WrittenNode.{WrittenNode}

-- A saved tree of ranges is accepted if and only if it is readable: a span stands for it if it is, and for no other tree.
pub record SpansAreExact : Type 0 where
  pub some : (t : Saved) → HasRanges t → IsReadable t → (span : Option Span) × StandsFor span t
  pub readable : (t : Saved) (span : Option Span) → StandsFor span t → IsReadable t

-- The node that is written for some blocks, with the trees that are written for its children, is the tree of the blocks.
abbrev pub NodesAreWritten : Type 0
NodesAreWritten =
    (bs : List Block) (n : WrittenNode) (l r : Saved) → WritesNode bs (Some n) →
    IsWritten n.left l → IsWritten n.right r →
    IsWritten bs (Node l (record { key = n.key; state = n.state }) r n.height)

-- The tree that is written for an allocator's tree is a saved tree of its space, node for node, with its state.
abbrev pub WrittenIsRead : Type 0
WrittenIsRead =
    (s : Shape) (t : Saved) → IsSpaceTree s → IsWritten (blocks s) t → HasTreeOf (space_of (blocks s)) t (state_of s)

-- Trees of one state are written as the same saved tree.
abbrev pub EqualAreWrittenEqually : Type 0
EqualAreWrittenEqually =
    (s other : Shape) (t u : Saved) → IsSpaceTree s → IsSpaceTree other → state_of s ≡ state_of other →
    IsWritten (blocks s) t → IsWritten (blocks other) u → t ≡ u

-- A value encodes a tree of a space if and only if it has the nodes of a saved tree of the space.
pub record ValuesAreSavedTrees : Type 0 where
  pub nodes : (d : Data) (space : Range) (state : AddressState) → EncodesSpaceTree d space state →
      (t : Saved) × EncodesSaved d t × HasTreeOf space t state
  pub tree : (d : Data) (space : Range) (state : AddressState) (t : Saved) → EncodesSaved d t → HasTreeOf space t state →
      EncodesSpaceTree d space state

-- A value encodes the held keys of a space if and only if it has the nodes of a saved tree with these keys.
pub record ValuesHaveHeldKeys : Type 0 where
  pub nodes : (d : Data) (space : Range) (state : AddressState) → EncodesKeys d space state →
      (t : Saved) × EncodesSaved d t × HasHeldKeys space t state
  pub keys : (d : Data) (space : Range) (state : AddressState) (t : Saved) → EncodesSaved d t → HasHeldKeys space t state →
      EncodesKeys d space state
