-- Values encode exactly the saved trees that readers of other formats accept.
use Rattle.std.proofs.Common.{◌≡◌, ◌≢◌, List, Some, refl, sym, ap, ◌∙◌, Result, Ok, Err}
use Rattle.serde_json.specs.Data.{Data}
use Rattle.serde_json.specs.View.{view}
use Rattle.serde_json.specs.declared.value.Value.{Value}
use Rattle.vm_ranges.specs.Range.{Range}
use Rattle.vm_ranges.specs.Saving.{Saves}
use Rattle.vm_ranges.specs.declared.error.Error.{Error}
use Rattle.vm_ranges.specs.Address.{AddressState}
use Rattle.vm_saved_trees.specs.ValueNodes.{EncodesSaved, WritesTree}
use Rattle.vm_saved_trees.specs.NodeTree.{Tip}
use Rattle.vm_saved_trees.specs.SavedTrees.{Saved, Absent, Node, nodes_of_saved, HasTreeOf, HasHeldKeys, HasHeldAs}
use Rattle.vm_saved_trees.specs.TreeValues.{EncodesNode, EncodesSpaceTree}
use Rattle.vm_saved_trees.specs.KeyValues.{EncodesKeys, EncodesAs}
use Rattle.vm_saved_trees.specs.WrittenTrees.{WritesNode}
use Rattle.vm_saved_trees.specs.declared.span.Form.{Form}
use Rattle.vm_saved_trees.specs.declared.span.Form.TheVariants.{Strict, Repaired}
use Rattle.vm_saved_trees.specs.declared.written.WrittenNode.{WrittenNode}
use Rattle.vm_leaf.specs.declared.block.Block.{Block}
use Rattle.vm_saved_trees.proofs.SavedNodes.SavedTreeLaws.{nodes_are_written}
use Rattle.vm_saved_trees.proofs.Reading.Writing.{encodes_fork}
use Rattle.vm_saved_trees.proofs.SavedNodes.ValueTrees.{saved_nodes, nodes_saved, saved_shape, saved_of, shape_of-saved_of, saved_of-heights, shape_saved}

pub strict_nodes : (d : Data) (space : Range) (state : AddressState) → EncodesSpaceTree d space state →
    (t : Saved) × EncodesSaved d t × HasTreeOf space t state
strict_nodes d space state p =
    let is = shape_of-saved_of p.tree in (
      saved_of p.tree,
      shape_saved p.tree d p.encoded,
      record {
        tree = record {
          some_node = λ e. p.some_node (sym is ∙ ap nodes_of_saved e);
          heights = saved_of-heights p.tree;
          nested = rw is p.nested;
          balanced = rw is p.balanced;
          blocks = rw is p.blocks;
        };
        held = rw is p.held;
        is_space = p.is_space;
      },
    )

not_absent : (t : Saved) → t ≢ Absent → nodes_of_saved t ≢ Tip
not_absent Absent n = absurd (n refl)
not_absent (Node l b r h) n = λ e. cc e

pub strict_value : (d : Data) (space : Range) (state : AddressState) (t : Saved) → EncodesSaved d t → HasTreeOf space t state →
    EncodesSpaceTree d space state
strict_value d space state t nodes p = record {
  tree = nodes_of_saved t;
  encoded = saved_shape t d p.tree.heights nodes;
  some_node = not_absent t p.tree.some_node;
  nested = p.tree.nested;
  balanced = p.tree.balanced;
  blocks = p.tree.blocks;
  held = p.held;
  is_space = p.is_space;
}

-- A value that encodes the keys of a space has the nodes of a saved tree with these keys, and the other way round.
pub keys_nodes : (d : Data) (space : Range) (state : AddressState) → EncodesKeys d space state →
    (t : Saved) × EncodesSaved d t × HasHeldKeys space t state
keys_nodes d space state p =
    let t = nodes_saved p.tree d p.nodes in (
      t.0,
      t.1,
      record {
        nested = rw t.2 p.nested;
        keys = rw t.2 p.keys;
        below = rw t.2 p.below;
        few = rw t.2 p.few;
        held = rw t.2 p.held;
        is_space = p.is_space;
      },
    )

pub keys_value : (d : Data) (space : Range) (state : AddressState) (t : Saved) → EncodesSaved d t → HasHeldKeys space t state →
    EncodesKeys d space state
keys_value d space state t nodes p = record {
  tree = nodes_of_saved t;
  nodes = saved_nodes t d nodes;
  nested = p.nested;
  keys = p.keys;
  below = p.below;
  few = p.few;
  held = p.held;
  is_space = p.is_space;
}

-- A value with the nodes of a saved tree encodes its state, in either form.
pub value_as : (form : Form) (d : Data) (space : Range) (state : AddressState) (t : Saved) → EncodesSaved d t → HasHeldAs form space t state →
    EncodesAs form d space state
value_as Strict = strict_value
value_as Repaired = keys_value

pub nodes_as : (form : Form) (d : Data) (space : Range) (state : AddressState) → EncodesAs form d space state →
    (t : Saved) × EncodesSaved d t × HasHeldAs form space t state
nodes_as Strict = strict_nodes
nodes_as Repaired = keys_nodes

-- The value of a node, by the values of its children.
pub node_written : (bs : List Block) (n : WrittenNode) (left right : Data) (answer : Result Value Error) → WritesNode bs (Some n) →
    WritesTree n.left left → WritesTree n.right right
    → Saves (λ d. EncodesNode d (record { key = n.key; state = n.state }) (λ v. v ≡ left) (λ v. v ≡ right) n.height) answer →
    Saves (WritesTree bs) answer
node_written bs n left right (Ok v) w l r e =
    let b : Block = record { key = n.key; state = n.state } in
    (Node l.0 b r.0 n.height, nodes_are_written bs n l.0 r.0 w l.1 r.1, encodes_fork (view v) left right n.height b l.0 r.0 e l.2 r.2)
node_written bs n left right (Err x) w l r e = e
