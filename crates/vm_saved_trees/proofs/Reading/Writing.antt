-- The object that is built from the values of a node's fields encodes the node.
use Rattle.std.proofs.Common.{◌≡◌, ℕ, codes, refl}
use Rattle.serde_json.specs.Data.{Data}
use Rattle.vm_ranges.proofs.FieldSteps.{field_is}
use Rattle.vm_ranges.specs.Range.{Range}
use Rattle.vm_ranges.specs.RangeValues.{EncodesRange, EncodesState}
use Rattle.vm_ranges.specs.declared.state.NodeState.{NodeState}
use Rattle.vm_leaf.specs.declared.block.Block.{Block}
use Rattle.vm_saved_trees.specs.NodeChecks.{NodeParts}
use Rattle.vm_saved_trees.specs.ValueNodes.{EncodesSaved}
use Rattle.vm_saved_trees.specs.SavedTrees.{Saved, Node}
use Rattle.vm_saved_trees.specs.TreeValues.{EncodesNode}
use Rattle.vm_saved_trees.proofs.Reading.ReadNodes.{sides_map}

-- If the values encode the block and the children, the object encodes the node.
pub encodes_parts : (d key state left right : Data) (h : ℕ) (k : Range) (s : NodeState) → NodeParts d key state left right h →
    EncodesRange key k → EncodesState state s →
    EncodesNode d (record { key = k; state = s }) (λ v. v ≡ left) (λ v. v ≡ right) h
encodes_parts d key state left right h k s p key_encoded state_encoded = record {
  five_fields = p.five_fields;
  key = field_is (codes "key") d key (λ v. EncodesRange v k) p.key_is key_encoded;
  node_state = field_is (codes "node_state") d state (λ v. EncodesState v s) p.state_is state_encoded;
  left = field_is (codes "left") d left (λ v. v ≡ left) p.left_is refl;
  right = field_is (codes "right") d right (λ v. v ≡ right) p.right_is refl;
  height = p.height_is;
}

pub ruleset parts = (encodes_parts)

-- If the values encode the trees of the children, the object encodes the tree.
pub encodes_fork : (d left right : Data) (h : ℕ) (b : Block) (l r : Saved) → EncodesNode d b (λ v. v ≡ left) (λ v. v ≡ right) h →
    EncodesSaved left l → EncodesSaved right r → EncodesSaved d (Node l b r h)
encodes_fork d left right h b l r p left_encoded right_encoded =
    sides_map d b (λ v. v ≡ left) (λ v. v ≡ right) (λ v. EncodesSaved v l) (λ v. EncodesSaved v r) h (λ v e. rw e left_encoded)
    (λ v e. rw e right_encoded) p
