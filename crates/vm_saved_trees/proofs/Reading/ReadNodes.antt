-- The fields of a node's value, and the nodes of a value. They form at most one tree.
use Rattle.std.proofs.Common.{◌≡◌, ℕ, ◌+◌, max, Some, codes, option_and_then, refl, sym, ap, ◌∙◌, subst}
use Rattle.std.proofs.lemmas.Option.{same_Some}
use Rattle.serde_json.specs.Data.{Data, null}
use Rattle.serde_json.specs.Find.{get}
use Rattle.vm_ranges.proofs.FieldSteps.{count-true, true-count, in_field, field_is, field_map}
use Rattle.vm_ranges.proofs.Steps.{and_then_some, map_some, if_some}
use Rattle.vm_ranges.specs.Fields.{field_count, is_count}
use Rattle.vm_ranges.specs.Numbers.{number_in}
use Rattle.vm_leaf.specs.declared.block.Block.{Block}
use Rattle.vm_saved_trees.specs.NodeTree.{NodeTree, Tip, Fork, node_height}
use Rattle.vm_ranges.specs.RangeValues.{EncodesRange, EncodesState, decoded_range, decoded_state}
use Rattle.vm_saved_trees.specs.TreeValues.{EncodesNode, EncodesShape, HasNodes}
use Rattle.vm_saved_trees.specs.NodeChecks.{NodeData, decoded_node}
use Rattle.vm_ranges.proofs.ReadRanges as ranges
use Rattle.vm_ranges.proofs.ReadStates as states

-- The fields that are decoded are the fields of the value.
node_encoded : (d : Data) (n : NodeData) → decoded_node d ≡ Some n → EncodesNode d n.block (λ v. v ≡ n.left) (λ v. v ≡ n.right) n.height
node_encoded d n e =
    let five = if_some (is_count 5 (field_count d)) _ n e in
    let key = and_then_some _ (option_and_then decoded_range (get (codes "key") d)) n five.1 in
    let state = and_then_some _ (option_and_then decoded_state (get (codes "node_state") d)) n key.2 in
    let height = and_then_some _ (number_in (codes "height") d) n state.2 in
    let left = and_then_some _ (get (codes "left") d) n height.2 in
    let right = map_some _ (get (codes "right") d) n left.2 in
    let key_at = and_then_some decoded_range (get (codes "key") d) key.0 key.1 in
    let state_at = and_then_some decoded_state (get (codes "node_state") d) state.0 state.1 in
    let b : Block = record { key = key.0; state = state.0 } in
    let encoded : EncodesNode d b (λ v. v ≡ left.0) (λ v. v ≡ right.0) height.0 = record {
      five_fields = count-true 5 (field_count d) five.0;
      key = field_is (codes "key") d key_at.0 (λ v. EncodesRange v key.0) key_at.1 (ranges.found-states key_at.0 key.0 key_at.2);
      node_state = field_is (codes "node_state") d state_at.0 (λ v. EncodesState v state.0) state_at.1
          (states.found-states state_at.0 state.0 state_at.2);
      left = field_is (codes "left") d left.0 (λ v. v ≡ left.0) left.1 refl;
      right = field_is (codes "right") d right.0 (λ v. v ≡ right.0) right.1 refl;
      height = height.1;
    } in
    subst (λ (m : NodeData). EncodesNode d m.block (λ v. v ≡ m.left) (λ v. v ≡ m.right) m.height) right.2 encoded

-- The facts about the values of the children can be replaced.
pub sides_map : (d : Data) (b : Block) (L R P Q : Data → Type 0) (h : ℕ) → ((v : Data) → L v → P v) → ((v : Data) → R v → Q v) →
    EncodesNode d b L R h → EncodesNode d b P Q h
sides_map d b L R P Q h f g n = record {
  five_fields = n.five_fields;
  key = n.key;
  node_state = n.node_state;
  left = field_map (codes "left") d L P f n.left;
  right = field_map (codes "right") d R Q g n.right;
  height = n.height;
}

-- A value with these fields is a node over the values of its children.
pub over_sides : (d : Data) (n : NodeData) (L R : Data → Type 0) (h : ℕ) → decoded_node d ≡ Some n → n.height ≡ h → L n.left → R n.right →
    EncodesNode d n.block L R h
over_sides d n L R h e is l r =
    let at : EncodesNode d n.block (λ v. v ≡ n.left) (λ v. v ≡ n.right) h = subst
    (EncodesNode d n.block (λ v. v ≡ n.left) (λ v. v ≡ n.right)) is (node_encoded d n e) in
    sides_map d n.block (λ v. v ≡ n.left) (λ v. v ≡ n.right) L R h (λ v s. subst L (sym s) l) (λ v s. subst R (sym s) r) at

abbrev pub data_of : Block → ℕ → Data → Data → NodeData
data_of b h l r = record { block = b; height = h; left = l; right = r }

-- The fields of a node's value are decoded.
pub node_is : (d : Data) (b : Block) (L R : Data → Type 0) (h : ℕ) → EncodesNode d b L R h →
    (l : Data) × (r : Data) × (decoded_node d ≡ Some (data_of b h l r)) × L l × R r
node_is d b L R h n =
    let key_at = in_field (codes "key") d (λ v. EncodesRange v b.key) n.key in
    let state_at = in_field (codes "node_state") d (λ v. EncodesState v b.state) n.node_state in
    let left_at = in_field (codes "left") d L n.left in
    let right_at = in_field (codes "right") d R n.right in
    let is : decoded_node d ≡ Some (data_of b h left_at.0 right_at.0) = rw (
      true-count 5 (field_count d) n.five_fields,
      key_at.1,
      ranges.states-found key_at.0 b.key key_at.2,
      state_at.1,
      states.states-found
          state_at.0 b.state state_at.2,
      n.height,
      left_at.1,
      right_at.1,
    ) refl in
    (left_at.0, right_at.0, is, left_at.2, right_at.2)

-- The nodes of a value.

-- A tree with correct heights is a tree with any heights.
pub shape_nodes : (s : NodeTree) (d : Data) → EncodesShape d s → HasNodes d s
shape_nodes Tip d p = p
shape_nodes (Fork l b r) d p = (
  max (node_height l) (node_height r) + 1,
  sides_map d b (λ v. EncodesShape v l) (λ v. EncodesShape v r) (λ v. HasNodes v l) (λ v. HasNodes v r)
      (max (node_height l) (node_height r) + 1) (λ v. shape_nodes l v) (λ v. shape_nodes r v) p,
)

pub no_data : (d : Data) (n : NodeData) → d ≡ null → decoded_node d ≡ Some n → ⊥
no_data d n z e = let f : decoded_node null ≡ Some n = subst (λ (v : Data). decoded_node v ≡ Some n) z e in cc

-- The fields of a node of a value.
pub fork_is : (d : Data) (l r : NodeTree) (b : Block) → HasNodes d (Fork l b r) →
    (n : NodeData) × (decoded_node d ≡ Some n) × (n.block ≡ b) × HasNodes n.left l × HasNodes n.right r
fork_is d l r b p =
    let n = node_is d b (λ v. HasNodes v l) (λ v. HasNodes v r) p.0 p.1 in
    (data_of b p.0 n.0 n.1, n.2, refl, n.3, n.4)

pub one_tree : (s t : NodeTree) (d : Data) → HasNodes d s → HasNodes d t → s ≡ t
one_tree Tip Tip d p q = refl
one_tree Tip (Fork l b r) d p q = let n = fork_is d l r b q in absurd (no_data d n.0 p n.1)
one_tree (Fork l b r) Tip d p q = let n = fork_is d l r b p in absurd (no_data d n.0 q n.1)
one_tree (Fork l x r) (Fork m y n) d p q =
    let a = fork_is d l r x p in
    let b = fork_is d m n y q in
    let same : b.0 ≡ a.0 = same_Some b.0 a.0 (sym b.1 ∙ a.1) in
    let left : l ≡ m = one_tree l m a.0.left a.3 (subst (λ (v : NodeData). HasNodes v.left m) same b.3) in
    let right : r ≡ n = one_tree r n a.0.right a.4 (subst (λ (v : NodeData). HasNodes v.right n) same b.4) in
    let block : x ≡ y = sym a.2 ∙ (ap (λ (v : NodeData). v.block) (sym same) ∙ b.2) in
    cc

pub one_shape : (s t : NodeTree) (d : Data) → EncodesShape d s → EncodesShape d t → s ≡ t
one_shape s t d p q = one_tree s t d (shape_nodes s d p) (shape_nodes t d q)
