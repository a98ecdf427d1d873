-- The saved trees of values.
use Rattle.std.proofs.Common.{◌≡◌, ◌+◌, max, codes, refl, sym, ap, ◌∙◌, subst}
use Rattle.std.proofs.lemmas.Option.{same_Some}
use Rattle.serde_json.specs.Data.{Data}
use Rattle.vm_ranges.proofs.FieldSteps.{in_field}
use Rattle.vm_ranges.specs.RangeValues.{EncodesRange}
use Rattle.vm_saved_trees.specs.NodeTree.{NodeTree, Tip, Fork, node_height}
use Rattle.vm_saved_trees.specs.TreeValues.{EncodesNode, EncodesShape, HasNodes}
use Rattle.vm_saved_trees.specs.SavedTrees.{Saved, Absent, Node, nodes_of_saved, HasRanges, HasHeights}
use Rattle.vm_saved_trees.specs.NodeChecks.{NodeData}
use Rattle.vm_saved_trees.specs.ValueNodes.{EncodesSaved}
use Rattle.vm_saved_trees.proofs.Reading.ReadNodes.{data_of, no_data, over_sides, node_is, sides_map}

-- ---- Saved trees and shapes

pub saved_nodes : (t : Saved) (d : Data) → EncodesSaved d t → HasNodes d (nodes_of_saved t)
saved_nodes Absent d p = p
saved_nodes (Node l b r h) d p = (
  h,
  sides_map d b (λ v. EncodesSaved v l) (λ v. EncodesSaved v r) (λ v. HasNodes v (nodes_of_saved l)) (λ v. HasNodes v (nodes_of_saved r)) h
      (λ v. saved_nodes l v) (λ v. saved_nodes r v) p,
)

pub saved_shape : (t : Saved) (d : Data) → HasHeights t → EncodesSaved d t → EncodesShape d (nodes_of_saved t)
saved_shape Absent d g p = p
saved_shape (Node l b r h) d g p =
    let mapped = sides_map d b (λ v. EncodesSaved v l) (λ v. EncodesSaved v r) (λ v. EncodesShape v (nodes_of_saved l))
    (λ v. EncodesShape v (nodes_of_saved r)) h (λ v. saved_shape l v g.0) (λ v. saved_shape r v g.1) p in
    subst (EncodesNode d b (λ v. EncodesShape v (nodes_of_saved l)) (λ v. EncodesShape v (nodes_of_saved r))) g.2 mapped

-- The saved tree of a shape, with its heights.
abbrev pub saved_of : NodeTree → Saved
saved_of Tip = Absent
saved_of (Fork l b r) = Node (saved_of l) b (saved_of r) (max (node_height l) (node_height r) + 1)

pub shape_of-saved_of : (s : NodeTree) → nodes_of_saved (saved_of s) ≡ s
shape_of-saved_of Tip = refl
shape_of-saved_of (Fork l b r) = rw (shape_of-saved_of l, shape_of-saved_of r) refl

pub saved_of-heights : (s : NodeTree) → HasHeights (saved_of s)
saved_of-heights Tip = tt
saved_of-heights (Fork l b r) =
    (saved_of-heights l, saved_of-heights r, rw (shape_of-saved_of l, shape_of-saved_of r) refl)

pub shape_saved : (s : NodeTree) (d : Data) → EncodesShape d s → EncodesSaved d (saved_of s)
shape_saved Tip d p = p
shape_saved (Fork l b r) d p =
    sides_map d b (λ v. EncodesShape v l) (λ v. EncodesShape v r) (λ v. EncodesSaved v (saved_of l)) (λ v. EncodesSaved v (saved_of r))
    (max (node_height l) (node_height r) + 1) (λ v. shape_saved l v) (λ v. shape_saved r v) p

pub ranges_saved : (t : Saved) (d : Data) → EncodesSaved d t → HasRanges t
ranges_saved Absent d p = tt
ranges_saved (Node l b r h) d p =
    let key_at = in_field (codes "key") d (λ v. EncodesRange v b.key) p.key in
    let n = node_is d b (λ v. EncodesSaved v l) (λ v. EncodesSaved v r) h p in
    (ranges_saved l n.0 n.3, ranges_saved r n.1 n.4, key_at.2.range)

-- The nodes of a value are those of a saved tree.
pub nodes_saved : (s : NodeTree) (d : Data) → HasNodes d s → (t : Saved) × EncodesSaved d t × (nodes_of_saved t ≡ s)
nodes_saved Tip d p = (Absent, p, refl)
nodes_saved (Fork l b r) d p =
    let n = node_is d b (λ v. HasNodes v l) (λ v. HasNodes v r) p.0 p.1 in
    let left = nodes_saved l n.0 n.3 in
    let right = nodes_saved r n.1 n.4 in (
      Node left.0 b right.0 p.0,
      over_sides d (record { block = b; height = p.0; left = n.0; right = n.1 }) (λ v. EncodesSaved v left.0) (λ v. EncodesSaved v right.0)
          p.0 n.2 refl left.1 right.1,
      rw (left.2, right.2) refl,
    )

-- A value has the nodes of at most one saved tree.
pub one_saved : (t u : Saved) (d : Data) → EncodesSaved d t → EncodesSaved d u → t ≡ u
one_saved Absent Absent d p q = refl
one_saved Absent (Node l b r h) d p q =
    let n = node_is d b (λ v. EncodesSaved v l) (λ v. EncodesSaved v r) h q in
    absurd (no_data d _ p n.2)
one_saved (Node l b r h) Absent d p q =
    let n = node_is d b (λ v. EncodesSaved v l) (λ v. EncodesSaved v r) h p in
    absurd (no_data d _ q n.2)
one_saved (Node l x r h) (Node m y n i) d p q =
    let a = node_is d x (λ v. EncodesSaved v l) (λ v. EncodesSaved v r) h p in
    let b = node_is d y (λ v. EncodesSaved v m) (λ v. EncodesSaved v n) i q in
    let same : data_of y i b.0 b.1 ≡ data_of x h a.0 a.1 = same_Some _ _ (sym b.2 ∙ a.2) in
    let left : l ≡ m = one_saved l m a.0 a.3 (subst (λ (v : NodeData). EncodesSaved v.left m) same b.3) in
    let right : r ≡ n = one_saved r n a.1 a.4 (subst (λ (v : NodeData). EncodesSaved v.right n) same b.4) in
    let block : x ≡ y = ap (λ (v : NodeData). v.block) (sym same) in
    let height : h ≡ i = ap (λ (v : NodeData). v.height) (sym same) in
    cc
