use Rattle.std.proofs.Common.{rules, ◌≡◌, ◌<◌, length, ap, subst, sym, lit<, lit≤, ◌∙◌}
use Rattle.std.proofs.lemmas.List.{length-map}
use Rattle.vm_tree.specs.Slots.{held}
use Rattle.vm_tree.specs.Subtree.{Subtree, kids}
use Rattle.vm_tree.specs.Nodes.{kids_of, leaf_tree, node_tree, AreUnder}
use Rattle.vm_tree.specs.declared.node.Kids.{Kids}
use Rattle.vm_tree.proofs.Lowered.{one_kid}
use Rattle.vm_tree.proofs.lower.lower.Goals as goal

pub remove_slot-requires : goal.remove_slot-requires
remove_slot-requires g c =
    let s = c.into_inner.result in
    let e : c.deref.result.now ≡ s = search rules in
    let n : length (kids_of c.kids.inside.kids) ≡ 1 =
    one_kid c.kids.inside.kids s c.len.result c.kids.view_is (c.len.ensures.kids.kids ∙ ap (λ (z : Subtree g.row.L.Denot). kids z) e) c.if-len-gt1.false (subst (λ (z : Subtree g.row.L.Denot). 0 < kids z) (sym c.into_inner.ensures) c.requires) in
    let l : length (held c.in-Leaves.slots) ≡ 1 = sym (length-map (held c.in-Leaves.slots) leaf_tree) ∙ ap (λ (k : Kids g.row.L.Denot). length (kids_of k)) (sym c.in-Leaves.is) ∙ n in
    let a = subst (AreUnder g.L.Leaf.entry g.L.Leaf.enough c.kids.inside.entries) c.in-Leaves.is c.kids.invariant in
    (lit< tt, (a.dense, (sym l, (lit< tt, lit≤ tt))))

pub array_drop-slots-requires : goal.array_drop-slots-requires
array_drop-slots-requires g c = lit< tt

pub remove_slot-requires-in-Nodes : goal.remove_slot-requires-in-Nodes
remove_slot-requires-in-Nodes g c =
    let s = c.into_inner.result in
    let e : c.deref.result.now ≡ s = search rules in
    let n : length (kids_of c.kids.inside.kids) ≡ 1 =
    one_kid c.kids.inside.kids s c.len.result c.kids.view_is (c.len.ensures.kids.kids ∙ ap (λ (z : Subtree g.row.L.Denot). kids z) e) c.if-len-gt1.false (subst (λ (z : Subtree g.row.L.Denot). 0 < kids z) (sym c.into_inner.ensures) c.requires) in
    let l : length (held c.in-Nodes.slots) ≡ 1 = sym (length-map (held c.in-Nodes.slots) node_tree) ∙ ap (λ (k : Kids g.row.L.Denot). length (kids_of k)) (sym c.in-Nodes.is) ∙ n in
    let a = subst (AreUnder g.L.Leaf.entry g.L.Leaf.enough c.kids.inside.entries) c.in-Nodes.is c.kids.invariant in
    (lit< tt, (a.dense, (sym l, (lit< tt, lit≤ tt))))

pub array_drop-slots-requires-in-Nodes : goal.array_drop-slots-requires-in-Nodes
array_drop-slots-requires-in-Nodes g c = lit< tt
