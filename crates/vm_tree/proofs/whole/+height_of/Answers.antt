use Rattle.std.proofs.Common.{◌≡◌, ◌+◌, ◌-◌, length, map, arith, ap, sym, subst, lit≤, ◌∙◌}
use Rattle.std.proofs.lemmas.List.{length-map}
use Rattle.vm_tree.specs.Slots.{held}
use Rattle.vm_tree.specs.Subtree.{Subtree, kids, front}
use Rattle.vm_tree.specs.Nodes.{leaf_tree, node_tree, kids_of, AreUnder}
use Rattle.vm_tree.specs.declared.node.Kids.{Kids}
use Rattle.vm_tree.proofs.Flats.{full_at}
use Rattle.vm_tree.proofs.Unders.{front_leaf, few_levels}
use Rattle.vm_tree.proofs.whole.+height_of.Goals as goal

pub overflow_add-result : goal.overflow_add-result
overflow_add-result g t c =
    let ss = map node_tree (held c.in-Nodes.slots) in
    let over = subst (AreUnder g.L.Leaf.entry g.L.Leaf.enough c.node.inside.entries) c.in-Nodes.is c.node.invariant in
    let h : front ss + 1 ≡ c.args.node.now.height =
    ap (λ (k : Kids g.row.L.Denot). front (kids_of k) + 1) (sym c.in-Nodes.is) ∙ ap (λ (s : Subtree g.row.L.Denot). s.height) c.node.view_is in
    let k : length ss ≡ kids c.args.node.now =
    ap (λ (k : Kids g.row.L.Denot). length (kids_of k)) (sym c.in-Nodes.is) ∙ ap (λ (s : Subtree g.row.L.Denot). kids s) c.node.view_is in
    let f = full_at g.L.Leaf.enough (front ss) ss 0 over.even (omega (arith, k, c.requires.some)) in
    let e : c.height_of.result ≡ front ss = c.height_of.ensures ∙ ap (λ (s : Subtree g.row.L.Denot). s.height) c.node_in.ensures ∙ f.height in
    let n = c.len-len.ensures.kids in
    omega (
      arith,
      e,
      h,
      few_levels c.len-len.result (c.args.node.now.height - 1) (length c.args.node.now.leaves) 18446744073709551615
          (omega (arith, n.kids, c.requires.some)) n.bound c.requires.few (lit≤ tt),
    )

pub returns-in-Leaves : goal.returns-in-Leaves
returns-in-Leaves g t c =
    let h : front (map leaf_tree (held c.in-Leaves.field-0)) + 1 ≡ c.args.node.now.height =
    ap (λ (k : Kids g.row.L.Denot). front (kids_of k) + 1) (sym c.in-Leaves.is) ∙ ap (λ (s : Subtree g.row.L.Denot). s.height) c.node.view_is in
    let k : length (map leaf_tree (held c.in-Leaves.field-0)) ≡ kids c.args.node.now =
    ap (λ (k : Kids g.row.L.Denot). length (kids_of k)) (sym c.in-Leaves.is) ∙ ap (λ (s : Subtree g.row.L.Denot). kids s) c.node.view_is in
    let n = length-map (held c.in-Leaves.field-0) leaf_tree in
    omega (arith, h, front_leaf (held c.in-Leaves.field-0) (omega (arith, k, n, c.requires.some)))
