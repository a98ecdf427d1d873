use Rattle.std.proofs.Common.{rules, ◌≡◌, ◌<◌, ◌∙◌, sym, ap, subst, arith}
use Rattle.vm_tree.specs.Subtree.{Subtree, leaf_of, kids, nth_tree, Ascend}
use Rattle.vm_tree.specs.Nodes.{kids_of, AreUnder}
use Rattle.vm_tree.specs.Walks.{IsFrom}
use Rattle.vm_tree.specs.declared.node.Kids.{Kids}
use Rattle.vm_tree.specs.declared.node.Kids.TheVariants.{Nodes}
use Rattle.vm_tree.proofs.Flats.{child_ascends}
use Rattle.vm_tree.proofs.Unders.{under_ascends}
use Rattle.vm_tree.proofs.Walked.{from_over, one_leaf, under_height, under_fan}
use Rattle.vm_tree.proofs.walk.+leaf_from.Goals as goal

pub index_of-i-requires-clause-order : goal.index_of-i-requires-clause-order
index_of-i-requires-clause-order g t c = λ i j p q r.
    under_ascends g.L.Leaf.entry g.L.Leaf.enough c.node.inside.entries c.node.inside.kids c.node.invariant
    (subst (λ (s : Subtree g.row.L.Denot). Ascend g.L.Leaf.entry s.leaves) (sym c.node.view_is) c.requires.ascend) i j p q r

pub leaf_from-requires : goal.leaf_from-requires
leaf_from-requires g t c κs within =
    let i = c.index_of-i.result in
    let kid : c.node_in.result.now ≡ nth_tree (kids_of c.node.inside.kids) c.index_of-i.result =
    c.node_in.ensures ∙ ap (λ (k : Kids g.row.L.Denot). nth_tree (kids_of k) c.index_of-i.result) (sym c.in-Nodes.is) in
    let same = ap (λ (s : Subtree g.row.L.Denot). s.height) kid in
    let low = under_height g.L.Leaf.entry g.L.Leaf.enough c.node.inside.entries c.node.inside.kids c.index_of-i.result c.node.invariant
    c.index_of-i.ensures.within in
    let tall = ap (λ (s : Subtree g.row.L.Denot). s.height) c.node.view_is in
    let ascend = subst (λ (s : Subtree g.row.L.Denot). Ascend g.L.Leaf.entry s.leaves) (sym c.node.view_is) c.requires.ascend in
    let u : AreUnder g.L.Leaf.entry g.L.Leaf.enough c.node.inside.entries (Nodes c.in-Nodes.slots) =
    subst (AreUnder g.L.Leaf.entry g.L.Leaf.enough c.node.inside.entries) c.in-Nodes.is c.node.invariant in (
      search (rules, same, low, tall, c.decreases),
      (
        within,
        (
          omega arith,
          (
            subst (λ (s : Subtree g.row.L.Denot). 0 < kids s) (sym c.node_in.ensures)
                (under_fan g.L.Leaf.entry g.L.Leaf.enough c.node.inside.entries c.in-Nodes.slots c.index_of-i.result u c.index_of-i.ensures.within),
            subst (λ (s : Subtree g.row.L.Denot). Ascend g.L.Leaf.entry s.leaves) (sym kid)
                (child_ascends g.L.Leaf.entry c.index_of-i.result (kids_of c.node.inside.kids) ascend),
          ),
        ),
      ),
    )

pub returns-in-Leaves : goal.returns-in-Leaves
returns-in-Leaves g t c =
    let kid : leaf_of c.leaf_in.result.now ≡ nth_tree (kids_of c.node.inside.kids) c.index_of-i.result =
    c.leaf_in.ensures ∙ ap (λ (k : Kids g.row.L.Denot). nth_tree (kids_of k) c.index_of-i.result) (sym c.in-Leaves.is) in
    from_over g.L.Leaf.entry g.L.Leaf.enough c.node.inside.entries c.node.inside.kids c.args.node.now c.args.key c.args.end
    c.start_after-next.result c.start_after-next.result c.index_of-i.result c.leaf_in.result.now c.node.invariant c.node.view_is
    c.index_of-i.ensures.within c.index_of-i.ensures.from c.index_of-i.ensures.upto c.start_after-next.ensures.more c.start_after-next.ensures.last
    (one_leaf g.L.Leaf.entry g.L.Leaf.enough c.args.key c.start_after-next.result c.leaf_in.result.now _ kid)

pub returns-in-Nodes : goal.returns-in-Nodes
returns-in-Nodes g t c =
    let kid : c.node_in.result.now ≡ nth_tree (kids_of c.node.inside.kids) c.index_of-i.result =
    c.node_in.ensures ∙ ap (λ (k : Kids g.row.L.Denot). nth_tree (kids_of k) c.index_of-i.result) (sym c.in-Nodes.is) in
    from_over g.L.Leaf.entry g.L.Leaf.enough c.node.inside.entries c.node.inside.kids c.args.node.now c.args.key c.args.end
    c.start_after-next.result c.leaf_from.result.1 c.index_of-i.result c.leaf_from.result.0.now c.node.invariant c.node.view_is
    c.index_of-i.ensures.within c.index_of-i.ensures.from c.index_of-i.ensures.upto c.start_after-next.ensures.more c.start_after-next.ensures.last
    (subst (λ (s : Subtree g.row.L.Denot). IsFrom g.L.Leaf.entry c.args.key c.start_after-next.result s.leaves c.leaf_from.result.0.now
    c.leaf_from.result.1) kid c.leaf_from.ensures)
