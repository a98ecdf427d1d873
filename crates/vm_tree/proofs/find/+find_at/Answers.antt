use Rattle.std.proofs.Common.{rules, ◌≡◌, ◌+◌, ◌<◌, map, arith, ap, subst, sym, ◌∙◌}
use Rattle.vm_tree.specs.Slots.{held}
use Rattle.vm_tree.specs.Subtree.{Subtree, kids, front, leaf_of, leaves_of, Ascend}
use Rattle.vm_tree.specs.Found.{IsLeafOf}
use Rattle.vm_tree.specs.Nodes.{leaf_tree, node_tree, kids_of, AreUnder}
use Rattle.vm_tree.specs.declared.node.Kids.{Kids}
use Rattle.vm_tree.proofs.Unders.{under_ascends}
use Rattle.vm_tree.proofs.Finds.{leaf_found, found_over, kid_full, kid_ascends}
use Rattle.vm_tree.proofs.find.+find_at.Goals as goal

pub index_of-i-requires-clause-order : goal.index_of-i-requires-clause-order
index_of-i-requires-clause-order g t c = λ i j p q r.
    under_ascends g.L.Leaf.entry g.L.Leaf.enough c.node.inside.entries c.node.inside.kids c.node.invariant
    (subst (λ (s : Subtree g.row.L.Denot). Ascend g.L.Leaf.entry s.leaves) (sym c.node.view_is) c.requires.ascend) i j p q r

pub find_at-requires : goal.find_at-requires
find_at-requires g t c κs within =
    let en = g.L.Leaf.entry in
    let P = g.L.Leaf.enough in
    let es = c.node.inside.entries in
    let os = c.in-Nodes.slots in
    let over = subst (AreUnder en P es) c.in-Nodes.is c.node.invariant in
    let k = c.kid_in-in-Nodes.ensures in
    let i = c.index_of-i.result in
    let l = c.index_of-i.ensures.within in
    let f = kid_full en P c.args.key 2 node_tree es os over i l k.other k.box k.is in
    let s : Ascend en (leaves_of (kids_of c.node.inside.kids)) =
    subst (λ (s : Subtree g.row.L.Denot). Ascend en s.leaves) (sym c.node.view_is) c.requires.ascend in
    let r : Ascend en (leaves_of (map node_tree (held os))) =
    subst (λ (k : Kids g.row.L.Denot). Ascend en (leaves_of (kids_of k))) c.in-Nodes.is s in
    let a = kid_ascends en P c.args.key 2 node_tree es os over i l k.other k.box k.is r in
    let h : front (map node_tree (held os)) + 1 ≡ c.args.node.now.height =
    ap (λ (k : Kids g.row.L.Denot). front (kids_of k) + 1) (sym c.in-Nodes.is) ∙ ap (λ (s : Subtree g.row.L.Denot). s.height) c.node.view_is in
    let e : c.kid_in-in-Nodes.result.now.height ≡ front (map node_tree (held os)) = ap (λ (s : Subtree g.row.L.Denot). s.height) k.value ∙ f.height in (
      search (rules, h, e, c.decreases),
      (
        within,
        (
          omega arith,
          (
            subst (λ (s : Subtree g.row.L.Denot). 0 < kids s) (sym k.value) (omega (arith, f.fan over.deep)),
            subst (λ (s : Subtree g.row.L.Denot). Ascend en s.leaves) (sym k.value) a,
          ),
        ),
      ),
    )

pub returns-in-Leaves : goal.returns-in-Leaves
returns-in-Leaves g t c =
    let en = g.L.Leaf.entry in
    let P = g.L.Leaf.enough in
    let es = c.node.inside.entries in
    let os = c.in-Leaves.slots in
    let over = subst (AreUnder en P es) c.in-Leaves.is c.node.invariant in
    let k = c.kid_in.ensures in
    let i = c.index_of-i.ensures in
    let now : leaves_of (map leaf_tree (held os)) ≡ c.args.node.now.leaves =
    ap (λ (k : Kids g.row.L.Denot). leaves_of (kids_of k)) (sym c.in-Leaves.is) ∙ ap (λ (s : Subtree g.row.L.Denot). s.leaves) c.node.view_is in
    subst (λ xs. IsLeafOf en c.args.key xs c.kid_in.result.now) now
    (found_over en P c.args.key 0 leaf_tree es os over c.index_of-i.result i.within k.other k.box k.is i.from i.upto c.kid_in.result.now
    (subst (λ x. IsLeafOf en c.args.key (leaf_of x).leaves c.kid_in.result.now) k.value (leaf_found en c.args.key c.kid_in.result.now)))

pub returns-in-Nodes : goal.returns-in-Nodes
returns-in-Nodes g t c =
    let en = g.L.Leaf.entry in
    let P = g.L.Leaf.enough in
    let es = c.node.inside.entries in
    let os = c.in-Nodes.slots in
    let over = subst (AreUnder en P es) c.in-Nodes.is c.node.invariant in
    let k = c.kid_in-in-Nodes.ensures in
    let i = c.index_of-i.ensures in
    let now : leaves_of (map node_tree (held os)) ≡ c.args.node.now.leaves =
    ap (λ (k : Kids g.row.L.Denot). leaves_of (kids_of k)) (sym c.in-Nodes.is) ∙ ap (λ (s : Subtree g.row.L.Denot). s.leaves) c.node.view_is in
    subst (λ xs. IsLeafOf en c.args.key xs c.find_at.result.now) now
    (found_over en P c.args.key 2 node_tree es os over c.index_of-i.result i.within k.other k.box k.is i.from i.upto c.find_at.result.now
    (subst (λ (s : Subtree g.row.L.Denot). IsLeafOf en c.args.key s.leaves c.find_at.result.now) k.value c.find_at.ensures))
