use Rattle.std.proofs.Common.{◌≡◌, ◌+◌, ap, ◌∙◌, sym, arith, subst}
use Rattle.vm_tree.specs.Subtree.{Subtree}
use Rattle.vm_tree.specs.Nodes.{leaf_tree}
use Rattle.vm_tree.specs.Building.{IsRow, IsBuilt}
use Rattle.vm_tree.proofs.Leaves.{joined-none}
use Rattle.vm_tree.proofs.Building.{row_next, row_built, leaf_full, first_enough}
use Rattle.vm_tree.proofs.build.build_leaves.Goals as goal

pub loop-i-preserved : goal.loop-i-preserved
loop-i-preserved g c =
    row_next g.L.Leaf.entry g.L.Leaf.enough leaf_tree 1 c.loop-i.i c.loop-i.i (c.loop-i.i + 1) c.loop-i.entries c.insert.new.self c.entry.result
    c.loop-i.slots c.insert_slot.new.slots c.in_ok-leaf.leaf (g.S.Source.left c.args.source.now) (g.S.Source.left c.loop-i.source)
    (g.S.Source.left c.next_leaf.new.self) c.loop-i.invariant
    (leaf_full g.L.Leaf.enough c.in_ok-leaf.leaf.value (first_enough g.L.Leaf.enough _ _ _ c.loop-i.invariant.all c.in_ok-leaf.ensures))
    c.in_ok-leaf.ensures (c.entry.ensures ∙ ap g.L.Leaf.entry c.deref.ensures ∙ joined-none _) c.insert.ensures c.insert_slot.ensures.dense
    c.insert_slot.ensures.held (omega arith)

pub returns : goal.returns
returns g c =
    let e : c.loop-i.i ≡ c.args.n = omega arith in
    subst (λ (s : Subtree g.row.L.Denot). IsBuilt g.L.Leaf.enough 0 1 c.args.n (g.S.Source.left c.args.source.now) (g.S.Source.left c.loop-i.source) s)
    (sym c.in_ok-new.ensures.ok)
    (row_built g.L.Leaf.entry g.L.Leaf.enough leaf_tree 1 0 1 c.args.n c.args.n c.loop-i.entries c.loop-i.slots
    (g.S.Source.left c.args.source.now) (g.S.Source.left c.loop-i.source)
    (subst (λ m. IsRow g.L.Leaf.entry g.L.Leaf.enough leaf_tree 1 m c.loop-i.entries c.loop-i.slots (g.S.Source.left c.args.source.now)
    (g.S.Source.left c.loop-i.source) m) e c.loop-i.invariant) c.requires.some (omega arith) (omega arith))
