use Rattle.vm_tree.specs.Nodes.{leaf_tree}
use Rattle.vm_tree.specs.Building.{IsRow}
use Rattle.vm_tree.proofs.build.build_leaves.Given as goal

abbrev pub invariant-loop-i : goal.invariant-loop-i
invariant-loop-i g l =
    IsRow g.L.Leaf.entry g.L.Leaf.enough leaf_tree 1 l.i l.entries l.slots (g.S.Source.left l.fn.source) (g.S.Source.left l.source) l.i
