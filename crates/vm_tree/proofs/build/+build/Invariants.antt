use Rattle.std.proofs.Common.{◌+◌, ◌-◌, ◌*◌, ◌/◌, ◌≤◌}
use Rattle.vm_tree.specs.Nodes.{node_tree}
use Rattle.vm_tree.specs.Building.{IsRow, IsShare}
use Rattle.vm_tree.proofs.build.+build.Given as goal

abbrev pub decreases-build_node : goal.decreases-build_node
decreases-build_node g l = 2 * l.levels + 1

abbrev pub decreases-build_nodes : goal.decreases-build_nodes
decreases-build_nodes g l = 2 * l.levels

abbrev pub invariant-build_nodes-loop-i : goal.invariant-build_nodes-loop-i
invariant-build_nodes-loop-i g l = record {
  row : IsRow g.L.Leaf.entry g.L.Leaf.enough node_tree (l.levels + 1) l.i l.entries l.slots (g.S.Source.left l.fn.source)
      (g.S.Source.left l.source) (l.n - l.left);
  left : l.left ≤ l.n;
  share : IsShare (l.count - l.i) (8 * (l.below / 16)) (16 * (l.below / 16)) l.left;
}
