use Rattle.std.proofs.Common.{◌≡◌, ◌+◌, ◌-◌, ◌*◌, map}
use Rattle.vm_tree.specs.Subtree.{nth_tree, front}
use Rattle.vm_tree.specs.Slots.{held}
use Rattle.vm_tree.specs.Nodes.{node_tree, kids_of, AreUnder}
use Rattle.vm_tree.specs.Sought.{IsPassing}
use Rattle.vm_tree.proofs.seek.+seek.Given as goal

-- A call on a node, then one on its children, then one on the child, and then two on its slots.
abbrev pub decreases-seek_at : goal.decreases-seek_at
decreases-seek_at g l = 5 * l.node.now.height

abbrev pub decreases-seek_kids : goal.decreases-seek_kids
decreases-seek_kids g l = 5 * front (kids_of l.kids.now) + 4

abbrev pub decreases-seek_kid : goal.decreases-seek_kid
decreases-seek_kid g l = 5 * front (kids_of l.kids.now) + 3

abbrev pub decreases-seek_nodes : goal.decreases-seek_nodes
decreases-seek_nodes g l = 5 * front (map node_tree (held l.slots.now)) + 2

abbrev pub decreases-seek_node_at : goal.decreases-seek_node_at
decreases-seek_node_at g l = 5 * (nth_tree (map node_tree (held l.slots.now)) l.i).height + 1

abbrev pub invariant-seek_kids-loop-i : goal.invariant-seek_kids-loop-i
invariant-seek_kids-loop-i g l = record {
  under : AreUnder g.L.Leaf.entry g.L.Leaf.enough l.entries l.kids;
  trees : kids_of l.kids ≡ kids_of l.fn.kids;
  seek : l.seek ≡ l.fn.seek;
  passing : IsPassing l.end (g.S.Seek.seeking l.fn.seek) (kids_of l.fn.kids) l.from l.to l.fn.count l.count;
}

abbrev pub decreases-seek_kids-loop-i : goal.decreases-seek_kids-loop-i
decreases-seek_kids-loop-i g l = l.to - l.from
