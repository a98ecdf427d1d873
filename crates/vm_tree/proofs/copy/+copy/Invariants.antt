use Rattle.std.proofs.Common.{◌+◌, ◌*◌, map}
use Rattle.vm_tree.specs.Slots.{held}
use Rattle.vm_tree.specs.Subtree.{front}
use Rattle.vm_tree.specs.Nodes.{node_tree}
use Rattle.vm_tree.specs.Copies.{AreCopies}
use Rattle.vm_tree.proofs.copy.+copy.Given as goal

-- A call on a node, and then one on its children.
abbrev pub decreases-copy_node : goal.decreases-copy_node
decreases-copy_node g l = 2 * l.node.now.height

abbrev pub decreases-copy_nodes : goal.decreases-copy_nodes
decreases-copy_nodes g l = 2 * front (map node_tree (held l.slots.now)) + 1

abbrev pub invariant-copy_nodes-loop-i : goal.invariant-copy_nodes-loop-i
invariant-copy_nodes-loop-i g l = AreCopies node_tree l.i l.slots l.to
