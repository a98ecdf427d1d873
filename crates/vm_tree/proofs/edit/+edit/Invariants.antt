use Rattle.std.proofs.Common.{◌+◌, ◌*◌, map}
use Rattle.vm_tree.specs.Subtree.{nth_tree, front}
use Rattle.vm_tree.specs.Slots.{held}
use Rattle.vm_tree.specs.Nodes.{node_tree}
use Rattle.vm_tree.proofs.edit.+edit.Given as goal

-- A call on a node, then one on its entries and slots, and then one on its slots.
abbrev pub decreases-edit_at : goal.decreases-edit_at
decreases-edit_at g l = 3 * l.node.now.height

abbrev pub decreases-edit_nodes : goal.decreases-edit_nodes
decreases-edit_nodes g l = 3 * front (map node_tree (held l.slots.now)) + 2

abbrev pub decreases-edit_node_at : goal.decreases-edit_node_at
decreases-edit_node_at g l = 3 * (nth_tree (map node_tree (held l.slots.now)) l.i).height + 1
