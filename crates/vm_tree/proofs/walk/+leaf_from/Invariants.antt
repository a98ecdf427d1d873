use Rattle.vm_tree.proofs.walk.+leaf_from.Given as goal

abbrev pub decreases-leaf_from : goal.decreases-leaf_from
decreases-leaf_from g l = l.node.now.height
