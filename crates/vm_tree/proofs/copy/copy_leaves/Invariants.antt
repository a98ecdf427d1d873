use Rattle.vm_tree.specs.Nodes.{leaf_tree}
use Rattle.vm_tree.specs.Copies.{AreCopies}
use Rattle.vm_tree.proofs.copy.copy_leaves.Given as goal

abbrev pub invariant-loop-i : goal.invariant-loop-i
invariant-loop-i g l = AreCopies leaf_tree l.i l.slots l.to
