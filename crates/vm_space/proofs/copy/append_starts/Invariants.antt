use Rattle.std.proofs.Common.{◌≡◌, ◌++◌, length}
use Rattle.vm_leaf.specs.BlockStarts.{starts_of}
use Rattle.vm_space.specs.Leaves.{blocks_of}
use Rattle.vm_space.specs.Shape.{blocks}
use Rattle.vm_space.proofs.copy.append_starts.Given as goal

abbrev pub invariant-loop-leaf : goal.invariant-loop-leaf
invariant-loop-leaf l = record { starts : l.list.items ++ starts_of (blocks_of l.leaves) ≡ l.fn.list.items ++ starts_of (blocks l.fn.tree) }

abbrev pub decreases-loop-leaf : goal.decreases-loop-leaf
decreases-loop-leaf l = length l.leaves
