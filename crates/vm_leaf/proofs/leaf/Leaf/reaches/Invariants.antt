-- The gaps before some index are summed up, and the mask has those starting at it. The index is in no variable, so the invariant has it.
use Rattle.vm_leaf.proofs.Reaches.{IsSummedUpTo}
use Rattle.vm_leaf.proofs.leaf.Leaf.reaches.Given as goal

abbrev pub invariant-loop-gaps : goal.invariant-loop-gaps
invariant-loop-gaps l = IsSummedUpTo l.self l.most l.reached l.gaps

abbrev pub decreases-loop-gaps : goal.decreases-loop-gaps
decreases-loop-gaps l = l.gaps
