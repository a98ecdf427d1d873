use Rattle.vm_tree.proofs.whole.+height_of.Given as goal

abbrev pub decreases-height_of : goal.decreases-height_of
decreases-height_of g l = goal.size-height_of g l
