use Rattle.vm_tree.proofs.find.+find_at.Given as goal

abbrev pub decreases-find_at : goal.decreases-find_at
decreases-find_at g l = goal.size-find_at g l
