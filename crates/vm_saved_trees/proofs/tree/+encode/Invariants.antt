use Rattle.std.proofs.Common.{length}
use Rattle.vm_saved_trees.proofs.tree.+encode.Given as goal

abbrev pub decreases-encode : goal.decreases-encode
decreases-encode l = length l.tree.now
