use Rattle.vm_saved_trees.specs.NodesRead.{nothing_read}
use Rattle.vm_saved_trees.proofs.SavedNodes.Stored.{starts}
use Rattle.vm_saved_trees.proofs.nodes.ReadNodes.new.Goals as goal

pub invariant_of-result : goal.invariant_of-result
invariant_of-result c = (nothing_read, starts _ _ c.new.ensures.items c.new-2.ensures.items)
