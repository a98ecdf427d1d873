use Rattle.vm_saved_trees.proofs.SavedNodes.SavedTreeLaws.{nodes_are_written}
use Rattle.vm_laws.proofs.saved_trees.saved_trees.Goals as goal

pub returns-clause-nodes : goal.returns-clause-nodes
returns-clause-nodes c = nodes_are_written
