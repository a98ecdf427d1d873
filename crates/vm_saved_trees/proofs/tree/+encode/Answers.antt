use Rattle.serde_json.specs.View.{view}
use Rattle.vm_saved_trees.proofs.SavedNodes.ValueLaws.{node_written}
use Rattle.vm_saved_trees.proofs.tree.+encode.Goals as goal

pub returns : goal.returns
returns t c = node_written c.args.tree.now c.in-Some.node (view c.in_ok-left.left) (view c.in_ok-right.right) c.encode_node.result
    c.in-Some.ensures c.in_ok-left.ensures c.in_ok-right.ensures c.encode_node.ensures
