-- Nodes that are written for blocks.
use Rattle.std.proofs.Common.{List, Some}
use Rattle.vm_leaf.specs.declared.block.Block.{Block}
use Rattle.vm_saved_trees.specs.SavedTrees.{Saved, Node}
use Rattle.vm_saved_trees.specs.WrittenTrees.{IsWritten, WritesNode}
use Rattle.vm_saved_trees.specs.declared.written.WrittenNode.{WrittenNode}
use Rattle.vm_saved_trees.proofs.SavedNodes.Written.{written_blocks}

-- The node that is written for some blocks, with the trees that are written for its children, is the tree of the blocks.
pub nodes_are_written : (bs : List Block) (n : WrittenNode) (l r : Saved) → WritesNode bs (Some n) →
    IsWritten n.left l → IsWritten n.right r →
    IsWritten bs (Node l (record { key = n.key; state = n.state }) r n.height)
nodes_are_written bs n l r w p q =
    let a = written_blocks n.left l p in
    let b = written_blocks n.right r q in (
      rw (a, b) w,
      rw a p,
      rw b q,
    )
