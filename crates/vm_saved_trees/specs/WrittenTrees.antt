-- The saved tree that is written for a list of blocks. The list decides it.
use Rattle.std.specs.Prelude.{◌≡◌, ℕ, ◌/◌, List, [], ◌∷◌, ◌++◌, length, Option, Some, None}
use Rattle.vm_leaf.specs.declared.block.Block.{Block}
use Rattle.vm_leaf.specs.TreeHeights.{IsLowestHeight}
use Rattle.vm_saved_trees.specs.SavedTrees.{Saved, Absent, Node, saved_blocks}
use Rattle.vm_saved_trees.specs.declared.written.WrittenNode.{WrittenNode}

-- The block b is the one in the middle of the list, and h is the height of the lowest tree of all blocks.
pub record IsMiddle (bs left : List Block) (b : Block) (right : List Block) (h : ℕ) : Type 0 where
  pub cut : bs ≡ left ++ b ∷ right
  pub half : length left ≡ length bs / 2
  pub height : IsLowestHeight (length bs) h

-- The saved tree is the one that is written for the blocks: its root is the block in the middle, and so on.
abbrev pub IsWritten : List Block → Saved → Type 0
IsWritten bs Absent = bs ≡ []
IsWritten bs (Node l b r h) = IsMiddle bs (saved_blocks l) b (saved_blocks r) h × IsWritten (saved_blocks l) l
    × IsWritten (saved_blocks r) r

-- The node that is written for the blocks, or None if there are none.
abbrev pub WritesNode : List Block → Option WrittenNode → Type 0
WritesNode bs None = bs ≡ []
WritesNode bs (Some n) = IsMiddle bs n.left (record { key = n.key; state = n.state }) n.right n.height
