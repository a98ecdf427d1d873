-- The blocks of a space with held ranges, and the tree that is built of them.
use Rattle.std.specs.Prelude.{◌≡◌, ℕ, zero, suc, ◌+◌, ◌-◌, ◌*◌, ◌^◌, ◌<◌, ◌≤◌, min, List, [], ◌∷◌, length, take, drop}
use Rattle.vm_ranges.specs.Range.{MAX}
use Rattle.vm_ranges.specs.Address.{AreInOrder}
use Rattle.vm_leaf.specs.declared.block.Block.{Block}
use Rattle.vm_leaf.specs.declared.leaf.TheConstants.{CAPACITY}
use Rattle.vm_leaf.specs.SpaceBlocks.{blocks_between}
use Rattle.vm_tree.specs.Subtree.{Subtree}
use Rattle.vm_space.specs.Shape.{blocks}
use Rattle.vm_space.specs.Spaces.{AreSpace}
use Rattle.vm_space.specs.declared.build.BlockCursor.{BlockCursor}
use Rattle.vm_space.specs.declared.build.Leaves.TheInside.{Inside}

-- The blocks that are not built yet: the gaps and the held ranges.
abbrev pub remaining_blocks : BlockCursor → List Block
remaining_blocks cursor = blocks_between cursor.next cursor.held.now cursor.end

-- The held ranges of the cursor are in order, and the cursor is in a space.
pub record IsBlockCursor (cursor : BlockCursor) : Type 0 where
  pub in_order : AreInOrder cursor.next cursor.held.now cursor.end
  pub within : cursor.next ≤ cursor.end + 1
  pub upto : cursor.end ≤ MAX
  pub not_all : cursor.next ≡ 0 → cursor.end < MAX

-- The first n leaves of the blocks: each has the next `each` blocks, and each of the first `more` leaves one block more.
abbrev pub shares : ℕ → ℕ → ℕ → List Block → List (List Block)
shares zero each more bs = []
shares (suc n) each more bs = take (each + min more 1) bs ∷ shares n each (more - min more 1) (drop (each + min more 1) bs)

-- The leaves that are not built yet.
abbrev pub leaves_left : Inside → List (List Block)
leaves_left a = shares a.count a.each a.more (remaining_blocks a.cursor)

-- The leaves have blocks, and room for them.
pub record IsLeaves (a : Inside) : Type 0 where
  pub cursor : IsBlockCursor a.cursor
  pub some : 0 < a.each
  pub fits : a.each ≤ CAPACITY
  pub fits_more : 0 < a.more → a.each < CAPACITY
  pub order : a.more ≤ a.count
  pub enough : a.count * a.each + a.more ≤ length (remaining_blocks a.cursor)

-- The tree has its blocks in the fewest leaves, and the minimum height for its leaves.
pub record IsLowestTree (s : Subtree (List Block)) : Type 0 where
  pub leaves : CAPACITY * length s.leaves < length (blocks s) + CAPACITY
  pub height : 2 ≤ s.height → 16 ^ (s.height - 2) < length s.leaves

-- The tree has these blocks in the fewest leaves, and the minimum height for its leaves.
pub record IsBuiltTree (bs : List Block) (s : Subtree (List Block)) : Type 0 where
  pub blocks : blocks s ≡ bs
  pub space : AreSpace s.leaves
  pub lowest : IsLowestTree s
