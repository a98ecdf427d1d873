-- Bounds on the height of a tree.
use Rattle.std.specs.Prelude.{ℕ, ◌+◌, ◌-◌, ◌*◌, ◌^◌, ◌<◌, ◌≤◌, List, [], ◌∷◌}
use Rattle.vm_ranges.specs.Range.{Range}
use Rattle.vm_ranges.specs.declared.state.NodeState.{NodeState}
use Rattle.vm_ranges.specs.declared.state.NodeState.TheVariants.{Free, Allocated}
use Rattle.vm_leaf.specs.declared.block.Block.{Block}
use Rattle.vm_leaf.specs.declared.leaf.TheConstants.{MIN_BLOCKS}
use Rattle.vm_leaf.specs.Blocks.{start_of, end_of}
use Rattle.vm_leaf.specs.TreeHeights.{MAX_HEIGHT}
use Rattle.vm_space.specs.Fibonacci.{fibonacci}
use Rattle.vm_space.specs.Shape.{Shape, blocks, height_of, node_count, IsTree}
use Rattle.vm_space.specs.Spaces.{AreSpace}

-- 1 for a held block, 0 for a free one.
abbrev pub one_if_held : NodeState → ℕ
one_if_held Free = 0
one_if_held Allocated = 1

-- The number of held blocks.
abbrev pub held_blocks : List Block → ℕ
held_blocks [] = 0
held_blocks (b ∷ bs) = one_if_held b.state + held_blocks bs

-- The height of a tree with k held blocks is bounded by the number of its nodes, and by k:
-- - A tree of height h has at least F(h + 2) - 1 nodes and at most (16 ^ h - 1) / 15.
-- - There are at most 2k + 1 nodes, and F(h + 2) is at most 2k + 2.
-- - Above height 1, full leaves give stronger bounds: MIN_BLOCKS * F(h + 1) and 2 * MIN_BLOCKS * 5 ^ (h - 2) are at most 2k + 1.
pub record IsLowTree (s : Shape) : Type 0 where
  pub fewest : fibonacci (height_of s + 2) ≤ node_count s + 1
  pub most : 15 * node_count s + 1 ≤ 16 ^ height_of s
  pub few : node_count s ≤ 2 * held_blocks (blocks s) + 1
  pub low : fibonacci (height_of s + 2) ≤ 2 * held_blocks (blocks s) + 2
  pub full : 2 ≤ height_of s → MIN_BLOCKS * fibonacci (height_of s + 1) ≤ 2 * held_blocks (blocks s) + 1
  pub power : 2 ≤ height_of s → 2 * MIN_BLOCKS * 5 ^ (height_of s - 2) ≤ 2 * held_blocks (blocks s) + 1

-- The tree is valid: its blocks are those of a space, its leaves have enough of them, and its height is below MAX_HEIGHT.
pub record IsBlockTree (s : Shape) : Type 0 where
  pub space : AreSpace s.leaves
  pub tree : IsTree s
  pub high : 1 ≤ height_of s
  pub height : height_of s < MAX_HEIGHT
  pub low : IsLowTree s

-- The range from the first to the last address of the blocks.
abbrev pub range_of : List Block → Range
range_of bs = record { start = start_of bs; end = end_of bs }
