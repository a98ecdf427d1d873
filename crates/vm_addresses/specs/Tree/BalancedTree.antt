-- Balanced trees of the blocks of a state.
use Rattle.std.specs.Prelude.{◌+◌, ◌-◌, ◌*◌, ◌^◌, ◌<◌, ◌≤◌, length}
use Rattle.vm_leaf.specs.declared.leaf.TheConstants.{MIN_BLOCKS}
use Rattle.vm_space.specs.Fibonacci.{fibonacci}
use Rattle.vm_space.specs.Shape.{Shape, blocks, height_of, node_count, IsTree}
use Rattle.vm_leaf.specs.TreeHeights.{MAX_HEIGHT}
use Rattle.vm_ranges.specs.Address.{AddressState}
use Rattle.vm_leaf.specs.SpaceBlocks.{IsBlocksOf}

-- s is a balanced tree of the blocks of the state, with MIN_BLOCKS to CAPACITY blocks in each leaf. A leaf that is the whole
-- tree can have fewer. A tree of height h with k held ranges is bounded in these ways:
-- - It has at least F(h + 2) - 1 and at most (16 ^ h - 1) / 15 nodes, and at most 2k + 1.
-- - F(h + 2) is at most 2k + 2. Above height 1, MIN_BLOCKS * F(h + 1) and 2 * MIN_BLOCKS * 5 ^ (h - 2) are at most 2k + 1.
-- - Its height is below MAX_HEIGHT.
pub record IsBalancedTreeOf (state : AddressState) (s : Shape) : Type 0 where
  pub blocks : IsBlocksOf state (blocks s)
  pub tree : IsTree s
  pub fewest : fibonacci (height_of s + 2) ≤ node_count s + 1
  pub most : 15 * node_count s + 1 ≤ 16 ^ height_of s
  pub few : node_count s ≤ 2 * length state.held + 1
  pub low : fibonacci (height_of s + 2) ≤ 2 * length state.held + 2
  pub full : 2 ≤ height_of s → MIN_BLOCKS * fibonacci (height_of s + 1) ≤ 2 * length state.held + 1
  pub power : 2 ≤ height_of s → 2 * MIN_BLOCKS * 5 ^ (height_of s - 2) ≤ 2 * length state.held + 1
  pub height : height_of s < MAX_HEIGHT
