-- The balanced tree of a state's blocks.
use Rattle.std.proofs.Common.{arith}
use Rattle.vm_space.specs.Trees.{IsBlockTree}
use Rattle.vm_space.specs.Shape.{Shape, blocks}
use Rattle.vm_addresses.specs.Tree.BalancedTree.{IsBalancedTreeOf}
use Rattle.vm_addresses.specs.Allocator.{space_of, state_of, IsSpaceTree}
use Rattle.vm_addresses.proofs.Placing.Requests.{held_blocks_are}
use Rattle.vm_addresses.proofs.Placing.TakenRanges.{as_blocks}

pub balanced_tree : (s : Shape) → IsSpaceTree s → IsBlockTree s → IsBalancedTreeOf (state_of s) s
balanced_tree s h t = record {
  blocks = as_blocks (space_of (blocks s)) (blocks s) h.tiling.tiles;
  tree = t.tree;
  fewest = t.low.fewest;
  most = t.low.most;
  few = omega (arith, t.low.few, held_blocks_are (blocks s));
  low = omega (arith, t.low.low, held_blocks_are (blocks s));
  full = λ k. omega (arith, t.low.full k, held_blocks_are (blocks s));
  power = λ k. omega (arith, t.low.power k, held_blocks_are (blocks s));
  height = t.height;
}

pub ruleset balanced = (balanced_tree)
