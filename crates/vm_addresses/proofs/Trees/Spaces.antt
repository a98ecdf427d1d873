-- Trees of the blocks of a space, and the states that they represent.
use Rattle.std.proofs.Common.{◌≡◌, ℕ, ◌+◌, ◌^◌, ◌<◌, ◌≤◌, List, [], ◌∷◌, length, refl, sym, arith, subst}
use Rattle.vm_ranges.specs.Range.{Range, IsRange, address_count}
use Rattle.vm_ranges.specs.declared.state.NodeState.{NodeState}
use Rattle.vm_ranges.proofs.RangeCalls.{same_range}
use Rattle.vm_leaf.specs.declared.block.Block.{Block}
use Rattle.vm_leaf.specs.Block.{free_block}
use Rattle.vm_leaf.specs.Blocks.{Tiles}
use Rattle.vm_space.specs.Shape.{Shape, blocks}
use Rattle.vm_tree.specs.Subtree.{leaf_of}
use Rattle.vm_ranges.specs.Address.{IsAddressState}
use Rattle.vm_addresses.specs.Tree.CountedTrees.{IsCountedTree}
use Rattle.vm_leaf.specs.SpaceBlocks.{TilesSpace, IsTiling, blocks_of}
use Rattle.vm_addresses.specs.Allocator.{last_end, space_of, state_of, IsSpaceTree}
use Rattle.vm_leaf.proofs.Spaces.BlockStates.{is_state}
use Rattle.vm_leaf.proofs.Spaces.Tilings.{tiling_blocks}

-- A tiling ends where the space ends.
last_tile : (p : NodeState) (lo hi : ℕ) (bs : List Block) → Tiles p (lo + 1) bs hi → last_end lo bs ≡ hi
last_tile p lo hi [] t = omega arith
last_tile p lo hi (b ∷ bs) t = last_tile b.state b.key.end hi bs t.3

-- The space of a tiling is the space that it tiles.
pub space_tiled : (sp : Range) (bs : List Block) → TilesSpace sp bs → sp.start ≤ sp.end → space_of bs ≡ sp
unfolding TilesSpace
space_tiled sp [] t l = absurd (omega (arith, t))
space_tiled sp (b ∷ bs) t l = same_range (space_of (b ∷ bs)) sp t.0 (last_tile b.state b.key.end sp.end bs t.3)

-- A tree of a tiling is a tree of the space.
pub space_tree : (sp : Range) (s : Shape) → IsTiling sp (blocks s) → IsRange sp.start sp.end → length (blocks s) < 2 ^ 49 → IsSpaceTree s
space_tree sp s t r few =
    let e = space_tiled sp (blocks s) t.tiles r.0 in
    record {
      tiling = subst (λ (v : Range). IsTiling v (blocks s)) (sym e) t;
      space = subst (λ (v : Range). IsRange v.start v.end) (sym e) r;
      few = few;
    }

-- Its state is a valid state of an allocator.
pub state_of_tree : (s : Shape) → IsSpaceTree s → IsAddressState (state_of s)
state_of_tree s h = is_state (space_of (blocks s)) (blocks s) h.tiling h.space

pub ruleset states = (state_of_tree)

-- ---- A new tree
free_tree : (k : Range) → IsRange k.start k.end → IsSpaceTree (leaf_of (free_block k ∷ []))
unfolding TilesSpace
free_tree k r = space_tree k (leaf_of (free_block k ∷ [])) (record { tiles = (refl, r.0, tt, refl); below = tt }) r (omega arith)

pub free_counted : (k : Range) → IsRange k.start k.end → IsCountedTree (leaf_of (free_block k ∷ [])) k 0 1 (address_count k)
free_counted k r = record { tree = free_tree k r; is_space = refl; held_count = refl; gap_count = refl; free_len = omega arith }

pub state_made : (s : Shape) (k : Range) → IsRange k.start k.end → s ≡ leaf_of (free_block k ∷ []) → IsAddressState (state_of s)
state_made s k r e = subst (λ (v : Shape). IsAddressState (state_of v)) (sym e) (record { space = r; in_order = tt })

pub ruleset making = (free_counted, state_made)

-- The blocks of a tree's state are the blocks of the tree.
pub tree_blocks : (s : Shape) → IsSpaceTree s → blocks_of (state_of s) ≡ blocks s
tree_blocks s h = tiling_blocks (space_of (blocks s)) (blocks s) h.tiling.tiles
