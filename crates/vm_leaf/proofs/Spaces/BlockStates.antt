-- The state of a list of blocks is a valid state of an allocator.
use Rattle.std.proofs.Common.{ℕ, ◌+◌, ◌≤◌, List, [], ◌∷◌, ◌++◌, arith, cond, eqb, true, false}
use Rattle.vm_ranges.specs.Range.{Range, IsRange}
use Rattle.vm_leaf.specs.declared.block.Block.{Block}
use Rattle.vm_ranges.specs.Address.{without_range, IsAddressState, AreInOrder}
use Rattle.vm_leaf.specs.Blocks.{Tiles}
use Rattle.vm_leaf.specs.SpaceBlocks.{range_if_held, held_of, blocks_state, TilesSpace, AreKeysIn, IsTiling, AreBelowMax}
use Rattle.vm_ranges.specs.declared.state.NodeState.{NodeState}
use Rattle.vm_ranges.specs.declared.state.NodeState.TheVariants.{Free, Allocated}
use Rattle.vm_leaf.proofs.Spaces.Gaps.{tiles_end}

pub below_without : (r : Range) (hs : List Range) → AreBelowMax hs → AreBelowMax (without_range r hs)
below_without r [] h = tt
below_without r (x ∷ xs) h = elim (eqb r.start x.start) as (λ v. AreBelowMax (cond v xs (x ∷ without_range r xs)))
    [ true ↦ h.1 | false ↦ (h.0, below_without r xs h.1) ]

pub in_order_from : (lo m hi : ℕ) (rs : List Range) → lo ≤ m → AreInOrder m rs hi → AreInOrder lo rs hi
in_order_from lo m hi [] l s = tt
in_order_from lo m hi (r ∷ rs) l s = (omega (arith, s.0), s.1, s.2, s.3, s.4)

-- The keys of a tiling are in order.
pub tiles_keys : (p : NodeState) (lo hi : ℕ) (bs : List Block) → Tiles p lo bs hi → AreKeysIn lo bs hi
tiles_keys p lo hi [] t = tt
tiles_keys p lo hi (b ∷ bs) t =
    let end = tiles_end b.state (b.key.end + 1) hi bs t.3 in
    (omega (arith, t.0), omega (arith, t.0, t.1), omega arith, tiles_keys b.state (b.key.end + 1) hi bs t.3)

-- The held ranges of keys in order are disjoint.
with_held : (s : NodeState) (k : Range) (rs : List Range) (lo hi : ℕ) → lo ≤ k.start → k.start ≤ k.end → k.end ≤ hi →
    AreBelowMax (range_if_held s k ++ rs) → (AreBelowMax rs → AreInOrder (k.end + 1) rs hi) → AreInOrder lo (range_if_held s k ++ rs) hi
with_held Free k rs lo hi l o e h f = in_order_from lo (k.end + 1) hi rs (omega arith) (f h)
with_held Allocated k rs lo hi l o e h f = (l, o, e, h.0, f h.1)

pub keys_in_order : (lo hi : ℕ) (bs : List Block) → AreKeysIn lo bs hi → AreBelowMax (held_of bs) → AreInOrder lo (held_of bs) hi
keys_in_order lo hi [] k h = tt
keys_in_order lo hi (b ∷ bs) k h = with_held b.state b.key (held_of bs) lo hi k.0 k.1 k.2 h (λ g. keys_in_order (b.key.end + 1) hi bs k.3 g)

-- The state of an allocator's blocks is valid.
pub is_state : (sp : Range) (bs : List Block) → IsTiling sp bs → IsRange sp.start sp.end → IsAddressState (blocks_state sp bs)
unfolding TilesSpace
is_state sp bs t l = record {
  space = l;
  in_order = keys_in_order sp.start sp.end bs (tiles_keys Allocated sp.start sp.end bs t.tiles)
      t.below;
}
