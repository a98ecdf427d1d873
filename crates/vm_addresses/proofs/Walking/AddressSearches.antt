-- The search for the block that contains an address.
use Rattle.std.proofs.Common.{◌≡◌, ℕ, Option, Some, None, subst, arith, List}
use Rattle.std.specs.List.{Contains}
use Rattle.vm_addresses.proofs.Blocks.HeldSets.{held_lies}
use Rattle.vm_ranges.specs.Range.{Range, at_address}
use Rattle.vm_leaf.specs.declared.block.Block.{Block}
use Rattle.vm_leaf.specs.SpaceBlocks.{TilesSpace, held_of}
use Rattle.vm_space.specs.Lookups.{find_superset}
use Rattle.vm_space.specs.Shape.{Shape, blocks}
use Rattle.vm_addresses.specs.Allocator.{space_of, state_of, IsSpaceTree}
use Rattle.vm_addresses.specs.Queries.{free_of, IsRangeAt, IsHeldAt, IsGapAt}
use Rattle.vm_ranges.specs.declared.state.NodeState.TheVariants.{Free, Allocated}
use Rattle.vm_addresses.proofs.Blocks.PickedRanges.{held_picked, free_picked, range_at, other_at, none_at}
use Rattle.vm_addresses.proofs.Blocks.BlockOrder.{tiles_ordered, IsOrderedFrom}
use Rattle.vm_ranges.proofs.PlainWords.{held_contains}
use Rattle.vm_addresses.proofs.Results.HeldAndGaps.{held_at_agrees}
use Rattle.vm_addresses.proofs.Trees.Spaces.{state_of_tree}
use Rattle.vm_addresses.proofs.Walking.GapsInTrees.{gaps_in_tree}

-- The blocks of a tree are in order.
order : (s : Shape) → IsSpaceTree s → IsOrderedFrom (space_of (blocks s)).start (blocks s)
unfolding TilesSpace
order s h = tiles_ordered Allocated (space_of (blocks s)).start (space_of (blocks s)).end (blocks s) h.tiling.tiles

module _ (s : Shape) (x : ℕ) (h : IsSpaceTree s) where
  -- ---- The held range at an address
  pub held_none : find_superset (at_address x) (blocks s) ≡ None → IsHeldAt (state_of s) x None
  held_none e = none_at Allocated held_of held_picked x (blocks s) e

  pub held_free : (b : Block) → find_superset (at_address x) (blocks s) ≡ Some b → b.state ≡ Free → IsHeldAt (state_of s) x None
  held_free b e f = other_at Allocated held_of held_picked (space_of (blocks s)).start x (blocks s) b (order s h) e (λ a. cc)

  pub held_found : (b : Block) → find_superset (at_address x) (blocks s) ≡ Some b → b.state ≡ Allocated →
      IsHeldAt (state_of s) x (Some b.key)
  held_found b e a = range_at Allocated held_of held_picked x (blocks s) b e a

  -- ---- The gap at an address
  pub gap_none : find_superset (at_address x) (blocks s) ≡ None → IsGapAt (state_of s) x None
  gap_none e = subst (λ (v : List Range). IsRangeAt v x None) (gaps_in_tree s h) (none_at Free free_of free_picked x (blocks s) e)

  pub gap_held : (b : Block) → find_superset (at_address x) (blocks s) ≡ Some b → b.state ≡ Allocated → IsGapAt (state_of s) x None
  gap_held b e a = subst (λ (v : List Range). IsRangeAt v x None) (gaps_in_tree s h)
      (other_at Free free_of free_picked (space_of (blocks s)).start x (blocks s) b (order s h) e (λ f. cc))

  pub gap_found : (b : Block) → find_superset (at_address x) (blocks s) ≡ Some b → b.state ≡ Free → IsGapAt (state_of s) x (Some b.key)
  gap_found b e f = subst (λ (v : List Range). IsRangeAt v x (Some b.key)) (gaps_in_tree s h)
      (range_at Free free_of free_picked x (blocks s) b e f)

pub ruleset held_at_address = (held_none, held_free, held_found)

pub ruleset gap_at_address = (gap_none, gap_held, gap_found)

-- ---- A range by its start
module _ (s : Shape) (k : Range) (h : IsSpaceTree s) where
  only_at : (found : Option Range) → IsHeldAt (state_of s) k.start found → Contains (state_of s).held k → found ≡ Some k
  only_at found at c =
      let order = (held_lies (space_of (blocks s)).start (space_of (blocks s)).end (held_of (blocks s)) k (state_of_tree s h).in_order
      (held_contains (held_of (blocks s)) k c)).1 in
      (held_at_agrees (state_of s) k.start found (state_of_tree s h) at).held k c (omega arith, order)

  pub key_none : find_superset (at_address k.start) (blocks s) ≡ None → ¬ Contains (state_of s).held k
  key_none e c = let f = only_at None (held_none s k.start h e) c in cc f

  pub key_free : (b : Block) → find_superset (at_address k.start) (blocks s) ≡ Some b → b.state ≡ Free → ¬ Contains (state_of s).held k
  key_free b e f c = let g = only_at None (held_free s k.start h b e f) c in cc g

  pub key_other : (b : Block) → find_superset (at_address k.start) (blocks s) ≡ Some b → b.state ≡ Allocated → (b.key ≡ k → ⊥) →
      ¬ Contains (state_of s).held k
  key_other b e f n c = let g = only_at (Some b.key) (held_found s k.start h b e f) c in n (cc g)

  pub key_same : (b : Block) → find_superset (at_address k.start) (blocks s) ≡ Some b → b.state ≡ Allocated → b.key ≡ k →
      Contains (state_of s).held k
  key_same b e f g = subst (λ (v : Range). Contains (state_of s).held v) g (held_found s k.start h b e f).0

pub ruleset held_by_key = (key_none, key_free, key_other, key_same)
