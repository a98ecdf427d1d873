-- Lists of blocks in order, and the block that contains an address.
use Rattle.std.proofs.Common.{◌≡◌, ℕ, ◌+◌, true, leb, List, [], ◌∷◌, Some, arith, ◌<◌, ◌≤◌, ◌⊎◌}
use Rattle.std.proofs.lemmas.Bool.{and_parts, leb-true, le-leb}
use Rattle.vm_ranges.specs.Range.{Range, IsIn, at_address}
use Rattle.vm_ranges.specs.RangeOrder.{covers}
use Rattle.vm_leaf.specs.declared.block.Block.{Block}
use Rattle.vm_leaf.specs.Blocks.{Tiles}
use Rattle.vm_ranges.specs.declared.state.NodeState.{NodeState}

-- The range r does not fill k.
abbrev pub NeedsSplit : Range → Range → Type 0
NeedsSplit k r = (k.start < r.start) ⊎ (r.end < k.end)

-- The keys are in order and do not overlap, and the first key starts at lo or above.
abbrev pub IsOrderedFrom : ℕ → List Block → Type 0
IsOrderedFrom lo [] = Unit {0}
IsOrderedFrom lo (b ∷ bs) = (lo ≤ b.key.start) × (b.key.start ≤ b.key.end) × IsOrderedFrom (b.key.end + 1) bs

-- The blocks of a tiling are in order.
pub tiles_ordered : (p : NodeState) (lo hi : ℕ) (bs : List Block) → Tiles p lo bs hi → IsOrderedFrom lo bs
tiles_ordered p lo hi [] t = tt
tiles_ordered p lo hi (b ∷ bs) t = (omega (arith, t.0), omega (arith, t.0, t.1), tiles_ordered b.state (b.key.end + 1) hi bs t.3)

pub some_same : (x y : Block) → Some x ≡ Some y → x ≡ y
some_same x y e = cc

pub covers_in : (a : Range) (x : ℕ) → covers a (at_address x) ≡ true → IsIn a x
unfolding covers
covers_in a x e = let t = and_parts (leb a.start x) (leb x a.end) e in (leb-true a.start x t.0, leb-true x a.end t.1)

pub in_covers : (a : Range) (x : ℕ) → IsIn a x → covers a (at_address x) ≡ true
unfolding covers
in_covers a x i = rw (le-leb a.start x i.0, le-leb x a.end i.1)
