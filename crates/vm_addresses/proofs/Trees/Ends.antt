-- The first and the last address of a list of blocks.
use Rattle.std.proofs.Common.{◌≡◌, ◌-◌, ◌<◌, ◌≤◌, List, [], ◌∷◌, length, arith}
use Rattle.vm_ranges.specs.Range.{Range}
use Rattle.vm_ranges.specs.declared.state.NodeState.TheVariants.{Allocated}
use Rattle.vm_leaf.specs.declared.block.Block.{Block}
use Rattle.vm_leaf.specs.Blocks.{start_of, end_of}
use Rattle.vm_leaf.proofs.Tiles.{tiles_part}
use Rattle.vm_space.specs.NodeCounts.{IsWholeWindow}
use Rattle.vm_leaf.specs.SpaceBlocks.{TilesSpace}

-- The ends of the blocks of a space are those of the space.
pub record HasEnds (sp : Range) (bs : List Block) : Type 0 where
  pub some : 0 < length bs
  pub start : start_of bs ≡ sp.start
  pub end : end_of bs ≡ sp.end

some_block : (sp : Range) (bs : List Block) → TilesSpace sp bs → sp.start ≤ sp.end → 0 < length bs
unfolding TilesSpace
some_block sp [] t l = absurd (omega (arith, t))
some_block sp (b ∷ bs) t l = omega arith

first_is : (sp : Range) (bs : List Block) → TilesSpace sp bs → sp.start ≤ sp.end → start_of bs ≡ sp.start
unfolding TilesSpace
first_is sp [] t l = absurd (omega (arith, t))
first_is sp (b ∷ bs) t l = t.0

pub ends : (sp : Range) (bs : List Block) → TilesSpace sp bs → sp.start ≤ sp.end → HasEnds sp bs
unfolding TilesSpace
ends sp bs t l =
    let some = some_block sp bs t l in
    record {
      some = some;
      start = first_is sp bs t l;
      end = (tiles_part Allocated sp.start sp.end bs (length bs - 1) t (omega arith)).last (omega arith);
    }

pub whole_window : (sp : Range) (bs : List Block) → TilesSpace sp bs → sp.start ≤ sp.end → IsWholeWindow sp bs
whole_window sp bs t l = let e = ends sp bs t l in record { from = omega (arith, e.start); upto = omega (arith, e.end) }

-- A space with a block has an address.
pub space_range : (sp : Range) (bs : List Block) → TilesSpace sp bs → 0 < length bs → sp.start ≤ sp.end
unfolding TilesSpace
space_range sp bs t l = let p = tiles_part Allocated sp.start sp.end bs 0 t l in omega (arith, p.from, p.some, p.upto)
