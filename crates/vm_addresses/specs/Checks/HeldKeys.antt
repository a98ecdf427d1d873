-- The keys of a saved tree as held ranges of a space.
use Rattle.std.specs.Prelude.{◌<◌, List, length}
use Rattle.vm_ranges.specs.Address.{AreInOrder}
use Rattle.vm_ranges.specs.Range.{Range}
use Rattle.vm_leaf.specs.SpaceBlocks.{blocks_of}
use Rattle.vm_leaf.specs.TreeHeights.{TOO_MANY_BLOCKS}

-- The keys can be held in the space: they are in order there, and a tree can have as many blocks.
pub record CanBeHeld (space : Range) (keys : List Range) : Type 0 where
  pub in_order : AreInOrder space.start keys space.end
  pub few : length (blocks_of (record { space = space; held = keys })) < TOO_MANY_BLOCKS
