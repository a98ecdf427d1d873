-- Trees with what is stored beside them.
use Rattle.std.specs.Prelude.{◌≡◌, ℕ, length}
use Rattle.vm_ranges.specs.Range.{Range}
use Rattle.vm_space.specs.Shape.{Shape, blocks}
use Rattle.vm_addresses.specs.Queries.{free_of, count_of}
use Rattle.vm_leaf.specs.SpaceBlocks.{held_of}
use Rattle.vm_addresses.specs.Allocator.{space_of, IsSpaceTree}

-- The tree is valid. Its space and the numbers of its held ranges, of its gaps, and of its clear addresses are these.
pub record IsCountedTree (s : Shape) (space : Range) (held gaps clear : ℕ) : Type 0 where
  pub tree : IsSpaceTree s
  pub is_space : space ≡ space_of (blocks s)
  pub held_count : held ≡ length (held_of (blocks s))
  pub gap_count : gaps ≡ length (free_of (blocks s))
  pub free_len : clear ≡ count_of (free_of (blocks s))
