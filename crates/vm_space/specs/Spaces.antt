-- The leaves of a space.
use Rattle.std.specs.Prelude.{◌≡◌, ◌<◌, List, [], ◌∷◌}
use Rattle.vm_ranges.specs.Range.{MAX}
use Rattle.vm_ranges.specs.declared.state.NodeState.TheVariants.{Allocated}
use Rattle.vm_leaf.specs.declared.block.Block.{Block}
use Rattle.vm_leaf.specs.Blocks.{IsRun}
use Rattle.vm_space.specs.Leaves.{blocks_of, HaveBlocks}

-- No allocated block has the address MAX.
abbrev pub EndBelow : List Block → Type 0
EndBelow [] = Unit {0}
EndBelow (b ∷ bs) = (b.state ≡ Allocated → b.key.end < MAX) × EndBelow bs

-- The blocks of the leaves are those of a space: they cover a range, no two neighbours are both free, and no allocated
-- block has the address MAX.
pub record AreSpace (ls : List (List Block)) : Type 0 where
  pub run : IsRun (blocks_of ls)
  pub some : HaveBlocks ls
  pub below : EndBelow (blocks_of ls)
