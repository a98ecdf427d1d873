-- The state of an allocator, and the tree that represents it. In clauses, an allocator is the shape of its tree of blocks.
use Rattle.std.specs.Prelude.{◌≡◌, ℕ, ◌<◌, List, [], ◌∷◌, length, Result, Ok, Err, MatchResult}
use Rattle.vm_ranges.specs.Range.{Range, IsRange}
use Rattle.vm_ranges.specs.declared.error.Error.{Error}
use Rattle.vm_ranges.specs.declared.error.Error.TheVariants.{OutOfMemory}
use Rattle.vm_leaf.specs.declared.block.Block.{Block}
use Rattle.vm_space.specs.Shape.{Shape, blocks}
use Rattle.vm_ranges.specs.Address.{AddressState}
use Rattle.vm_leaf.specs.TreeHeights.{TOO_MANY_BLOCKS}
use Rattle.vm_leaf.specs.SpaceBlocks.{blocks_state, IsTiling}

-- The end of the last block.
abbrev pub last_end : ℕ → List Block → ℕ
last_end end [] = end
last_end end (b ∷ bs) = last_end b.key.end bs

-- The range from the start of the first block to the end of the last.
abbrev pub space_of : List Block → Range
space_of [] = record { start = 0; end = 0 }
space_of (b ∷ bs) = record { start = b.key.start; end = last_end b.key.end bs }

-- The state of an allocator: its space and its held ranges.
abbrev pub state_of : Shape → AddressState
state_of s = blocks_state (space_of (blocks s)) (blocks s)

-- The tree is valid: its blocks are valid for a space, and there are fewer than TOO_MANY_BLOCKS.
pub record IsSpaceTree (s : Shape) : Type 0 where
  pub tiling : IsTiling (space_of (blocks s)) (blocks s)
  pub space : IsRange (space_of (blocks s)).start (space_of (blocks s)).end
  pub few : length (blocks s) < TOO_MANY_BLOCKS

-- The result of `over`: an allocator of the space without held ranges, or OutOfMemory.
abbrev pub MakesTree : Range → Result Shape Error → Type 0
MakesTree space answer =
    MatchResult answer (λ allocator. state_of allocator ≡ record { space = space; held = [] }) (λ error. error ≡ OutOfMemory)

-- The result of creating or reading an allocator, with its state instead of the allocator.
abbrev pub made_state : {E : Type 0} → Result Shape E → Result AddressState E
made_state (Ok allocator) = Ok (state_of allocator)
made_state (Err error) = Err error
