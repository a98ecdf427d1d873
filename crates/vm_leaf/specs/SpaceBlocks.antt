-- The blocks of a space: its gaps and its held ranges, from the lowest to the highest.
use Rattle.std.specs.Prelude.{◌≡◌, ℕ, ◌+◌, ◌-◌, ◌≤◌, ◌<◌, List, [], ◌∷◌, ◌++◌, if◌then◌else◌, nat_lt}
use Rattle.vm_ranges.specs.Range.{Range, MAX}
use Rattle.vm_leaf.specs.declared.block.Block.{Block}
use Rattle.vm_ranges.specs.Address.{AddressState}
use Rattle.vm_ranges.specs.declared.state.NodeState.{NodeState}
use Rattle.vm_ranges.specs.declared.state.NodeState.TheVariants.{Free, Allocated}
use Rattle.vm_leaf.specs.Blocks.{Tiles}

-- The free block from lo to next - 1, if it is not empty.
abbrev pub gap_before : ℕ → ℕ → List Block
gap_before lo next =
    if nat_lt lo next then record { key = record { start = lo; end = next - 1 }; state = Free } ∷ [] else []

-- The blocks from lo to hi if these ranges are held: the gaps and the ranges, in order.
abbrev pub blocks_between : ℕ → List Range → ℕ → List Block
blocks_between lo [] hi = gap_before lo (hi + 1)
blocks_between lo (r ∷ rs) hi =
    gap_before lo r.start ++ record { key = r; state = Allocated } ∷ blocks_between (r.end + 1) rs hi

-- The range of a block if it is held, otherwise no range.
abbrev pub range_if_held : NodeState → Range → List Range
range_if_held Free k = []
range_if_held Allocated k = k ∷ []

-- The ranges of the held blocks, in order.
abbrev pub held_of : List Block → List Range
held_of [] = []
held_of (b ∷ bs) = range_if_held b.state b.key ++ held_of bs

-- The blocks are those of the state.
pub record IsBlocksOf (state : AddressState) (bs : List Block) : Type 0 where
  pub tiles : Tiles Allocated state.space.start bs state.space.end
  pub held : held_of bs ≡ state.held

-- The blocks of a state.
unfoldable pub blocks_of : AddressState → List Block
blocks_of state = blocks_between state.space.start state.held state.space.end

-- The state that the blocks of a space represent.
abbrev pub blocks_state : Range → List Block → AddressState
blocks_state space bs = record { space = space; held = held_of bs }

-- The blocks cover the space, and two neighbours are never both free.
unfoldable pub TilesSpace : Range → List Block → Type 0
TilesSpace space bs = Tiles Allocated space.start bs space.end

-- The keys are in order from lo to hi and do not overlap. There can be gaps between them.
abbrev pub AreKeysIn : ℕ → List Block → ℕ → Type 0
AreKeysIn lo [] hi = Unit {0}
AreKeysIn lo (b ∷ bs) hi =
    (lo ≤ b.key.start) × (b.key.start ≤ b.key.end) × (b.key.end ≤ hi) × AreKeysIn (b.key.end + 1) bs hi

-- No range ends at MAX.
abbrev pub AreBelowMax : List Range → Type 0
AreBelowMax [] = Unit {0}
AreBelowMax (r ∷ rs) = (r.end < MAX) × AreBelowMax rs

-- The blocks are valid for this space: they cover it, and no held block ends at MAX.
pub record IsTiling (space : Range) (bs : List Block) : Type 0 where
  pub tiles : TilesSpace space bs
  pub below : AreBelowMax (held_of bs)
