-- The ranges of the blocks with a state.
use Rattle.std.proofs.Common.{◌≡◌, ◌≢◌, List, [], ◌∷◌, ◌++◌, refl}
use Rattle.vm_leaf.specs.declared.block.Block.{Block}
use Rattle.vm_ranges.specs.declared.state.NodeState.{NodeState}
use Rattle.vm_ranges.specs.declared.state.NodeState.TheVariants.{Free, Allocated}
use Rattle.vm_addresses.specs.Queries.{ranges_with}
use Rattle.vm_leaf.proofs.Spaces.OneList.{held_of-free, held_of-held}
use Rattle.vm_addresses.proofs.Walking.GapsInTrees.{free_of-free, free_of-held, free_of-last_held, free_of-last_free}
use Rattle.vm_addresses.proofs.Walking.HeldInTrees.{held_of-last_free, held_of-last_held}

-- A state that is not one of the two is the other.
other_than_free : (s : NodeState) → s ≢ Free → s ≡ Allocated
other_than_free Free n = absurd (n refl)
other_than_free Allocated n = refl

other_than_allocated : (s : NodeState) → s ≢ Allocated → s ≡ Free
other_than_allocated Free n = refl
other_than_allocated Allocated n = absurd (n refl)

pub first_with : (state : NodeState) (b : Block) (bs : List Block) → b.state ≡ state →
    ranges_with state (b ∷ bs) ≡ b.key ∷ ranges_with state bs
first_with Free b bs e = free_of-free b bs e
first_with Allocated b bs e = held_of-held b bs e

pub first_without : (state : NodeState) (b : Block) (bs : List Block) → b.state ≢ state → ranges_with state (b ∷ bs) ≡ ranges_with state bs
first_without Free b bs n = free_of-held b bs (other_than_free b.state n)
first_without Allocated b bs n = held_of-free b bs (other_than_allocated b.state n)

pub last_with : (state : NodeState) (bs : List Block) (b : Block) → b.state ≡ state →
    ranges_with state (bs ++ b ∷ []) ≡ ranges_with state bs ++ b.key ∷ []
last_with Free bs b e = free_of-last_free bs b e
last_with Allocated bs b e = held_of-last_held bs b e

pub last_without : (state : NodeState) (bs : List Block) (b : Block) → b.state ≢ state →
    ranges_with state (bs ++ b ∷ []) ≡ ranges_with state bs
last_without Free bs b n = free_of-last_held bs b (other_than_free b.state n)
last_without Allocated bs b n = held_of-last_free bs b (other_than_allocated b.state n)

pub ranges_none : (state : NodeState) → ranges_with state [] ≡ []
ranges_none Free = refl
ranges_none Allocated = refl

pub ruleset ranges_first = (first_with, first_without, ranges_none)

pub ruleset ranges_last = (last_with, last_without, ranges_none)
