-- The gaps of a state, and the results of queries of addresses.
use Rattle.std.specs.Prelude.{◌≡◌, ℕ, ◌+◌, ◌-◌, ◌<◌, ◌≤◌, max, nat_lt, if◌then◌else◌, List, [], ◌∷◌, ◌++◌, Option, Some, None}
use Rattle.std.specs.List.{All, Contains, filter}
use Rattle.vm_ranges.specs.Range.{Range, IsIn, IsInNone, address_count}
use Rattle.vm_ranges.specs.Address.{AddressState}
use Rattle.vm_ranges.specs.Windows.{common}
use Rattle.vm_leaf.specs.declared.block.Block.{Block}
use Rattle.vm_space.specs.Walks.{meets}
use Rattle.vm_leaf.specs.SpaceBlocks.{blocks_of, held_of}
use Rattle.vm_ranges.specs.declared.state.NodeState.{NodeState}
use Rattle.vm_ranges.specs.declared.state.NodeState.TheVariants.{Free, Allocated}

-- The range of a block if it is free, otherwise no range.
abbrev pub range_if_free : NodeState → Range → List Range
range_if_free Free k = k ∷ []
range_if_free Allocated k = []

-- The ranges of the free blocks, in order.
abbrev pub free_of : List Block → List Range
free_of [] = []
free_of (b ∷ bs) = range_if_free b.state b.key ++ free_of bs

-- The ranges of the blocks with a state, in order.
abbrev pub ranges_with : NodeState → List Block → List Range
ranges_with Allocated bs = held_of bs
ranges_with Free bs = free_of bs

-- The range and the state of a block.
abbrev pub block_parts : Block → Range × NodeState
block_parts b = (b.key, b.state)

-- The gaps of a state, from the lowest to the highest.
abbrev pub gaps_of : AddressState → List Range
gaps_of state = free_of (blocks_of state)

-- The number of addresses of the longest range, or 0 if there is no range.
abbrev pub longest_of : List Range → ℕ
longest_of [] = 0
longest_of (r ∷ rs) = max (address_count r) (longest_of rs)

-- The number of addresses that are in both ranges.
abbrev pub common_count : Range → Range → ℕ
common_count r s = (common r s).end + 1 - (common r s).start

-- The number of addresses of the longest part of a range in the window, or 0 if no range has an address in it.
abbrev pub longest_part : Range → List Range → ℕ
longest_part window [] = 0
longest_part window (r ∷ rs) = max (common_count window r) (longest_part window rs)

-- The number of addresses of the longest part of a range in the window, or of the longest range if there is no window.
abbrev pub longest_in : Option Range → List Range → ℕ
longest_in None ranges = longest_of ranges
longest_in (Some window) ranges = longest_part window ranges

-- The number of addresses of a range, or 0 if there is no range.
abbrev pub count_if : Option Range → ℕ
count_if None = 0
count_if (Some r) = address_count r

-- The part of the gap g in the window if it is longer than the range, otherwise the range.
abbrev pub longer_part : Range → Option Range → Range → Option Range
longer_part window longest g = if nat_lt (count_if longest) (common_count window g) then Some (common window g) else longest

-- The range is the part in the window of one of these ranges. None of them has a longer part in it, and none before it as long a one.
pub record IsLongestPart (window : Range) (ranges : List Range) (part : Range) : Type 0 where
  pub lower : List Range
  pub whole : Range
  pub upper : List Range
  pub cut : ranges ≡ lower ++ whole ∷ upper
  pub is : part ≡ common window whole
  pub some : 0 < common_count window whole
  pub before : All (λ r. common_count window r < common_count window whole) lower
  pub after : All (λ r. common_count window r ≤ common_count window whole) upper

-- The answer is the longest part of a range in the window, the lowest of several, or None if no range has an address in it.
abbrev pub FindsLongestPart : Range → List Range → Option Range → Type 0
FindsLongestPart window ranges None = All (λ r. common_count window r ≡ 0) ranges
FindsLongestPart window ranges (Some part) = IsLongestPart window ranges part

-- The number of addresses of all ranges together.
abbrev pub count_of : List Range → ℕ
count_of [] = 0
count_of (r ∷ rs) = address_count r + count_of rs

-- The answer is a range of the list that contains the address x, or None if no range of the list contains it.
abbrev pub IsRangeAt : List Range → ℕ → Option Range → Type 0
IsRangeAt ranges x None = IsInNone ranges x
IsRangeAt ranges x (Some r) = Contains ranges r × IsIn r x

-- The answer is a held range that contains the address x, or None if no held range contains it.
abbrev pub IsHeldAt : AddressState → ℕ → Option Range → Type 0
IsHeldAt state x answer = IsRangeAt state.held x answer

-- The answer is a gap that contains the address x, or None if no gap contains it.
abbrev pub IsGapAt : AddressState → ℕ → Option Range → Type 0
IsGapAt state x answer = IsRangeAt (gaps_of state) x answer

-- The ranges of the list that have an address in common with the window, in order.
abbrev pub meeting : Range → List Range → List Range
meeting window ranges = filter (meets window) ranges
