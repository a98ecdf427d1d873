-- A range that is to be allocated in a gap of a leaf.
use Rattle.std.specs.Prelude.{◌≡◌, ℕ, ◌+◌, ◌≤◌, ◌<◌, List, length, take, drop, true, false, Option, Some, None, Result, Ok, Err}
use Rattle.vm_ranges.specs.Range.{MAX, span}
use Rattle.vm_ranges.specs.declared.state.NodeState.TheVariants.{Free}
use Rattle.vm_leaf.specs.declared.block.Block.{Block}
use Rattle.vm_leaf.specs.Block.{free_block}
use Rattle.vm_leaf.specs.Blocks.{nth, start_of, end_of, with_parts, parts, IsTakenFrom}
use Rattle.vm_leaf.specs.Rest.{IsRest, added_by}
use Rattle.vm_leaf.specs.Windows.{IsFirstFitIn, IsLastFitIn}
use Rattle.vm_leaf.specs.declared.leaf.Fit.{Fit}
use Rattle.vm_space.specs.Allocation.{window_of, ListPlace, IsClosestPlace, SettlesIn, AllocatesExact}
use Rattle.vm_space.specs.declared.place.Place.{Place}
use Rattle.vm_tree.specs.declared.end.End.{End}
use Rattle.vm_tree.specs.declared.end.End.TheVariants.{First, Last}
use Rattle.vm_space.specs.declared.search.Search.{Search}
use Rattle.vm_space.specs.declared.search.Refusal.{Refusal}
use Rattle.vm_space.specs.declared.search.Refusal.TheVariants.{NoPlace, Held, PastMax, OutOfMemory, CannotSplit}

-- The place in a leaf, as one in the list of its blocks.
abbrev pub in_list : List Block → Place → ListPlace
in_list bs place = record { lower = take place.index bs; key = place.gap; upper = drop (place.index + 1) bs; start = place.range.start }

-- The blocks with the range of the place allocated.
abbrev pub with_place : List Block → Place → List Block
with_place bs place = with_parts bs place.index 1 (parts place.gap place.range)

-- The place is in a gap of the blocks.
pub record IsLeafPlace (bs : List Block) (place : Place) : Type 0 where
  pub within : place.index < length bs
  pub gap : nth bs place.index ≡ free_block place.gap
  pub taken : IsTakenFrom place.gap place.range
  pub rest : IsRest place.rest place.gap place.range

-- The place is one for n addresses in a gap of the blocks.
pub record IsPlaceFor (n : ℕ) (bs : List Block) (place : Place) : Type 0 where
  pub inside : IsLeafPlace bs place
  pub sized : place.range ≡ span place.range.start n

-- The fit is that of the search in the blocks that is closest to the end.
abbrev pub IsClosestFitIn : End → Search → List Block → Fit → Type 0
IsClosestFitIn First search bs fit = IsFirstFitIn (window_of search) search.size search.alignment bs fit
IsClosestFitIn Last search bs fit = IsLastFitIn (window_of search) search.size search.alignment bs fit

-- The place is the one of the search in the blocks that is closest to the end.
pub record IsClosestLeafPlace (end : End) (search : Search) (bs : List Block) (place : Place) : Type 0 where
  pub fits : IsPlaceFor search.size bs place
  pub closest : IsClosestPlace end search bs (in_list bs place)

-- Why the range of the place cannot be allocated, or None if it can: it ends below MAX, and gaps can be split if it splits one.
abbrev pub RefusesPlace : Search → Place → Option Refusal → Type 0
RefusesPlace search place None = (place.range.end < MAX) × (0 < added_by place.rest → search.can_split ≡ true)
RefusesPlace search place (Some NoPlace) = ⊥
RefusesPlace search place (Some Held) = ⊥
RefusesPlace search place (Some PastMax) = place.range.end ≡ MAX
RefusesPlace search place (Some (OutOfMemory e)) = ⊥
RefusesPlace search place (Some CannotSplit) = (place.range.end < MAX) × (0 < added_by place.rest) × (search.can_split ≡ false)

-- The start t of a search is in the blocks and in the window, and its range ends at most at MAX.
pub record IsStartIn (search : Search) (t : ℕ) (bs : List Block) : Type 0 where
  pub from : start_of bs ≤ t
  pub upto : t ≤ end_of bs
  pub low : search.low ≤ t
  pub high : t ≤ search.high
  pub fits : t + search.size ≤ MAX + 1

-- The place is that of the range of the search at t, which lies in a gap of the blocks and in the window.
pub record IsExactPlace (search : Search) (t : ℕ) (bs : List Block) (place : Place) : Type 0 where
  pub fits : IsPlaceFor search.size bs place
  pub start : place.range.start ≡ t
  pub high : t + search.size ≤ search.high + 1

-- The place of the range of the search at t, or the reason why the range cannot be allocated.
abbrev pub FindsExactPlace : Search → ℕ → List Block → Result Place Refusal → Type 0
FindsExactPlace search t bs (Ok place) = IsExactPlace search t bs place
FindsExactPlace search t bs (Err refusal) = AllocatesExact search t bs bs (Err refusal)

-- The range of the search at t lies in the block, which is a gap, and in the window.
pub record LiesIn (search : Search) (t : ℕ) (b : Block) : Type 0 where
  pub free : b.state ≡ Free
  pub upto : t + search.size ≤ b.key.end + 1
  pub high : t + search.size ≤ search.high + 1

-- Why the range of the search at t cannot be allocated in the block, or None if it lies there and in the window.
abbrev pub RefusesIn : Search → ℕ → Block → Option Refusal → Type 0
RefusesIn search t b None = LiesIn search t b
RefusesIn search t b (Some refusal) = (lower upper new : List Block) → SettlesIn search t lower b.state b.key upper new (Err refusal)
