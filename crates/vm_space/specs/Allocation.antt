-- The allocation of a range in a gap of a list of blocks, and its errors.
use Rattle.std.specs.Prelude.{◌≡◌, ℕ, ◌+◌, ◌<◌, ◌⊎◌, List, ◌∷◌, ◌++◌, length, true, false, Option, Some, None, Result, Ok, Err}
use Rattle.std.specs.List.{All}
use Rattle.vm_ranges.specs.Cases.{IfElse}
use Rattle.vm_ranges.specs.Alignment.{IsAlignment}
use Rattle.vm_ranges.specs.Range.{Range, MAX, IsIn, span}
use Rattle.vm_leaf.specs.declared.block.Block.{Block}
use Rattle.vm_leaf.specs.Block.{free_block}
use Rattle.vm_leaf.specs.Blocks.{parts}
use Rattle.vm_leaf.specs.Fit.{HasNoFit, IsLowestFit, IsHighestFit}
use Rattle.vm_leaf.specs.Windows.{cut_to}
use Rattle.vm_ranges.specs.declared.state.NodeState.{NodeState}
use Rattle.vm_ranges.specs.declared.state.NodeState.TheVariants.{Free, Allocated}
use Rattle.vm_tree.specs.Seeking.{beyond}
use Rattle.vm_tree.specs.declared.end.End.{End}
use Rattle.vm_tree.specs.declared.end.End.TheVariants.{First, Last}
use Rattle.vm_space.specs.declared.search.Search.{Search}
use Rattle.vm_space.specs.declared.search.Taken.{Taken}
use Rattle.vm_space.specs.declared.search.Refusal.{Refusal}
use Rattle.vm_space.specs.declared.search.Refusal.TheVariants.{NoPlace, Held, PastMax, OutOfMemory, CannotSplit}

-- The window of a search.
abbrev pub window_of : Search → Range
window_of search = record { start = search.low; end = search.high }

-- The part of the block in the window w has no fit.
unfoldable pub HasNoFitIn : Range → ℕ → ℕ → Block → Type 0
HasNoFitIn w n a b = HasNoFit n a (cut_to w b)

-- No part of a block in the window of the search has a fit.
abbrev pub HasNoPlace : Search → List Block → Type 0
HasNoPlace search bs = All (HasNoFitIn (window_of search) search.size search.alignment) bs

-- A start in a gap of a list: the blocks before the gap, the gap, the blocks after it, and the start.
pub record ListPlace : Type 0 where
  pub lower : List Block
  pub key : Range
  pub upper : List Block
  pub start : ℕ

-- The place is in a gap of the list.
abbrev pub IsPlaceIn : List Block → ListPlace → Type 0
IsPlaceIn bs place = bs ≡ place.lower ++ free_block place.key ∷ place.upper

-- n addresses that start at t are the fit in the block that is closest to the end: the lowest or the highest one.
abbrev pub IsClosestFit : End → ℕ → ℕ → Block → ℕ → Type 0
IsClosestFit First n a b t = IsLowestFit n a b t
IsClosestFit Last n a b t = IsHighestFit n a b t

-- The place is the one of the search in the list that is closest to the end.
pub record IsClosestPlace (end : End) (search : Search) (bs : List Block) (place : ListPlace) : Type 0 where
  pub cut : IsPlaceIn bs place
  pub none : HasNoPlace search (beyond end place.lower place.upper)
  pub fit : IsClosestFit end search.size search.alignment (cut_to (window_of search) (free_block place.key)) place.start

-- The range of a search at a place.
abbrev pub range_at : Search → ListPlace → Range
range_at search place = span place.start search.size

-- The range of the place of the search that is closest to the end, or None if there is no place.
abbrev pub FindsFit : End → Search → List Block → Option Range → Type 0
FindsFit end search bs None = HasNoPlace search bs
FindsFit end search bs (Some r) = (place : ListPlace) × IsClosestPlace end search bs place × (r ≡ range_at search place)

-- The range does not fill the gap of the place.
abbrev pub SplitsAt : Search → ListPlace → Type 0
SplitsAt search place =
    (place.key.start < place.start) ⊎ ((range_at search place).end < place.key.end)

-- The range at the place is allocated. `added` is the number of blocks that the list has more than before.
pub record IsTakenAt (search : Search) (place : ListPlace) (new : List Block) (taken : Taken) : Type 0 where
  pub range : taken.range ≡ range_at search place
  pub below : (range_at search place).end < MAX
  pub low : SplitsAt search place → search.can_split ≡ true
  pub blocks : new ≡ place.lower ++ (parts place.key (range_at search place) ++ place.upper)
  pub added : taken.added + 1 ≡ length (parts place.key (range_at search place))

-- The range at the place is below MAX, and does not fill its gap.
pub record IsSplitAt (search : Search) (place : ListPlace) : Type 0 where
  pub below : (range_at search place).end < MAX
  pub splits : SplitsAt search place

-- The result of an allocation at the place:
-- - PastMax if the range ends at MAX.
-- - A range that fills its gap is allocated.
-- - Any other range is allocated, or it is OutOfMemory, or CannotSplit if gaps cannot be split.
abbrev pub SettlesAt : Search → ListPlace → List Block → Result Taken Refusal → Type 0
SettlesAt search place new (Ok taken) = IsTakenAt search place new taken
SettlesAt search place new (Err NoPlace) = ⊥
SettlesAt search place new (Err Held) = ⊥
SettlesAt search place new (Err PastMax) = (range_at search place).end ≡ MAX
SettlesAt search place new (Err (OutOfMemory e)) = IsSplitAt search place × (search.can_split ≡ true)
SettlesAt search place new (Err CannotSplit) = IsSplitAt search place × (search.can_split ≡ false)

-- The refusal is OutOfMemory.
abbrev pub IsOutOfMemory : Refusal → Type 0
IsOutOfMemory NoPlace = ⊥
IsOutOfMemory Held = ⊥
IsOutOfMemory PastMax = ⊥
IsOutOfMemory (OutOfMemory e) = Unit {0}
IsOutOfMemory CannotSplit = ⊥

-- The place of the search that is closest to the end is allocated, or its error is returned. NoPlace if there is no place.
abbrev pub AllocatesFit : End → Search → List Block → List Block → Result Taken Refusal → Type 0
AllocatesFit end search old new answer =
    (HasNoPlace search old × (answer ≡ Err NoPlace))
    ⊎ ((place : ListPlace) × IsClosestPlace end search old place × SettlesAt search place new answer)

-- The block of a list that contains the address t, with the blocks before and after it.
pub record IsBlockAt (t : ℕ) (bs lower : List Block) (b : Block) (upper : List Block) : Type 0 where
  pub cut : bs ≡ lower ++ b ∷ upper
  pub inside : IsIn b.key t

-- The result of a search at the start t in the block that contains t:
-- - For a held block Held if it is exactly the range, and otherwise NoPlace.
-- - For a gap NoPlace if the gap or the window ends before the range does, and otherwise the result at the place.
abbrev pub SettlesIn : Search → ℕ → List Block → NodeState → Range → List Block → List Block → Result Taken Refusal → Type 0
SettlesIn search t lower Allocated key upper new answer =
    IfElse (key ≡ span t search.size) (answer ≡ Err Held) (answer ≡ Err NoPlace)
SettlesIn search t lower Free key upper new answer =
    let last : ℕ = (span t search.size).end in
    let place : ListPlace = record { lower = lower; key = key; upper = upper; start = t } in
    IfElse ((key.end < last) ⊎ (search.high < last)) (answer ≡ Err NoPlace) (SettlesAt search place new answer)

-- The range of the search at the start t is allocated, or its error is returned.
pub record AllocatesExact (search : Search) (t : ℕ) (old new : List Block) (answer : Result Taken Refusal) : Type 0 where
  pub lower : List Block
  pub block : Block
  pub upper : List Block
  pub at : IsBlockAt t old lower block upper
  pub settles : SettlesIn search t lower block.state block.key upper new answer

-- The search is valid: the size is not 0, and the alignment is one of the 64 powers of two.
pub record IsSearch (search : Search) : Type 0 where
  pub some : 0 < search.size
  pub aligned : IsAlignment search.alignment
