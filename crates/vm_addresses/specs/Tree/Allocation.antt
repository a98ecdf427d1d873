-- The allocation for a request in the tree of a space.
use Rattle.std.specs.Prelude.{◌≡◌, ℕ, ◌+◌, ◌<◌, ◌≤◌, List, Bool, Result, Ok, Err, OnErr, IfOk}
use Rattle.vm_ranges.specs.Cases.{IsTestOf}
use Rattle.vm_ranges.specs.Range.{Range}
use Rattle.vm_ranges.specs.Request.{Request}
use Rattle.vm_ranges.specs.declared.error.Error.{Error}
use Rattle.vm_ranges.specs.declared.error.Error.TheVariants.{Overflow, ResourceNotAvailable, InvalidStateTransition, OutOfMemory}
use Rattle.vm_ranges.specs.declared.state.NodeState.TheVariants.{Allocated}
use Rattle.vm_leaf.specs.declared.block.Block.{Block}
use Rattle.vm_space.specs.Allocation.{ListPlace, window_of, IsPlaceIn, IsTakenAt}
use Rattle.vm_space.specs.Shape.{Shape, blocks, height_of}
use Rattle.vm_tree.specs.declared.end.End.{End}
use Rattle.vm_tree.specs.declared.end.End.TheVariants.{First, Last}
use Rattle.vm_ranges.specs.declared.constraint.AllocPolicy.{AllocPolicy}
use Rattle.vm_ranges.specs.declared.constraint.AllocPolicy.TheVariants.{FirstMatch, LastMatch}
use Rattle.vm_space.specs.declared.search.Search.{Search}
use Rattle.vm_space.specs.declared.search.Taken.{Taken}
use Rattle.vm_space.specs.declared.search.Refusal.{Refusal}
use Rattle.vm_space.specs.declared.search.Refusal.TheVariants.{NoPlace, Held, PastMax, OutOfMemory as NoMemory, CannotSplit}
use Rattle.vm_ranges.specs.Answer.{SPLIT_LIMIT_MIN_HELD, Grants}
use Rattle.vm_addresses.specs.Counts.GapSearch.{SearchesGaps}
use Rattle.vm_addresses.specs.Counts.Steps.{IsGrantCount}
use Rattle.vm_leaf.specs.SpaceBlocks.{blocks_state}
use Rattle.vm_ranges.specs.Windows.{window_in}

-- The error of a refusal. Held is the state of the range that was searched.
abbrev pub error_of : Range → Refusal → Error
error_of range NoPlace = ResourceNotAvailable
error_of range Held = InvalidStateTransition range Allocated
error_of range PastMax = Overflow
error_of range (NoMemory e) = OutOfMemory
error_of range CannotSplit = Overflow

-- The result of a search, with the error of its refusal.
abbrev pub with_error : Range → Result Taken Refusal → Result Taken Error
with_error range (Ok taken) = Ok taken
with_error range (Err refusal) = Err (error_of range refusal)

-- The range that was allocated, or the error.
abbrev pub taken_range : Result Taken Error → Result Range Error
taken_range (Ok taken) = Ok taken.range
taken_range (Err error) = Err error

-- The search is that of the request in this space.
pub record IsSearchOf (request : Request) (space : Range) (search : Search) : Type 0 where
  pub size : search.size ≡ request.size
  pub align : search.alignment ≡ request.align
  pub window : window_of search ≡ window_in request.window space

-- The policy of a search from the end.
abbrev pub policy_of : End → AllocPolicy
policy_of First = FirstMatch
policy_of Last = LastMatch

-- The search took a range out of a gap of the old blocks.
pub record TakesRange (search : Search) (old new : List Block) (taken : Taken) : Type 0 where
  pub place : ListPlace
  pub cut : IsPlaceIn old place
  pub in_gap : (place.key.start ≤ place.start) × (place.start + search.size ≤ place.key.end + 1)
  pub at : IsTakenAt search place new taken

-- The n addresses were taken out of a gap. A gap is split only if that is allowed.
pub record Takes (can_split : Bool) (n : ℕ) (old new : List Block) (taken : Taken) : Type 0 where
  pub search : Search
  pub size : search.size ≡ n
  pub split : search.can_split ≡ can_split
  pub range : TakesRange search old new taken

-- All about the result of a request: the range, the tree, and the nodes that were entered. Gaps are split if fewer ranges than the
-- limit count.
pub record IsAllocation (request : Request) (space : Range) (can_split : Bool) (old new : Shape) (answer : Result Taken Error)
    (count : ℕ) : Type 0 where
  pub granted : (counted : ℕ) → IsTestOf can_split (counted < SPLIT_LIMIT_MIN_HELD) →
      Grants counted (blocks_state space (blocks old)) request (taken_range answer) (blocks_state space (blocks new))
  pub taken : IfOk answer (λ taken. Takes can_split request.size (blocks old) (blocks new) taken)
  pub unchanged : OnErr answer (new ≡ old)
  pub steps : IsGrantCount (height_of old) (blocks_state space (blocks old)) request (taken_range answer) count
  pub search : SearchesGaps (height_of old) (blocks_state space (blocks old)) request (taken_range answer) count
