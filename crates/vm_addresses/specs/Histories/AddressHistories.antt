-- Histories of an address allocator: lists of calls with their results. A history can go on with a clone.
use Rattle.std.specs.Prelude.{◌≡◌, ℕ, ◌%◌, ◌≤◌, ◌⊎◌, List, [], ◌∷◌, Ok, IfSome, MatchResult}
use Rattle.std.specs.List.{All, Contains, zip}
use Rattle.std.specs.Result.{result_unwrap_or}
use Rattle.serde_json.specs.Data.{Data}
use Rattle.vm_ranges.specs.Range.{Range, MAX, IsRange, Covers, span}
use Rattle.vm_ranges.specs.Address.{AddressState}
use Rattle.vm_ranges.specs.Request.{Request}
use Rattle.vm_ranges.specs.Answer.{Allocates, Frees, Makes}
use Rattle.vm_addresses.specs.Held.{MakesWithHeld}
use Rattle.vm_saved_trees.specs.SavedTrees.{Saved, HasHeldKeys, HasTreeOf}
use Rattle.vm_addresses.specs.Several.{AllocatesAll}
use Rattle.vm_addresses.specs.Moves.{MovesRange}
use Rattle.vm_ranges.specs.Cloning.{Clones}
use Rattle.vm_ranges.specs.Histories.{CallOf, IsHistory}
use Rattle.vm_addresses.specs.Values.AllocatorValues.{EncodesAddresses, EncodesRepaired}

-- A call without its result: a request, several requests at once, the freeing of a range, the move of a range to the place
-- of a request, or the creation of a clone.
pub data Asked : Type 0 where
  Allocate : Request → Asked
  AllocateAll : List Request → Asked
  Free : Range → Asked
  MoveTo : Range → Request → Asked
  Clone : Asked

-- The type of the value that a call returns: a range, several ranges, nothing, or the state of a clone.
abbrev pub AskedValue : Asked → Type 0
AskedValue (Allocate request) = Range
AskedValue (AllocateAll requests) = List Range
AskedValue (Free r) = Unit {0}
AskedValue (MoveTo r request) = Range
AskedValue Clone = AddressState

-- A call with its result, for example (Free r, Ok tt).
abbrev pub Call : Type 0
Call = CallOf AskedValue

-- In the state old the call has its result, and leaves the state new. After a clone is made, new is the state of the
-- clone.
abbrev pub IsCallFrom : AddressState → Call → AddressState → Type 0
IsCallFrom old (Allocate request, answer) new = Allocates old request answer new
IsCallFrom old (AllocateAll requests, answer) new = AllocatesAll old requests answer new
IsCallFrom old (Free r, answer) new = Frees old r answer new
IsCallFrom old (MoveTo r request, answer) new = MovesRange old r request answer new
IsCallFrom old (Clone, answer) new = Clones old answer × (new ≡ result_unwrap_or answer old)

-- The calls lead from the state old to the state new: each begins in the state that the call before it left.
abbrev pub IsHistoryFrom : AddressState → List Call → AddressState → Type 0
IsHistoryFrom = IsHistory IsCallFrom

-- The state of a new allocator.
pub record IsMade (state : AddressState) : Type 0 where
  pub base : ℕ
  pub size : ℕ
  pub word : size ≤ MAX
  pub made : Makes base size (Ok state)

-- The state of a new allocator in which ranges are held.
pub record IsMadeWithHeld (state : AddressState) : Type 0 where
  pub base : ℕ
  pub size : ℕ
  pub held : List Range
  pub word : size ≤ MAX
  pub ranges : All (λ r. IsRange r.start r.end) held
  pub made : MakesWithHeld base size held (Ok state)

-- A state that a saved value encodes, for the reader without repairs or for the reader with repairs.
pub record IsRead (state : AddressState) : Type 0 where
  pub value : Data
  pub encoded : EncodesAddresses value state ⊎ EncodesRepaired value state

-- A state that a saved tree of a space has, for the reader of nodes without repairs or for the one with repairs.
pub record IsReadOfNodes (state : AddressState) : Type 0 where
  pub space : Range
  pub tree : Saved
  pub range : IsRange space.start space.end
  pub nodes : HasTreeOf space tree state ⊎ HasHeldKeys space tree state

-- Ranges can be held in the state from the start: it is that of an allocator that was made with held ranges, or was read
-- from a value or node by node.
abbrev pub BeginsHeld : AddressState → Type 0
BeginsHeld first = IsMadeWithHeld first ⊎ (IsRead first ⊎ IsReadOfNodes first)

-- The first state of a history is that of an allocator that is new, was made with held ranges, or was read.
abbrev pub Begins : AddressState → Type 0
Begins first = IsMade first ⊎ BeginsHeld first

-- The calls lead to the state from an allocator that was made or read. The state can be that of a clone.
pub record IsReached (calls : List Call) (state : AddressState) : Type 0 where
  pub first : AddressState
  pub begins : Begins first
  pub history : IsHistoryFrom first calls state

-- A state, with calls that lead to it from an allocator that was made or read.
pub record Reached : Type 0 where
  pub calls : List Call
  pub state : AddressState
  pub reached : IsReached calls state

-- The call allocated the range for the request.
abbrev pub Gives : Call → Request → Range → Type 0
Gives (Allocate asked, answer) request r = (asked ≡ request) × (answer ≡ Ok r)
Gives (AllocateAll requests, answer) request r =
    MatchResult answer (λ ranges. Contains (zip requests ranges) (request, r)) (λ e. ⊥)
Gives (Free q, answer) request r = ⊥
Gives (MoveTo q asked, answer) request r = (asked ≡ request) × (answer ≡ Ok r)
Gives (Clone, answer) request r = ⊥

-- A call allocated the range: with the requested length, at a multiple of the requested alignment, and in the window of the
-- request, if it has one.
pub record WasAllocated (calls : List Call) (r : Range) : Type 0 where
  pub request : Request
  pub call : Call
  pub made : Contains calls call
  pub given : Gives call request r
  pub aligned : r.start % request.align ≡ 0
  pub long : r ≡ span r.start request.size
  pub inside : IfSome request.window (λ window. Covers window r)

-- The range is held in the first state, from the start.
pub record WasHeldFirst (first : AddressState) (r : Range) : Type 0 where
  pub begins : BeginsHeld first
  pub held : Contains first.held r

-- The calls that free the ranges in this order, each with success.
abbrev pub releases : List Range → List Call
releases [] = []
releases (r ∷ rs) = (Free r, Ok tt) ∷ releases rs
