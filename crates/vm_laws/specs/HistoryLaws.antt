-- Laws of every history of an address allocator that was made or read.
use Rattle.std.specs.Prelude.{◌≡◌, ◌≢◌, ℕ, ◌+◌, ◌-◌, ◌<◌, ◌≤◌, ◌⊎◌, ◌↔◌, List, [], ◌∷◌, ◌++◌, length, Result, Ok, Err}
use Rattle.std.specs.List.{Contains}
use Rattle.std.specs.List.Sorted.{IsPermutation}
use Rattle.serde_json.specs.Data.{Data}
use Rattle.vm_ranges.specs.Range.{Range, MAX, IsRange, IsIn, span}
use Rattle.vm_ranges.specs.Address.{AddressState, AreClear, IsPlace, IsLowestPlace, IsHighestPlace, IsAddressState}
use Rattle.vm_ranges.specs.Windows.{within}
use Rattle.vm_ranges.specs.Request.{Request, IsRequest, MakesConstraint}
use Rattle.vm_ranges.specs.Answer.{IsChosen, AllocatesAt, Allocates, Frees}
use Rattle.vm_saved_trees.specs.SavedTrees.{Saved}
use Rattle.vm_addresses.specs.Several.{AllocatesAll}
use Rattle.vm_addresses.specs.Moves.{MovesRange}
use Rattle.vm_addresses.specs.Facts.{AreDisjoint, AgreeUnlessMemory}
use Rattle.vm_ranges.specs.Cloning.{Clones}
use Rattle.vm_addresses.specs.Comparison.{AreEqual}
use Rattle.vm_addresses.specs.Histories.AddressHistories.{Clone, IsHistoryFrom, IsReached, Reached, WasAllocated, WasHeldFirst, releases}
use Rattle.vm_ranges.specs.declared.error.Error.{Error}
use Rattle.vm_ranges.specs.declared.error.Error.TheVariants.{Overflow, ResourceNotAvailable, InvalidStateTransition}
use Rattle.vm_ranges.specs.declared.state.NodeState.TheVariants.{Allocated}
use Rattle.vm_ranges.specs.declared.constraint.AllocPolicy.TheVariants.{FirstMatch, LastMatch, ExactMatch}

-- A range that FirstMatch allocates starts at the lowest place of the state before, of those in the window of the request.
abbrev pub FirstIsLowest : Type 0
FirstIsLowest =
    (old : Reached) (new : AddressState) (request : Request) (r : Range) → request.policy ≡ FirstMatch →
    Allocates old.state request (Ok r) new →
    IsLowestPlace request.size request.align (within request.window old.state) r.start × (r ≡ span r.start request.size)

-- A range that LastMatch allocates starts at the highest place of the state before, of those in the window of the request.
abbrev pub LastIsHighest : Type 0
LastIsHighest =
    (old : Reached) (new : AddressState) (request : Request) (r : Range) → request.policy ≡ LastMatch →
    Allocates old.state request (Ok r) new →
    IsHighestPlace request.size request.align (within request.window old.state) r.start × (r ≡ span r.start request.size)

-- A range that ExactMatch allocates starts at the given start, which is a place in the window of the request.
abbrev pub ExactIsAtItsStart : Type 0
ExactIsAtItsStart =
    (old : Reached) (new : AddressState) (request : Request) (start : ℕ) (r : Range) →
    request.policy ≡ ExactMatch start → Allocates old.state request (Ok r) new →
    IsPlace request.size request.align (within request.window old.state) start × (r ≡ span start request.size)

-- A request for the n addresses starting at t returns the error of the first condition that is true, in this order: t
-- is MAX; t is outside the space; the range passes MAX; the range is held; an address of it is not clear; it ends at
-- MAX. For a request with a window, the state is the one within the window.
pub record FailsInOrder (old : AddressState) (t n : ℕ) (answer : Result Range Error) : Type 0 where
  pub start_is_max : t ≡ MAX → answer ≡ Err Overflow
  pub start_is_outside : t ≢ MAX → ¬ IsIn old.space t → answer ≡ Err ResourceNotAvailable
  pub passes_max : t ≢ MAX → IsIn old.space t → MAX < t + n - 1 → answer ≡ Err Overflow
  pub is_held : IsIn old.space t → Contains old.held (span t n) → answer ≡ Err (InvalidStateTransition (span t n) Allocated)
  pub is_not_clear : t ≢ MAX → IsIn old.space t → t + n - 1 ≤ MAX → ¬ Contains old.held (span t n) →
      ¬ AreClear n old t → answer ≡ Err ResourceNotAvailable
  pub ends_at_max : AreClear n old t → t + n - 1 ≡ MAX → answer ≡ Err Overflow

-- The places decide the result of a valid request. The range at the chosen place is allocated if it ends below MAX, and
-- it is Overflow otherwise. FirstMatch and LastMatch return ResourceNotAvailable if and only if there is no place in the
-- window.
-- ExactMatch returns its first error.
pub record IsAnsweredByPlaces (old : AddressState) (request : Request)
    (answer : Result Range Error) (new : AddressState) : Type 0 where
  pub taken : (s : ℕ) → IsChosen request old s → s + request.size - 1 < MAX →
      AllocatesAt (length old.held) old (span s request.size) answer new
  pub at_max : (s : ℕ) → IsChosen request old s → s + request.size - 1 ≡ MAX → answer ≡ Err Overflow
  pub no_place : (request.policy ≡ FirstMatch) ⊎ (request.policy ≡ LastMatch) →
      ((s : ℕ) → ¬ IsPlace request.size request.align (within request.window old) s) → answer ≡ Err ResourceNotAvailable
  pub only_there : (request.policy ≡ FirstMatch) ⊎ (request.policy ≡ LastMatch) →
      (s : ℕ) → IsPlace request.size request.align (within request.window old) s → answer ≢ Err ResourceNotAvailable
  pub named : (t : ℕ) → request.policy ≡ ExactMatch t → FailsInOrder (within request.window old) t request.size answer

-- The places decide the result of a request. An invalid request returns the error of its constraint, and an allocated
-- range is at the chosen place.
pub record IsAnswered (old : AddressState) (request : Request)
    (answer : Result Range Error) (new : AddressState) : Type 0 where
  pub invalid : (e : Error) → MakesConstraint request (Err e) → answer ≡ Err e
  pub valid : IsRequest request → IsAnsweredByPlaces old request answer new
  pub given : (r : Range) → answer ≡ Ok r → IsChosen request old r.start × (r ≡ span r.start request.size)

-- In every history the places decide the result of each request.
abbrev pub PlacesAnswer : Type 0
PlacesAnswer =
    (old : Reached) (new : AddressState) (request : Request) (answer : Result Range Error) →
    Allocates old.state request answer new → IsAnswered old.state request answer new

-- In every history the state is valid and the held ranges are disjoint. Each of them was allocated as requested, or was
-- held from the start.
pub record HeldAreValid : Type 0 where
  pub state : (old : Reached) → IsAddressState old.state
  pub apart : (old : Reached) → AreDisjoint old.state
  pub given : (old : Reached) (r : Range) → Contains old.state.held r →
      WasAllocated old.calls r ⊎ WasHeldFirst old.reached.first r

-- Both states have the same space and the same set of held ranges. The sorted lists are then equal, which is proved.
pub record HaveSameState (first second : AddressState) : Type 0 where
  pub space : first.space ≡ second.space
  pub held : (r : Range) → Contains first.held r ↔ Contains second.held r

-- The result of a call and the state after it depend only on the space and the held ranges, unless memory runs out.
pub record StateDecides : Type 0 where
  pub allocation : (first second : Reached) (new later : AddressState) (request : Request)
      (answer other : Result Range Error) → HaveSameState first.state second.state →
      Allocates first.state request answer new → Allocates second.state request other later →
      AgreeUnlessMemory answer new other later
  pub move : (first second : Reached) (new later : AddressState) (r : Range) (request : Request)
      (answer other : Result Range Error) → HaveSameState first.state second.state →
      MovesRange first.state r request answer new → MovesRange second.state r request other later →
      AgreeUnlessMemory answer new other later
  pub several : (first second : Reached) (new later : AddressState) (requests : List Request)
      (answer other : Result (List Range) Error) → HaveSameState first.state second.state →
      AllocatesAll first.state requests answer new → AllocatesAll second.state requests other later →
      AgreeUnlessMemory answer new other later
  pub release : (first second : Reached) (new later : AddressState) (r : Range)
      (answer other : Result (Unit {0}) Error) → HaveSameState first.state second.state →
      Frees first.state r answer new → Frees second.state r other later → (answer ≡ other) × (new ≡ later)

-- Freeing the range that was just allocated succeeds, and leaves the state before the allocation.
abbrev pub FreeUndoes : Type 0
FreeUndoes =
    (old : Reached) (mid new : AddressState) (request : Request) (r : Range) (answer : Result (Unit {0}) Error) →
    Allocates old.state request (Ok r) mid → Frees mid r answer new → (answer ≡ Ok tt) × (new ≡ old.state)

-- Ranges that can be freed in one order can be freed in every order. Freeing the same ranges leaves the same state.
pub record FreesInAnyOrder : Type 0 where
  pub succeeds : (old : Reached) (new : AddressState) (rs qs : List Range) → IsPermutation rs qs →
      IsHistoryFrom old.state (releases rs) new → IsHistoryFrom old.state (releases qs) new
  pub same : (old : Reached) (first second : AddressState) (rs qs : List Range) →
      ((r : Range) → Contains rs r ↔ Contains qs r) →
      IsHistoryFrom old.state (releases rs) first → IsHistoryFrom old.state (releases qs) second → first ≡ second

-- A clone of a reached allocator is reached, and has the state of its original.
abbrev pub CloneIsReached : Type 0
CloneIsReached =
    (old : Reached) (clone : AddressState) → Clones old.state (Ok clone) →
    (clone ≡ old.state) × IsReached (old.calls ++ (Clone, Ok clone) ∷ []) clone

-- The state of an allocator that was read is reached without a call.
abbrev pub ReadIsReached : (Data → AddressState → Type 0) → Type 0
ReadIsReached States = (value : Data) (state : AddressState) → States value state → IsReached [] state

-- The state of an allocator that was read node by node is reached without a call. `Nodes` is what the saved tree of the
-- space has to be.
abbrev pub NodesAreReached : (Range → Saved → AddressState → Type 0) → Type 0
NodesAreReached Nodes =
    (space : Range) (t : Saved) (state : AddressState) → IsRange space.start space.end → Nodes space t state →
    IsReached [] state

-- Reached allocators with the same space and the same held ranges are equal, whatever calls led there.
abbrev pub EqualStatesAreEqual : Type 0
EqualStatesAreEqual = (first second : Reached) → HaveSameState first.state second.state → AreEqual first.state second.state

-- Freeing the range that was just allocated makes the allocator equal to the allocator before the allocation.
abbrev pub FreeMakesEqual : Type 0
FreeMakesEqual =
    (old : Reached) (mid new : AddressState) (request : Request) (r : Range) (answer : Result (Unit {0}) Error) →
    Allocates old.state request (Ok r) mid → Frees mid r answer new → AreEqual new old.state

-- Freeing the same ranges makes equal allocators, whatever the order.
abbrev pub FreesInAnyOrderMakeEqual : Type 0
FreesInAnyOrderMakeEqual =
    (old : Reached) (first second : AddressState) (rs qs : List Range) →
    ((r : Range) → Contains rs r ↔ Contains qs r) →
    IsHistoryFrom old.state (releases rs) first → IsHistoryFrom old.state (releases qs) second → AreEqual first second
