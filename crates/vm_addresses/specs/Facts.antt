-- Facts about states and calls, which proofs of calls and laws share.
use Rattle.std.specs.List.{Contains}
use Rattle.std.specs.Prelude.{◌≡◌, ℕ, ◌+◌, ◌≤◌, Ok, length, ◌↔◌, ◌<◌, ◌⊎◌, List, [], Option, Some, None, ◌≢◌, Result, Err}
use Rattle.vm_addresses.specs.Held.{MakesWithHeld}
use Rattle.vm_addresses.specs.Histories.AddressHistories.{IsCallFrom}
use Rattle.vm_addresses.specs.Holes.{MakesWithFree}
use Rattle.vm_addresses.specs.Queries.{free_of, gaps_of, meeting}
use Rattle.vm_leaf.specs.Blocks.{Tiles}
use Rattle.vm_leaf.specs.SpaceBlocks.{blocks_of, held_of}
use Rattle.vm_ranges.specs.Address.{AddressState, AreClear, IsAddressState, IsClear}
use Rattle.vm_ranges.specs.Answer.{Allocates, Frees, Makes}
use Rattle.vm_ranges.specs.Cases.{IfElse}
use Rattle.vm_ranges.specs.Histories.{EveryCallIsAnswered}
use Rattle.vm_ranges.specs.Range.{Range, Covers, IsIn, Overlaps, address_count, MAX}
use Rattle.vm_ranges.specs.Request.{Request}
use Rattle.vm_ranges.specs.declared.error.Error.TheVariants.{OutOfMemory}
use Rattle.vm_ranges.specs.declared.error.Error.{Error}
use Rattle.vm_ranges.specs.declared.state.NodeState.TheVariants.{Allocated}

-- Two results and the states after them are equal, unless one of the results is OutOfMemory.
abbrev pub AgreeUnlessMemory : {A S : Type 0} → Result A Error → S → Result A Error → S → Type 0
AgreeUnlessMemory answer new other later =
    ((answer ≡ other) × (new ≡ later)) ⊎ (answer ≡ Err OutOfMemory) ⊎ (other ≡ Err OutOfMemory)

-- The state of a new allocator is valid, and each call keeps it valid.
pub record StateIsPreserved : Type 0 where
  pub made : (base size : ℕ) (state : AddressState) →
      size ≤ MAX → Makes base size (Ok state) → IsAddressState state
  pub allocated : (old new : AddressState) (request : Request) (answer : Result Range Error) →
      IsAddressState old → Allocates old request answer new → IsAddressState new
  pub freed : (old new : AddressState) (r : Range) (answer : Result (Unit {0}) Error) →
      IsAddressState old → Frees old r answer new → IsAddressState new

-- The held ranges are disjoint, lie in the space, and do not contain MAX.
pub record AreDisjoint (state : AddressState) : Type 0 where
  pub apart : (r s : Range) → Contains state.held r → Contains state.held s → Overlaps r s → r ≡ s
  pub inside : (r : Range) → Contains state.held r → (r.start ≤ r.end) × Covers state.space r
  pub below : (r : Range) → Contains state.held r → r.end < MAX

-- The range r was clear and is held in the new state. Nothing else changes.
pub record AddsRange (old new : AddressState) (r : Range) : Type 0 where
  pub clear : (x : ℕ) → r.start ≤ x → x ≤ r.end → IsClear old x
  pub space : new.space ≡ old.space
  pub held : (q : Range) → Contains new.held q ↔ (Contains old.held q ⊎ (q ≡ r))

-- The range r was held and is not held in the new state. Nothing else changes.
pub record RemovesRange (old new : AddressState) (r : Range) : Type 0 where
  pub was : Contains old.held r
  pub space : new.space ≡ old.space
  pub held : (q : Range) → Contains new.held q ↔ (Contains old.held q × (q ≢ r))

-- In every state each call has a result other than OutOfMemory. So has each creation of an allocator.
pub record EveryAddressCallIsAnswered : Type 0 where
  pub made : (base size : ℕ) →
      (answer : Result AddressState Error) × Makes base size answer × (answer ≢ Err OutOfMemory)
  pub made_with_held : (base size : ℕ) (held : List Range) →
      (answer : Result AddressState Error) × MakesWithHeld base size held answer × (answer ≢ Err OutOfMemory)
  pub made_with_free : (free : List Range) →
      (answer : Result AddressState Error) × MakesWithFree free answer × (answer ≢ Err OutOfMemory)
  pub called : EveryCallIsAnswered IsCallFrom

-- The number of blocks of a state.
abbrev pub block_count : AddressState → ℕ
block_count state = length (blocks_of state)

-- The number n is 1 if the fact is true, otherwise 0.
abbrev pub IsOneIf : Type 0 → ℕ → Type 0
IsOneIf fact n = IfElse fact (n ≡ 1) (n ≡ 0)

-- The number of clear addresses among the two right before and right after the range r is n.
pub record AreClearBeside (state : AddressState) (r : Range) (n : ℕ) : Type 0 where
  pub below : ℕ
  pub above : ℕ
  pub before : IsOneIf ((x : ℕ) × IsClear state x × (x + 1 ≡ r.start)) below
  pub after : IsOneIf (IsClear state (r.end + 1)) above
  pub both : n ≡ below + above

-- The address x is in exactly one of the ranges.
pub record IsInOne (ranges : List Range) (x : ℕ) : Type 0 where
  pub range : Range
  pub listed : Contains ranges range
  pub inside : IsIn range x
  pub only : (r : Range) → Contains ranges r → IsIn r x → r ≡ range

-- The answer is the held range that contains the address x, or None if x is in a gap or outside the space.
pub record AgreesWithLists (state : AddressState) (x : ℕ) (answer : Option Range) : Type 0 where
  pub held : (r : Range) → Contains state.held r → IsIn r x → answer ≡ Some r
  pub gap : (g : Range) → Contains (gaps_of state) g → IsIn g x → answer ≡ None
  pub outside : ¬ IsIn state.space x → answer ≡ None

-- The answer is the gap that contains the address x, or None if x is held or outside the space.
pub record AgreesWithGaps (state : AddressState) (x : ℕ) (answer : Option Range) : Type 0 where
  pub gap : (g : Range) → Contains (gaps_of state) g → IsIn g x → answer ≡ Some g
  pub held : (r : Range) → Contains state.held r → IsIn r x → answer ≡ None
  pub outside : ¬ IsIn state.space x → answer ≡ None

-- The range g is a longest range of clear addresses: its addresses are clear, and the addresses before and after it are
-- not clear.
pub record IsGap (state : AddressState) (g : Range) : Type 0 where
  pub some : g.start ≤ g.end
  pub clear : (x : ℕ) → IsIn g x → IsClear state x
  pub before : (x : ℕ) → x + 1 ≡ g.start → ¬ IsClear state x
  pub after : ¬ IsClear state (g.end + 1)

-- The blocks of a state cover its space in order. Its held ranges are the held blocks, and its gaps are the free blocks.
pub record IsInBlocks (state : AddressState) : Type 0 where
  pub tiles : Tiles Allocated state.space.start (blocks_of state) state.space.end
  pub held : held_of (blocks_of state) ≡ state.held
  pub gaps : free_of (blocks_of state) ≡ gaps_of state

-- `meeting` lists exactly the held ranges and the gaps that overlap the window.
pub record ListsOverlaps (state : AddressState) (window : Range) : Type 0 where
  pub held : (r : Range) → Contains (meeting window state.held) r ↔ (Contains state.held r × Overlaps window r)
  pub gaps : (g : Range) → Contains (meeting window (gaps_of state)) g ↔ (Contains (gaps_of state) g × Overlaps window g)

-- The addresses of a range in the space are all clear if and only if no held range meets it. None of them is clear if and
-- only if no gap meets it.
pub record IsClearIfNoneMeets (state : AddressState) (window : Range) : Type 0 where
  pub clear : AreClear (address_count window) state window.start ↔ (meeting window state.held ≡ [])
  pub held : ((x : ℕ) → IsIn window x → ¬ IsClear state x) ↔ (meeting window (gaps_of state) ≡ [])

-- The request with this window.
abbrev pub in_window : Range → Request → Request
in_window window request = record request { window = Some window }

-- The request without its window.
abbrev pub anywhere : Request → Request
anywhere request = record request { window = None }
