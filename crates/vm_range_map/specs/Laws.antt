-- Laws of the calls of a map, in every valid state.
use Rattle.std.specs.Prelude.{◌≡◌, ◌≢◌, ◌↔◌, ℕ, Bool, IsTrue, List, Option, Some, Result, Ok, Err}
use Rattle.std.specs.List.{Contains}
use Rattle.std.specs.Ordering.{nat_cmp}
use Rattle.std.specs.FinMap as map
use Rattle.vm_ranges.specs.Range.{Range, IsIn}
use Rattle.vm_ranges.specs.Request.{Request}
use Rattle.vm_ranges.specs.declared.error.Error.{Error}
use Rattle.vm_ranges.specs.declared.error.Error.TheVariants.{OutOfMemory}
use Rattle.vm_range_map.specs.RangeMaps.{MapState, IsMapState, HasValue, AreCopies, MakesMap, MakesMapWithHeld, AllocatesWith, AllocatesEachWith, FreesWith, IsValueAt, SetsValue, MovesWith}
use Rattle.vm_range_map.specs.Queries.{same_maps}

-- Each range other than r keeps its value.
abbrev pub OthersKeepValues : {X : Type 0} → Range → MapState X → MapState X → Type 0
OthersKeepValues {X} r old new = (q : Range) (value : X) → q ≢ r → HasValue old q value → HasValue new q value

-- The result of `get` at an address of a range with a value is this range with this value.
abbrev pub ValueIsAtItsAddresses : Type 0 → Type 0
ValueIsAtItsAddresses X =
    (state : MapState X) (r : Range) (value : X) (x : ℕ) (answer : Option (Range × X)) → IsMapState state →
    HasValue state r value → IsIn r x → IsValueAt state x answer → answer ≡ Some (r, value)

-- An allocated range has its value, a range that moves keeps it, and a value that is set is the new value. Each other range
-- keeps its value, also if a range is freed.
pub record RangesKeepValues (X : Type 0) : Type 0 where
  pub allocated : (old new : MapState X) (request : Request) (value : X) (r : Range) → IsMapState old →
      AllocatesWith old request value (Ok r) new → HasValue new r value × OthersKeepValues r old new
  pub freed : (old new : MapState X) (r : Range) (value : X) → IsMapState old →
      FreesWith old r (Ok value) new → ¬ Contains new.space.held r × OthersKeepValues r old new
  pub moved : (old new : MapState X) (q r : Range) (request : Request) (value : X) → IsMapState old → HasValue old q value →
      MovesWith old q request (Ok r) new → HasValue new r value × OthersKeepValues q old new
  pub set : (old new : MapState X) (r : Range) (x : ℕ) (before value : X) (answer : Result X X) → IsMapState old → HasValue old r before → IsIn r x →
      SetsValue old x value answer new → (answer ≡ Ok before) × HasValue new r value × OthersKeepValues r old new

-- Each call has one result and one next state, if memory suffices.
pub record MapsDecide (X : Type 0) : Type 0 where
  pub made : (base size : ℕ) (answer other : Result (MapState X) Error) → answer ≢ Err OutOfMemory → other ≢ Err OutOfMemory →
      MakesMap base size answer → MakesMap base size other → answer ≡ other
  pub allocated : (old new later : MapState X) (request : Request) (value : X) (answer other : Result Range Error) →
      answer ≢ Err OutOfMemory → other ≢ Err OutOfMemory →
      AllocatesWith old request value answer new → AllocatesWith old request value other later → (answer ≡ other) × (new ≡ later)
  pub made_with : (base size : ℕ) (held : List Range) (values : List X) (answer other : Result (MapState X) Error) →
      answer ≢ Err OutOfMemory → other ≢ Err OutOfMemory →
      MakesMapWithHeld base size held values answer → MakesMapWithHeld base size held values other → answer ≡ other
  pub allocated_each : (old new later : MapState X) (requests : List Request) (values : List X) (ranges others : List Range) →
      AllocatesEachWith old requests values ranges new → AllocatesEachWith old requests values others later → (ranges ≡ others) × (new ≡ later)
  pub freed : (old new later : MapState X) (r : Range) (answer other : Result X Error) →
      FreesWith old r answer new → FreesWith old r other later → (answer ≡ other) × (new ≡ later)
  pub moved : (old new later : MapState X) (q : Range) (request : Request) (answer other : Result Range Error) →
      answer ≢ Err OutOfMemory → other ≢ Err OutOfMemory →
      MovesWith old q request answer new → MovesWith old q request other later → (answer ≡ other) × (new ≡ later)
  pub got : (state : MapState X) (x : ℕ) (answer other : Option (Range × X)) → IsMapState state →
      IsValueAt state x answer → IsValueAt state x other → answer ≡ other
  pub set : (old new later : MapState X) (x : ℕ) (value : X) (answer other : Result X X) → IsMapState old →
      SetsValue old x value answer new → SetsValue old x value other later → (answer ≡ other) × (new ≡ later)

-- If equal values are the same, two maps are equal if and only if their states are the same.
abbrev pub EqualMapsAreTheSame : Type 0 → Type 0
EqualMapsAreTheSame X =
    (eq : X → X → Bool) → ((v w : X) → IsTrue (eq v w) ↔ (v ≡ w)) → (a b : MapState X) → IsMapState a → IsMapState b →
    IsTrue (same_maps eq a b) ↔ (a ≡ b)

-- If a clone is the same value, the copy of a table is the same table.
abbrev pub CopiesAreTheSame : {X : Type 0} → (X → X → Type 0) → Type 0
CopiesAreTheSame {X} clones =
    ((v w : X) → clones v w → w ≡ v) → (values copy : map.FinMap nat_cmp X) → AreCopies clones values copy → copy ≡ values
