-- Laws of every history of an id allocator that was made or read.
use Rattle.std.specs.Prelude.{◌≡◌, ℕ, ◌↔◌, List, [], ◌∷◌, ◌++◌, IsTrue, false, Ok}
use Rattle.std.specs.List.{Contains}
use Rattle.std.specs.FinSet as set
use Rattle.serde_json.specs.Data.{Data}
use Rattle.vm_ids.specs.Ids.{IdState, IsHeld, IsLowestNotHeld, IsIdState, AllocatesId}
use Rattle.vm_ranges.specs.Cloning.{Clones}
use Rattle.vm_ids.specs.Values.IdValues.{EncodesIds}
use Rattle.vm_ids.specs.Histories.IdHistories.{IdCall, Free, Clone, IsIdHistoryFrom, AreIdsMade, AreIdsReached, AllocatedTheId, is_allocated_after}

-- An id that `allocate_id` allocates is the lowest id that was not held, and it is held afterwards.
unfoldable pub EachIsLowestNotHeld : Type 0
EachIsLowestNotHeld =
    (calls : List IdCall) (old new : IdState) (id : ℕ) → AreIdsReached calls old →
    AllocatesId old (Ok id) new → IsLowestNotHeld old id × IsHeld new id

-- An id that is allocated twice was freed in between.
unfoldable pub NoIdIsHeldTwice : Type 0
NoIdIsHeldTwice =
    (before between : List IdCall) (first second : IdCall) (state : IdState) (id : ℕ) →
    AllocatedTheId id first → AllocatedTheId id second →
    AreIdsReached (before ++ first ∷ (between ++ second ∷ [])) state → Contains between (Free id, Ok id)

-- An id is held if and only if it was held at first or allocated by a call, and it was not freed since. A new allocator
-- holds no id at first.
pub record HeldIsAllocated : Type 0 where
  pub reached : (calls : List IdCall) (state : IdState) (id : ℕ) (reached : AreIdsReached calls state) →
      IsHeld state id ↔ IsTrue (is_allocated_after id (set.contains reached.first.held id) calls)
  pub made : (calls : List IdCall) (first state : IdState) (id : ℕ) → AreIdsMade first →
      IsIdHistoryFrom first calls state → IsHeld state id ↔ IsTrue (is_allocated_after id false calls)

-- Every reached state is valid: only ids that were allocated at some time are held, and these are the first of the
-- range.
unfoldable pub StatesAreOfIds : Type 0
StatesAreOfIds = (calls : List IdCall) (state : IdState) → AreIdsReached calls state → IsIdState state

-- A clone of a reached allocator is reached, and has the state of its original.
abbrev pub IdCloneIsReached : Type 0
IdCloneIsReached =
    (calls : List IdCall) (old clone : IdState) → AreIdsReached calls old → Clones old (Ok clone) →
    (clone ≡ old) × AreIdsReached (calls ++ (Clone, Ok clone) ∷ []) clone

-- The state of an id allocator that was read is reached without a call.
abbrev pub IdReadIsReached : Type 0
IdReadIsReached = (value : Data) (state : IdState) → EncodesIds value state → AreIdsReached [] state
