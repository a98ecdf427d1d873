-- Facts about states and calls of ids, which proofs of calls and laws share.
use Rattle.std.specs.List.Sorted.{IsStrictlySortedBy}
use Rattle.std.specs.List.{Contains}
use Rattle.std.specs.Ordering.{nat_cmp}
use Rattle.std.specs.Prelude.{◌≡◌, ◌≢◌, ℕ, ◌⊎◌, List, [], ◌∷◌, ◌++◌, length, Result, Ok, Err, ◌↔◌}
use Rattle.vm_ids.specs.FreedLists.{AreFreedOf, PushesId, MakesOfIds}
use Rattle.vm_ids.specs.Histories.IdHistories.{IsIdCallFrom}
use Rattle.vm_ids.specs.IdRequests.{Peeks, MakesWithHeldIds, AllocatesExactId, AllocatesIdIn}
use Rattle.vm_ids.specs.Ids.{IdState, IsHeld, IsIdState, MakesIds, AllocatesId, freed_ids, next_id_of, ids_of, WasEverAllocated, held_count, held_ids, holding_id, PeeksId}
use Rattle.vm_ids.specs.declared.id_request.IdRequest.TheVariants.{Lowest, LowestIn, Exact}
use Rattle.vm_ids.specs.declared.id_request.IdRequest.{IdRequest}
use Rattle.vm_ranges.specs.Histories.{EveryCallIsAnswered}
use Rattle.vm_ranges.specs.declared.error.Error.TheVariants.{OutOfMemory}
use Rattle.vm_ranges.specs.declared.error.Error.{Error}
use Rattle.vm_ranges.specs.declared.saved.SavedError.{SavedError}
use Rattle.vm_ranges.specs.declared.saved.SavedError.TheVariants as saved_errors

-- In every state each call has a result other than OutOfMemory. So has each creation of an allocator.
pub record EveryIdCallIsAnswered : Type 0 where
  pub made : (lo hi : ℕ) → (answer : Result IdState Error) × MakesIds lo hi answer × (answer ≢ Err OutOfMemory)
  pub made_with_held : (lo hi : ℕ) (held : List ℕ) →
      (answer : Result IdState Error) × MakesWithHeldIds lo hi held answer × (answer ≢ Err OutOfMemory)
  pub peeked : (state : IdState) (request : IdRequest) →
      (answer : Result ℕ Error) × Peeks state request answer × (answer ≢ Err OutOfMemory)
  pub called : EveryCallIsAnswered IsIdCallFrom

-- `peek_id` returns the result of `allocate_id`. An id that it returns is held after `allocate_id`.
pub record PeekingPredicts : Type 0 where
  pub answer : (old new : IdState) (peeked answer : Result ℕ Error) →
      PeeksId old peeked → AllocatesId old answer new → peeked ≡ answer
  pub held : (old new : IdState) (id : ℕ) (answer : Result ℕ Error) →
      PeeksId old (Ok id) → AllocatesId old answer new → (answer ≡ Ok id) × (new ≡ holding_id id old)

-- The id is held in the new state, and was allocated at some time. Nothing else changes.
pub record AddsId (old new : IdState) (id : ℕ) : Type 0 where
  pub range : (new.lo ≡ old.lo) × (new.hi ≡ old.hi)
  pub ever_allocated : (q : ℕ) → WasEverAllocated new q ↔ (WasEverAllocated old q ⊎ (q ≡ id))
  pub held : (q : ℕ) → IsHeld new q ↔ (IsHeld old q ⊎ (q ≡ id))

-- The id is not held in the new state. Nothing else changes.
pub record RemovesId (old new : IdState) (id : ℕ) : Type 0 where
  pub range : (new.lo ≡ old.lo) × (new.hi ≡ old.hi)
  pub ever_allocated : (q : ℕ) → WasEverAllocated new q ↔ WasEverAllocated old q
  pub held : (q : ℕ) → IsHeld new q ↔ (IsHeld old q × (q ≢ id))

-- The list of the held ids contains exactly the held ids, in strictly ascending order. Its length is their number.
pub record HeldIdsAreListed : Type 0 where
  pub listed : (state : IdState) (id : ℕ) → IsIdState state → Contains (held_ids state) id ↔ IsHeld state id
  pub ascending : (state : IdState) → IsStrictlySortedBy nat_cmp (held_ids state)
  pub counted : (state : IdState) → IsIdState state → length (held_ids state) ≡ held_count state

-- The parts of a valid state are read as this state: a writer passes on its range, its next id and its freed ids, one by
-- one. Only the memory for the freed ids can be refused.
pub record WrittenIdsAreRead : Type 0 where
  pub accepted : (state : IdState) → IsIdState state →
      AreFreedOf state.lo state.hi (next_id_of state) (freed_ids state)
  pub same : (state : IdState) → IsIdState state →
      ids_of state.lo state.hi (next_id_of state) (record { keys = freed_ids state }) ≡ state
  pub pushed : (state : IdState) (before after new : List ℕ) (id : ℕ) (answer : Result (Unit {0}) SavedError) →
      freed_ids state ≡ before ++ id ∷ after → PushesId before id answer new →
      ((answer ≡ Ok tt) × (new ≡ before ++ id ∷ [])) ⊎ (answer ≡ Err saved_errors.OutOfMemory)
  pub made : (state : IdState) (answer : Result IdState SavedError) → IsIdState state →
      MakesOfIds state.lo state.hi (next_id_of state) (freed_ids state) answer → answer ≡ Ok state

-- The result of the call for a request.
abbrev pub AllocatesFor : IdState → IdRequest → Result ℕ Error → IdState → Type 0
AllocatesFor old Lowest answer new = AllocatesId old answer new
AllocatesFor old (LowestIn first last) answer new = AllocatesIdIn old first last answer new
AllocatesFor old (Exact id) answer new = AllocatesExactId old id answer new
