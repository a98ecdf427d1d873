-- Histories of an id allocator: lists of calls with their results. A history can go on with a clone.
use Rattle.std.specs.Prelude.{◌≡◌, ℕ, ◌≤◌, ◌⊎◌, ◌||◌, Bool, true, false, if◌then◌else◌, nat_eq, List, [], ◌∷◌, Option, Ok, Err, MatchResult}
use Rattle.std.specs.List.{Contains}
use Rattle.std.specs.FinSet as set
use Rattle.std.specs.Ordering.{nat_cmp}
use Rattle.std.specs.Result.{result_unwrap_or}
use Rattle.serde_json.specs.Data.{Data}
use Rattle.vm_ranges.specs.Cloning.{Clones}
use Rattle.vm_ranges.specs.Histories.{CallOf, IsHistory}
use Rattle.vm_ids.specs.Values.IdValues.{EncodesIds}
use Rattle.vm_ids.specs.FreedLists.{MakesOfIds}
use Rattle.vm_ids.specs.Ids.{MAX_ID, IdState, MakesIds, AllocatesId, FreesId}
use Rattle.vm_ids.specs.IdRequests.{AllocatesExactId, AllocatesIdIn, AllocatesIds, MakesWithHeldIds}

-- A call without its result. It allocates the lowest id, a given id, an id of a window or several ids, frees an id, or
-- creates a clone.
pub data IdAsked : Type 0 where
  Allocate : IdAsked
  AllocateExact : ℕ → IdAsked
  AllocateIn : ℕ → ℕ → IdAsked
  AllocateSeveral : ℕ → IdAsked
  Free : ℕ → IdAsked
  Clone : IdAsked

-- The type of the value that a call returns: an id, several ids, or the state of a clone.
abbrev pub IdValue : IdAsked → Type 0
IdValue Allocate = ℕ
IdValue (AllocateExact id) = ℕ
IdValue (AllocateIn first last) = ℕ
IdValue (AllocateSeveral count) = List ℕ
IdValue (Free id) = ℕ
IdValue Clone = IdState

-- A call with its result, for example (Free 5, Ok 5).
abbrev pub IdCall : Type 0
IdCall = CallOf IdValue

-- In the state old the call has its result, and leaves the state new. After a clone is made, new is the state of the
-- clone.
abbrev pub IsIdCallFrom : IdState → IdCall → IdState → Type 0
IsIdCallFrom old (Allocate, answer) new = AllocatesId old answer new
IsIdCallFrom old (AllocateExact id, answer) new = AllocatesExactId old id answer new
IsIdCallFrom old (AllocateIn first last, answer) new = AllocatesIdIn old first last answer new
IsIdCallFrom old (AllocateSeveral count, answer) new = AllocatesIds old count answer new
IsIdCallFrom old (Free id, answer) new = FreesId old id answer new
IsIdCallFrom old (Clone, answer) new = Clones old answer × (new ≡ result_unwrap_or answer old)

-- The calls lead from the state old to the state new: each begins in the state that the call before it left.
abbrev pub IsIdHistoryFrom : IdState → List IdCall → IdState → Type 0
IsIdHistoryFrom = IsHistory IsIdCallFrom

-- The state of a new id allocator.
pub record AreIdsMade (state : IdState) : Type 0 where
  pub lo : ℕ
  pub hi : ℕ
  pub word : hi ≤ MAX_ID
  pub made : MakesIds lo hi (Ok state)

-- The state of an id allocator that was created of a next id and freed ids.
pub record AreIdsMadeOfFreed (state : IdState) : Type 0 where
  pub lo : ℕ
  pub hi : ℕ
  pub next : Option ℕ
  pub freed : List ℕ
  pub made : MakesOfIds lo hi next freed (Ok state)

-- The state of an id allocator that was created of its held ids.
pub record AreIdsMadeOfHeld (state : IdState) : Type 0 where
  pub lo : ℕ
  pub hi : ℕ
  pub held : List ℕ
  pub word : hi ≤ MAX_ID
  pub made : MakesWithHeldIds lo hi held (Ok state)

-- A state that a saved value encodes.
pub record AreIdsRead (state : IdState) : Type 0 where
  pub value : Data
  pub encoded : EncodesIds value state

-- The calls lead to the state from an id allocator that was made or read. The state can be that of a clone.
pub record AreIdsReached (calls : List IdCall) (state : IdState) : Type 0 where
  pub first : IdState
  pub begins : AreIdsMade first ⊎ (AreIdsMadeOfFreed first ⊎ (AreIdsMadeOfHeld first ⊎ AreIdsRead first))
  pub history : IsIdHistoryFrom first calls state

-- The call allocated the id.
abbrev pub AllocatedTheId : ℕ → IdCall → Type 0
AllocatedTheId id (Allocate, answer) = answer ≡ Ok id
AllocatedTheId id (AllocateExact i, answer) = answer ≡ Ok id
AllocatedTheId id (AllocateIn first last, answer) = answer ≡ Ok id
AllocatedTheId id (AllocateSeveral count, answer) = MatchResult answer (λ ids. Contains ids id) (λ e. ⊥)
AllocatedTheId id (Free i, answer) = ⊥
AllocatedTheId id (Clone, answer) = ⊥

-- Whether the id is held after a call. The parameter `before` is whether it was held before the call.
abbrev pub is_held_after : ℕ → Bool → IdCall → Bool
is_held_after id before (asked, Err e) = before
is_held_after id before (Allocate, Ok i) = if nat_eq i id then true else before
is_held_after id before (AllocateExact asked, Ok i) = if nat_eq i id then true else before
is_held_after id before (AllocateIn first last, Ok i) = if nat_eq i id then true else before
is_held_after id before (AllocateSeveral count, Ok ids) = before || set.contains (set.from_list {R = nat_cmp} ids) id
is_held_after id before (Free i, Ok back) = if nat_eq i id then false else before
is_held_after id before (Clone, Ok state) = before

-- Whether the id is held after the calls: `before` is true or a call allocated it, and it was not freed since.
abbrev pub is_allocated_after : ℕ → Bool → List IdCall → Bool
is_allocated_after id before [] = before
is_allocated_after id before (call ∷ calls) = is_allocated_after id (is_held_after id before call) calls
