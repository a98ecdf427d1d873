-- Laws of the calls that allocate a given id, an id of a window, or several ids, and of allocators that are created with
-- held ids. They follow only from the definitions.
use Rattle.std.specs.Prelude.{◌≡◌, ◌≢◌, ℕ, ◌<◌, ◌≤◌, ◌⊎◌, nat_lt, List, [], ◌∷◌, ◌++◌, length, Result, Ok, Err}
use Rattle.std.specs.List.{filter}
use Rattle.vm_ids.specs.Ids.{MAX_ID, IdState, IsIdState, MakesIds, AllocatesId, FreesId}
use Rattle.vm_ids.specs.IdRequests.{free_ids, Peeks, AllocatesExactId, AllocatesIdIn, AllocatesIds, MakesWithHeldIds}
use Rattle.vm_ids.specs.declared.id_request.IdRequest.{IdRequest}
use Rattle.vm_ranges.specs.declared.error.Error.{Error}
use Rattle.vm_ranges.specs.declared.error.Error.TheVariants.{OutOfMemory}
use Rattle.vm_ids.specs.Facts.{AllocatesFor}

-- Calls of `allocate_id`, one after the other, return these ids.
abbrev pub AllocatesInTurn : IdState → List ℕ → IdState → Type 0
AllocatesInTurn old [] new = new ≡ old
AllocatesInTurn old (i ∷ is) new = (mid : IdState) × AllocatesId old (Ok i) mid × AllocatesInTurn mid is new

-- Calls of `allocate_exact`, one after the other, allocate these ids.
abbrev pub AllocatesExactlyInTurn : IdState → List ℕ → IdState → Type 0
AllocatesExactlyInTurn old [] new = new ≡ old
AllocatesExactlyInTurn old (i ∷ is) new =
    (mid : IdState) × AllocatesExactId old i (Ok i) mid × AllocatesExactlyInTurn mid is new

-- Calls of `free_id`, one after the other, free these ids.
abbrev pub FreesInTurn : IdState → List ℕ → IdState → Type 0
FreesInTurn old [] new = new ≡ old
FreesInTurn old (i ∷ is) new = (mid : IdState) × FreesId old i (Ok i) mid × FreesInTurn mid is new

-- The free ids below the id, in ascending order.
abbrev pub free_ids_below : ℕ → IdState → List ℕ
free_ids_below id state = filter (λ i. nat_lt i id) (free_ids state)

-- `allocate_ids` returns the ids of that many calls of `allocate_id`, and leaves the same state. If too few ids are free,
-- fewer calls succeed, and the next one has the same error.
pub record SeveralAreAsSingle : Type 0 where
  pub taken : (old new : IdState) (count : ℕ) (ids : List ℕ) → IsIdState old →
      AllocatesIds old count (Ok ids) new → AllocatesInTurn old ids new × (length ids ≡ count)
  pub single : (old new : IdState) (ids : List ℕ) → IsIdState old →
      AllocatesInTurn old ids new → AllocatesIds old (length ids) (Ok ids) new
  pub refused : (old new : IdState) (count : ℕ) (e : Error) → IsIdState old → e ≢ OutOfMemory →
      AllocatesIds old count (Err e) new →
      (ids : List ℕ) × (last : IdState) × AllocatesInTurn old ids last × AllocatesId last (Err e) last × (length ids < count)

-- `allocate_exact` leaves the state that calls of `allocate_id` up to the id leave, if all other ids that they allocated
-- are then freed.
abbrev pub ExactIsAsSingle : Type 0
ExactIsAsSingle =
    (old new : IdState) (id : ℕ) → IsIdState old → AllocatesExactId old id (Ok id) new →
    (mid : IdState) × AllocatesInTurn old (free_ids_below id old ++ id ∷ []) mid × FreesInTurn mid (free_ids_below id old) new

-- An id that `allocate_in` allocates is allocated as by `allocate_exact`. If the window contains the range, it is allocated
-- as by `allocate_id`.
pub record WindowsOfIds : Type 0 where
  pub exact : (old new : IdState) (first last id : ℕ) →
      AllocatesIdIn old first last (Ok id) new → AllocatesExactId old id (Ok id) new
  pub whole : (old new : IdState) (first last id : ℕ) → first ≤ old.lo → old.hi ≤ last →
      AllocatesIdIn old first last (Ok id) new → AllocatesId old (Ok id) new

-- `with_held` leaves the state of a new allocator after `allocate_exact` of each id.
abbrev pub HeldIdsAreAsExact : Type 0
HeldIdsAreAsExact =
    (lo hi : ℕ) (held : List ℕ) (first made : IdState) → hi ≤ MAX_ID → MakesIds lo hi (Ok first) →
    MakesWithHeldIds lo hi held (Ok made) → AllocatesExactlyInTurn first held made

-- `peek` returns the result of the call for the request, unless memory runs out.
abbrev pub PeekedIsAllocated : Type 0
PeekedIsAllocated =
    (old new : IdState) (request : IdRequest) (peeked answer : Result ℕ Error) → Peeks old request peeked →
    AllocatesFor old request answer new → (answer ≡ peeked) ⊎ (answer ≡ Err OutOfMemory)
