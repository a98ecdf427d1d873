-- Every call of an id allocator has a result, so every list of calls has a history.
use Rattle.std.proofs.Common.{
  ◌≡◌,
  ◌≢◌,
  ℕ,
  ◌+◌,
  ◌<◌,
  ◌≤◌,
  ◌⊎◌,
  ◌&&◌,
  eqb,
  leb,
  ltb,
  not,
  if◌then◌else◌,
  List,
  [],
  ◌∷◌,
  length,
  take,
  refl,
  arith,
  inl,
  inr,
  ⊎_elim,
  Option,
  Some,
  None,
  Result,
  Ok,
  Err,
}
use Rattle.std.proofs.lemmas.Bool.{cases_lt}
use Rattle.std.specs.Option.{MatchOption}
use Rattle.std.specs.FinSet as set
use Rattle.vm_ids.specs.Ids.{
  MAX_ID,
  IdState,
  IsNotHeld,
  IsLowestNotHeld,
  AreAllHeld,
  new_ids,
  holding_id,
  releasing_id,
  MakesIds,
  ByLowestNotHeld,
  AllocatesId,
  PeeksId,
  FreesId,
}
use Rattle.vm_ids.specs.declared.id_request.IdRequest.{IdRequest}
use Rattle.vm_ids.specs.declared.id_request.IdRequest.TheVariants.{Lowest, LowestIn, Exact}
use Rattle.vm_ids.specs.IdRequests.{
  Peeks,
  free_ids,
  holding_ids,
  HoldsId,
  AllocatesPeeked,
  IsNotHeldIn,
  IsLowestNotHeldIn,
  IsNoneNotHeldIn,
  AllocatesIds,
  fault_of_held,
  SkipsId,
  MakesWithHeldIds,
}
use Rattle.vm_ranges.specs.Histories.{EveryCallIsAnswered, EveryListHasHistory}
use Rattle.vm_ranges.proofs.Histories.{every_list}
use Rattle.vm_ids.specs.Histories.IdHistories.{Allocate, AllocateExact, AllocateIn, AllocateSeveral, Free, Clone, IsIdCallFrom}
use Rattle.vm_ids.specs.Facts.{EveryIdCallIsAnswered}
use Rattle.vm_ranges.specs.declared.error.Error.{Error}
use Rattle.vm_ranges.specs.declared.error.Error.TheVariants.{
  OutOfMemory,
  Overflow,
  ResourceNotAvailable,
  InvalidRange,
  OutOfRange,
  NeverAllocated,
  AlreadyReleased,
}
use Rattle.vm_ranges.proofs.Decisions.{Decided, lowest_or_none}

-- ---- The lowest id that is not held
decided_not_held : (state : IdState) (i : ℕ) → Decided (IsNotHeld state i)
decided_not_held state i = grind arith

decided_within : (first last : ℕ) (state : IdState) (i : ℕ) → Decided (IsNotHeldIn first last state i)
decided_within first last state i = grind arith

-- Either an id is the lowest that is not held, or all ids are held.
pub lowest_or_all : (state : IdState) → ((i : ℕ) × IsLowestNotHeld state i) ⊎ AreAllHeld state
unfolding IsLowestNotHeld AreAllHeld
lowest_or_all state =
    ⊎_elim (λ none. inr (λ i r. grind (arith, none i))) (λ found. inl (found.0, (found.1, found.2)))
    (lowest_or_none (IsNotHeld state) (decided_not_held state) (state.hi + 1))

-- ---- Each call has a result
-- A call has a result other than OutOfMemory.
abbrev Answered : {A : Type 0} → (Result A Error → IdState → Type 0) → Type 0
Answered {A} IsAnswer = (answer : Result A Error) × (new : IdState) × IsAnswer answer new × (answer ≢ Err OutOfMemory)

-- The error if no id is free.
none_free : IdState → Error
none_free state = if eqb state.hi MAX_ID then Overflow else ResourceNotAvailable

total_allocates : (old : IdState) → Answered (AllocatesId old)
unfolding AllocatesId ByLowestNotHeld none_free
total_allocates old =
    ⊎_elim
    (λ (found : (i : ℕ) × IsLowestNotHeld old i).
    (Ok found.0, holding_id found.0 old, inl (found.0, found.1, (refl, refl)), λ h. absurd (cc h)))
    (λ (all : AreAllHeld old). (Err (none_free old), old, inr (all, grind arith), grind arith))
    (lowest_or_all old)

total_peeks : (state : IdState) → (answer : Result ℕ Error) × PeeksId state answer × (answer ≢ Err OutOfMemory)
unfolding PeeksId ByLowestNotHeld none_free
total_peeks state =
    ⊎_elim
    (λ (found : (i : ℕ) × IsLowestNotHeld state i). (Ok found.0, inl (found.0, found.1, refl), λ h. absurd (cc h)))
    (λ (all : AreAllHeld state). (Err (none_free state), inr (all, grind arith), grind arith))
    (lowest_or_all state)

free_of : IdState → ℕ → Result ℕ Error × IdState
free_of old id =
    if not (leb old.lo id && leb id old.hi) then (Err (OutOfRange id), old) else
    if not (ltb id old.bound) then (Err (NeverAllocated id), old) else
    if not (set.contains old.held id) then (Err (AlreadyReleased id), old) else (Ok id, releasing_id id old)

total_frees : (old : IdState) (id : ℕ) → Answered (FreesId old id)
unfolding FreesId free_of
total_frees old id = let r = free_of old id in (r.0, r.1, grind arith, grind arith)

total_makes : (lo hi : ℕ) → (answer : Result IdState Error) × MakesIds lo hi answer × (answer ≢ Err OutOfMemory)
unfolding MakesIds
total_makes lo hi = (if ltb hi lo then Err (InvalidRange lo hi) else Ok (new_ids lo hi), grind arith, grind arith)

exact_of : IdState → ℕ → Result ℕ Error
exact_of state id =
    if not (leb state.lo id && leb id state.hi) then Err (OutOfRange id) else
    if set.contains state.held id then Err ResourceNotAvailable else Ok id

total_peeks_for : (state : IdState) (request : IdRequest) → (answer : Result ℕ Error) × Peeks state request answer × (answer ≢ Err OutOfMemory)
unfolding Peeks IsLowestNotHeldIn IsNoneNotHeldIn exact_of
total_peeks_for state Lowest = total_peeks state
total_peeks_for state (LowestIn first last) =
    ⊎_elim
    (λ (below : last < first). (Err (InvalidRange first last), inl (below, refl), λ h. absurd (cc h)))
    (λ (order : first ≤ last).
    ⊎_elim
    (λ none. (Err ResourceNotAvailable, inr (λ h. omega arith, inl (λ i h. grind (arith, none i), refl)), λ h. absurd (cc h)))
    (λ found. (Ok found.0, inr (λ h. omega arith, inr (found.0, (found.1, found.2), refl)), λ h. absurd (cc h)))
    (lowest_or_none (IsNotHeldIn first last state) (decided_within first last state) (last + 1)))
    (cases_lt last first)
total_peeks_for state (Exact id) = (exact_of state id, grind arith, grind arith)

-- If memory suffices, a call that allocates the id of a request has the result of `peek`.
as_if_peeked : (old : IdState) (request : IdRequest) (peeked : Result ℕ Error) → Peeks old request peeked → peeked ≢ Err OutOfMemory →
    Answered (AllocatesPeeked old request)
unfolding AllocatesPeeked HoldsId
as_if_peeked old request (Ok id) p n = (Ok id, holding_id id old, inl (id, p, inl (refl, refl)), n)
as_if_peeked old request (Err e) p n = (Err e, old, inr (e, p, refl, refl), n)

total_allocates_peeked : (old : IdState) (request : IdRequest) → Answered (AllocatesPeeked old request)
total_allocates_peeked old request = let a = total_peeks_for old request in as_if_peeked old request a.0 a.1 a.2

several_of : IdState → ℕ → Result (List ℕ) Error × IdState
several_of old count =
    if ltb (length (free_ids old)) count then (Err (none_free old), old) else
    (Ok (take count (free_ids old)), holding_ids (take count (free_ids old)) old)

total_several : (old : IdState) (count : ℕ) → Answered (AllocatesIds old count)
unfolding AllocatesIds several_of none_free
total_several old count = let r = several_of old count in (r.0, r.1, grind arith, grind arith)

-- The error of a wrong id is not OutOfMemory.
plain_fault : (lo hi next : ℕ) (held : List ℕ) → fault_of_held lo hi next held ≢ Some OutOfMemory
plain_fault lo hi next [] = λ h. absurd (cc h)
plain_fault lo hi next (i ∷ is) = grind (arith, plain_fault lo hi (i + 1) is)

by_fault : (lo hi : ℕ) (held : List ℕ) (o : Option Error) → o ≢ Some OutOfMemory →
    (answer : Result IdState Error) × MatchOption o
    ((answer ≡ Ok (holding_ids held (new_ids lo hi))) ⊎ (SkipsId lo held × (answer ≡ Err OutOfMemory))) (λ e. answer ≡ Err e)
    × (answer ≢ Err OutOfMemory)
by_fault lo hi held None n = (Ok (holding_ids held (new_ids lo hi)), inl refl, λ h. absurd (cc h))
by_fault lo hi held (Some e) n = (Err e, refl, grind arith)

total_makes_with_held : (lo hi : ℕ) (held : List ℕ) →
    (answer : Result IdState Error) × MakesWithHeldIds lo hi held answer × (answer ≢ Err OutOfMemory)
unfolding MakesWithHeldIds
total_makes_with_held lo hi held =
    ⊎_elim
    (λ (no_range : hi < lo). (Err (InvalidRange lo hi), inl (no_range, refl), λ h. absurd (cc h)))
    (λ (range : lo ≤ hi). let m = by_fault lo hi held (fault_of_held lo hi lo held) (plain_fault lo hi lo held) in
    (m.0, inr (λ h. omega arith, m.1), m.2))
    (cases_lt hi lo)

total_call : EveryCallIsAnswered IsIdCallFrom
total_call old Allocate = total_allocates old
total_call old (AllocateExact id) = total_allocates_peeked old (Exact id)
total_call old (AllocateIn first last) = total_allocates_peeked old (LowestIn first last)
total_call old (AllocateSeveral count) = total_several old count
total_call old (Free id) = total_frees old id
total_call old Clone = (Ok old, old, (inl refl, refl), λ h. absurd (cc h))

pub every_call : EveryIdCallIsAnswered
every_call = record { made = total_makes; made_with_held = total_makes_with_held; peeked = total_peeks_for; called = total_call }

-- ---- Each list of calls has a history
pub every_list_of_ids : EveryListHasHistory IsIdCallFrom
every_list_of_ids = every_list IsIdCallFrom total_call

pub ruleset answers = (every_call, every_list_of_ids)
