-- The results of calls that allocate a given id, an id of a window, or several ids.
use Rattle.std.specs.Prelude.{
  ◌≡◌,
  ℕ,
  ◌+◌,
  ◌-◌,
  ◌<◌,
  ◌≤◌,
  ◌⊎◌,
  ◌||◌,
  not,
  nat_lt,
  if◌then◌else◌,
  List,
  [],
  ◌∷◌,
  length,
  take,
  Option,
  Some,
  None,
  MatchOption,
  Result,
  Ok,
  Err,
}
use Rattle.std.specs.List.{Contains, filter, range_with_len}
use Rattle.std.specs.FinSet as set
use Rattle.vm_ranges.specs.Cases.{IfElse, Unless}
use Rattle.vm_ranges.specs.declared.error.Error.{Error}
use Rattle.vm_ranges.specs.declared.error.Error.TheVariants.{Overflow, OutOfRange, ResourceNotAvailable, InvalidRange, OutOfMemory}
use Rattle.vm_ids.specs.Ids.{MAX_ID, IdState, IsOfRange, WasEverAllocated, IsHeld, IsNotHeld, PeeksId, new_ids, holding_id}
use Rattle.vm_ids.specs.declared.id_request.IdRequest.{IdRequest}
use Rattle.vm_ids.specs.declared.id_request.IdRequest.TheVariants.{Lowest, LowestIn, Exact}

-- The ids of the range that are not held, in ascending order.
abbrev pub free_ids : IdState → List ℕ
free_ids state = filter (λ i. not (set.contains state.held i)) (range_with_len state.lo (state.hi + 1 - state.lo))

-- The state after the ids are allocated one after the other.
abbrev pub holding_ids : List ℕ → IdState → IdState
holding_ids [] state = state
holding_ids (i ∷ is) state = holding_ids is (holding_id i state)

-- The id i was allocated at some time, and freed since.
abbrev pub IsFreed : IdState → ℕ → Type 0
IsFreed state i = WasEverAllocated state i × ¬ IsHeld state i

-- Allocating the id i needs memory: it is past the bound, or both ids next to it are freed.
abbrev pub NeedsMemory : IdState → ℕ → Type 0
NeedsMemory state i = (state.bound < i) ⊎ ((0 < i) × IsFreed state (i - 1) × IsFreed state (i + 1))

-- The id i is allocated, or memory runs out and nothing changes.
unfoldable pub HoldsId : IdState → ℕ → Result ℕ Error → IdState → Type 0
HoldsId old i answer new =
    ((answer ≡ Ok i) × (new ≡ holding_id i old)) ⊎ (NeedsMemory old i × (answer ≡ Err OutOfMemory) × (new ≡ old))

-- The id i is in the range, from first to last, and not held.
abbrev pub IsNotHeldIn : ℕ → ℕ → IdState → ℕ → Type 0
IsNotHeldIn first last state i = (first ≤ i) × (i ≤ last) × IsNotHeld state i

-- The id i is the lowest from first to last that is in the range and not held.
unfoldable pub IsLowestNotHeldIn : ℕ → ℕ → IdState → ℕ → Type 0
IsLowestNotHeldIn first last state i =
    IsNotHeldIn first last state i × ((j : ℕ) → IsNotHeldIn first last state j → i ≤ j)

-- No id from first to last is in the range and not held.
unfoldable pub IsNoneNotHeldIn : ℕ → ℕ → IdState → Type 0
IsNoneNotHeldIn first last state = (i : ℕ) → ¬ IsNotHeldIn first last state i

-- The result of `peek`. For the lowest id, it is the result of `peek_id`. For the ids from first to last, the first
-- condition that is true decides:
-- - InvalidRange if last is below first.
-- - ResourceNotAvailable if no id there is in the range and not held.
-- - Otherwise the lowest of them.
-- For a given id, the first condition that is true decides:
-- - OutOfRange if the id is not in the range.
-- - ResourceNotAvailable if the id is held.
-- - Otherwise the id.
unfoldable pub Peeks : IdState → IdRequest → Result ℕ Error → Type 0
Peeks state Lowest answer = PeeksId state answer
Peeks state (LowestIn first last) answer =
    IfElse (last < first) (answer ≡ Err (InvalidRange first last)) (
    (IsNoneNotHeldIn first last state × (answer ≡ Err ResourceNotAvailable))
    ⊎ ((i : ℕ) × IsLowestNotHeldIn first last state i × (answer ≡ Ok i)))
Peeks state (Exact i) answer =
    Unless (IsOfRange state i) (answer ≡ Err (OutOfRange i)) (
    IfElse (IsHeld state i) (answer ≡ Err ResourceNotAvailable) (answer ≡ Ok i))

-- The result of a call that allocates the id of a request. If `peek` returns an id, it is allocated, or the result is
-- OutOfMemory. If `peek` returns an error, this error is the result. An error changes nothing.
unfoldable pub AllocatesPeeked : IdState → IdRequest → Result ℕ Error → IdState → Type 0
AllocatesPeeked old request answer new =
    ((i : ℕ) × Peeks old request (Ok i) × HoldsId old i answer new)
    ⊎ ((e : Error) × Peeks old request (Err e) × (answer ≡ Err e) × (new ≡ old))

-- The result of `allocate_exact`.
abbrev pub AllocatesExactId : IdState → ℕ → Result ℕ Error → IdState → Type 0
AllocatesExactId old i answer new = AllocatesPeeked old (Exact i) answer new

-- The result of `allocate_in` for the ids from first to last.
abbrev pub AllocatesIdIn : IdState → ℕ → ℕ → Result ℕ Error → IdState → Type 0
AllocatesIdIn old first last answer new = AllocatesPeeked old (LowestIn first last) answer new

-- The result of `allocate_ids`. An error changes nothing. If fewer than `count` ids are free, the error is the one of
-- `allocate_id` if all ids are held. Otherwise the `count` lowest free ids are allocated, or the result is OutOfMemory.
unfoldable pub AllocatesIds : IdState → ℕ → Result (List ℕ) Error → IdState → Type 0
AllocatesIds old count answer new =
    let refused : Error → Type 0 = λ e. (answer ≡ Err e) × (new ≡ old) in
    IfElse (length (free_ids old) < count)
    (IfElse (old.hi ≡ MAX_ID) (refused Overflow) (refused ResourceNotAvailable))
    (((answer ≡ Ok (take count (free_ids old))) × (new ≡ holding_ids (take count (free_ids old)) old))
    ⊎ ((0 < count) × refused OutOfMemory))

-- The error of the first id that is wrong, or None. An id is wrong if it is not in the range from lo to hi, or is below
-- `next`, which is one past the id before it.
abbrev pub fault_of_held : ℕ → ℕ → ℕ → List ℕ → Option Error
fault_of_held lo hi next [] = None
fault_of_held lo hi next (i ∷ is) =
    if nat_lt i lo || nat_lt hi i then Some (OutOfRange i)
    else if nat_lt i next then Some ResourceNotAvailable
    else fault_of_held lo hi (i + 1) is

-- The list skips an id: an id from lo up to an id of the list is not in the list.
pub record SkipsId (lo : ℕ) (held : List ℕ) : Type 0 where
  pub skipped : ℕ
  pub above : ℕ
  pub between : (lo ≤ skipped) × (skipped < above)
  pub listed : Contains held above
  pub not_listed : ¬ Contains held skipped

-- The result of `with_held` for the ids from lo to hi. The first condition that is true decides:
-- - InvalidRange if hi is below lo.
-- - The error of the first id that is wrong.
-- - Otherwise the ids are allocated in a new allocator, or the result is OutOfMemory. A list that skips no id needs no
--   memory.
unfoldable pub MakesWithHeldIds : ℕ → ℕ → List ℕ → Result IdState Error → Type 0
MakesWithHeldIds lo hi held answer =
    IfElse (hi < lo) (answer ≡ Err (InvalidRange lo hi))
    (MatchOption (fault_of_held lo hi lo held)
    ((answer ≡ Ok (holding_ids held (new_ids lo hi))) ⊎ (SkipsId lo held × (answer ≡ Err OutOfMemory)))
    (λ e. answer ≡ Err e))
