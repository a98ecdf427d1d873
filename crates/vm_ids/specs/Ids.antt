-- The state of an id allocator, and the result of each of its calls. An id is *held* if it is allocated and was not
-- freed since.
use Rattle.std.specs.Prelude.{
  ◌≡◌,
  ℕ,
  ◌+◌,
  ◌-◌,
  ◌<◌,
  ◌≤◌,
  ◌⊎◌,
  not,
  nat_le,
  ◌&&◌,
  if◌then◌else◌,
  max,
  List,
  Option,
  Some,
  None,
  unwrap_or,
  IsTrue,
  Result,
  Ok,
  Err,
  refl,
}
use Rattle.std.specs.List.{filter, range_with_len}
use Rattle.std.specs.Ordering.{nat_cmp}
use Rattle.std.specs.Coded.{Coded, code_by, coded×, coded_ℕ}
use Rattle.std.specs.BTreeSet.{BTreeSet, contains}
use Rattle.std.specs.FinSet as set
use Rattle.vm_ranges.specs.Cases.{IfElse, Unless}
use Rattle.vm_ranges.specs.declared.error.Error.{Error}
use Rattle.vm_ranges.specs.declared.error.Error.TheVariants.{
  Overflow,
  OutOfRange,
  AlreadyReleased,
  NeverAllocated,
  ResourceNotAvailable,
  InvalidRange,
  OutOfMemory,
}

-- The highest id, u32::MAX.
abbrev pub MAX_ID : ℕ
MAX_ID = 0xffff_ffff

-- The range from lo to hi, and the held ids. The ids of the range below the bound were allocated at some time.
pub record IdState : Type 0 where
  pub lo : ℕ
  pub hi : ℕ
  pub bound : ℕ
  pub held : set.FinSet nat_cmp

-- Proof: encodes the state as the tuple of its fields.
abbrev pub id_state_code : Coded IdState
id_state_code =
    code_by (ℕ × (ℕ × (ℕ × set.FinSet nat_cmp)))
    (coded× coded_ℕ (coded× coded_ℕ (coded× coded_ℕ (set.code coded_ℕ))))
    (λ s. (s.lo, (s.hi, (s.bound, s.held))))
    (λ p. record { lo = p.0; hi = p.1.0; bound = p.1.1.0; held = p.1.1.1 })
    (λ _. refl)

-- The id i is in the range.
abbrev pub IsOfRange : IdState → ℕ → Type 0
IsOfRange state i = (state.lo ≤ i) × (i ≤ state.hi)

-- The id i was allocated at some time.
abbrev pub WasEverAllocated : IdState → ℕ → Type 0
WasEverAllocated state i = (state.lo ≤ i) × (i < state.bound)

-- The id i is held.
abbrev pub IsHeld : IdState → ℕ → Type 0
IsHeld state i = IsTrue (set.contains state.held i)

-- The number of held ids.
abbrev pub held_count : IdState → ℕ
held_count state = set.len state.held

-- The held ids, in ascending order.
abbrev pub held_ids : IdState → List ℕ
held_ids state = filter (λ i. set.contains state.held i) (range_with_len state.lo (state.bound - state.lo))

-- The held ids from `first` to `last`, in ascending order.
abbrev pub held_ids_in : ℕ → ℕ → IdState → List ℕ
held_ids_in first last state = filter (λ i. nat_le first i && nat_le i last) (held_ids state)

-- The ids that were allocated at some time and are not held, in ascending order.
abbrev pub freed_ids : IdState → List ℕ
freed_ids state = filter (λ i. not (set.contains state.held i)) (range_with_len state.lo (state.bound - state.lo))

-- The lowest id that was never allocated, or None if it would be past MAX_ID.
abbrev pub next_id_of : IdState → Option ℕ
next_id_of state = if nat_le state.bound MAX_ID then Some state.bound else None

-- The id i is in the range and not held.
abbrev pub IsNotHeld : IdState → ℕ → Type 0
IsNotHeld state i = IsOfRange state i × ¬ IsHeld state i

-- The id i is the lowest id of the range that is not held.
unfoldable pub IsLowestNotHeld : IdState → ℕ → Type 0
IsLowestNotHeld state i = IsNotHeld state i × ((j : ℕ) → IsNotHeld state j → i ≤ j)

-- All ids of the range are held.
unfoldable pub AreAllHeld : IdState → Type 0
AreAllHeld state = (i : ℕ) → IsOfRange state i → IsHeld state i

-- The state is valid: the range is not empty, the bound is in it or one past it, and only ids that were allocated at
-- some time are held.
pub record IsIdState (state : IdState) : Type 0 where
  pub range : state.lo ≤ state.hi
  pub ids : state.hi ≤ MAX_ID
  pub bound : (state.lo ≤ state.bound) × (state.bound ≤ state.hi + 1)
  pub held : (i : ℕ) → IsHeld state i → WasEverAllocated state i

-- The state of a new allocator: no id was allocated yet.
abbrev pub new_ids : ℕ → ℕ → IdState
new_ids lo hi = record { lo = lo; hi = hi; bound = lo; held = set.empty }

-- The state after the id i is allocated.
abbrev pub holding_id : ℕ → IdState → IdState
holding_id i state = record state { bound = max state.bound (i + 1); held = set.insert state.held i }

-- The state after the id i is freed.
abbrev pub releasing_id : ℕ → IdState → IdState
releasing_id i state = record state { held = set.remove state.held i }

-- The result of `new` for the ids from lo to hi: InvalidRange if hi is below lo, otherwise a new allocator.
unfoldable pub MakesIds : ℕ → ℕ → Result IdState Error → Type 0
MakesIds lo hi answer = IfElse (hi < lo) (answer ≡ Err (InvalidRange lo hi)) (answer ≡ Ok (new_ids lo hi))

-- Either `takes i` is true for the lowest id i that is not held, or all ids are held and `refused` is true for the
-- error. The error is Overflow if the range ends at MAX_ID, otherwise ResourceNotAvailable.
unfoldable pub ByLowestNotHeld : IdState → (ℕ → Type 0) → (Error → Type 0) → Type 0
ByLowestNotHeld state takes refused =
    ((i : ℕ) × IsLowestNotHeld state i × takes i)
    ⊎ (AreAllHeld state × IfElse (state.hi ≡ MAX_ID) (refused Overflow) (refused ResourceNotAvailable))

-- The result of `allocate_id`: the lowest id that is not held is held afterwards. An error changes nothing.
unfoldable pub AllocatesId : IdState → Result ℕ Error → IdState → Type 0
AllocatesId old answer new =
    ByLowestNotHeld old (λ i. (answer ≡ Ok i) × (new ≡ holding_id i old)) (λ e. (answer ≡ Err e) × (new ≡ old))

-- The result of `peek_id`: the result that `allocate_id` would return.
unfoldable pub PeeksId : IdState → Result ℕ Error → Type 0
PeeksId state answer = ByLowestNotHeld state (λ i. answer ≡ Ok i) (λ e. answer ≡ Err e)

-- The result of `free_id`. An error changes nothing. The first condition that is true decides:
-- - OutOfRange if the id is not in the range.
-- - NeverAllocated if the id was never allocated.
-- - AlreadyReleased if the id is not held.
-- - Otherwise the id is freed, or the result is OutOfMemory.
unfoldable pub FreesId : IdState → ℕ → Result ℕ Error → IdState → Type 0
FreesId old i answer new =
    let refused : Error → Type 0 = λ e. (answer ≡ Err e) × (new ≡ old) in
    Unless (IsOfRange old i) (refused (OutOfRange i)) (
    Unless (WasEverAllocated old i) (refused (NeverAllocated i)) (
    Unless (IsHeld old i) (refused (AlreadyReleased i))
    (((answer ≡ Ok i) × (new ≡ releasing_id i old)) ⊎ refused OutOfMemory)))

-- The bound of the ids that were allocated at some time: the next id, or one past the range if there is no next id.
abbrev pub bound_of : Option ℕ → ℕ → ℕ
bound_of next hi = unwrap_or next (hi + 1)

-- The ids from lo up to below the bound, without the freed ids.
unfoldable pub unfreed_ids : ℕ → ℕ → BTreeSet ℕ → set.FinSet nat_cmp
unfreed_ids lo bound freed =
    set.difference (set.from_list (range_with_len lo (bound - lo))) (set.from_list freed.keys)

-- The state that the fields of an allocator represent: its range, its next id and its freed ids.
unfoldable pub ids_of : ℕ → ℕ → Option ℕ → BTreeSet ℕ → IdState
ids_of lo hi next freed =
    record { lo = lo; hi = hi; bound = bound_of next hi; held = unfreed_ids lo (bound_of next hi) freed }

-- The next id if it is in the range, otherwise the error of `allocate_id`.
abbrev pub NextId : Option ℕ → ℕ → Result ℕ Error → Type 0
NextId None hi answer = answer ≡ Err Overflow
NextId (Some n) hi answer = IfElse (hi < n) (answer ≡ Err ResourceNotAvailable) (answer ≡ Ok n)

-- The next id is valid: it is in the range or one past it. It is None only if the range ends at MAX_ID.
abbrev pub IsNext : ℕ → ℕ → Option ℕ → Type 0
IsNext lo hi None = hi ≡ MAX_ID
IsNext lo hi (Some n) = (lo ≤ n) × (n ≤ hi + 1) × (n ≤ MAX_ID)

-- The fields are valid: the range is not empty, the next id is valid, and each freed id was allocated at some time.
pub record AreIds (lo hi : ℕ) (next : Option ℕ) (freed : BTreeSet ℕ) : Type 0 where
  pub range : lo ≤ hi
  pub ids : hi ≤ MAX_ID
  pub next_id : IsNext lo hi next
  pub freed_ids : (i : ℕ) → IsTrue (contains nat_cmp freed i) → (lo ≤ i) × (i < bound_of next hi)
