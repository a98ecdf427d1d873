-- The result of each call of an address allocator, and the state after it.
use Rattle.std.specs.Prelude.{◌≡◌, ℕ, ◌+◌, ◌-◌, ◌<◌, ◌≤◌, ◌⊎◌, Result, Ok, Err, [], length}
use Rattle.std.specs.List.{Contains}
use Rattle.vm_ranges.specs.Cases.{IfElse, Unless}
use Rattle.vm_ranges.specs.Range.{Range, MAX, IsIn, span}
use Rattle.vm_ranges.specs.Address.{AddressState, AreClear, IsPlace, IsLowestPlace, IsHighestPlace, SplitsGap, holding, releasing}
use Rattle.vm_ranges.specs.Windows.{within}
use Rattle.vm_ranges.specs.Request.{Request, ByPolicy, IsRequest, ByConstraint}
use Rattle.vm_ranges.specs.declared.error.Error.{Error}
use Rattle.vm_ranges.specs.declared.error.Error.TheVariants.{Overflow, ResourceNotAvailable, InvalidStateTransition, Underflow, OutOfMemory}
use Rattle.vm_ranges.specs.declared.state.NodeState.TheVariants.{Allocated}

-- s is the place that the policy of the request chooses in its window.
unfoldable pub IsChosen : Request → AddressState → ℕ → Type 0
IsChosen request state s =
    ByPolicy request.policy
    (IsLowestPlace request.size request.align (within request.window state) s)
    (IsHighestPlace request.size request.align (within request.window state) s)
    (λ start. (s ≡ start) × IsPlace request.size request.align (within request.window state) s)

-- The errors of a request for n addresses that start at t. The first condition that is true decides:
--
-- - Overflow if t is MAX.
-- - ResourceNotAvailable if t is not in the space.
-- - Overflow if the range would end past MAX.
-- - InvalidStateTransition if exactly this range is held.
-- - ResourceNotAvailable if one of its addresses is not clear.
-- - Overflow if it ends at MAX.
-- - Otherwise `otherwise` is true.
--
-- The last two errors also follow from `ByPlace`. They are here so that the list is complete.
unfoldable pub ByStart : ℕ → ℕ → AddressState → (Error → Type 0) → Type 0 → Type 0
ByStart t n state refused otherwise =
    IfElse (t ≡ MAX) (refused Overflow) (
    Unless (IsIn state.space t) (refused ResourceNotAvailable) (
    IfElse (MAX < t + n - 1) (refused Overflow) (
    IfElse (Contains state.held (span t n)) (refused (InvalidStateTransition (span t n) Allocated)) (
    Unless (AreClear n state t) (refused ResourceNotAvailable) (
    IfElse (t + n - 1 ≡ MAX) (refused Overflow) otherwise)))))

-- The errors of `ByStart` in the window of the request, if it has the policy ExactMatch. Other policies have none of these
-- errors.
unfoldable pub ByExactPolicy : Request → AddressState → (Error → Type 0) → Type 0 → Type 0
ByExactPolicy request state refused otherwise =
    ByPolicy request.policy otherwise otherwise (λ start. ByStart start request.size (within request.window state) refused otherwise)

-- The result of a valid request by its place in the window. The first condition that is true decides:
--
-- - ResourceNotAvailable if there is no place.
-- - Overflow if the range at the chosen place ends at MAX.
-- - Otherwise `takes` is true for this range.
unfoldable pub ByPlace : Request → AddressState → (Error → Type 0) → (Range → Type 0) → Type 0
ByPlace request state refused takes =
    (((s : ℕ) → ¬ IsPlace request.size request.align (within request.window state) s) × refused ResourceNotAvailable)
    ⊎ ((s : ℕ) × IsChosen request state s ×
    IfElse (s + request.size - 1 ≡ MAX) (refused Overflow) (takes (span s request.size)))

-- The lowest number of held ranges with which no gap is split, so that no tree gets too high: (F(50) - 1) / 2.
abbrev pub SPLIT_LIMIT_MIN_HELD : ℕ
SPLIT_LIMIT_MIN_HELD = 6_293_134_512

-- The result for the range r, if `counted` ranges count for the limit of splits. An error changes nothing. The first
-- condition that is true decides:
--
-- - r is allocated if it fills its gap.
-- - Overflow if SPLIT_LIMIT_MIN_HELD or more ranges count.
-- - Otherwise r is allocated, or the result is OutOfMemory.
unfoldable pub AllocatesAt : ℕ → AddressState → Range → Result Range Error → AddressState → Type 0
AllocatesAt counted old r answer new =
    let taken : Type 0 = (answer ≡ Ok r) × (new ≡ holding r old) in
    let refused : Error → Type 0 = λ e. (answer ≡ Err e) × (new ≡ old) in
    Unless (SplitsGap old r) taken (
    IfElse (SPLIT_LIMIT_MIN_HELD ≤ counted) (refused Overflow) (taken ⊎ refused OutOfMemory))

-- The result of a valid request, if `counted` ranges count for the limit of splits. An error changes nothing. The first
-- condition that is true decides:
--
-- - The error of `ByStart` if the policy is ExactMatch, and `ByStart` names one.
-- - ResourceNotAvailable if there is no place in the window.
-- - Overflow if the range at the chosen place ends at MAX.
-- - Otherwise the result of `AllocatesAt` for this range.
unfoldable pub Grants : ℕ → AddressState → Request → Result Range Error → AddressState → Type 0
Grants counted old request answer new =
    let refused : Error → Type 0 = λ e. (answer ≡ Err e) × (new ≡ old) in
    ByExactPolicy request old refused (ByPlace request old refused (λ r. AllocatesAt counted old r answer new))

-- The error of an invalid request, or the result of `Grants`. An error changes nothing.
abbrev pub AllocatesOf : ℕ → AddressState → Request → Result Range Error → AddressState → Type 0
AllocatesOf counted old request answer new =
    ByConstraint request (λ e. (answer ≡ Err e) × (new ≡ old)) (Grants counted old request answer new)

-- The result of `allocate`: that of `AllocatesOf` if each held range counts.
unfoldable pub Allocates : AddressState → Request → Result Range Error → AddressState → Type 0
Allocates old request answer new = AllocatesOf (length old.held) old request answer new

-- The request is valid, its chosen place s ends below MAX, and its range fills its gap.
pub record FillsGap (state : AddressState) (request : Request) (s : ℕ) : Type 0 where
  pub valid : IsRequest request
  pub chosen : IsChosen request state s
  pub below : s + request.size - 1 < MAX
  pub fills : ¬ SplitsGap state (span s request.size)

-- The result of `free`: a held range is freed. Any other range is ResourceNotAvailable and changes nothing.
unfoldable pub Frees : AddressState → Range → Result (Unit {0}) Error → AddressState → Type 0
Frees old r answer new =
    IfElse (Contains old.held r)
    ((answer ≡ Ok tt) × (new ≡ releasing r old))
    ((answer ≡ Err ResourceNotAvailable) × (new ≡ old))

-- The result of `new` for size addresses that start at base: Underflow if size is 0, Overflow if they would end past
-- MAX, otherwise a state without held ranges or OutOfMemory.
unfoldable pub Makes : ℕ → ℕ → Result AddressState Error → Type 0
Makes base size answer =
    IfElse (size ≡ 0) (answer ≡ Err Underflow) (
    IfElse (MAX < base + size - 1) (answer ≡ Err Overflow)
    ((answer ≡ Ok (record { space = span base size; held = [] })) ⊎ (answer ≡ Err OutOfMemory)))
