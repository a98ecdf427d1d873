-- Allocated ranges with a value each, and the results of the calls of their map.
use Rattle.std.specs.Prelude.{◌≡◌, ◌≢◌, ℕ, ◌⊎◌, ◌↔◌, List, [], ◌∷◌, Some, None, IsSome, Option, MatchOption, Result, Ok, Err, MatchResult}
use Rattle.std.specs.List.{Contains}
use Rattle.std.specs.Ordering.{nat_cmp}
use Rattle.std.specs.FinMap as map
use Rattle.vm_ranges.specs.Cases.{IfElse}
use Rattle.vm_ranges.specs.Range.{Range, IsIn, IsInNone}
use Rattle.vm_ranges.specs.Request.{Request}
use Rattle.vm_ranges.specs.declared.error.Error.{Error}
use Rattle.vm_ranges.specs.declared.error.ListError.{ListError}
use Rattle.vm_ranges.specs.declared.error.Error.TheVariants.{ResourceNotAvailable, OutOfMemory}
use Rattle.vm_ranges.specs.Address.{AddressState, IsAddressState, holding, releasing}
use Rattle.vm_ranges.specs.Answer.{Allocates, Makes}
use Rattle.vm_addresses.specs.Held.{MakesWithHeld}
use Rattle.vm_addresses.specs.Moves.{MovesRange}
use Rattle.vm_addresses.specs.Several.{AllocatesEach, FailsAtIndex}

-- The state of a map: its space, and the value of each held range by the start of the range.
pub record MapState (X : Type 0) : Type 0 where
  pub space : AddressState
  pub values : map.FinMap nat_cmp X

-- A held range starts at s.
abbrev pub IsHeldStart : AddressState → ℕ → Type 0
IsHeldStart space s = (r : Range) × Contains space.held r × (r.start ≡ s)

-- The state that a space and a table of values represent.
abbrev pub map_of : {X : Type 0} → AddressState → map.FinMap nat_cmp X → MapState X
map_of space values = record { space = space; values = values }

-- The state is valid: its space is valid, and there is a value at s if and only if a held range starts at s.
pub record IsMapState {X : Type 0} (state : MapState X) : Type 0 where
  pub space : IsAddressState state.space
  pub starts : (s : ℕ) → IsSome (map.get state.values s) ↔ IsHeldStart state.space s

-- The range r is held, and has this value.
abbrev pub HasValue : {X : Type 0} → MapState X → Range → X → Type 0
HasValue state r value = Contains state.space.held r × (map.get state.values r.start ≡ Some value)

-- The state after the range r is allocated with a value.
abbrev pub with_range : {X : Type 0} → Range → X → MapState X → MapState X
with_range r value state = map_of (holding r state.space) (map.insert state.values r.start value)

-- The state after the range r is freed.
abbrev pub without_range : {X : Type 0} → Range → MapState X → MapState X
without_range r state = map_of (releasing r state.space) (map.remove state.values r.start)

-- The state after the value of the held range r is replaced.
abbrev pub with_value : {X : Type 0} → Range → X → MapState X → MapState X
with_value r value state = map_of state.space (map.insert state.values r.start value)

-- The state after the range q is freed, and the range r is allocated with a value.
abbrev pub with_moved : {X : Type 0} → Range → Range → X → MapState X → MapState X
with_moved q r value state = with_range r value (without_range q state)

-- The copy has the same starts, and a clone of each value.
abbrev pub AreCopies : {X : Type 0} → (X → X → Type 0) → map.FinMap nat_cmp X → map.FinMap nat_cmp X → Type 0
AreCopies {X} clones values copy =
    (s : ℕ) → MatchOption (map.get values s) (map.get copy s ≡ None) (λ v. (w : X) × (map.get copy s ≡ Some w) × clones v w)

-- The table after each range of a list gets its value.
abbrev pub with_values : {X : Type 0} → map.FinMap nat_cmp X → List Range → List X → map.FinMap nat_cmp X
with_values values [] vs = values
with_values values (r ∷ rs) [] = values
with_values values (r ∷ rs) (v ∷ vs) = map.insert (with_values values rs vs) r.start v

-- The space with these values, or the error that there is no space.
abbrev pub with_table : {X : Type 0} → map.FinMap nat_cmp X → Result AddressState Error → Result (MapState X) Error
with_table values (Ok space) = Ok (map_of space values)
with_table values (Err e) = Err e

-- The result of `new` for the size addresses starting at base: that of the allocator, and no values.
unfoldable pub MakesMap : {X : Type 0} → ℕ → ℕ → Result (MapState X) Error → Type 0
MakesMap base size answer = (space : Result AddressState Error) × Makes base size space × (answer ≡ with_table map.empty space)

-- The result of `with_held`: that of the allocator, and each held range has its value.
unfoldable pub MakesMapWithHeld : {X : Type 0} → ℕ → ℕ → List Range → List X → Result (MapState X) Error → Type 0
MakesMapWithHeld base size held values answer =
    (space : Result AddressState Error) × MakesWithHeld base size held space
    × (answer ≡ with_table (with_values map.empty held values) space)

-- The allocated range gets the value, or the result is OutOfMemory. If no range is allocated, the result is the error of the
-- request. An error changes nothing.
abbrev pub GivesValue : {X : Type 0} → MapState X → X → Result Range Error → Result Range Error → MapState X → Type 0
GivesValue old value (Err e) answer new = (answer ≡ Err e) × (new ≡ old)
GivesValue old value (Ok r) answer new =
    ((answer ≡ Ok r) × (new ≡ with_range r value old))
    ⊎ ((answer ≡ Err OutOfMemory) × (new ≡ old))

-- The result of `allocate`: a range is allocated for the request and gets the value. An error changes nothing.
unfoldable pub AllocatesWith : {X : Type 0} → MapState X → Request → X → Result Range Error → MapState X → Type 0
AllocatesWith old request value answer new =
    (given : Result Range Error) × (space : AddressState)
    × Allocates old.space request given space × GivesValue old value given answer new

-- The ranges that `allocate_all` returns: those of the allocator. Each gets the value of its request, and nothing else changes.
abbrev pub AllocatesEachWith : {X : Type 0} → MapState X → List Request → List X → List Range → MapState X → Type 0
AllocatesEachWith old requests values ranges new =
    AllocatesEach old.space requests ranges new.space × (new.values ≡ with_values old.values ranges values)

-- The error of `allocate_all`: the request that it names fails with it, after the ones before it got their ranges. An error that
-- names none is OutOfMemory.
abbrev pub FailsAsListed : AddressState → List Request → ListError → Type 0
FailsAsListed old requests failure =
    MatchOption failure.index (failure.error ≡ OutOfMemory) (λ index. FailsAtIndex old requests index failure.error)

-- The result of `free`: a held range is freed, and its value is returned. Any other range is ResourceNotAvailable and changes
-- nothing.
unfoldable pub FreesWith : {X : Type 0} → MapState X → Range → Result X Error → MapState X → Type 0
FreesWith {X} old r answer new =
    IfElse (Contains old.space.held r)
    ((value : X) × HasValue old r value × (answer ≡ Ok value) × (new ≡ without_range r old))
    ((answer ≡ Err ResourceNotAvailable) × (new ≡ old))

-- The result of `get`: the held range that contains the address x with its value, or None if no held range contains it.
unfoldable pub IsValueAt : {X : Type 0} → MapState X → ℕ → Option (Range × X) → Type 0
IsValueAt state x answer =
    MatchOption answer (IsInNone state.space.held x)
    (λ found. HasValue state found.0 found.1 × IsIn found.0 x)

-- The result of `set`: the held range that contains the address x gets the value, and its value before is returned. If no held
-- range contains x, the result is the given value and nothing changes.
unfoldable pub SetsValue : {X : Type 0} → MapState X → ℕ → X → Result X X → MapState X → Type 0
SetsValue old x value answer new =
    MatchResult answer
    (λ before. (r : Range) × HasValue old r before × IsIn r x × (new ≡ with_value r value old))
    (λ returned. IsInNone old.space.held x × (returned ≡ value) × (new ≡ old))

-- The value of the range q goes to the range that it moves to, or the result is OutOfMemory, which is possible only for another
-- start. If the range cannot move, the result is the error of the move. An error changes nothing.
abbrev pub MovesValue : {X : Type 0} → MapState X → Range → Result Range Error → Result Range Error → MapState X → Type 0
MovesValue {X} old q (Err e) answer new = (answer ≡ Err e) × (new ≡ old)
MovesValue {X} old q (Ok r) answer new =
    ((value : X) × HasValue old q value × (answer ≡ Ok r) × (new ≡ with_moved q r value old))
    ⊎ ((r.start ≢ q.start) × (answer ≡ Err OutOfMemory) × (new ≡ old))

-- The result of `move_constraint`: the range q moves and keeps its value. An error changes nothing.
unfoldable pub MovesWith : {X : Type 0} → MapState X → Range → Request → Result Range Error → MapState X → Type 0
MovesWith old q request answer new =
    (given : Result Range Error) × (space : AddressState)
    × MovesRange old.space q request given space × MovesValue old q given answer new
