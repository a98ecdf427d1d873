-- Histories: lists of calls with their results. The calls of a kind of object are what can be asked of it, the type of the
-- value that each of them returns, and a relation: in the state old a call has its result and leaves the state new.
use Rattle.std.specs.Prelude.{◌≡◌, ◌≢◌, List, [], ◌∷◌, map, Result, Err}
use Rattle.std.specs.List.{All}
use Rattle.vm_ranges.specs.declared.error.Error.{Error}
use Rattle.vm_ranges.specs.declared.error.Error.TheVariants.{OutOfMemory}

-- A call with its result: what is asked, and the value or the error that is returned.
abbrev pub CallOf : {Asked : Type 0} → (Asked → Type 0) → Type 0
CallOf {Asked} Value = (asked : Asked) × Result (Value asked) Error

-- The call returned OutOfMemory.
abbrev pub RunsOutOfMemory : {Asked : Type 0} {Value : Asked → Type 0} → CallOf Value → Type 0
RunsOutOfMemory call = call.1 ≡ Err OutOfMemory

-- The calls lead from the state old to the state new: each begins in the state that the call before it left.
abbrev pub IsHistory : {State Call : Type 0} → (State → Call → State → Type 0) → State → List Call → State → Type 0
IsHistory IsCall old [] new = new ≡ old
IsHistory {State} IsCall old (call ∷ calls) new = (mid : State) × IsCall old call mid × IsHistory IsCall mid calls new

-- An error changes nothing.
abbrev pub ErrorsChangeNothing : {State Asked : Type 0} {Value : Asked → Type 0} →
    (State → CallOf Value → State → Type 0) → Type 0
ErrorsChangeNothing {State} {Asked} {Value} IsCall =
    (old new : State) (asked : Asked) (e : Error) → IsCall old (asked, Err e) new → new ≡ old

-- In every state each call has a result other than OutOfMemory.
abbrev pub EveryCallIsAnswered : {State Asked : Type 0} {Value : Asked → Type 0} →
    (State → CallOf Value → State → Type 0) → Type 0
EveryCallIsAnswered {State} {Asked} {Value} IsCall =
    (old : State) (asked : Asked) →
    (answer : Result (Value asked) Error) × (new : State) × IsCall old (asked, answer) new × (answer ≢ Err OutOfMemory)

-- Every list of calls has a history in which no call returns OutOfMemory.
abbrev pub EveryListHasHistory : {State Asked : Type 0} {Value : Asked → Type 0} →
    (State → CallOf Value → State → Type 0) → Type 0
EveryListHasHistory {State} {Asked} {Value} IsCall =
    (old : State) (asked : List Asked) →
    (calls : List (CallOf Value)) × (new : State) × IsHistory IsCall old calls new ×
    (map (λ call. call.0) calls ≡ asked) × All (λ call. ¬ RunsOutOfMemory call) calls

-- In every state a call has one result and one next state, if it does not return OutOfMemory.
abbrev pub CallsAreDetermined : {State Asked : Type 0} {Value : Asked → Type 0} →
    (State → CallOf Value → State → Type 0) → Type 0
CallsAreDetermined {State} {Asked} {Value} IsCall =
    (old new later : State) (asked : Asked) (answer other : Result (Value asked) Error) →
    answer ≢ Err OutOfMemory → other ≢ Err OutOfMemory →
    IsCall old (asked, answer) new → IsCall old (asked, other) later → (answer ≡ other) × (new ≡ later)

-- The same list of calls in the same state has the same results and the same last state, if no call returns OutOfMemory.
abbrev pub SameCallsSameResults : {State Asked : Type 0} {Value : Asked → Type 0} →
    (State → CallOf Value → State → Type 0) → Type 0
SameCallsSameResults {State} {Asked} {Value} IsCall =
    (old new later : State) (calls others : List (CallOf Value)) →
    IsHistory IsCall old calls new → IsHistory IsCall old others later →
    map (λ call. call.0) calls ≡ map (λ call. call.0) others →
    All (λ call. ¬ RunsOutOfMemory call) calls → All (λ call. ¬ RunsOutOfMemory call) others →
    (calls ≡ others) × (new ≡ later)
