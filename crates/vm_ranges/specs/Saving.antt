-- The results of writing and of reading saved values.
use Rattle.std.specs.Prelude.{◌≡◌, Result, Ok, Err, MatchResult}
use Rattle.serde_json.specs.Data.{Data}
use Rattle.serde_json.specs.View.{view}
use Rattle.serde_json.specs.declared.value.Value.{Value}
use Rattle.vm_ranges.specs.declared.error.Error.{Error}
use Rattle.vm_ranges.specs.declared.error.Error.TheVariants as errors
use Rattle.vm_ranges.specs.declared.saved.ValueError.{ValueError}
use Rattle.vm_ranges.specs.declared.saved.ValueError.TheVariants.{NotAState, OutOfMemory}
use Rattle.vm_ranges.specs.declared.saved.Condition.{Condition}
use Rattle.vm_ranges.specs.declared.saved.SavedError.{SavedError}
use Rattle.vm_ranges.specs.declared.saved.SavedError.TheVariants as saved_errors

-- The result of writing an object: a value that encodes it, or OutOfMemory.
abbrev pub Saves : (Data → Type 0) → Result Value Error → Type 0
Saves States answer = MatchResult answer (λ v. States (view v)) (λ e. e ≡ errors.OutOfMemory)

-- The result of reading a value: the object that it encodes, or NotAState if it encodes none. OutOfMemory is possible
-- only if it encodes an object.
abbrev pub Reads : {X : Type 0} → (X → Type 0) → Result X ValueError → Type 0
Reads States (Ok x) = States x
Reads {X} States (Err NotAState) = ¬ ((x : X) × States x)
Reads {X} States (Err OutOfMemory) = (x : X) × States x

-- The error of reading a value, by the error of reading its parts.
abbrev pub value_error : SavedError → ValueError
value_error (saved_errors.Violated c) = NotAState
value_error saved_errors.OutOfMemory = OutOfMemory

-- The result of reading the parts of an object: the object that they represent, or the condition that they violate if they
-- represent none. OutOfMemory is possible only if they represent an object.
abbrev pub ReadsParts : {X : Type 0} → (X → Type 0) → Condition → Result X SavedError → Type 0
ReadsParts States condition (Ok x) = States x
ReadsParts {X} States condition (Err (saved_errors.Violated c)) = (c ≡ condition) × ¬ ((x : X) × States x)
ReadsParts {X} States condition (Err saved_errors.OutOfMemory) = (x : X) × States x
