-- Laws of saved values that follow only from the definitions.
use Rattle.std.specs.Prelude.{◌≡◌, ℕ, ◌≤◌, ◌⊎◌, List, length, Result, Ok, Err, MatchResult}
use Rattle.serde_json.specs.Data.{Data}
use Rattle.serde_json.specs.Errors.{IsMemory}
use Rattle.serde_json.specs.View.{view}
use Rattle.serde_json.specs.declared.error.Error as json
use Rattle.serde_json.specs.declared.value.Value.{Value}
use Rattle.vm_ranges.specs.Address.{AddressState}
use Rattle.vm_ranges.specs.Answer.{SPLIT_LIMIT_MIN_HELD}
use Rattle.vm_addresses.specs.Values.AllocatorValues.{EncodesAddresses, EncodesRepaired}
use Rattle.vm_ranges.specs.Saving.{Saves, Reads}
use Rattle.vm_ranges.specs.Texts.{IsTextOf, Parses}
use Rattle.vm_ranges.specs.declared.saved.ValueError.{ValueError}
use Rattle.vm_ranges.specs.declared.saved.ValueError.TheVariants.{OutOfMemory}

-- A value encodes at most one object.
abbrev pub EncodesAtMostOne : {X : Type 0} → (Data → X → Type 0) → Type 0
EncodesAtMostOne {X} States = (d : Data) (first second : X) → States d first → States d second → first ≡ second

-- The value that was written for an object is read as this object, unless memory runs out.
abbrev pub ReadsWritten : {X : Type 0} → (Data → X → Type 0) → Type 0
ReadsWritten {X} States =
    (old : X) (value : Value) (answer : Result X ValueError) →
    Saves (λ d. States d old) (Ok value) → Reads (States (view value)) answer →
    (answer ≡ Ok old) ⊎ (answer ≡ Err OutOfMemory)

-- The text of the value that was written for an object is parsed, and the value of the text is read as this object,
-- unless memory runs out.
abbrev pub ReadsText : {X : Type 0} → (Data → X → Type 0) → Type 0
ReadsText {X} States =
    (old : X) (value : Value) (text : List ℕ) (parsed : Result Value json.Error) →
    Saves (λ d. States d old) (Ok value) → IsTextOf text (view value) → Parses text parsed →
    MatchResult parsed (λ again. (answer : Result X ValueError) → Reads (States (view again)) answer →
    (answer ≡ Ok old) ⊎ (answer ≡ Err OutOfMemory)) IsMemory

-- A value that is read without repairs is read with repairs to the same state, unless memory runs out. At most
-- SPLIT_LIMIT_MIN_HELD ranges are held: a reader with repairs accepts no more.
abbrev pub ReadersAgree : Type 0
ReadersAgree =
    (value : Value) (state : AddressState) (answer : Result AddressState ValueError) →
    Reads (EncodesAddresses (view value)) (Ok state) → length state.held ≤ SPLIT_LIMIT_MIN_HELD →
    Reads (EncodesRepaired (view value)) answer →
    (answer ≡ Ok state) ⊎ (answer ≡ Err OutOfMemory)
