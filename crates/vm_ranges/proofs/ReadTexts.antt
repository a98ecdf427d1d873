-- A value that was written as a text is read again.
use Rattle.std.proofs.Common.{◌≡◌, ◌≤◌, List, ℕ, Result, Ok, Err, MatchResult, refl, sym, ◌∙◌}
use Rattle.std.proofs.lemmas.Option.{same_Some}
use Rattle.serde_json.specs.Data.{Data, depth}
use Rattle.serde_json.specs.Errors.{IsMemory}
use Rattle.serde_json.specs.Read.{max_depth}
use Rattle.serde_json.specs.View.{view}
use Rattle.serde_json.specs.declared.error.Code.{Code}
use Rattle.serde_json.specs.declared.error.Code.TheVariants.{Invalid, NumberOutOfRange, OutOfMemory}
use Rattle.serde_json.specs.declared.error.Error.{Error}
use Rattle.serde_json.specs.declared.value.Value.{Value}
use Rattle.vm_ranges.specs.Texts.{IsTextOf, Parses}

-- An error code is OutOfMemory if it is not different from it.
is_memory : (c : Code) → ¬ ¬ (c ≡ OutOfMemory) → c ≡ OutOfMemory
is_memory Invalid h = absurd (h (λ e. cc))
is_memory NumberOutOfRange h = absurd (h (λ e. cc))
is_memory OutOfMemory h = refl

-- The text of a value that nests at most max_depth deep is parsed to this value, unless memory runs out.
pub parsed_again : (text : List ℕ) (d : Data) (parsed : Result Value Error) → depth d ≤ max_depth → IsTextOf text d → Parses text parsed →
    MatchResult parsed (λ v. view v ≡ d) IsMemory
parsed_again text d (Ok v) n w p = same_Some (view v) d (sym p ∙ w n)
parsed_again text d (Err e) n w p = is_memory e.code (λ no. let none = p no in let some = w n in cc)
