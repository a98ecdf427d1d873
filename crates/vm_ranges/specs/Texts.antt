-- Saved values as JSON texts. The writer and the parser are `Value::to_string` and `Value::from_str` of serde_json.
use Rattle.std.specs.Prelude.{◌≡◌, ℕ, ◌≤◌, List, Some, None, Result, MatchResult}
use Rattle.serde_json.specs.Data.{Data, depth}
use Rattle.serde_json.specs.Errors.{IsMemory}
use Rattle.serde_json.specs.Read.{read, max_depth}
use Rattle.serde_json.specs.View.{view}
use Rattle.serde_json.specs.declared.error.Error.{Error}
use Rattle.serde_json.specs.declared.value.Value.{Value}

-- The text that `to_string` writes for the value d. It is read as d if d nests at most max_depth deep.
abbrev pub IsTextOf : List ℕ → Data → Type 0
IsTextOf text d = depth d ≤ max_depth → read text ≡ Some d

-- The result of `from_str`: the value that the text is read as, or an error. Memory runs out, or the text is no value.
abbrev pub Parses : List ℕ → Result Value Error → Type 0
Parses text answer = MatchResult answer (λ v. read text ≡ Some (view v)) (λ e. ¬ IsMemory e → read text ≡ None)
