-- Facts by cases, if the first condition that is true decides.
use Rattle.std.specs.Prelude.{◌⊎◌, Bool, MatchBool}

-- The condition and `then` are true, or the condition is false and `otherwise` is true.
abbrev pub IfElse : Type 0 → Type 0 → Type 0 → Type 0
IfElse condition then otherwise = (condition × then) ⊎ (¬ condition × otherwise)

-- The condition is false and `then` is true, or the condition and `otherwise` are true.
abbrev pub Unless : Type 0 → Type 0 → Type 0 → Type 0
Unless condition then otherwise = (¬ condition × then) ⊎ (condition × otherwise)

-- The test is true if and only if the fact is true.
abbrev pub IsTestOf : Bool → Type 0 → Type 0
IsTestOf test fact = MatchBool test fact (¬ fact)
