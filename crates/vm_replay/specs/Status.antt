-- The exit status of the program.
use Rattle.std.specs.Prelude.{ℕ, zero, suc, List, Option}
use Rattle.vm_lines.specs.Runs.{AnswersInput, AnswersEndedLines}

-- If the program ends with status 0, it answered all lines of its input. With status 1 it answered those that a newline
-- ends. Nothing is known with status 2, and there is no other. Tests show that only a failed write ends with 2.
abbrev pub HasAnswered : ℕ → Option (List ℕ) → Option (List ℕ) → Option (List ℕ) → Option (List ℕ) → Type 0
HasAnswered zero left_old left_new written_old written_new = AnswersInput left_old left_new written_old written_new
HasAnswered (suc zero) left_old left_new written_old written_new =
    AnswersEndedLines left_old left_new written_old written_new
HasAnswered (suc (suc zero)) left_old left_new written_old written_new = Unit {0}
HasAnswered (suc (suc (suc status))) left_old left_new written_old written_new = ⊥
