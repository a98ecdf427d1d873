-- The output of the lines of a text.
use Rattle.std.specs.Prelude.{◌≡◌, ℕ, List, [], ◌∷◌, ◌++◌, Option, Some, IfSome}
use Rattle.vm_commands.specs.Commands.{command_of}
use Rattle.vm_commands.specs.Lines.{newline, lines_of, ended_lines_of}
use Rattle.vm_lines.specs.Machines.{Machine, start, Does}
use Rattle.vm_lines.specs.Replies.{text_of}
use Rattle.vm_lines.specs.declared.reply.Reply.{Reply}

-- On the machine old these lines can have this output, one line for each, and leave the machine new.
abbrev pub AreAnswered : Machine → List (List ℕ) → List ℕ → Machine → Type 0
AreAnswered old [] text new = (text ≡ []) × (new ≡ old)
AreAnswered old (line ∷ lines) text new =
    (reply : Reply) × (mid : Machine) × (rest : List ℕ)
    × Does old (command_of line) reply mid
    × AreAnswered mid lines rest new
    × (text ≡ text_of reply ++ newline ∷ rest)

-- The lines can have this output, beginning with the first machine.
abbrev pub MayAnswer : List (List ℕ) → List ℕ → Type 0
MayAnswer lines text = (end : Machine) × AreAnswered start lines text end

-- An output of the lines was appended to the bytes of the writer.
abbrev pub AppendsAnswers : List (List ℕ) → Option (List ℕ) → Option (List ℕ) → Type 0
AppendsAnswers lines written_old written_new =
    IfSome written_old (λ before. (text : List ℕ) × MayAnswer lines text × (written_new ≡ Some (before ++ text)))

-- All of the input was read, and the output of its lines was written. This is about readers and writers whose bytes are
-- known: the bytes that are left to read, and the bytes that were written.
abbrev pub AnswersInput : Option (List ℕ) → Option (List ℕ) → Option (List ℕ) → Option (List ℕ) → Type 0
AnswersInput left_old left_new written_old written_new =
    IfSome left_old (λ input. (left_new ≡ Some []) × AppendsAnswers (lines_of input) written_old written_new)

-- A prefix of the input was read. Only the output of its lines that a newline ends was written.
abbrev pub AnswersEndedLines : Option (List ℕ) → Option (List ℕ) → Option (List ℕ) → Option (List ℕ) → Type 0
AnswersEndedLines left_old left_new written_old written_new =
    IfSome left_old (λ input. (prefix : List ℕ) × (rest : List ℕ)
    × (input ≡ prefix ++ rest)
    × (left_new ≡ Some rest)
    × AppendsAnswers (ended_lines_of prefix) written_old written_new)
