-- A session between two pieces of its input.
use Rattle.std.specs.Prelude.{◌≡◌, ℕ, if◌then◌else◌, nat_le, nat_lt, List, [], ◌∷◌, ◌++◌, length, Option, Some, None, Bool, true, MatchBool, refl}
use Rattle.std.specs.Coded.{Coded, code_by, coded×, coded_ℕ, coded_list, coded_option}
use Rattle.vm_commands.specs.Commands.{command_of, max_line_len}
use Rattle.vm_commands.specs.declared.command.Command.TheVariants.{Malformed}
use Rattle.vm_commands.specs.Lines.{newline, parts_of}
use Rattle.vm_lines.specs.Machines.{Machine, machine_code, Does}
use Rattle.vm_lines.specs.Replies.{text_of}
use Rattle.vm_commands.specs.declared.command.Command.{Command}
use Rattle.vm_lines.specs.declared.reply.Reply.{Reply}

-- The machine of the lines so far, and the line that has begun, or None if it is too long.
pub record Session : Type 0 where
  pub machine : Machine
  pub line : Option (List ℕ)

-- Proof: encodes a session as the pair of its fields.
abbrev pub session_code : Coded Session
session_code =
    code_by (Machine × Option (List ℕ))
    (coded× machine_code (coded_option (coded_list coded_ℕ)))
    (λ s. (s.machine, s.line))
    (λ p. record { machine = p.0; line = p.1 })
    (λ _. refl)

-- The line, or None if it is too long.
abbrev pub within_max_len : List ℕ → Option (List ℕ)
within_max_len line = if nat_le (length line) max_line_len then Some line else None

-- The line that has begun, after more bytes.
abbrev pub line_after : Option (List ℕ) → List ℕ → Option (List ℕ)
line_after None bytes = None
line_after (Some line) bytes = within_max_len (line ++ bytes)

-- The session, after more bytes of the line that has begun.
abbrev pub with_more : Session → List ℕ → Session
with_more old bytes = record old { line = line_after old.line bytes }

-- The command of the line that has begun.
abbrev pub pending_command : Option (List ℕ) → Command
pending_command None = Malformed
pending_command (Some line) = command_of line

-- Whether a line has begun.
abbrev pub has_begun : Option (List ℕ) → Bool
has_begun None = true
has_begun (Some line) = nat_lt 0 (length line)

-- The line that has begun ends, and this is its output.
abbrev pub EndsLine : Session → List ℕ → Session → Type 0
EndsLine old text new =
    (reply : Reply)
    × Does old.machine (pending_command old.line) reply new.machine
    × (new.line ≡ Some [])
    × (text ≡ text_of reply ++ newline ∷ [])

-- The parts of a piece are read, and this is the output. Each part except the last ends a line.
abbrev pub AnswersParts : Session → List (List ℕ) → List ℕ → Session → Type 0
AnswersParts old [] text new = (text ≡ []) × (new ≡ old)
AnswersParts old (last ∷ []) text new = (text ≡ []) × (new ≡ with_more old last)
AnswersParts old (part ∷ next ∷ parts) text new =
    (mid : Session) × (first : List ℕ) × (rest : List ℕ)
    × EndsLine (with_more old part) first mid
    × AnswersParts mid (next ∷ parts) rest new
    × (text ≡ first ++ rest)

-- A piece is read, and this is the output.
abbrev pub AnswersPiece : Session → List ℕ → List ℕ → Session → Type 0
AnswersPiece old piece text new = AnswersParts old (parts_of piece) text new

-- The input ends, and this is the output of the last line.
abbrev pub AnswersLastLine : Session → List ℕ → Type 0
AnswersLastLine old text = MatchBool (has_begun old.line) ((new : Session) × EndsLine (with_more old []) text new) (text ≡ [])
