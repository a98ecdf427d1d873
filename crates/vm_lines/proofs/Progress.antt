-- The state of a session after a prefix of its input.
use Rattle.std.proofs.Common.{
  ◌≡◌,
  ℕ,
  ◌+◌,
  ◌-◌,
  ◌<◌,
  Bool,
  true,
  false,
  List,
  [],
  ◌∷◌,
  ◌++◌,
  length,
  take,
  drop,
  ◌==◌,
  nat_le,
  nat_lt,
  Some,
  None,
  refl,
  sym,
  ap,
  ◌∙◌,
  subst,
  append-nil,
  append_assoc,
  length-append,
  arith,
}
use Rattle.std.specs.Prelude.{if◌then◌else◌, MatchBool, position}
use Rattle.std.proofs.lemmas.Bool.Decides.{nat_tests}
use Rattle.vm_commands.specs.Commands.{command_of, max_line_len}
use Rattle.vm_lines.specs.declared.reply.Reply.{Reply}
use Rattle.vm_commands.specs.Lines.{newline, parts_of, lines_of, ended_lines_of, lines_among, ended_among}
use Rattle.vm_lines.specs.Machines.{Machine, start, Does}
use Rattle.vm_lines.specs.Replies.{text_of}
use Rattle.vm_lines.specs.Runs.{AreAnswered, MayAnswer}
use Rattle.vm_lines.specs.Sessions.{
  Session,
  within_max_len,
  line_after,
  with_more,
  pending_command,
  has_begun,
  EndsLine,
  AnswersParts,
  AnswersPiece,
  AnswersLastLine,
}
use Rattle.vm_lines.proofs.Parts.{glued, some_parts, parts_glued, glued_is, ended_is, lines_are}
use Rattle.vm_commands.proofs.Splitting.{parts_some, parts_none}

-- A copied line after more bytes.
append_more : (line bytes : List ℕ) → line_after (within_max_len line) bytes ≡ within_max_len (line ++ bytes)
append_more line bytes = step (nat_le (length line) max_line_len) refl
  where
    step : (b : Bool) → nat_le (length line) max_line_len ≡ b → line_after (within_max_len line) bytes ≡ within_max_len (line ++ bytes)
    step true e = rw e refl
    step false e = rw (e, length-append line bytes) (grind (arith, nat_tests))

-- The command of a copied line is the command of the line.
pub pending_of_line : (line : List ℕ) → pending_command (within_max_len line) ≡ command_of line
pending_of_line line = step (nat_le (length line) max_line_len) refl
  where
    step : (b : Bool) → nat_le (length line) max_line_len ≡ b → pending_command (within_max_len line) ≡ command_of line
    step true e = rw e (rw e)
    step false e = rw e

-- A line has begun if it is not empty.
begun_of_line : (line : List ℕ) → has_begun (within_max_len line) ≡ nat_lt 0 (length line)
begun_of_line line = step (nat_le (length line) max_line_len) refl
  where
    step : (b : Bool) → nat_le (length line) max_line_len ≡ b → has_begun (within_max_len line) ≡ nat_lt 0 (length line)
    step true e = rw e
    step false e = rw e (grind (arith, nat_tests))

-- One more line.
pub answered_push : (old mid new : Machine) (lines : List (List ℕ)) (line text : List ℕ) (reply : Reply)
    → AreAnswered old lines text mid → Does mid (command_of line) reply new
    → AreAnswered old (lines ++ line ∷ []) (text ++ (text_of reply ++ newline ∷ [])) new
answered_push old mid new [] line text reply r d = (
  reply,
  new,
  [],
  subst (λ s. Does s (command_of line) reply new) r.1 d,
  (refl, refl),
  ap (λ t. t ++ (text_of reply ++ newline ∷ []))
      r.0,
)
answered_push old mid new (x ∷ lines) line text reply r d = (
  r.0,
  r.1,
  r.2 ++ (text_of reply ++ newline ∷ []),
  r.3,
  answered_push r.1 mid new lines line r.2 reply r.4 d,
  ap
      (λ t. t ++ (text_of reply ++ newline ∷ [])) r.5 ∙ append_assoc (text_of r.0) (newline ∷ r.2) (text_of reply ++ newline ∷ []),
)

-- The text is the output of the ended parts, and the session has the last part as the line that has begun.
pub record Holds (parts : List (List ℕ)) (text : List ℕ) (session : Session) : Type 0 where
  pub ended : List (List ℕ)
  pub begun : List ℕ
  pub parts_are : parts ≡ ended ++ begun ∷ []
  pub line : session.line ≡ within_max_len begun
  pub answered : AreAnswered start ended text session.machine

-- The same for the parts of the text that was read.
abbrev pub At : List ℕ → List ℕ → Session → Type 0
At read text session = Holds (parts_of read) text session

-- The session before the first byte.
pub at_start : At [] [] (record { machine = start; line = Some [] })
at_start = record { ended = []; begun = []; parts_are = refl; line = refl; answered = (refl, refl) }

-- One more line ends.
holds_line : (parts : List (List ℕ)) (part text added : List ℕ) (old new : Session) (h : Holds parts text old)
    → EndsLine (with_more old part) added new
    → Holds ((h.ended ++ (h.begun ++ part) ∷ []) ++ [] ∷ []) (text ++ added) new
holds_line parts part text added old new h f =
    let asks = ap (λ l. pending_command (line_after l part)) h.line ∙ ap pending_command (append_more h.begun part)
    ∙ pending_of_line (h.begun ++ part) in
    record {
      ended = h.ended ++ (h.begun ++ part) ∷ [];
      begun = [];
      parts_are = refl;
      line = f.2;
      answered = subst (λ t. AreAnswered start (h.ended ++ (h.begun ++ part) ∷ []) (text ++ t) new.machine) (sym f.3)
          (answered_push start old.machine new.machine h.ended (h.begun ++ part) text f.0 h.answered
          (subst (λ q. Does old.machine q f.0 new.machine) asks f.1));
    }

-- More parts are read.
holds_parts : (others parts : List (List ℕ)) (text added : List ℕ) (old new : Session) → 0 < length others
    → Holds parts text old → AnswersParts old others added new → Holds (glued parts others) (text ++ added) new
holds_parts [] parts text added old new some h f = absurd (omega arith)
holds_parts (last ∷ []) parts text added old new some h f =
    record {
      ended = h.ended;
      begun = h.begun ++ last;
      parts_are = ap (λ ps. glued ps (last ∷ [])) h.parts_are ∙ glued_is h.ended h.begun last [];
      line = ap (λ (s : Session). s.line) f.1 ∙ ap (λ l. line_after l last) h.line ∙ append_more h.begun last;
      answered = rw (f.0, append-nil, ap (λ (s : Session). s.machine) f.1) h.answered;
    }
holds_parts (part ∷ next ∷ others) parts text added old new some h f =
    let ended = h.ended ++ (h.begun ++ part) ∷ [] in
    let line = holds_line parts part text f.1 old f.0 h f.3 in
    let all = holds_parts (next ∷ others) (ended ++ [] ∷ []) (text ++ f.1) f.2 f.0 new (omega arith) line f.4 in
    let behind : glued (ended ++ [] ∷ []) (next ∷ others) ≡ glued parts (part ∷ next ∷ others) =
    glued_is ended [] next others ∙ append_assoc h.ended ((h.begun ++ part) ∷ []) (next ∷ others)
    ∙ sym (ap (λ ps. glued ps (part ∷ next ∷ others)) h.parts_are ∙ glued_is h.ended h.begun part (next ∷ others)) in
    subst (λ t. Holds (glued parts (part ∷ next ∷ others)) t new) (append_assoc text f.1 f.2 ∙ ap (λ t. text ++ t) (sym f.5))
    (subst (λ ps. Holds ps ((text ++ f.1) ++ f.2) new) behind all)

-- One more piece is read.
pub at_feeds : (piece read text added : List ℕ) (old new : Session) → At read text old → AnswersPiece old piece added new
    → At (read ++ piece) (text ++ added) new
at_feeds piece read text added old new a f =
    rw (parts_glued read piece) (holds_parts (parts_of piece) (parts_of read) text added old new (some_parts piece) a f)

-- A piece that begins with the end of a line.
pub feeds_line : (piece : List ℕ) (i : ℕ) (first rest : List ℕ) (old mid new : Session)
    → position (λ byte. byte == newline) piece ≡ Some i → EndsLine (with_more old (take i piece)) first mid
    → AnswersPiece mid (take (length piece - (i + 1)) (drop (i + 1) piece)) rest new → AnswersPiece old piece (first ++ rest) new
feeds_line piece i first rest old mid new e h f =
    let behind = take (length piece - (i + 1)) (drop (i + 1) piece) in
    rw (parts_some piece i e) (cons (take i piece) (parts_of behind) (some_parts behind) h f)
  where
    cons : (part : List ℕ) (parts : List (List ℕ)) → 0 < length parts → EndsLine (with_more old part) first mid
        → AnswersParts mid parts rest new → AnswersParts old (part ∷ parts) (first ++ rest) new
    cons part [] some h f = absurd (omega arith)
    cons part (next ∷ parts) some h f = (mid, first, rest, h, f, refl)

-- A piece in which no line ends.
pub feeds_none : (piece : List ℕ) (old : Session) → position (λ byte. byte == newline) piece ≡ None
    → AnswersPiece old piece [] (with_more old piece)
feeds_none piece old e = rw (parts_none piece e) (refl, refl)

-- After a failed read the output is that of the ended lines.
pub at_fault : (read text : List ℕ) (session : Session) → At read text session → MayAnswer (ended_lines_of read) text
at_fault read text session a = (
  session.machine,
  subst (λ ls. AreAnswered start ls text session.machine) (sym (ap ended_among a.parts_are ∙ ended_is a.ended a.begun))
      a.answered,
)

-- The end of the input, by whether a line has begun.
at_end : (read text added : List ℕ) (session : Session) (b : Bool) (a : At read text session)
    → nat_lt 0 (length a.begun) ≡ b → MatchBool b ((new : Session) × EndsLine (with_more session []) added new) (added ≡ [])
    → MayAnswer (a.ended ++ (if length a.begun == 0 then [] else a.begun ∷ [])) (text ++ added)
at_end read text added session true a e f =
    let some : (length a.begun == 0) ≡ false = grind (arith, nat_tests) in
    let asks = ap (λ l. pending_command (line_after l [])) a.line ∙ ap pending_command (append_more a.begun [])
    ∙ pending_of_line (a.begun ++ []) ∙ ap command_of (append-nil a.begun) in
    rw some (
      f.0.machine,
      subst (λ t. AreAnswered start (a.ended ++ a.begun ∷ []) (text ++ t) f.0.machine) (sym f.1.3)
          (answered_push start session.machine f.0.machine a.ended a.begun text f.1.0 a.answered
          (subst (λ q. Does session.machine q f.1.0 f.0.machine) asks f.1.1)),
    )
at_end read text added session false a e f =
    let none : (length a.begun == 0) ≡ true = grind (arith, nat_tests) in
    rw (none, f, append-nil a.ended, append-nil text) (session.machine, a.answered)

-- At the end of the input the output is that of all lines.
pub at_finish : (read text added : List ℕ) (session : Session) → At read text session → AnswersLastLine session added
    → MayAnswer (lines_of read) (text ++ added)
at_finish read text added session a f =
    subst (λ ls. MayAnswer ls (text ++ added)) (sym (ap lines_among a.parts_are ∙ lines_are a.ended a.begun))
    (at_end read text added session (nat_lt 0 (length a.begun)) a refl
    (subst (λ b. MatchBool b ((new : Session) × EndsLine (with_more session []) added new) (added ≡ []))
    (ap has_begun a.line ∙ begun_of_line a.begun) f))

-- If a line has begun, it ends at the end of the input.
pub answers_last_some : (old new : Session) (text : List ℕ) → has_begun old.line ≡ true → EndsLine (with_more old []) text new →
    AnswersLastLine old text
answers_last_some old new text e h = rw e (new, h)

-- If no line has begun, the end of the input has no output.
pub answers_last_none : (old : Session) → has_begun old.line ≡ false → AnswersLastLine old []
answers_last_none old e = rw e
