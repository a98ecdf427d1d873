-- No variable has the text of the lines so far. So there is one by the invariant. The rest of the piece gets shorter.
use Rattle.std.proofs.Common.{List, ℕ, ◌++◌, ◌≤◌, length}
use Rattle.vm_lines.specs.Sessions.{Session, AnswersPiece}
use Rattle.vm_lines.specs.Moving.{MovesText}
use Rattle.vm_lines.proofs.replay.feed.Given as goal

-- The output of the lines so far is written or in the buffer. The rest leads to the same session as the piece.
abbrev pub invariant-loop-end : goal.invariant-loop-end
invariant-loop-end g l =
    (text : List ℕ)
    × ((more : List ℕ) (new : Session) → AnswersPiece l.session l.rest more new → AnswersPiece l.fn.session l.piece (text ++ more) new)
    × MovesText (g.W.Write.contents l.fn.writer) l.fn.output text (g.W.Write.contents l.writer) l.output
    × (length l.rest ≤ length l.piece)

abbrev pub decreases-loop-end : goal.decreases-loop-end
decreases-loop-end g l = length l.rest
