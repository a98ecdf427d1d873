-- No variable has the bytes that were read so far, or the text of their replies. So there are such lists by the invariant.
use Rattle.std.proofs.Common.{List, ℕ, [], length, ◌≡◌}
use Rattle.std.specs.Io.KnownBytes.{Consumes}
use Rattle.vm_lines.specs.Moving.{MovesText}
use Rattle.vm_lines.proofs.Progress.{At}
use Rattle.vm_lines.proofs.replay.answer_pieces.Given as goal

-- The bytes that were read, and their output, which is written or in the buffer.
abbrev pub invariant-loop : goal.invariant-loop
invariant-loop g l =
    (read : List ℕ) × (text : List ℕ)
    × Consumes (g.R.Read.remaining l.fn.reader) (g.R.Read.remaining l.reader) read
    × MovesText (g.W.Write.contents l.fn.writer) [] text (g.W.Write.contents l.writer) l.output
    × At read text l.session
    × (length l.bytes ≡ 4096)
