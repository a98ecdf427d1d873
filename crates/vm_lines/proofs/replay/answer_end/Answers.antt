-- The text of the buffer and of the last line is written. The prover does not choose this text, nor chain two writes to one.
use Rattle.std.proofs.Common.{◌++◌}
use Rattle.std.proofs.KnownBytes.{Appends-kept}
use Rattle.vm_lines.proofs.Known.{moves_drain}
use Rattle.vm_lines.proofs.replay.answer_end.Goals as goal

pub returns-in-Ok-clause-ok : goal.returns-in-Ok-clause-ok
returns-in-Ok-clause-ok g c =
    let contents = g.W.Write.contents in
    let h = c.in_ok-answer_last_line.ensures.ok in (
      h.0,
      h.1,
      Appends-kept (contents c.args.writer.now) (contents c.flush_buffer.new.writer) (contents c.flush.new.self) (c.args.output.now ++ h.0)
          (moves_drain (contents c.args.writer.now) (contents c.answer_last_line.new.writer) (contents c.flush_buffer.new.writer)
          c.args.output.now c.answer_last_line.new.output h.0 h.2 c.in_ok-flush_buffer.ensures.sent)
          c.in-Ok.ensures.bytes,
    )
