-- The text of the last line is written or in the buffer. The prover does not choose this text, nor chain two moves of text to one.
use Rattle.std.proofs.Common.{◌≡◌, [], true, rules}
use Rattle.vm_lines.proofs.Known.{moves_text}
use Rattle.vm_lines.proofs.Progress.{answers_last_some}
use Rattle.vm_lines.specs.Sessions.{has_begun}
use Rattle.vm_lines.proofs.replay.answer_last_line.Goals as goal

pub returns-clause-ok : goal.returns-clause-ok
returns-clause-ok g c =
    let contents = g.W.Write.contents in
    let h = c.end_line.ensures in
    let e : has_begun c.args.session.now.line ≡ true = search rules in (
      h.0,
      answers_last_some c.args.session.now c.end_line.new.self h.0 e h.1,
      moves_text (contents c.args.writer.now) (contents c.make_room.new.writer) c.args.output.now c.make_room.new.output
          c.end_line.new.output [] h.0 c.in_ok-make_room.ensures.moves h.2,
    )
