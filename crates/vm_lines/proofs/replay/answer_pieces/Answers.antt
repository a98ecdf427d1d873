-- Each turn reads one piece more and writes its replies, and the end writes that of the last line.
-- The prover does not choose the bytes and the text of the invariant, nor join those of two pieces.
use Rattle.std.proofs.Common.{◌≡◌, ◌++◌, [], arith, rules, take, length, ◌<◌, append-nil}
use Rattle.std.proofs.KnownBytes.{Consumes-nil, Consumes-trans, Consumes-kept}
use Rattle.vm_lines.proofs.Known.{moves_none, moves_both, moves_drain, moves_end, read_end, answers_input, answers_ended}
use Rattle.vm_lines.proofs.Progress.{at_start, at_feeds, at_finish, at_fault}
use Rattle.vm_lines.proofs.replay.answer_pieces.Goals.{else-loop-test, then-loop-test+in-Err}
use Rattle.vm_lines.proofs.replay.answer_pieces.Goals as goal

pub loop-init : goal.loop-init
loop-init g c = (
  [],
  [],
  Consumes-nil (g.R.Read.remaining c.args.reader.now),
  rw c.requires.output (moves_none (g.W.Write.contents c.args.writer.now) []),
  rw c.requires.session at_start,
  search rules,
)

pub loop-preserved : goal.loop-preserved
loop-preserved g c =
    let contents = g.W.Write.contents in
    let remaining = g.R.Read.remaining in
    let i = c.loop.invariant in
    let piece = take c.in-Ok.count c.read.new.buf in
    let f = c.in_ok-feed-in-Ok.ensures.ok in (
      i.0 ++ piece,
      i.1 ++ f.0,
      Consumes-trans (remaining c.args.reader.now) (remaining c.loop.reader) (remaining c.read.new.self) i.0 piece i.2
          c.in-Ok.ensures.bytes.0,
      moves_both (contents c.args.writer.now) (contents c.loop.writer) (contents c.feed.new.writer) [] c.loop.output c.feed.new.output i.1
          f.0 i.3 f.2,
      at_feeds piece i.0 i.1 f.0 c.loop.session c.feed.new.session i.4 f.1,
      search rules,
    )

pub returns-in-Ok-eq0-clause-ok : goal.returns-in-Ok-eq0-clause-ok
returns-in-Ok-eq0-clause-ok g c =
    let contents = g.W.Write.contents in
    let remaining = g.R.Read.remaining in
    let i = c.loop.invariant in
    let f = c.in_ok-answer_end-in-Ok-eq0.ensures.ok in
    let l : 0 < length c.read.new.buf = search rules in
    let z : c.in-Ok-eq0.field-0 ≡ 0 = omega arith in
    let e = read_end (remaining c.loop.reader) (remaining c.read.new.self) c.in-Ok-eq0.field-0 c.read.new.buf c.in-Ok-eq0.ensures.bytes.0
    c.in-Ok-eq0.ensures.bytes.1 z l in
    let all = Consumes-trans (remaining c.args.reader.now) (remaining c.loop.reader) (remaining c.read.new.self) i.0 [] i.2 e.0 in
    answers_input (remaining c.args.reader.now) (remaining c.read.new.self) (contents c.args.writer.now) (contents c.answer_end.new.writer)
    i.0 (i.1 ++ f.0)
    (rw append-nil at all)
    e.1
    (at_finish i.0 i.1 f.0 c.loop.session i.4 f.1)
    (moves_end (contents c.args.writer.now) (contents c.loop.writer) (contents c.answer_end.new.writer) c.loop.output i.1 f.0 i.3 f.2)

pub returns-clause-read : goal.returns-clause-read
returns-clause-read g c _ =
    let contents = g.W.Write.contents in
    let remaining = g.R.Read.remaining in
    let i = c.loop.invariant in
    answers_ended (remaining c.args.reader.now) _ (contents c.args.writer.now) (contents c.flush_buffer.new.writer) i.0 i.1
    (elim c.loop-test.branch [
      | else-loop-test w ↦ rw w.reader-is i.2
      | then-loop-test+in-Err w ↦ rw w.reader-is
          (Consumes-kept (remaining c.args.reader.now) (remaining c.loop.reader) (remaining w.read.new.self) i.0 i.2 w.in-Err.ensures.bytes)
    ])
    (at_fault i.0 i.1 c.loop.session i.4)
    (moves_drain (contents c.args.writer.now) (contents c.loop.writer) (contents c.flush_buffer.new.writer) [] c.loop.output i.1 i.3
    c.in_ok-flush_buffer.ensures.sent)
