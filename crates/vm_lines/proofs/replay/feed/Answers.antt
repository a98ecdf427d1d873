-- Each turn writes the reply to one line more. The prover does not choose the text of the invariant, nor regroup joined texts.
use Rattle.std.proofs.Common.{◌≡◌, ◌++◌, [], sym, append-nil, append_assoc, rules}
use Rattle.vm_lines.specs.Sessions.{with_more}
use Rattle.vm_lines.proofs.Known.{moves_both, moves_text}
use Rattle.vm_lines.proofs.Progress.{feeds_line, feeds_none}
use Rattle.vm_lines.proofs.replay.feed.Goals as goal

pub loop-end-preserved : goal.loop-end-preserved
loop-end-preserved g c =
    let l = c.loop-end in
    let i = l.invariant in
    let contents = g.W.Write.contents in
    let f = c.end_line.ensures in
    let room = moves_both (contents c.args.writer.now) (contents l.writer) (contents c.make_room.new.writer) c.args.output.now l.output
    c.make_room.new.output i.0 [] i.2 c.in_ok-make_room.ensures.moves in
    let moved = moves_text (contents c.args.writer.now) (contents c.make_room.new.writer) c.args.output.now c.make_room.new.output
    c.end_line.new.output (i.0 ++ []) f.0 room f.2 in (
      i.0 ++ f.0,
      λ more new rest. rw append_assoc
          (i.1 (f.0 ++ more) new (feeds_line l.rest.now c.in-Some.end f.0 more l.session c.end_line.new.self new (sym c.in-Some.ensures) f.1
          rest)),
      rw append-nil at moved,
      search rules,
    )

pub returns-clause-ok : goal.returns-clause-ok
returns-clause-ok g c =
    let l = c.loop-end in
    let i = l.invariant in
    let appended : c.append.new.self ≡ with_more l.session l.rest.now = search rules in
    let none = feeds_none l.rest.now l.session (sym c.in_default.ensures) in
    let fed = i.1 [] c.append.new.self (rw appended none) in
    (i.0, rw append-nil at fed, i.2)
