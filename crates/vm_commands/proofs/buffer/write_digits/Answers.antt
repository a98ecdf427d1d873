-- The digits of the rest and those that are written are those of the number. Lemmas on decimals take two digits off by a division.
use Rattle.std.proofs.Common.{arith, rules, append-nil}
use Rattle.vm_commands.proofs.Decimals.{long, length_step, some_long, put_more, put_two, put_one}
use Rattle.vm_commands.proofs.buffer.write_digits.Goals as goal

pub loop-rest-init : goal.loop-rest-init
loop-rest-init c = record {
  text = append-nil _;
  room = long c.args.number c.ranges.number.fits;
  within = omega arith;
  len = search rules;
  fits = c.ranges.number.fits;
}

pub loop-rest-preserved : goal.loop-rest-preserved
loop-rest-preserved c =
    let l = c.loop-rest in
    let i = l.invariant in
    let step = length_step l.rest c.loop-rest-test.true i.fits in
    record {
      text = put_more l.rest _ _ _ c.loop-rest-test.true i.fits c.write_two_digits.ensures i.text;
      room = omega (arith, i.room, step);
      within = omega (arith, i.within);
      len = c.write_two_digits.array_long;
      fits = omega (arith, i.fits);
    }

pub returns-then-rest-ge10-clause-text : goal.returns-then-rest-ge10-clause-text
returns-then-rest-ge10-clause-text c =
    let l = c.loop-rest in
    put_two l.rest _ _ _ c.if-rest-ge10.true (omega arith) c.write_two_digits-then-rest-ge10.ensures l.invariant.text

pub returns-clause-text : goal.returns-clause-text
returns-clause-text c =
    let l = c.loop-rest in
    let i = l.invariant in
    let some = some_long l.rest i.fits in
    put_one l.rest l.start l.digits _ c.if-rest-ge10.false (omega (arith, some, i.room)) i.within (omega (arith, i.within, i.len)) i.text
