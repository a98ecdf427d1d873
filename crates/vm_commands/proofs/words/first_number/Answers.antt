-- After the digits comes a space, or another byte, which is an error. Both lemmas need that this byte is still in the text.
use Rattle.std.proofs.Common.{◌<◌, length, arith}
use Rattle.vm_commands.proofs.Numerals.{ahead_within}
use Rattle.vm_commands.proofs.FirstNumber.{then_blank, then_other}
use Rattle.vm_commands.proofs.words.first_number.Goals as goal

pub returns-then-text-count-ne32 : goal.returns-then-text-count-ne32
returns-then-text-count-ne32 c =
    let text = c.args.text.now in
    let f = c.in_ok-number.ensures in
    let within : c.in_ok-number.count < length text = omega (arith, f.1, c.if-count-text.false, ahead_within text) in
    then_other text c.in_ok-number.count f.1 within c.if-text-count-ne32.true

pub returns : goal.returns
returns c =
    let text = c.args.text.now in
    let f = c.in_ok-number.ensures in
    let within : c.in_ok-number.count < length text = omega (arith, f.1, c.if-count-text.false, ahead_within text) in
    then_blank text c.in_ok-number.number c.in_ok-number.count f.1 within c.if-text-count-ne32.false f.0
