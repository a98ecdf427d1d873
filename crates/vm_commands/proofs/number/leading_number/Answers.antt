-- The value is that of the digits so far, and the next byte is a digit or ends the number.
-- The prover does not count the digits of a list without its first bytes, nor distinguish both ends of the loop.
use Rattle.std.proofs.Common.{◌≡◌, ◌+◌, ◌^◌, ◌≤◌, arith, get_or, drop, take, true, false, sym}
use Rattle.std.proofs.lemmas.Bool.Decides.{nat_tests}
use Rattle.std.proofs.lemmas.List.Sums.{prefix_len-drop_yes, prefix_len-drop_no, prefix_len-drop_all}
use Rattle.vm_commands.specs.Numbers.{is_digit, value_from}
use Rattle.vm_commands.specs.Reading.{leading_digits}
use Rattle.vm_commands.proofs.Numerals.{value_more, number_is, number_large}
use Rattle.vm_commands.proofs.number.leading_number.Goals as goal
use Rattle.vm_commands.proofs.number.leading_number.Goals.{then-loop-count-test+else-is_ascii_digit, else-loop-count-test}

pub returns-in_err-value : goal.returns-in_err-value
returns-in_err-value c =
    let l = c.loop-count in
    let text = c.args.text.now in
    let is : is_digit (get_or text l.count 0) ≡ true = grind (arith, nat_tests) in
    let ahead = prefix_len-drop_yes is_digit text l.count 0 (omega arith) is in
    let large : 2 ^ 64 ≤ value_from 0 (take (l.count + 1) text) =
    omega (arith, l.invariant.value, value_more text l.count (omega arith), c.in_err-value.ensures) in
    rw c.from_residual.ensures (number_large text (l.count + 1) (omega (arith, l.invariant.ahead, ahead)) large)

pub loop-count-preserved : goal.loop-count-preserved
loop-count-preserved c =
    let l = c.loop-count in
    let i = l.invariant in
    let text = c.args.text.now in
    let is : is_digit (get_or text l.count 0) ≡ true = grind (arith, nat_tests) in
    let ahead = prefix_len-drop_yes is_digit text l.count 0 (omega arith) is in
    record {
      few = omega (arith, i.few);
      ahead = omega (arith, i.ahead, ahead);
      value = omega (arith, i.value, value_more text l.count (omega arith), c.in_ok-value.ensures);
      fits = omega arith;
    }

pub returns : goal.returns
returns c =
    let l = c.loop-count in
    let text = c.args.text.now in
    let none : leading_digits (drop l.count text) ≡ 0 = elim c.loop-count-test.branch [
      | then-loop-count-test+else-is_ascii_digit w ↦
          (let is : is_digit (get_or text l.count 0) ≡ false = grind (arith, nat_tests) in
          prefix_len-drop_no is_digit text l.count 0 (omega arith) is)
      | else-loop-count-test w ↦ prefix_len-drop_all is_digit text l.count (omega arith)
    ] in
    let n : leading_digits text ≡ l.count = omega (arith, l.invariant.ahead, none) in
    (rw n (number_is text l.count l.value (omega (arith, n)) (omega arith) l.invariant.few l.invariant.value l.invariant.fits), sym n)
