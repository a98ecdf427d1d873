-- Twenty bytes are appended, and those after the number are removed.
-- A lemma on the lengths states this, but the search with it gives up at its limits.
use Rattle.std.proofs.Common.{◌-◌, ◌≤◌, ◌++◌, ◌∙◌, ap, length, arith, length-take-le}
use Rattle.vm_commands.proofs.Decimals.{twenty_more, cut_back}
use Rattle.vm_commands.proofs.buffer.Buffer.push_number.Goals as goal

pub overflow_sub-self : goal.overflow_sub-self
overflow_sub-self c =
    let s = c.self.inside in
    let w = c.write_digits-start in
    let room : s.length ≤ length s.bytes = omega (arith, c.self.invariant, c.self.told) in
    omega (
      arith,
      w.ensures.within,
      twenty_more s.bytes c.args.self.now w.new.digits s.length w.result w.ensures.within w.array_long room
          (c.self.view_is ∙ c.extend_from_slice.ensures),
    )

pub returns-clause-text : goal.returns-clause-text
returns-clause-text c =
    let s = c.self.inside in
    let w = c.write_digits-start in
    let room : s.length ≤ length s.bytes = omega (arith, c.self.invariant, c.self.told) in
    cut_back s.bytes c.args.self.now w.new.digits s.length w.result w.ensures.within w.array_long room
    (c.self.view_is ∙ c.extend_from_slice.ensures)
    ∙ ap (λ text. c.args.self.now ++ text) w.ensures.text

pub returns-clause-room : goal.returns-clause-room
returns-clause-room c =
    let s = c.self.inside in
    let w = c.write_digits-start in
    let room : s.length ≤ length s.bytes = omega (arith, c.self.invariant, c.self.told) in
    let sum = twenty_more s.bytes c.args.self.now w.new.digits s.length w.result w.ensures.within w.array_long room
    (c.self.view_is ∙ c.extend_from_slice.ensures) in
    let count = length-take-le (s.length - w.result) s.bytes (omega arith) in
    omega (arith, count, sum)
