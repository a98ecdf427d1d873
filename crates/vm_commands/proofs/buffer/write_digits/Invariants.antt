-- The digits of the rest and those that are written are those of the number. No contract states this, so the prover does not find it.
use Rattle.std.proofs.Common.{◌≡◌, ◌++◌, ◌≤◌, ◌<◌, ◌^◌, length}
use Rattle.std.specs.Fmt.{decimal}
use Rattle.vm_commands.specs.Printing.{digits_from}
use Rattle.vm_commands.proofs.buffer.write_digits.Given as goal

-- The digits of the rest, followed by the digits that are written, are the digits of the number.
abbrev pub invariant-loop-rest : goal.invariant-loop-rest
invariant-loop-rest l = record {
  text : decimal l.rest ++ digits_from l.start l.digits ≡ decimal l.number;
  room : length (decimal l.rest) ≤ l.start;
  within : l.start ≤ 20;
  len : length l.digits ≡ 40;
  fits : l.rest < 2 ^ 64;
}

abbrev pub decreases-loop-rest : goal.decreases-loop-rest
decreases-loop-rest l = l.rest
