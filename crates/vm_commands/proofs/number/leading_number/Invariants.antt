-- The value is the number of the digits so far, and fits. No contract states this, so the prover does not find it.
use Rattle.std.proofs.Common.{◌≡◌, ◌+◌, ◌-◌, ◌^◌, ◌<◌, ◌≤◌, length, take, drop}
use Rattle.vm_commands.specs.Numbers.{value_from}
use Rattle.vm_commands.specs.Reading.{leading_digits}
use Rattle.vm_commands.proofs.number.leading_number.Given as goal

-- The digits so far, and the digits that are left.
abbrev pub invariant-loop-count : goal.invariant-loop-count
invariant-loop-count l = record {
  few : l.count ≤ 20;
  ahead : leading_digits l.text ≡ l.count + leading_digits (drop l.count l.text);
  value : l.value ≡ value_from 0 (take l.count l.text);
  fits : l.value < 2 ^ 64;
}

abbrev pub decreases-loop-count : goal.decreases-loop-count
decreases-loop-count l = length l.text - l.count
