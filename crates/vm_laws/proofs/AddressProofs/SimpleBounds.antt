-- The simple form of the bounds on counts.
use Rattle.std.proofs.Common.{arith}
use Rattle.vm_laws.specs.CountLaws.{EntersFew}

pub enters_few : EntersFew
enters_few = record {
  free = λ h answer count c. c.most;
  exact = λ h k t. omega arith;
  first = λ h k. omega arith;
  last = λ h k. omega arith;
  gaps = λ h v answer count c. c.most;
  window = λ h v count c. c;
}

pub ruleset simple_bounds = (enters_few)
