-- A new space has no ranges, and the table has no values. The prover does not find the bound on the size.
use Rattle.std.proofs.Common.{arith}
use Rattle.vm_range_map.proofs.MapCalls.{new_state}
use Rattle.vm_range_map.proofs.range_map.RangeMap.new.Goals as goal

pub invariant_of-result : goal.invariant_of-result
invariant_of-result g c = new_state c.args.base c.args.size _ _ (omega (arith, c.ranges.size.fits)) c.in_ok-addresses.ensures.answer c.new-2.ensures

pub returns-clause-state : goal.returns-clause-state
returns-clause-state g c = invariant_of-result g c
