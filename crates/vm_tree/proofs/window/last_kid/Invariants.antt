use Rattle.std.proofs.Common.{◌≤◌}
use Rattle.vm_tree.specs.Passing.{NoneFits}
use Rattle.vm_tree.proofs.window.last_kid.Given as goal

abbrev pub invariant-loop-i : goal.invariant-loop-i
invariant-loop-i g l = record { within : l.i ≤ l.to; none : NoneFits (g.S.Seek.seeking l.seek).fits l.entries l.i l.to }

abbrev pub decreases-loop-i : goal.decreases-loop-i
decreases-loop-i g l = l.i
