use Rattle.std.proofs.Common.{◌-◌, ◌≤◌}
use Rattle.vm_tree.specs.Passing.{NoneFits}
use Rattle.vm_tree.proofs.window.first_kid.Given as goal

abbrev pub invariant-loop-i : goal.invariant-loop-i
invariant-loop-i g l = (l.from ≤ l.i) × NoneFits (g.S.Seek.seeking l.seek).fits l.entries l.from l.i

abbrev pub decreases-loop-i : goal.decreases-loop-i
decreases-loop-i g l = l.to - l.i
