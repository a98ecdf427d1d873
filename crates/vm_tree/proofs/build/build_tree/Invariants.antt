use Rattle.std.proofs.Common.{◌≡◌, ◌^◌, ◌<◌, ◌-◌}
use Rattle.vm_tree.proofs.build.build_tree.Given as goal

abbrev pub invariant-loop-below : goal.invariant-loop-below
invariant-loop-below g l = record { power : l.below ≡ 16 ^ l.levels; many : l.below < l.n; low : l.levels < l.below }

abbrev pub decreases-loop-below : goal.decreases-loop-below
decreases-loop-below g l = l.n - l.below
