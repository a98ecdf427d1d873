use Rattle.std.proofs.Common.{◌+◌, ◌-◌, ◌≡◌, ◌*◌, ◌^◌, ◌≤◌}
use Rattle.vm_leaf.specs.declared.leaf.TheConstants.{MIN_BLOCKS}
use Rattle.vm_space.proofs.spare.highest_with.Given as goal

abbrev pub invariant-loop-least : goal.invariant-loop-least
invariant-loop-least l = (1 ≤ l.height) × (l.height ≤ l.least) × (l.least ≡ MIN_BLOCKS * 5 ^ (l.height - 1)) × (l.least ≤ 5 * l.held + MIN_BLOCKS)

abbrev pub decreases-loop-least : goal.decreases-loop-least
decreases-loop-least l = l.held + 1 - l.least
