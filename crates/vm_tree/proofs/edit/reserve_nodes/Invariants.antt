use Rattle.std.proofs.Common.{length, ◌-◌, ◌≤◌}
use Rattle.vm_tree.proofs.edit.reserve_nodes.Given as goal

abbrev pub invariant-loop-alloc : goal.invariant-loop-alloc
invariant-loop-alloc g l = record { more : length l.fn.spares.items ≤ length l.spares.items }

abbrev pub decreases-loop-alloc : goal.decreases-loop-alloc
decreases-loop-alloc g l = l.n - length l.spares.items
