use Rattle.std.proofs.Common.{◌-◌}
use Rattle.vm_saved_trees.specs.KeyValues.{MAX_NESTING_REPAIRED}
use Rattle.vm_saved_trees.proofs.tree.+append_held.Given as goal

abbrev pub decreases-append_held : goal.decreases-append_held
decreases-append_held l = MAX_NESTING_REPAIRED - l.depth
