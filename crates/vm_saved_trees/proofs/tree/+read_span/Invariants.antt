use Rattle.std.proofs.Common.{◌-◌}
use Rattle.vm_saved_trees.specs.KeyValues.{MAX_NESTING_REPAIRED}
use Rattle.vm_saved_trees.proofs.tree.+read_span.Given as goal

abbrev pub decreases-read_span : goal.decreases-read_span
decreases-read_span l = MAX_NESTING_REPAIRED - l.depth
