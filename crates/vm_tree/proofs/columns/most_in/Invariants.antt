use Rattle.std.proofs.Common.{◌≡◌, take}
use Rattle.vm_tree.specs.Padded.{greatest}
use Rattle.vm_tree.proofs.columns.most_in.Given as goal

abbrev pub invariant-loop-i : goal.invariant-loop-i
invariant-loop-i l = l.most ≡ greatest (take l.i l.items)
