use Rattle.std.proofs.Common.{rules}
use Rattle.vm_tree.proofs.Moved.{greatest_all}
use Rattle.vm_tree.proofs.columns.greatest_in.Goals as goal

pub returns : goal.returns
returns c =
    greatest_all c.args.items.now _ _ _ _ _ _ _ (search rules) c.greatest_of_four.ensures c.greatest_of_four-2.ensures c.greatest_of_four-3.ensures
    c.greatest_of_four-4.ensures c.max-low.ensures c.max-high.ensures c.max.ensures
