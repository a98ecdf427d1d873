use Rattle.std.proofs.Common.{ap, ◌∙◌}
use Rattle.vm_tree.proofs.Leaves.{at_key, leaf_split}
use Rattle.vm_tree.proofs.edit.split_leaf.Goals as goal

pub returns-clause-split : goal.returns-clause-split
returns-clause-split g c = λ key.
    let s = c.in_ok-upper.ensures in
    leaf_split _ _ _ _ _ _ (at_key _ key _) _ _ _ _ s.enough.0 s.enough.1 s.edited c.entry-low.ensures (c.entry-high.ensures ∙ ap g.L.Leaf.entry c.deref.ensures)
