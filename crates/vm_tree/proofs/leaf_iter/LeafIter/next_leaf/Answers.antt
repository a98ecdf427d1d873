use Rattle.std.proofs.Common.{sym, ◌∙◌}
use Rattle.vm_tree.proofs.Between.{crossed}
use Rattle.vm_tree.proofs.leaf_iter.LeafIter.next_leaf.Goals as goal

pub returns-then-self-clause-none : goal.returns-then-self-clause-none
returns-then-self-clause-none g c =
    let e = sym c.self.view_is ∙ crossed g.L.Leaf.entry c.self.inside.from c.self.inside.to c.self.inside.tree.now.leaves c.if-self.true in (e, e)
