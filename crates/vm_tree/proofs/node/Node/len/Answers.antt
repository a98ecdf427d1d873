use Rattle.std.proofs.Common.{subst}
use Rattle.vm_tree.specs.HasKids.{HasKids}
use Rattle.vm_tree.proofs.Sums.{has_kids}
use Rattle.vm_tree.proofs.node.Node.len.Goals as goal

pub returns-clause-kids : goal.returns-clause-kids
returns-clause-kids g c =
    subst (HasKids g.L.Leaf.enough c.len.result) c.self.view_is
    (has_kids g.L.Leaf.entry g.L.Leaf.enough c.len.result c.self.inside.kids c.self.inside.entries c.self.invariant c.len.ensures.value)
