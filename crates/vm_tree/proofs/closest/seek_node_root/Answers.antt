use Rattle.std.proofs.Common.{refl, subst}
use Rattle.vm_tree.specs.Subtree.{Subtree, AllOf}
use Rattle.vm_tree.proofs.Soughts.{not_entered}
use Rattle.vm_tree.proofs.closest.seek_node_root.Goals as goal

pub returns-then-not-may_enter-clause-sought : goal.returns-then-not-may_enter-clause-sought
returns-then-not-may_enter-clause-sought g c =
    not_entered (g.S.Seek.seeking c.args.seek.now) _ _ _ refl
    (subst (λ (s : Subtree g.row.L.Denot). AllOf (g.S.Seek.seeking c.args.seek.now).lacks s.leaves) c.deref-2.ensures c.if-not-may_enter.ensures)
