use Rattle.std.proofs.Common.{rules, ◌≡◌, sym, subst, ◌∙◌}
use Rattle.vm_tree.specs.Subtree.{Subtree, AllOf, no_tree}
use Rattle.vm_tree.proofs.Soughts.{not_entered}
use Rattle.vm_tree.proofs.tree.Tree.seek.Goals as goal

pub returns-in-Empty-clause-sought : goal.returns-in-Empty-clause-sought
returns-in-Empty-clause-sought g c =
    let w : c.args.self.now ≡ no_tree = sym c.self.view_is ∙ search rules in
    not_entered (g.S.Seek.seeking c.args.seek.now) _ _ _ (search (rules, w))
    (subst (λ (s : Subtree g.row.L.Denot). AllOf (g.S.Seek.seeking c.args.seek.now).lacks s.leaves) (sym w) tt)
