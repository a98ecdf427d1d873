use Rattle.std.proofs.Common.{rules, ◌≡◌, ap, ◌∙◌, sym, refl}
use Rattle.vm_tree.specs.Subtree.{leaf_of}
use Rattle.vm_tree.proofs.Lowered.{leaf_after, leaf_kept, node_after}
use Rattle.vm_tree.proofs.tree.Tree.cut.Goals as goal

pub returns-in-Leaf-clause-after : goal.returns-in-Leaf-clause-after
returns-in-Leaf-clause-after g c =
    let w : c.args.self.now ≡ leaf_of c.in-Leaf.leaf.value = sym c.self.view_is ∙ search rules in
    leaf_after g.L.Leaf.entry g.L.Leaf.enough g.L.Leaf.joins c.args.key _ _ _ _ _ _ c.cut_root-done.result
    (c.cut_root-done.ensures c.args.key) (w ∙ ap leaf_of (sym c.deref_mut.ensures.value)) refl

pub returns-in-Leaf-clause-kept : goal.returns-in-Leaf-clause-kept
returns-in-Leaf-clause-kept g c = λ n e.
    let w : c.args.self.now ≡ leaf_of c.in-Leaf.leaf.value = sym c.self.view_is ∙ search rules in
    leaf_kept g.L.Leaf.entry g.L.Leaf.enough g.L.Leaf.joins c.args.key _ _ _ _ _ _ c.cut_root-done.result
    (c.cut_root-done.ensures c.args.key) (w ∙ ap leaf_of (sym c.deref_mut.ensures.value)) refl e

pub returns-in-Inner-clause-after : goal.returns-in-Inner-clause-after
returns-in-Inner-clause-after g c =
    let w : c.args.self.now ≡ c.in-Inner.node.value = sym c.self.view_is ∙ search rules in
    node_after g.L.Leaf.entry g.L.Leaf.enough g.L.Leaf.joins c.args.key _ _ (g.E.Cut.shrinks c.args.edit.now) _ _ _ _ _ c.cut_at-outcome.result
    c.has_shrunk.result c.cut_at-outcome.ensures.shrank (search rules) c.lower.ensures.tree (w ∙ sym c.deref_mut-in-Inner.ensures.value) refl
    c.has_shrunk.ensures
