use Rattle.std.proofs.Common.{rules, arith, ap, ◌∙◌, ◌≡◌, sym, subst}
use Rattle.vm_tree.specs.Subtree.{Subtree, leaf_of}
use Rattle.vm_tree.specs.Found.{IsLeafOf}
use Rattle.vm_tree.proofs.Finds.{leaf_found}
use Rattle.vm_tree.specs.Edits.{IsRefused}
use Rattle.vm_tree.specs.Nodes.{leaf_tree}
use Rattle.vm_tree.proofs.Raises.{went_raise, went_root}
use Rattle.vm_tree.proofs.tree.Tree.edit_with.Goals as goal

pub leaf_root-requires : goal.leaf_root-requires
leaf_root-requires g c = (
  omega arith,
  went_raise g.L.Leaf.entry g.L.Leaf.enough _ _ _ leaf_tree _ _ c.in-Ok.outcome (c.in-Ok.ensures.went c.args.key) _ 0 c.in-Ok.ensures.spares
      (omega arith),
)

pub returns-in-Ok-clause-after : goal.returns-in-Ok-clause-after
returns-in-Ok-clause-after g c =
    let w : c.args.self.now ≡ leaf_of c.in-Leaf.leaf.value = sym c.self.view_is ∙ search rules in
    went_root g.L.Leaf.entry g.L.Leaf.enough _ _ _ leaf_tree _ _ c.in-Ok.outcome _ _ c.has_changed-done.result (c.in-Ok.ensures.went c.args.key)
    (w ∙ ap leaf_of (sym c.deref_mut.ensures.value)) c.leaf_root.ensures.tree c.has_changed-done.ensures

pub edit_root-requires : goal.edit_root-requires
edit_root-requires g c =
    let w : c.args.self.now ≡ leaf_of c.in-Leaf.leaf.value = sym c.self.view_is ∙ search rules in
    let e : c.args.self.now ≡ leaf_of c.deref_mut.result.now = w ∙ ap leaf_of (sym c.deref_mut.ensures.value) in (
      omega arith,
      c.requires.can _
          (subst (λ (s : Subtree g.row.L.Denot). IsLeafOf g.L.Leaf.entry c.args.key s.leaves c.deref_mut.result.now) (sym e)
          (leaf_found g.L.Leaf.entry c.args.key c.deref_mut.result.now)),
    )

pub returns-in-Err-clause-failed : goal.returns-in-Err-clause-failed
returns-in-Err-clause-failed g c =
    let w : c.args.self.now ≡ leaf_of c.in-Leaf.leaf.value = sym c.self.view_is ∙ search rules in
    let e : leaf_of c.deref_mut.result.now ≡ c.args.self.now = ap leaf_of c.deref_mut.ensures.value ∙ sym w in
    subst (λ (s : Subtree g.row.L.Denot). IsRefused g.L.Leaf.entry c.args.key (λ l. g.E.Edit.needs_memory c.args.edit.now l) s.leaves) e
    (c.in-Err.ensures.failed c.args.key).refused

pub returns-in-Err-clause-spare : goal.returns-in-Err-clause-spare
returns-in-Err-clause-spare g c = λ p.
    let w : c.args.self.now ≡ leaf_of c.in-Leaf.leaf.value = sym c.self.view_is ∙ search rules in
    let e : leaf_of c.deref_mut.result.now ≡ c.args.self.now = ap leaf_of c.deref_mut.ensures.value ∙ sym w in
    subst (λ (s : Subtree g.row.L.Denot). IsRefused g.L.Leaf.entry c.args.key (λ l. g.E.Edit.lacks c.args.edit.now l) s.leaves) e
    (c.in-Err.ensures.spare c.args.key (omega (arith, p, ap (λ (s : Subtree g.row.L.Denot). s.height) w))).refused

pub returns-in-Err-edit_at-clause-spare : goal.returns-in-Err-edit_at-clause-spare
returns-in-Err-edit_at-clause-spare g c = λ p.
    let w : c.args.self.now ≡ c.in-Inner.node.value = sym c.self.view_is ∙ search rules in
    let e : c.deref_mut-in-Inner.result.now ≡ c.args.self.now = c.deref_mut-in-Inner.ensures.value ∙ sym w in
    subst (λ (s : Subtree g.row.L.Denot). IsRefused g.L.Leaf.entry c.args.key (λ l. g.E.Edit.lacks c.args.edit.now l) s.leaves) e
    (c.in-Err-edit_at.ensures.spare (omega (arith, p, ap (λ (s : Subtree g.row.L.Denot). s.height) e))).refused
