use Rattle.std.proofs.Common.{refl, ◌∙◌}
use Rattle.vm_tree.proofs.Leaves.{at_key, leaf_kept, leaf_same, leaf_changed}
use Rattle.vm_tree.proofs.Results.{on_any}
use Rattle.vm_tree.proofs.edit.edit_leaf.Goals as goal

pub returns-in-Refused-clause-grew : goal.returns-in-Refused-clause-grew
returns-in-Refused-clause-grew g c = λ key.
    let r = c.in-Refused.ensures.refused refl in leaf_kept _ _ _ _ _ _ (at_key _ key _) _ r.0 r.1

pub returns-in-Same-clause-grew : goal.returns-in-Same-clause-grew
returns-in-Same-clause-grew g c = λ key.
    let r = c.in-Same.ensures.same refl in leaf_same _ _ _ _ _ _ (at_key _ key _) _ c.change.ensures.enough r.1 (r.0 c.requires.was)

pub returns-in-Changed-clause-grew : goal.returns-in-Changed-clause-grew
returns-in-Changed-clause-grew g c = λ key.
    leaf_changed _ _ _ _ _ _ (at_key _ key _) _ _ c.change.ensures.enough (c.in-Changed.ensures.changed refl) c.entry.ensures

pub returns-in_ok-split_leaf-in-Full-clause-grew : goal.returns-in_ok-split_leaf-in-Full-clause-grew
returns-in_ok-split_leaf-in-Full-clause-grew g c = λ key.
    let r = c.in-Full.ensures.full refl in rw (r.1, r.0) at c.in_ok-split_leaf-in-Full.ensures.split key

pub returns-in_err-split_leaf-in-Full-clause-failed : goal.returns-in_err-split_leaf-in-Full-clause-failed
returns-in_err-split_leaf-in-Full-clause-failed g c = λ key.
    let r = c.in-Full.ensures.full refl in
    on_any c.from_residual.result _
    (leaf_kept _ _ _ _ _ _ (at_key _ key _) _ (c.in_err-split_leaf-in-Full.ensures.unchanged.0 ∙ r.0) (c.in-Full.ensures.needs refl))

pub returns-in_err-split_leaf-in-Full-clause-spare : goal.returns-in_err-split_leaf-in-Full-clause-spare
returns-in_err-split_leaf-in-Full-clause-spare g c = λ key p.
    let r = c.in-Full.ensures.full refl in
    let k = rw (r.1, r.0) at c.in_err-split_leaf-in-Full.ensures.lacks p in
    on_any c.from_residual.result _
    (leaf_kept _ _ _ _ _ _ (at_key _ key _) _ (c.in_err-split_leaf-in-Full.ensures.unchanged.0 ∙ r.0) k)

pub returns-in-OutOfMemory-clause-failed : goal.returns-in-OutOfMemory-clause-failed
returns-in-OutOfMemory-clause-failed g c = λ key.
    let r = c.in-OutOfMemory.ensures.memory refl in leaf_kept _ _ _ _ _ _ (at_key _ key _) _ r.0 r.2

pub returns-in-OutOfMemory-clause-spare : goal.returns-in-OutOfMemory-clause-spare
returns-in-OutOfMemory-clause-spare g c = λ key p.
    let r = c.in-OutOfMemory.ensures.memory refl in leaf_kept _ _ _ _ _ _ (at_key _ key _) _ r.0 r.3
