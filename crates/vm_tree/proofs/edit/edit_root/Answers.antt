use Rattle.std.proofs.Common.{refl, ◌∙◌}
use Rattle.vm_tree.proofs.Leaves.{at_key, leaf_kept, leaf_one}
use Rattle.vm_tree.proofs.Results.{on_any}
use Rattle.vm_tree.proofs.edit.edit_root.Goals as goal

pub returns-in-Refused-clause-went : goal.returns-in-Refused-clause-went
returns-in-Refused-clause-went g c = λ key.
    let r = c.in-Refused.ensures.refused refl in leaf_kept _ _ _ _ _ _ (at_key _ key _) _ r.0 r.1

pub returns-in-Same-clause-went : goal.returns-in-Same-clause-went
returns-in-Same-clause-went g c = λ key.
    leaf_one g.L.Leaf.entry _ _ (λ l. Unit {0}) _ _ (at_key _ key _) _ c.change.ensures.enough (c.in-Same.ensures.same refl).1

pub returns-in-Changed-clause-went : goal.returns-in-Changed-clause-went
returns-in-Changed-clause-went g c = λ key.
    leaf_one g.L.Leaf.entry _ _ (λ l. Unit {0}) _ _ (at_key _ key _) _ c.change.ensures.enough (c.in-Changed.ensures.changed refl)

pub returns-in_ok-split_leaf-in-Full-clause-went : goal.returns-in_ok-split_leaf-in-Full-clause-went
returns-in_ok-split_leaf-in-Full-clause-went g c = λ key.
    let r = c.in-Full.ensures.full refl in rw (r.1, r.0) at c.in_ok-split_leaf-in-Full.ensures.split key

pub returns-in_err-split_leaf-in-Full-clause-failed : goal.returns-in_err-split_leaf-in-Full-clause-failed
returns-in_err-split_leaf-in-Full-clause-failed g c = λ key.
    let r = c.in-Full.ensures.full refl in
    on_any c.from_residual.result _
    (leaf_kept _ _ _ _ _ _ (at_key _ key _) _ (c.in_err-split_leaf-in-Full.ensures.unchanged.0 ∙ r.0) (c.in-Full.ensures.needs refl))

pub returns-in_err-split_leaf-in-Full-clause-spare : goal.returns-in_err-split_leaf-in-Full-clause-spare
returns-in_err-split_leaf-in-Full-clause-spare g c = λ key p.
    let r = c.in-Full.ensures.full refl in
    let k = rw (r.1, r.0) at c.in_err-split_leaf-in-Full.ensures.lacks p in
    on_any c.from_residual.result _
    (leaf_kept _ _ _ _ _ _ (at_key _ key _) _ (c.in_err-split_leaf-in-Full.ensures.unchanged.0 ∙ r.0) k)

pub returns-in-OutOfMemory-clause-failed : goal.returns-in-OutOfMemory-clause-failed
returns-in-OutOfMemory-clause-failed g c = λ key.
    let r = c.in-OutOfMemory.ensures.memory refl in leaf_kept _ _ _ _ _ _ (at_key _ key _) _ r.0 r.2

pub returns-in-OutOfMemory-clause-spare : goal.returns-in-OutOfMemory-clause-spare
returns-in-OutOfMemory-clause-spare g c = λ key p.
    let r = c.in-OutOfMemory.ensures.memory refl in leaf_kept _ _ _ _ _ _ (at_key _ key _) _ r.0 r.3
