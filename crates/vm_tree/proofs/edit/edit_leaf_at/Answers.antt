use Rattle.std.proofs.Common.{arith, ap, ◌∙◌}
use Rattle.vm_tree.specs.Subtree.{leaf_of}
use Rattle.vm_tree.specs.Nodes.{leaf_tree}
use Rattle.vm_tree.specs.declared.outcome.Outcome.TheVariants as outcome
use Rattle.vm_tree.proofs.Below.{grew_at, kept_at}
use Rattle.vm_tree.proofs.Results.{if_ok, on_err}
use Rattle.vm_tree.proofs.edit.edit_leaf_at.Goals as goal

pub returns-clause-grew : goal.returns-clause-grew
returns-clause-grew g c = λ key.
    if_ok c.edit_leaf.result _ _
    (λ o h. grew_at leaf_tree c.args.slots.now c.args.i _ c.in-Some.kid _ c.requires.dense c.requires.within c.in-Some.is g.L.Leaf.entry g.L.Leaf.enough
    _ _ _ o _ (ap leaf_of c.deref_mut-leaf.ensures.value) h)
    (c.edit_leaf.ensures.grew key)

pub returns-clause-unchanged : goal.returns-clause-unchanged
returns-clause-unchanged g c =
    on_err c.edit_leaf.result _ _
    (λ h. (
      kept_at leaf_tree c.args.slots.now c.args.i _ c.in-Some.kid _ c.requires.dense c.requires.within c.in-Some.is (ap leaf_of (h.0 ∙ c.deref_mut-leaf.ensures.value)),
      h.1,
    ))
    c.edit_leaf.ensures.unchanged

pub edit_leaf-requires : goal.edit_leaf-requires
edit_leaf-requires g c = (
  omega arith,
  (
    c.requires.can _ (record { box = c.in-Some.kid; value = c.deref_mut-leaf.ensures.value; other = c.index-slots-i.result; is = c.in-Some.is }),
    c.requires.was _ (record { box = c.in-Some.kid; value = c.deref_mut-leaf.ensures.value; other = c.index-slots-i.result; is = c.in-Some.is }),
  ),
)

pub returns-clause-failed : goal.returns-clause-failed
returns-clause-failed g c = λ key.
    on_err c.edit_leaf.result _ _
    (λ h. grew_at leaf_tree c.args.slots.now c.args.i _ c.in-Some.kid _ c.requires.dense c.requires.within c.in-Some.is g.L.Leaf.entry g.L.Leaf.enough
    _ _ _ outcome.Refused _ (ap leaf_of c.deref_mut-leaf.ensures.value) h)
    (c.edit_leaf.ensures.failed key)

pub returns-clause-spare : goal.returns-clause-spare
returns-clause-spare g c = λ key p.
    on_err c.edit_leaf.result _ _
    (λ h. grew_at leaf_tree c.args.slots.now c.args.i _ c.in-Some.kid _ c.requires.dense c.requires.within c.in-Some.is g.L.Leaf.entry g.L.Leaf.enough
    _ _ _ outcome.Refused _ (ap leaf_of c.deref_mut-leaf.ensures.value) h)
    (c.edit_leaf.ensures.spare key p)
