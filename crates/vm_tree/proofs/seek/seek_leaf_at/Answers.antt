use Rattle.std.proofs.Common.{Some, arith, ap, subst, sym, ◌∙◌}
use Rattle.vm_tree.specs.Subtree.{Subtree, leaf_of}
use Rattle.vm_tree.specs.Nodes.{leaf_tree}
use Rattle.vm_tree.specs.declared.outcome.Outcome.TheVariants as outcome
use Rattle.vm_tree.specs.Sought.{MayEnter}
use Rattle.vm_tree.proofs.Below.{at}
use Rattle.vm_tree.proofs.Soughts.{sought_at}
use Rattle.vm_tree.proofs.Results.{if_ok, on_err}
use Rattle.vm_tree.proofs.seek.seek_leaf_at.Goals as goal

pub returns-clause-sought : goal.returns-clause-sought
returns-clause-sought g c =
    if_ok c.seek_leaf.result _ _
    (λ r h. sought_at leaf_tree c.args.slots.now c.args.i _ c.in-Some.kid _ c.requires.dense c.requires.within c.in-Some.is g.L.Leaf.entry g.L.Leaf.enough
    (g.S.Seek.seeking c.args.seek.now) _ _ _ _ _ (ap leaf_of c.deref_mut-leaf.ensures.value) r h)
    c.seek_leaf.ensures.sought

pub returns-clause-failed : goal.returns-clause-failed
returns-clause-failed g c =
    on_err c.seek_leaf.result _ _
    (λ h. sought_at leaf_tree c.args.slots.now c.args.i _ c.in-Some.kid _ c.requires.dense c.requires.within c.in-Some.is g.L.Leaf.entry g.L.Leaf.enough
    (g.S.Seek.seeking c.args.seek.now) _ _ _ _ _ (ap leaf_of c.deref_mut-leaf.ensures.value) (Some outcome.Refused) h)
    c.seek_leaf.ensures.failed

pub seek_leaf-requires : goal.seek_leaf-requires
seek_leaf-requires g c =
    let e = at leaf_tree c.args.slots.now c.args.i _ c.in-Some.kid c.in-Some.kid c.requires.dense c.requires.within c.in-Some.is
    ∙ sym (ap leaf_of c.deref_mut-leaf.ensures.value) in (
      omega arith,
      (
        subst (λ (s : Subtree g.row.L.Denot). MayEnter g.L.Leaf.entry (g.S.Seek.seeking c.args.seek.now) s.leaves) e c.requires.may,
        c.requires.was _ (record { box = c.in-Some.kid; value = c.deref_mut-leaf.ensures.value; other = c.index-slots-i.result; is = c.in-Some.is }),
      ),
    )
