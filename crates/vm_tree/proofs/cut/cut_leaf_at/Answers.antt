use Rattle.std.proofs.Common.{◌∙◌, sym, ap, map}
use Rattle.vm_tree.specs.Slots.{held}
use Rattle.vm_tree.specs.Subtree.{leaf_of, entry_of}
use Rattle.vm_tree.specs.Nodes.{leaf_tree}
use Rattle.vm_tree.specs.Mends.{NoJoin}
use Rattle.vm_tree.proofs.Below.{at}
use Rattle.vm_tree.proofs.Leaves.{joined-none}
use Rattle.vm_tree.proofs.Cuts.{shrank_at}
use Rattle.vm_tree.proofs.Quiets.{quiet_at, still_small}
use Rattle.vm_tree.proofs.cut.cut_leaf_at.Goals as goal

pub cut_leaf-outcome-requires : goal.cut_leaf-outcome-requires
cut_leaf-outcome-requires g c =
    c.requires.was _ (record { box = c.in-Some.kid; value = c.deref_mut-leaf.ensures.value; other = c.index-slots-i.result; is = c.in-Some.is })

pub returns-clause-shrank : goal.returns-clause-shrank
returns-clause-shrank g c = λ key.
    let v = at leaf_tree c.args.slots.now c.args.i _ c.in-Some.kid c.in-Some.kid c.requires.dense c.requires.within c.in-Some.is in
    let w = c.requires.was _ (record { box = c.in-Some.kid; value = c.deref_mut-leaf.ensures.value; other = c.index-slots-i.result; is = c.in-Some.is }) in
    quiet_at g.L.Leaf.entry g.L.Leaf.enough NoJoin key _ _ c.args.was c.args.i (map leaf_tree (held c.args.slots.now)) _ c.cut_leaf-outcome.result _
    (w ∙ joined-none _ ∙ ap (λ l. entry_of g.L.Leaf.entry (leaf_of l)) c.deref_mut-leaf.ensures.value ∙ ap (entry_of g.L.Leaf.entry) (sym v)) c.quiet.ensures
    (shrank_at leaf_tree c.args.slots.now c.args.i _ c.in-Some.kid _ c.requires.dense c.requires.within c.in-Some.is g.L.Leaf.entry g.L.Leaf.enough NoJoin
    key _ _ c.cut_leaf-outcome.result _ (ap leaf_of c.deref_mut-leaf.ensures.value) (c.cut_leaf-outcome.ensures.shrank key))

pub returns-clause-may : goal.returns-clause-may
returns-clause-may g c = still_small c.args.was _ c.cut_leaf-outcome.result c.quiet.result c.quiet.ensures c.cut_leaf-outcome.ensures.may
