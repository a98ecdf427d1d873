use Rattle.std.proofs.Common.{Some, ap, ◌∙◌}
use Rattle.vm_tree.proofs.Leaves.{leaf_kept, leaf_same, leaf_changed, leaf_split}
use Rattle.vm_tree.proofs.Soughts.{at_leaf, leaf_vain}
use Rattle.vm_tree.proofs.Results.{on_any}
use Rattle.vm_tree.proofs.seek.seek_leaf.Goals as goal

pub returns-in_default-clause-sought : goal.returns-in_default-clause-sought
returns-in_default-clause-sought g c =
    let r = c.in_default.ensures.none in
    leaf_vain g.L.Leaf.entry (g.S.Seek.seeking c.args.seek.now) _ _ _ c.saturating_add.ensures _ c.requires.may r.0 r.2

pub returns-in-Refused-clause-sought : goal.returns-in-Refused-clause-sought
returns-in-Refused-clause-sought g c =
    let here = at_leaf g.L.Leaf.entry (g.S.Seek.seeking c.args.seek.now) _ _ c.args.leaf.now c.saturating_add.ensures in
    let r = c.in-Some.ensures.refused (ap Some c.in-Refused.is) in leaf_kept _ _ _ _ _ _ here _ r.0 r.1

pub returns-in-Same-clause-sought : goal.returns-in-Same-clause-sought
returns-in-Same-clause-sought g c =
    let here = at_leaf g.L.Leaf.entry (g.S.Seek.seeking c.args.seek.now) _ _ c.args.leaf.now c.saturating_add.ensures in
    let r = c.in-Some.ensures.same (ap Some c.in-Same.is) in leaf_same _ _ _ _ _ _ here _ c.seek.ensures.enough r.1 (r.0 c.requires.was)

pub returns-in-Changed-clause-sought : goal.returns-in-Changed-clause-sought
returns-in-Changed-clause-sought g c =
    let here = at_leaf g.L.Leaf.entry (g.S.Seek.seeking c.args.seek.now) _ _ c.args.leaf.now c.saturating_add.ensures in
    leaf_changed _ _ _ _ _ _ here _ _ c.seek.ensures.enough (c.in-Some.ensures.changed (ap Some c.in-Changed.is)) c.entry.ensures

pub returns-in_ok-split_sought-in-Full-clause-sought : goal.returns-in_ok-split_sought-in-Full-clause-sought
returns-in_ok-split_sought-in-Full-clause-sought g c =
    let here = at_leaf g.L.Leaf.entry (g.S.Seek.seeking c.args.seek.now) _ _ c.args.leaf.now c.saturating_add.ensures in
    let r = c.in-Some.ensures.full (ap Some c.in-Full.is) in
    let s = c.in_ok-split_sought-in-Full.ensures in
    let e = rw r.0 at s.edited in
    leaf_split _ _ _ _ _ _ here _ _ _ _ s.enough.0 s.enough.1 (r.3 _ _ e) s.entries.0 s.entries.1

pub returns-in_err-split_sought-in-Full-clause-failed : goal.returns-in_err-split_sought-in-Full-clause-failed
returns-in_err-split_sought-in-Full-clause-failed g c =
    let here = at_leaf g.L.Leaf.entry (g.S.Seek.seeking c.args.seek.now) _ _ c.args.leaf.now c.saturating_add.ensures in
    let r = c.in-Some.ensures.full (ap Some c.in-Full.is) in
    on_any c.from_residual.result _ (leaf_kept _ _ _ _ _ _ here _ (c.in_err-split_sought-in-Full.ensures.unchanged ∙ r.0) r.2)

pub returns-in-OutOfMemory-clause-failed : goal.returns-in-OutOfMemory-clause-failed
returns-in-OutOfMemory-clause-failed g c =
    let here = at_leaf g.L.Leaf.entry (g.S.Seek.seeking c.args.seek.now) _ _ c.args.leaf.now c.saturating_add.ensures in
    let r = c.in-Some.ensures.memory (ap Some c.in-OutOfMemory.is) in leaf_kept _ _ _ _ _ _ here _ r.0 r.1
