use Rattle.std.proofs.Common.{refl}
use Rattle.vm_tree.proofs.Cuts.{leaf_uncut, leaf_same, leaf_full, leaf_small}
use Rattle.vm_tree.proofs.cut.cut_leaf.Goals as goal

pub returns-in-Refused-clause-shrank : goal.returns-in-Refused-clause-shrank
returns-in-Refused-clause-shrank g c = λ key.
    let r = c.in-Refused.ensures.refused refl in leaf_uncut _ _ key _ _ _ _ r.0 r.1

pub returns-in-Same-clause-shrank : goal.returns-in-Same-clause-shrank
returns-in-Same-clause-shrank g c = λ key.
    let r = c.in-Same.ensures.same refl in leaf_same _ _ key _ _ _ _ r.2 r.1 (r.0 c.requires)

pub returns-in-Changed-clause-shrank : goal.returns-in-Changed-clause-shrank
returns-in-Changed-clause-shrank g c = λ key.
    let r = c.in-Changed.ensures.changed _ refl in leaf_full _ _ key _ _ _ _ _ r.2 r.1 (r.0 c.requires)

pub returns-in-Small-clause-shrank : goal.returns-in-Small-clause-shrank
returns-in-Small-clause-shrank g c = λ key.
    let r = c.in-Small.ensures.small _ refl in leaf_small _ _ key _ _ _ _ _ r.1 (r.0 c.requires)
