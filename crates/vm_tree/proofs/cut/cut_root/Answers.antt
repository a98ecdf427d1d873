use Rattle.std.proofs.Common.{refl}
use Rattle.vm_tree.proofs.Cuts.{leaf_uncut, cut_one}
use Rattle.vm_tree.proofs.cut.cut_root.Goals as goal

pub returns-in-Refused : goal.returns-in-Refused
returns-in-Refused g c = λ key.
    let r = c.in-Refused.ensures.refused refl in leaf_uncut _ _ key _ _ _ _ r.0 r.1

pub returns-in-Same : goal.returns-in-Same
returns-in-Same g c = λ key. cut_one g.L.Leaf.entry g.L.Leaf.enough key (λ l. Unit {0}) _ _ _ (c.in-Same.ensures.same refl).1

pub returns-in-Changed : goal.returns-in-Changed
returns-in-Changed g c = λ key. cut_one g.L.Leaf.entry g.L.Leaf.enough key (λ l. Unit {0}) _ _ _ (c.in-Changed.ensures.changed _ refl).1

pub returns-in-Small : goal.returns-in-Small
returns-in-Small g c = λ key. cut_one g.L.Leaf.entry g.L.Leaf.enough key (λ l. Unit {0}) _ _ _ (c.in-Small.ensures.small _ refl).1
