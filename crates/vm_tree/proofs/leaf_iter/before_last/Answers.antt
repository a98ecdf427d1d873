use Rattle.std.proofs.Common.{ap, arith}
use Rattle.vm_tree.specs.Entry.{Entry}
use Rattle.vm_tree.proofs.Between.{rise_ascend, not_empty, last_alone, last_next}
use Rattle.vm_tree.proofs.leaf_iter.before_last.Goals as goal

pub leaf_from-requires : goal.leaf_from-requires
leaf_from-requires g c = record { ascend = rise_ascend g.L.Leaf.entry c.args.tree.now.leaves c.requires.walk.rise }

pub unreachable-requires : goal.unreachable-requires
unreachable-requires g c = not_empty g.L.Leaf.entry c.args.to c.args.tree.now.leaves (c.requires.walk.high c.requires.some) c.in_default.ensures.none

pub returns-then-from-to : goal.returns-then-from-to
returns-then-from-to g c =
    last_alone g.L.Leaf.entry c.args.to c.args.tree.now.leaves c.requires.walk.rise c.in-Some.leaf.now _ c.in-Some.ensures.leaf c.args.from
    c.if-from-to.true (c.requires.walk.high c.requires.some)

pub leaf_from-requires-2 : goal.leaf_from-requires-2
leaf_from-requires-2 g c = record { ascend = rise_ascend g.L.Leaf.entry c.args.tree.now.leaves c.requires.walk.rise }

pub unreachable-requires-in_default-leaf_from : goal.unreachable-requires-in_default-leaf_from
unreachable-requires-in_default-leaf_from g c =
    not_empty g.L.Leaf.entry c.args.to c.args.tree.now.leaves (c.requires.walk.high c.requires.some) c.in_default-leaf_from.ensures.none

pub returns : goal.returns
returns g c =
    last_next g.L.Leaf.entry c.args.from c.args.to c.args.tree.now.leaves c.requires.walk c.in-Some.leaf.now c.in-Some-leaf_from.lower.now _ _
    (omega (arith, c.requires.some, c.if-from-to.false)) c.in-Some.ensures.leaf c.in-Some-leaf_from.ensures.leaf c.entry-entry.result.at
    (ap (λ (e : Entry). e.at) c.entry-entry.ensures)
