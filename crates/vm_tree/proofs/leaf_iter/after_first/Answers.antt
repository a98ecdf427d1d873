use Rattle.vm_tree.proofs.Between.{rise_ascend, not_empty, first_next, first_last}
use Rattle.vm_tree.proofs.leaf_iter.after_first.Goals as goal

pub leaf_from-requires : goal.leaf_from-requires
leaf_from-requires g c = record { ascend = rise_ascend g.L.Leaf.entry c.args.tree.now.leaves c.requires.walk.rise }

pub unreachable-requires : goal.unreachable-requires
unreachable-requires g c = not_empty g.L.Leaf.entry c.args.from c.args.tree.now.leaves (c.requires.walk.low c.requires.some) c.in-None.ensures.none

pub returns-in-Some-next : goal.returns-in-Some-next
returns-in-Some-next g c =
    first_next g.L.Leaf.entry c.args.from c.args.tree.now.leaves c.requires.walk.rise c.in-Some.leaf.now c.in-Some.next c.in-Some.ensures.leaf c.args.to
    c.in-Some-next.next c.requires.some (c.requires.walk.low c.requires.some) c.requires.walk.high c.in-Some-next.is

pub returns-in-None-next : goal.returns-in-None-next
returns-in-None-next g c =
    first_last g.L.Leaf.entry c.args.from c.args.tree.now.leaves c.requires.walk.rise c.in-Some.leaf.now c.in-Some.next c.in-Some.ensures.leaf c.args.to
    c.requires.some (c.requires.walk.low c.requires.some) c.in-None-next.is
