use Rattle.std.proofs.Common.{ap}
use Rattle.vm_tree.specs.Entry.{Entry}
use Rattle.vm_tree.proofs.Between.{rise_ascend, not_empty, here, whole_some}
use Rattle.vm_tree.proofs.leaf_iter.whole.Goals as goal

pub leaf_from-requires : goal.leaf_from-requires
leaf_from-requires g c = record { ascend = rise_ascend g.L.Leaf.entry c.args.tree.now.leaves c.requires.rise }

pub leaf_from-requires-2 : goal.leaf_from-requires-2
leaf_from-requires-2 g c = record { ascend = rise_ascend g.L.Leaf.entry c.args.tree.now.leaves c.requires.rise }

pub unreachable-requires : goal.unreachable-requires
unreachable-requires g c =
    not_empty g.L.Leaf.entry _ c.args.tree.now.leaves (here g.L.Leaf.entry 0 c.args.tree.now.leaves c.requires.rise c.in-Some.low.now _ c.in-Some.ensures.leaf)
    c.in_default-leaf_from.ensures.none

pub returns : goal.returns
returns g c =
    whole_some g.L.Leaf.entry _ c.args.tree.now.leaves c.requires.rise c.in-Some.low.now c.in-Some-leaf_from.high.now _ c.in-Some-leaf_from.next
    c.in-Some.ensures.leaf c.in-Some-leaf_from.ensures.leaf c.in-None.is c.entry-first.result.at c.entry-last.result.at
    (ap (λ (e : Entry). e.at) c.entry-first.ensures) (ap (λ (e : Entry). e.at) c.entry-last.ensures)
