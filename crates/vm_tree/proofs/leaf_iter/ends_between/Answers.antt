use Rattle.std.proofs.Common.{length, ap, arith}
use Rattle.vm_tree.specs.Entry.{Entry}
use Rattle.vm_tree.proofs.Between.{rise_ascend, not_empty, here, between, none_between}
use Rattle.vm_tree.proofs.leaf_iter.ends_between.Goals as goal

pub returns-then-high-low : goal.returns-then-high-low
returns-then-high-low g c =
    none_between g.L.Leaf.entry c.args.low c.args.high c.args.tree.now.leaves c.requires.rise (λ l. absurd (omega (arith, l, c.if-high-low.true)))

pub leaf_from-requires : goal.leaf_from-requires
leaf_from-requires g c = record { ascend = rise_ascend g.L.Leaf.entry c.args.tree.now.leaves c.requires.rise }

pub leaf_from-requires-2 : goal.leaf_from-requires-2
leaf_from-requires-2 g c = record { ascend = rise_ascend g.L.Leaf.entry c.args.tree.now.leaves c.requires.rise }

pub returns-in_default : goal.returns-in_default
returns-in_default g c = none_between g.L.Leaf.entry c.args.low c.args.high c.args.tree.now.leaves c.requires.rise (λ l. ap length c.in_default.ensures.none)

pub unreachable-requires : goal.unreachable-requires
unreachable-requires g c =
    not_empty g.L.Leaf.entry _ c.args.tree.now.leaves (here g.L.Leaf.entry c.args.low c.args.tree.now.leaves c.requires.rise c.in-Some.lowest.now _ c.in-Some.ensures.leaf)
    c.in_default-leaf_from.ensures.none

pub returns : goal.returns
returns g c =
    between g.L.Leaf.entry c.args.low c.args.high c.args.tree.now.leaves c.requires.rise c.if-high-low.false c.in-Some.lowest.now c.in-Some-leaf_from.highest.now _ _
    c.in-Some.ensures.leaf c.in-Some-leaf_from.ensures.leaf c.entry-first.result.at c.entry-last.result.at
    (ap (λ (e : Entry). e.at) c.entry-first.ensures) (ap (λ (e : Entry). e.at) c.entry-last.ensures)
