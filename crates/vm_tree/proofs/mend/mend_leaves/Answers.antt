use Rattle.std.proofs.Common.{arith, lit<}
use Rattle.vm_tree.specs.Slots.{held}
use Rattle.vm_tree.specs.Nodes.{leaf_tree}
use Rattle.vm_tree.proofs.Pairs.{pair_within, mended, pair_count}
use Rattle.vm_tree.proofs.mend.mend_leaves.Goals as goal

pub settle_pair-requires : goal.settle_pair-requires
settle_pair-requires g c =
    let w = pair_within _ c.args.i (held c.args.slots.now) c.requires.pair in
    let n = pair_count g.L.Leaf.entry g.L.Leaf.enough g.L.Leaf.joins leaf_tree _ c.args.i (held c.args.slots.now) (held c.join_leaves-one.new.slots) c.args.entries.now
    _ _ _ c.join_leaves-one.ensures.paired c.requires.entries in
    (lit< tt, (c.join_leaves-one.ensures.dense, (n.1, omega (arith, n.0, w))))

pub returns-clause-entries : goal.returns-clause-entries
returns-clause-entries g c =
    (mended g.L.Leaf.entry g.L.Leaf.enough g.L.Leaf.joins leaf_tree _ c.args.i (held c.args.slots.now) (held c.join_leaves-one.new.slots) (held c.settle_pair.new.slots)
    c.args.entries.now c.settle_pair.new.entries c.join_leaves-one.result.0 c.join_leaves-one.result.1 c.join_leaves-one.result.2
    (pair_within _ c.args.i (held c.args.slots.now) c.requires.pair) c.join_leaves-one.ensures.paired c.requires.entries c.settle_pair.ensures.entries
    c.settle_pair.ensures.held).0

pub returns-clause-mended : goal.returns-clause-mended
returns-clause-mended g c =
    (mended g.L.Leaf.entry g.L.Leaf.enough g.L.Leaf.joins leaf_tree _ c.args.i (held c.args.slots.now) (held c.join_leaves-one.new.slots) (held c.settle_pair.new.slots)
    c.args.entries.now c.settle_pair.new.entries c.join_leaves-one.result.0 c.join_leaves-one.result.1 c.join_leaves-one.result.2
    (pair_within _ c.args.i (held c.args.slots.now) c.requires.pair) c.join_leaves-one.ensures.paired c.requires.entries c.settle_pair.ensures.entries
    c.settle_pair.ensures.held).1
