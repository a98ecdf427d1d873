use Rattle.std.proofs.Common.{arith}
use Rattle.vm_tree.proofs.Nexts.{root_order, root_fits, root_lacks}
use Rattle.vm_tree.proofs.closest.may_enter.Goals as goal

pub low_kid-from-requires-clause-order : goal.low_kid-from-requires-clause-order
low_kid-from-requires-clause-order g c =
    root_order g.L.Leaf.entry g.L.Leaf.enough (g.S.Seek.seeking c.args.seek.now) c.end-end.ensures.lawful c.node.inside.entries c.node.inside.kids c.node.invariant
    c.args.node.now c.node.view_is c.requires.runs

pub kid_count-to-requires-clause-order : goal.kid_count-to-requires-clause-order
kid_count-to-requires-clause-order g c =
    root_order g.L.Leaf.entry g.L.Leaf.enough (g.S.Seek.seeking c.args.seek.now) c.end-end.ensures.lawful c.node.inside.entries c.node.inside.kids c.node.invariant
    c.args.node.now c.node.view_is c.requires.runs

pub returns : goal.returns
returns g c =
    let n = c.in-Some.ensures in
    root_fits g.L.Leaf.entry g.L.Leaf.enough (g.S.Seek.seeking c.args.seek.now) c.end-end.ensures.lawful c.node.inside.entries c.node.inside.kids c.node.invariant
    c.args.node.now c.node.view_is c.requires.runs c.in-Some._kid (omega (arith, n.before, c.kid_count-to.ensures.within)) n.fits

pub returns-in_default : goal.returns-in_default
returns-in_default g c =
    root_lacks g.L.Leaf.entry g.L.Leaf.enough (g.S.Seek.seeking c.args.seek.now) c.end-end.ensures.lawful c.node.inside.entries c.node.inside.kids c.node.invariant
    c.args.node.now c.node.view_is c.requires.runs c.end-end.result _ _ _ _ c.low.ensures c.high.ensures c.low_kid-from.ensures c.kid_count-to.ensures
    c.in_default.ensures
