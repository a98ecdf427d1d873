use Rattle.std.proofs.Common.{arith}
use Rattle.vm_tree.proofs.Building.{one_node}
use Rattle.vm_tree.proofs.build.build_tree.Goals as goal

pub returns : goal.returns
returns g c =
    one_node g.L.Leaf.enough c.loop-below.levels c.loop-below.below c.args.n (g.S.Source.left c.args.source.now)
    (g.S.Source.left c.build_node.new.source) c.in_ok-build_node.field-0.value c.in_ok-build_node.ensures c.loop-below.invariant.power
    c.loop-below.invariant.many (omega (arith, c.loop-below-test.false))
