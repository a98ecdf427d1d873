use Rattle.std.proofs.Common.{◌≡◌, rules, map, ap, ◌∙◌, arith, subst}
use Rattle.vm_tree.specs.Copies.{AreCopies}
use Rattle.vm_tree.specs.Nodes.{node_tree}
use Rattle.vm_tree.specs.Slots.{held}
use Rattle.vm_tree.specs.Subtree.{front, height_of}
use Rattle.vm_tree.proofs.Copies.{copied_next, kid_height}
use Rattle.vm_tree.proofs.copy.+copy.Goals as goal

pub copy_nodes-returns : goal.copy_nodes-returns
copy_nodes-returns g t c = subst (λ m. AreCopies node_tree m c.args.slots.now c.loop-i.to) (omega arith) c.loop-i.invariant

pub copy_nodes-copy_node-requires : goal.copy_nodes-copy_node-requires
copy_nodes-copy_node-requires g t c = λ κs within.
    let v : c.deref-kid.result.now ≡ c.in-Some.kid.value = c.deref-kid.ensures in
    let h = kid_height node_tree g.L.Leaf.enough (front (map node_tree (held c.args.slots.now))) c.args.slots.now c.loop-i.i _ c.in-Some.kid
    c.requires.even c.requires.dense (omega (arith, c.requires.len, c.loop-i-test.true)) c.in-Some.is in
    let k = ap height_of v in
    (search (rules, h, k, c.decreases), (within, omega arith))

pub copy_nodes-loop-i-preserved : goal.copy_nodes-loop-i-preserved
copy_nodes-loop-i-preserved g t c =
    copied_next node_tree c.args.slots.now c.loop-i.to c.insert_slot.new.slots c.loop-i.i _ c.in-Some.kid c.in_ok-copy_node-in-Some.field-0
    c.requires.dense (omega (arith, c.requires.len, c.loop-i-test.true)) c.in-Some.is c.loop-i.invariant
    (c.in_ok-copy_node-in-Some.ensures ∙ c.deref-kid.ensures) c.insert_slot.ensures.dense c.insert_slot.ensures.held
