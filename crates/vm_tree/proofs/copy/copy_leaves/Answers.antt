use Rattle.std.proofs.Common.{ap, ◌∙◌, arith, subst}
use Rattle.vm_tree.specs.Copies.{AreCopies}
use Rattle.vm_tree.specs.Subtree.{leaf_of}
use Rattle.vm_tree.specs.Nodes.{leaf_tree}
use Rattle.vm_tree.proofs.Copies.{copied_next}
use Rattle.vm_tree.proofs.copy.copy_leaves.Goals as goal

pub loop-i-preserved : goal.loop-i-preserved
loop-i-preserved g c =
    copied_next leaf_tree c.args.slots.now c.loop-i.to c.insert_slot.new.slots c.loop-i.i _ c.in-Some.kid c.in_ok-try_copy-in-Some.field-0
    c.requires.dense (omega (arith, c.requires.len, c.loop-i-test.true)) c.in-Some.is c.loop-i.invariant
    (ap leaf_of (c.in_ok-try_copy-in-Some.ensures ∙ c.deref-kid.ensures)) c.insert_slot.ensures.dense c.insert_slot.ensures.held

pub returns : goal.returns
returns g c = subst (λ m. AreCopies leaf_tree m c.args.slots.now c.loop-i.to) (omega arith) c.loop-i.invariant
