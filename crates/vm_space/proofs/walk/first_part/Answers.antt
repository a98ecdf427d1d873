-- The blocks of the first leaf in the span come before those of the rest of the span.
-- Each branch has a lemma on a run that is cut after a leaf, which the prover does not apply even if it is named.
use Rattle.std.proofs.Common.{arith}
use Rattle.vm_space.specs.Shape.{blocks}
use Rattle.vm_space.proofs.Walks.{first_of_all, first_of_more}
use Rattle.vm_space.proofs.walk.first_part.Goals as goal

pub returns-then-span-end : goal.returns-then-span-end
returns-then-span-end c =
    first_of_all c.args.span (blocks c.args.tree.now) c.leaf_at-leaf.result.now c.requires.space.run c.leaf_at-leaf.ensures
    c.requires.order c.part_within-part.result c.part_within-part.ensures (omega arith)

pub returns : goal.returns
returns c =
    let k = c.if-span-end.false in
    rw c.end-end.ensures
    (first_of_more c.args.span (blocks c.args.tree.now) c.leaf_at-leaf.result.now c.requires.space.run c.leaf_at-leaf.ensures
    c.requires.order (omega arith) c.part_within-part.result c.part_within-part.ensures)
