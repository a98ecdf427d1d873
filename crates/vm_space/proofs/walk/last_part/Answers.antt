-- The blocks of the last leaf in the span come after those of the rest of the span.
-- Each branch has a lemma on a run that is cut before a leaf, which the prover does not apply even if it is named.
use Rattle.std.proofs.Common.{arith}
use Rattle.vm_space.specs.Shape.{blocks}
use Rattle.vm_space.proofs.Walks.{last_of_all, last_of_more}
use Rattle.vm_space.proofs.walk.last_part.Goals as goal

pub returns-then-start-span : goal.returns-then-start-span
returns-then-start-span c =
    last_of_all c.args.span (blocks c.args.tree.now) c.leaf_at-leaf.result.now c.requires.space.run c.leaf_at-leaf.ensures c.requires.order
    c.part_within-part.result c.part_within-part.ensures (omega arith)

pub returns : goal.returns
returns c =
    let k = c.if-start-span.false in
    rw c.start-start.ensures
    (last_of_more c.args.span (blocks c.args.tree.now) c.leaf_at-leaf.result.now c.requires.space.run c.leaf_at-leaf.ensures
    c.requires.order (omega arith) c.part_within-part.result c.part_within-part.ensures)
