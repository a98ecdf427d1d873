use Rattle.std.proofs.Common.{refl, sym, subst}
use Rattle.vm_leaf.specs.declared.block.Block.{Block}
use Rattle.vm_tree.specs.Subtree.{Subtree}
use Rattle.vm_space.specs.Edges.{IsApart}
use Rattle.std.specs.Prelude.{List}
use Rattle.vm_space.proofs.free.free_at_edge.Goals as goal

pub free_end-requires-clause-apart : goal.free_end-requires-clause-apart
free_end-requires-clause-apart c =
    let a = c.if-extend_beside.ensures.apart refl in
    subst (λ (t : Subtree (List Block)). IsApart c.args.key.now c.args.edge t.leaves) (sym a.0) a.1
