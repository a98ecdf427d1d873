use Rattle.std.proofs.Common.{◌∙◌, arith, inl, inr}
use Rattle.vm_space.proofs.Edged.{last_order}
use Rattle.vm_space.proofs.edge.extend_last.Goals as goal

pub move_end-requires-clause-range : goal.move_end-requires-clause-range
move_end-requires-clause-range c =
    let o = last_order c.args.leaf.now c.len-len.ensures.leaf in (
      omega (arith, o.0, o.1),
      omega arith,
      λ e. elim c.else-start-eq0.either [
        | inl x ↦ (let n = x.1 in omega arith)
        | inr x ↦ absurd (x (c.start.ensures ∙ e))
      ],
    )
