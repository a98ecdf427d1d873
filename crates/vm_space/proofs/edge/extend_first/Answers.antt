use Rattle.std.proofs.Common.{arith}
use Rattle.vm_space.proofs.Edged.{first_order}
use Rattle.vm_space.proofs.edge.extend_first.Goals as goal
use Rattle.vm_space.proofs.edge.extend_first.Goals.{else-first-eq0-via-then-first-eq0+else-end-eq18446744073709551615, else-first-eq0-via-else-first-eq0}

pub move_start-requires-clause-range : goal.move_start-requires-clause-range
move_start-requires-clause-range c =
    let o = first_order c.args.leaf.now c.len-len.ensures.leaf in (
      omega (arith, o.0, o.1),
      omega (arith, c.len-len.ensures.leaf.range.1, o.2),
      λ e. elim c.else-first-eq0.branch [
        | else-first-eq0-via-then-first-eq0+else-end-eq18446744073709551615 w ↦
            (let n = w.if-end-eq18446744073709551615.false in omega (arith, w.end.ensures, c.len-len.ensures.leaf.range.1, o.2))
        | else-first-eq0-via-else-first-eq0 w ↦ absurd (w.if-first-eq0.false e)
      ],
    )
