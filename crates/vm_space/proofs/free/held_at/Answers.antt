use Rattle.std.proofs.Common.{◌∙◌, ap, sym}
use Rattle.vm_leaf.specs.declared.block.Block.{Block}
use Rattle.vm_space.proofs.FreesAbsent.{held_at, not_held}
use Rattle.vm_space.proofs.free.held_at.Goals as goal
use Rattle.vm_space.proofs.free.held_at.Goals.{then-start-via-then-start, then-start-via-else-start+then-end}

pub returns-then-start : goal.returns-then-start
returns-then-start c = λ at h.
    let i = c.index_of-i in
    let e = held_at c.args.leaf.now i.result c.args.key.now c.start-start.result c.len-len.ensures.leaf i.ensures.within i.ensures.found.0
    i.ensures.found.1 c.start-start.ensures.value h in
    elim c.then-start.branch [
      | then-start-via-then-start w ↦ w.if-start.true
          (c.start.ensures.value ∙ ap (λ (x : Block). x.key.start) (c.block_at-block.ensures ∙ e) ∙ sym c.start-start.ensures.value)
      | then-start-via-else-start+then-end w ↦ w.if-end.true
          (w.end.ensures.value ∙ ap (λ (x : Block). x.key.end) (c.block_at-block.ensures ∙ e) ∙ sym c.end-end.ensures.value)
    ]

pub returns-in-Free : goal.returns-in-Free
returns-in-Free c = λ at h.
    let i = c.index_of-i in
    let e = held_at c.args.leaf.now i.result c.args.key.now c.start-start.result c.len-len.ensures.leaf i.ensures.within i.ensures.found.0
    i.ensures.found.1 c.start-start.ensures.value h in
    not_held c.block_at-block.result c.args.key.now c.in-Free.is (c.block_at-block.ensures ∙ e)
