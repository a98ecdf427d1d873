use Rattle.std.proofs.Common.{ap, ◌∙◌}
use Rattle.vm_leaf.specs.declared.block.Block.{Block}
use Rattle.vm_leaf.specs.Blocks.{with_parts, parts}
use Rattle.vm_space.proofs.Summaries.{keeps_entry}
use Rattle.vm_space.proofs.place.take_place.Goals as goal

pub returns-clause-kept : goal.returns-clause-kept
returns-clause-kept c = λ h w.
    let l = c.reaches.ensures h in
    keeps_entry c.args.leaf.now _ c.args.place.now c.args.was.now c.to_be_left.result c.to_be_left-2.result c.len-len.ensures.leaf c.requires.place
    (c.split.ensures ∙ ap (λ (b : Block). with_parts c.args.leaf.now c.args.place.now.index 1 (parts b.key c.args.place.now.range)) c.requires.place.gap)
    (rw c.of_gap-gap.ensures.longest at c.to_be_left.ensures) (rw (c.into.ensures, c.into-2.ensures, c.of_gap-gap.ensures.alignments) at c.to_be_left-2.ensures) l.0 l.1 w
