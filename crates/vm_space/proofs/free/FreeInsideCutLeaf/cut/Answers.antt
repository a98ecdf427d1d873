use Rattle.std.proofs.Common.{refl, arith, ◌∙◌}
use Rattle.vm_space.proofs.Frees.{frees_in}
use Rattle.vm_space.proofs.Summaries.{raises_entry, told_changed, told_small}
use Rattle.vm_space.proofs.free.FreeInsideCutLeaf.cut.Goals as goal

pub returns-then-left-lt-MIN_BLOCKS-clause-small : goal.returns-then-left-lt-MIN_BLOCKS-clause-small
returns-then-left-lt-MIN_BLOCKS-clause-small c = λ e h. (
  raises_entry c.args.leaf.now c.join-gap.new.self c.in-Some.i c.join-gap.result c.args.was c.in-Some.ensures.0 c.in_default-edge_of.ensures c.join-gap.ensures.freed c.join-gap.ensures.raised _
      (told_small _ _ h ∙ c.with_gap-entry.ensures),
  (
    _,
    (
      refl,
      frees_in c.args.leaf.now c.join-gap.new.self c.in-Some.i c.in-Some.ensures.0 c.join-gap.ensures.freed c.args.self.now.key c.in-Some.ensures.1
          c.in_default-edge_of.ensures c.len-len.result c.len-left.result c.len-len.ensures.value c.len-left.ensures.value c.len-left.ensures.leaf.some,
    ),
  ),
  tt,
)

pub returns-clause-changed : goal.returns-clause-changed
returns-clause-changed c = λ e h. (
  raises_entry c.args.leaf.now c.join-gap.new.self c.in-Some.i c.join-gap.result c.args.was c.in-Some.ensures.0 c.in_default-edge_of.ensures c.join-gap.ensures.freed c.join-gap.ensures.raised _
      (told_changed _ _ h ∙ c.with_gap-entry.ensures),
  (
    _,
    (
      refl,
      frees_in c.args.leaf.now c.join-gap.new.self c.in-Some.i c.in-Some.ensures.0 c.join-gap.ensures.freed c.args.self.now.key c.in-Some.ensures.1
          c.in_default-edge_of.ensures c.len-len.result c.len-left.result c.len-len.ensures.value c.len-left.ensures.value c.len-left.ensures.leaf.some,
    ),
  ),
  λ h. omega arith,
)
