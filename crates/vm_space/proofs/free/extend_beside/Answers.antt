use Rattle.std.proofs.Common.{refl, ◌+◌, ◌-◌, ℕ, sym, subst, arith, ◌∙◌}
use Rattle.vm_leaf.specs.Entries.{blocks_entry}
use Rattle.vm_tree.specs.Edits.{IsEdited, IsRefused}
use Rattle.vm_tree.specs.Shrinks.{Any}
use Rattle.vm_space.specs.Edges.{BecomesOne, ExtendsLast, ExtendsFirst, RefusesExtension}
use Rattle.vm_tree.specs.declared.end.End.TheVariants.{First, Last}
use Rattle.vm_space.proofs.Spaces.{space_ascends}
use Rattle.vm_space.proofs.Beside.{first_outward, last_outward, last_below, extended_low, apart_low, apart_at_zero, extended_high, apart_high}
use Rattle.vm_space.proofs.free.extend_beside.Goals as goal

pub returns-then-start-eq0-clause-apart : goal.returns-then-start-eq0-clause-apart
returns-then-start-eq0-clause-apart c = λ _. (
  refl,
  apart_at_zero c.args.key.now c.args.edge c.in-First.is _ c.requires.space c.requires.edge (sym c.start.ensures.value ∙ c.if-start-eq0.true),
)

pub invariant_of-extend : goal.invariant_of-extend
invariant_of-extend c =
    let o = first_outward c.args.key.now c.args.edge _ c.requires.space c.requires.edge c.in-First.is in
    record { valid = (λ _. omega (arith, o, c.start-in-First-2.ensures.value), λ e. absurd (cc)) }

pub cut-requires-clause-ascend : goal.cut-requires-clause-ascend
cut-requires-clause-ascend c = space_ascends _ c.requires.space

pub overflow_add-end : goal.overflow_add-end
overflow_add-end c =
    let o = last_below c.args.key.now c.args.edge _ c.requires.space c.requires.edge c.in-Last.is in
    omega (arith, o, c.end-in-Last.ensures.value)

pub invariant_of-extend-in-Last : goal.invariant_of-extend-in-Last
invariant_of-extend-in-Last c =
    let o = last_outward c.args.key.now c.args.edge _ c.requires.space c.requires.edge c.in-Last.is in
    record { valid = (λ e. absurd (cc), λ _. omega (arith, o, c.end.ensures.value)) }

pub cut-requires-in-Last-clause-ascend : goal.cut-requires-in-Last-clause-ascend
cut-requires-in-Last-clause-ascend c = space_ascends _ c.requires.space

pub returns-else-start-eq0-clause-extended : goal.returns-else-start-eq0-clause-extended
returns-else-start-eq0-clause-extended c = λ e.
    let k = c.args.key.now in
    let h = subst (λ (z : ℕ). IsEdited blocks_entry Any (c.start-in-First-2.result - 1) (λ l ls. BecomesOne (ExtendsLast z c.args.edge.to) l ls) c.args.tree.now.leaves c.cut.new.self.leaves)
    c.start-in-First.ensures.value (c.cut.ensures.kept (λ x. x) e) in
    extended_low k c.args.edge c.in-First.is c.args.tree.now.leaves c.requires.space c.requires.edge c.cut.new.self.leaves
    (omega (arith, c.if-start-eq0.false, c.start.ensures.value))
    (subst (λ (z : ℕ). IsEdited blocks_entry Any (z - 1) (λ l ls. BecomesOne (ExtendsLast k.start c.args.edge.to) l ls) c.args.tree.now.leaves c.cut.new.self.leaves)
    c.start-in-First-2.ensures.value h)

pub returns-else-start-eq0-clause-apart : goal.returns-else-start-eq0-clause-apart
returns-else-start-eq0-clause-apart c = λ e.
    let k = c.args.key.now in
    let t = rw e at c.cut.ensures.after in
    let h = subst (λ (z : ℕ). IsRefused blocks_entry (c.start-in-First-2.result - 1) (λ l. RefusesExtension First z c.args.edge.to l) c.args.tree.now.leaves)
    c.start-in-First.ensures.value t.refused in (
      t.same,
      apart_low k c.args.edge c.in-First.is c.args.tree.now.leaves c.requires.space c.requires.edge (omega (arith, c.if-start-eq0.false, c.start.ensures.value))
          (subst (λ (z : ℕ). IsRefused blocks_entry (z - 1) (λ l. RefusesExtension First k.start c.args.edge.to l) c.args.tree.now.leaves)
          c.start-in-First-2.ensures.value h),
    )

pub returns-in-Last-clause-extended : goal.returns-in-Last-clause-extended
returns-in-Last-clause-extended c = λ e.
    let k = c.args.key.now in
    let h = subst (λ (z : ℕ). IsEdited blocks_entry Any (c.end-in-Last.result + 1) (λ l ls. BecomesOne (ExtendsFirst z c.args.edge.to) l ls) c.args.tree.now.leaves c.cut-in-Last.new.self.leaves)
    c.end.ensures.value (c.cut-in-Last.ensures.kept (λ x. x) e) in
    extended_high k c.args.edge c.in-Last.is c.args.tree.now.leaves c.requires.space c.requires.edge c.cut-in-Last.new.self.leaves
    (subst (λ (z : ℕ). IsEdited blocks_entry Any (z + 1) (λ l ls. BecomesOne (ExtendsFirst k.end c.args.edge.to) l ls) c.args.tree.now.leaves c.cut-in-Last.new.self.leaves)
    c.end-in-Last.ensures.value h)

pub returns-in-Last-clause-apart : goal.returns-in-Last-clause-apart
returns-in-Last-clause-apart c = λ e.
    let k = c.args.key.now in
    let t = rw e at c.cut-in-Last.ensures.after in
    let h = subst (λ (z : ℕ). IsRefused blocks_entry (c.end-in-Last.result + 1) (λ l. RefusesExtension Last z c.args.edge.to l) c.args.tree.now.leaves)
    c.end.ensures.value t.refused in (
      t.same,
      apart_high k c.args.edge c.in-Last.is c.args.tree.now.leaves c.requires.space c.requires.edge
          (subst (λ (z : ℕ). IsRefused blocks_entry (z + 1) (λ l. RefusesExtension Last k.end c.args.edge.to l) c.args.tree.now.leaves)
          c.end-in-Last.ensures.value h),
    )
