use Rattle.std.proofs.Common.{arith, Err, ◌≡◌, List, sym, subst}
use Rattle.vm_leaf.specs.declared.block.Block.{Block}
use Rattle.vm_tree.specs.Subtree.{Subtree}
use Rattle.vm_space.specs.Shape.{blocks}
use Rattle.vm_space.specs.Allocation.{AllocatesExact}
use Rattle.vm_space.specs.Spares.{HasSpare}
use Rattle.vm_space.specs.Trees.{IsBlockTree, held_blocks}
use Rattle.vm_space.specs.Placing.{IsStartIn}
use Rattle.vm_space.specs.declared.search.Refusal.TheVariants.{OutOfMemory}
use Rattle.vm_space.proofs.Spaces.{space_ascends, space_some}
use Rattle.vm_space.proofs.Taking.{is_no_memory}
use Rattle.vm_space.proofs.Spares.{not_missing}
use Rattle.vm_space.proofs.Exacts.{past_max, after_edit, no_memory}
use Rattle.vm_space.proofs.space.Space.allocate_exact.Goals as goal

pub returns-then-start-eq18446744073709551615-clause-answer : goal.returns-then-start-eq18446744073709551615-clause-answer
returns-then-start-eq18446744073709551615-clause-answer c =
    let v : c.self.inside.tree ≡ c.args.self.now = c.self.view_is in
    let s = subst (λ (x : Subtree (List Block)). IsStartIn c.args.search.now c.args.start (blocks x)) (sym v) c.requires.start in
    subst (λ (x : Subtree (List Block)). AllocatesExact c.args.search.now c.args.start (blocks x) (blocks x) _) v
    (past_max c.args.search.now c.args.start c.self.inside.tree c.requires.sized c.self.invariant s c.if-start-eq18446744073709551615.true)

pub edit_with-requires : goal.edit_with-requires
edit_with-requires c = (omega arith, (space_some _ c.self.invariant, (space_ascends _ c.self.invariant, λ l h. tt)))

pub returns-in_err-edit_with-clause-answer : goal.returns-in_err-edit_with-clause-answer
returns-in_err-edit_with-clause-answer c =
    let v : c.self.inside.tree ≡ c.args.self.now = c.self.view_is in
    let s = subst (λ (x : Subtree (List Block)). IsStartIn c.args.search.now c.args.start (blocks x)) (sym v) c.requires.start in
    let r = c.from_residual.ensures in
    let e = c.in_err-edit_with.ensures in
    rw (is_no_memory c.in_err-edit_with.field-0.0 c.from_residual.result r.0 r.1)
    (subst (λ (x : Subtree (List Block)). AllocatesExact c.args.search.now c.args.start (blocks x) (blocks c.edit_with.new.self) (Err (OutOfMemory c.in_err-edit_with.field-0.0))) v
    (no_memory c.args.search.now c.args.start c.requires.sized c.self.inside.tree c.edit_with.new.self c.self.invariant s c.in_err-edit_with.field-0.0
    e.unchanged.0 e.failed))

pub invariant_of-self-2 : goal.invariant_of-self-2
invariant_of-self-2 c =
    let v : c.self.inside.tree ≡ c.args.self.now = c.self.view_is in
    let s = subst (λ (x : Subtree (List Block)). IsStartIn c.args.search.now c.args.start (blocks x)) (sym v) c.requires.start in
    (after_edit c.args.search.now c.args.start c.requires.sized c.self.inside.tree c.edit_with.new.self c.self.invariant s c.edit_with.new.edit.answer
    c.in_ok-edit_with.field-0 c.in_ok-edit_with.ensures.after).space

pub returns-clause-answer : goal.returns-clause-answer
returns-clause-answer c =
    let v : c.self.inside.tree ≡ c.args.self.now = c.self.view_is in
    let s = subst (λ (x : Subtree (List Block)). IsStartIn c.args.search.now c.args.start (blocks x)) (sym v) c.requires.start in
    subst (λ (x : Subtree (List Block)). AllocatesExact c.args.search.now c.args.start (blocks x) (blocks c.edit_with.new.self) c.edit_with.new.edit.answer) v
    (after_edit c.args.search.now c.args.start c.requires.sized c.self.inside.tree c.edit_with.new.self c.self.invariant s c.edit_with.new.edit.answer
    c.in_ok-edit_with.field-0 c.in_ok-edit_with.ensures.after).allocates

pub returns-clause-memory : goal.returns-clause-memory
returns-clause-memory c = λ h.
    let v : c.self.inside.tree ≡ c.args.self.now = c.self.view_is in
    let s = subst (λ (x : Subtree (List Block)). IsStartIn c.args.search.now c.args.start (blocks x)) (sym v) c.requires.start in
    (after_edit c.args.search.now c.args.start c.requires.sized c.self.inside.tree c.edit_with.new.self c.self.invariant s c.edit_with.new.edit.answer
    c.in_ok-edit_with.field-0 c.in_ok-edit_with.ensures.after).memory

pub returns-in_err-edit_with-clause-memory : goal.returns-in_err-edit_with-clause-memory
returns-in_err-edit_with-clause-memory c = λ h. absurd (
    let b = subst IsBlockTree (sym c.self.view_is) c.facts.ensures in
    let s = subst (λ (x : Subtree (List Block)). HasSpare (held_blocks (blocks x)) c.args.spare.now) (sym c.self.view_is) h in
    not_missing c.args.search.now c.args.start c.self.inside.tree c.args.spare.now _ _ b c.take-leaf.ensures s c.in_err-edit_with.ensures.spare)
