-- The kept keys are those of each tree that the root's span stands for. The prover does not build a fact about every tree.
use Rattle.std.proofs.Common.{◌≡◌, ◌∙◌, true, false, Option, sym, ap, refl}
use Rattle.vm_saved_trees.specs.NodesRead.{condition_of}
use Rattle.vm_saved_trees.specs.SavedTrees.{HasHeldAs}
use Rattle.vm_saved_trees.specs.Spans.{is_accepted}
use Rattle.vm_saved_trees.specs.declared.span.Span.{Span}
use Rattle.vm_saved_trees.proofs.SavedNodes.Roots.{not_accepted, keys_as}
use Rattle.vm_saved_trees.proofs.SavedNodes.WholeTrees.{makes_none, makes_whole, whole_in}
use Rattle.vm_saved_trees.proofs.nodes.ReadNodes.held_keys.Goals as goal

pub returns-in_default-root_of-clause-answer : goal.returns-in_default-root_of-clause-answer
returns-in_default-root_of-clause-answer c = rw c.condition_of.ensures
    (makes_none (HasHeldAs c.args.form c.args.space.now) (condition_of c.args.form) _ _ _ _ _ c.self.view_is c.in_default.is _
    c.deref.ensures.value c.in_default-root_of.ensures)

pub returns-then-not-is_accepted-clause-answer : goal.returns-then-not-is_accepted-clause-answer
returns-then-not-is_accepted-clause-answer c =
    let form = c.args.form in
    let space = c.args.space.now in
    let whole = c.in-Some-root_of.ensures in
    let is : is_accepted form space c.self.inside.root.left ≡ false = ap (λ (o : Option Span). is_accepted form space o) (sym whole.2)
    ∙ sym c.is_accepted.ensures.accepted ∙ c.if-not-is_accepted.true in
    rw c.condition_of.ensures
    (makes_whole (HasHeldAs form space) (condition_of form) _ _ _ _ _ c.self.view_is c.in_default.is _ c.deref.ensures.value _
    (whole.0, whole.1)
    (λ t s keys. (refl, not_accepted form space c.self.inside.root.left t s is)))

-- The root is accepted.
root_accepted : (c : goal.After-deref-2) → is_accepted c.args.form c.args.space.now c.self.inside.root.left ≡ true
root_accepted c =
    let form = c.args.form in
    let space = c.args.space.now in
    ap (λ (o : Option Span). is_accepted form space o) (sym c.in-Some-root_of.ensures.2)
    ∙ sym c.is_accepted.ensures.accepted ∙ c.if-not-is_accepted.false

pub returns-clause-answer : goal.returns-clause-answer
returns-clause-answer c =
    let form = c.args.form in
    let space = c.args.space.now in
    let whole = c.in-Some-root_of.ensures in
    makes_whole (HasHeldAs form space) (condition_of form) _ _ _ _ _ c.self.view_is c.in_default.is _ c.deref.ensures.value _
    (whole.0, whole.1)
    (λ t s keys. keys_as form space c.self.inside.root.left t s c.is_accepted.ensures.space.1 (root_accepted c) c.deref-2.result.now
    (c.deref-2.ensures.value ∙ keys))

pub returns-clause-held : goal.returns-clause-held
returns-clause-held c =
    let form = c.args.form in
    let space = c.args.space.now in
    let whole = c.in-Some-root_of.ensures in
    let w = whole_in _ _ _ _ _ c.self.invariant c.in_default.is c.deref.ensures.value (whole.0, whole.1) in (
      w.0,
      keys_as form space c.self.inside.root.left w.0 w.1 c.is_accepted.ensures.space.1 (root_accepted c) c.deref-2.result.now
          (c.deref-2.ensures.value ∙ w.2),
    )
