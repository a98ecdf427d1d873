-- A value is accepted if and only if the span of its root is accepted. The prover does not name the saved tree that was read.
use Rattle.std.proofs.Common.{◌≡◌, ◌∙◌, Err, sym, rules, refl}
use Rattle.serde_json.specs.View.{view}
use Rattle.vm_ranges.specs.declared.saved.ValueError.TheVariants.{OutOfMemory}
use Rattle.vm_saved_trees.specs.SavedTrees.{held_keys}
use Rattle.vm_saved_trees.proofs.Reading.Accepted.{unread, not_read, keys_held, keys_read}
use Rattle.vm_saved_trees.proofs.SavedNodes.Roots.{state_with}
use Rattle.vm_saved_trees.proofs.tree.read_held_keys.Goals as goal

pub returns-in_default-clause-answer : goal.returns-in_default-clause-answer
returns-in_default-clause-answer c = unread c.args.form (view c.args.value.now) c.args.space.now c.end-end.ensures.range c.in_default.ensures

pub returns-then-not-is_accepted-clause-answer : goal.returns-then-not-is_accepted-clause-answer
returns-then-not-is_accepted-clause-answer c =
    let read = c.in-Some.ensures in
    not_read c.args.form (view c.args.value.now) c.args.space.now c.end-end.ensures.range c.in-Some.root read.0 read.1.nodes read.1.stands
    (sym c.is_accepted.ensures.accepted ∙ c.if-not-is_accepted.true)

pub returns-in_err-held_keys-clause-answer : goal.returns-in_err-held_keys-clause-answer
returns-in_err-held_keys-clause-answer c =
    let read = c.in-Some.ensures in
    let memory : c.from_residual.result ≡ Err OutOfMemory = search rules in
    rw memory (
      state_with c.args.space.now (held_keys read.0),
      keys_read c.args.form (view c.args.value.now) c.args.space.now c.end-end.ensures.range c.in-Some.root read.0 read.1.nodes
          read.1.stands (sym c.is_accepted.ensures.accepted ∙ c.if-not-is_accepted.false) (held_keys read.0) refl,
    )

pub returns-clause-answer : goal.returns-clause-answer
returns-clause-answer c =
    let read = c.in-Some.ensures in
    keys_read c.args.form (view c.args.value.now) c.args.space.now c.end-end.ensures.range c.in-Some.root read.0 read.1.nodes
    read.1.stands (sym c.is_accepted.ensures.accepted ∙ c.if-not-is_accepted.false) _ (c.in_ok-held_keys.ensures c.in-Some.root read.0 read.1)

pub returns-clause-held : goal.returns-clause-held
returns-clause-held c =
    let read = c.in-Some.ensures in (
      read.0,
      keys_held c.args.form (view c.args.value.now) c.args.space.now c.end-end.ensures.range c.in-Some.root read.0 read.1.nodes
          read.1.stands (sym c.is_accepted.ensures.accepted ∙ c.if-not-is_accepted.false) _ (c.in_ok-held_keys.ensures c.in-Some.root read.0 read.1),
    )
