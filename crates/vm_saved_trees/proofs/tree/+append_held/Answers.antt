-- The keys are appended in order: left child, node, right child. The prover does not split an arbitrary saved tree at its root.
use Rattle.std.proofs.Common.{sym}
use Rattle.serde_json.specs.View.{view}
use Rattle.vm_saved_trees.proofs.Reading.ReadValues.{no_keys, no_nodes, keys_appended}
use Rattle.vm_saved_trees.proofs.tree.+append_held.Goals as goal

pub returns-in_default : goal.returns-in_default
returns-in_default t c = no_keys c.args.depth (view c.args.value.now) _ (sym c.in_default.ensures)

pub returns-then-depth-ge-MAX_NESTING : goal.returns-then-depth-ge-MAX_NESTING
returns-then-depth-ge-MAX_NESTING t c = no_nodes c.args.depth (view c.args.value.now) _ _ c.if-depth-ge-MAX_NESTING.true
    (sym c.in-Some.ensures)

pub returns : goal.returns
returns t c = keys_appended c.args.depth (view c.args.value.now) _ _ _ _ _ _ (sym c.in-Some.ensures) c.in_ok-append_held.ensures
    c.in_ok-push_held.ensures c.append_held-2.ensures
