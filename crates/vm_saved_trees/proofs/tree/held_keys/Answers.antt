use Rattle.serde_json.specs.View.{view}
use Rattle.vm_saved_trees.proofs.Reading.ReadValues.{keys_listed}
use Rattle.vm_saved_trees.proofs.tree.held_keys.Goals as goal

pub returns : goal.returns
returns c = keys_listed (view c.args.value.now) _ _ c.in_ok-held.ensures.items c.in_ok-append_held.ensures
