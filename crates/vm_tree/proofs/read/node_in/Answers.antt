use Rattle.std.proofs.Common.{◌∙◌}
use Rattle.vm_tree.specs.Nodes.{node_tree}
use Rattle.vm_tree.proofs.Seen.{child_at}
use Rattle.vm_tree.proofs.read.node_in.Goals as goal

pub returns : goal.returns
returns g c = c.deref.ensures ∙ child_at node_tree c.args.slots.now c.args.i _ c.in-Some.node c.requires.dense c.requires.within c.in-Some.is
