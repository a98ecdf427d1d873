use Rattle.vm_tree.proofs.Seen.{leaf_at}
use Rattle.vm_tree.proofs.read.leaf_in.Goals as goal

pub returns : goal.returns
returns g c = leaf_at c.args.slots.now c.args.i _ c.in-Some.leaf _ c.requires.dense c.requires.within c.in-Some.is c.deref.ensures
