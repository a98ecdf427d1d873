use Rattle.vm_space.proofs.Spaces.{space_ascends}
use Rattle.vm_space.proofs.Lookups.{leaf_found}
use Rattle.vm_space.proofs.find.leaf_at.Goals as goal

pub leaf_at-requires : goal.leaf_at-requires
leaf_at-requires c = record { ascend = space_ascends _ c.requires.space }

pub returns : goal.returns
returns c = leaf_found c.args.address c.args.tree.now.leaves c.in-Some.leaf.now c.requires.space c.in-Some.ensures.leaf
