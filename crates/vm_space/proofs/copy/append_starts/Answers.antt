use Rattle.vm_space.proofs.Spaces.{space_rises}
use Rattle.vm_space.proofs.copy.append_starts.Goals as goal

pub leaves-leaves-requires : goal.leaves-leaves-requires
leaves-leaves-requires c = record { rise = space_rises _ c.requires }
