use Rattle.vm_laws.proofs.IdProofs.IdEnds.{clone_is_reached}
use Rattle.vm_laws.proofs.id_histories.id_clones_are_reached.Goals as goal

pub returns : goal.returns
returns c = clone_is_reached
