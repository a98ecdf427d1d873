use Rattle.vm_laws.proofs.IdProofs.IdEnds.{read_is_reached}
use Rattle.vm_laws.proofs.id_histories.id_reads_are_reached.Goals as goal

pub returns : goal.returns
returns c = read_is_reached
