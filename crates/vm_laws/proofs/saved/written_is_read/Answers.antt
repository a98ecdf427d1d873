use Rattle.vm_laws.proofs.ValueProofs.ReadAgain.{ids_again}
use Rattle.vm_laws.proofs.saved.written_is_read.Goals as goal

pub returns-clause-id_allocators : goal.returns-clause-id_allocators
returns-clause-id_allocators c = ids_again
