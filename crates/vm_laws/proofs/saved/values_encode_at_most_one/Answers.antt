use Rattle.vm_laws.proofs.ValueProofs.ReadAgain.{one_ids_encoded}
use Rattle.vm_laws.proofs.saved.values_encode_at_most_one.Goals as goal

pub returns-clause-id_allocators : goal.returns-clause-id_allocators
returns-clause-id_allocators c = one_ids_encoded
