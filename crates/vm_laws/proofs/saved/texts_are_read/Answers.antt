use Rattle.vm_laws.proofs.ValueProofs.NestedValues.{ids_text}
use Rattle.vm_laws.proofs.saved.texts_are_read.Goals as goal

pub returns-clause-id_allocators : goal.returns-clause-id_allocators
returns-clause-id_allocators c = ids_text
