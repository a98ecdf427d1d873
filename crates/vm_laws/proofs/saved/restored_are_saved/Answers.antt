-- A restored object is the saved one, and has its histories. The prover does not find these lemmas, even if the function names them.
use Rattle.vm_laws.proofs.ValueProofs.Restored.{allocator_restored, ids_restored, nodes_restored}
use Rattle.vm_laws.proofs.saved.restored_are_saved.Goals as goal

pub returns-clause-address_allocators : goal.returns-clause-address_allocators
returns-clause-address_allocators c = allocator_restored

pub returns-clause-id_allocators : goal.returns-clause-id_allocators
returns-clause-id_allocators c = ids_restored

pub returns-clause-nodes : goal.returns-clause-nodes
returns-clause-nodes c = nodes_restored
