-- The other clauses follow from the exact condition of the result. The prover finds this condition, but takes no second step from it.
use Rattle.std.proofs.Common.{Ok, rules}
use Rattle.vm_ids.proofs.Callers.{id_is_lowest, id_state}
use Rattle.vm_ids.proofs.Ids.AllocatedIds.{allocates}
use Rattle.vm_ids.proofs.id_allocator.IdAllocator.allocate_id.Goals as goal

pub returns-in-Some-clause-answer : goal.returns-in-Some-clause-answer
returns-in-Some-clause-answer c = search (allocates, rules)

pub returns-in-Some-clause-lowest : goal.returns-in-Some-clause-lowest
returns-in-Some-clause-lowest c = id_is_lowest _ _ (Ok c.in-Some.id) (returns-in-Some-clause-answer c)

pub returns-in-Some-clause-held : goal.returns-in-Some-clause-held
returns-in-Some-clause-held c = id_state _ _ (Ok c.in-Some.id) (returns-in-Some-clause-answer c)

pub returns-clause-answer : goal.returns-clause-answer
returns-clause-answer c = search (allocates, rules)

pub returns-clause-lowest : goal.returns-clause-lowest
returns-clause-lowest c = id_is_lowest _ _ (Ok c.in_ok-id.id) (returns-clause-answer c)

pub returns-clause-held : goal.returns-clause-held
returns-clause-held c = id_state _ _ (Ok c.in_ok-id.id) (returns-clause-answer c)
