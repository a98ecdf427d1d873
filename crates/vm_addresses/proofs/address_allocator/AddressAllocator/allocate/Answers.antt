-- An invalid request fills no gap, and the new state is valid. The prover does not replace the allocator by its tree in the state.
use Rattle.vm_addresses.proofs.Results.AddressResults.{allocated_state}
use Rattle.vm_addresses.proofs.Results.Filling.{no_constraint_fault}
use Rattle.vm_addresses.proofs.Trees.Spaces.{state_of_tree}
use Rattle.vm_addresses.proofs.address_allocator.AddressAllocator.allocate.Goals as goal

pub returns-in_err-request-clause-filling : goal.returns-in_err-request-clause-filling
returns-in_err-request-clause-filling c = λ s f. absurd (no_constraint_fault _ _ c.in_err-request.ensures f.valid)

pub returns-clause-state : goal.returns-clause-state
returns-clause-state c =
    allocated_state _ _ c.in_ok-request.request _ (rw (← c.self.view_is) (state_of_tree c.self.inside.tree c.self.invariant.tree))
    c.allocate_constraint.ensures.answer
