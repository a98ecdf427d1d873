-- An invalid request fills no gap, and a valid one has the arguments as its parts. The prover does not rewrite along this equation.
use Rattle.vm_space.specs.Shape.{height_of}
use Rattle.vm_addresses.specs.Allocator.{state_of}
use Rattle.vm_addresses.specs.Counts.GapSearch.{SearchesGaps}
use Rattle.vm_addresses.specs.Counts.Steps.{IsAllocationCount}
use Rattle.vm_addresses.proofs.Results.Filling.{allocates_filling, no_constraint_fault}
use Rattle.vm_addresses.proofs.Results.Requests.{allocates_made, for_request}
use Rattle.vm_addresses.proofs.address_allocator.AddressAllocator.allocate_counted.Goals as goal

pub returns-in-Err-clause-filling : goal.returns-in-Err-clause-filling
returns-in-Err-clause-filling c = λ s f. absurd (no_constraint_fault _ _ c.in-Err.ensures f.valid)

pub returns-in-Ok-clause-answer : goal.returns-in-Ok-clause-answer
returns-in-Ok-clause-answer c = allocates_made _ _ _ _ _ c.in-Ok.ensures c.allocate_constraint_counted.ensures.answer

pub returns-in-Ok-clause-filling : goal.returns-in-Ok-clause-filling
returns-in-Ok-clause-filling c = λ s f. allocates_filling _ _ _ s _ (returns-in-Ok-clause-answer c) f

pub returns-in-Ok-clause-steps : goal.returns-in-Ok-clause-steps
returns-in-Ok-clause-steps c =
    for_request _ _ (λ v. IsAllocationCount (height_of c.args.self.now) (state_of c.args.self.now) v c.allocate_constraint_counted.result.0
    c.allocate_constraint_counted.result.1) c.in-Ok.ensures c.allocate_constraint_counted.ensures.steps

pub returns-in-Ok-clause-search : goal.returns-in-Ok-clause-search
returns-in-Ok-clause-search c =
    for_request _ _ (λ v. SearchesGaps (height_of c.args.self.now) (state_of c.args.self.now) v c.allocate_constraint_counted.result.0
    c.allocate_constraint_counted.result.1) c.in-Ok.ensures c.allocate_constraint_counted.ensures.search
