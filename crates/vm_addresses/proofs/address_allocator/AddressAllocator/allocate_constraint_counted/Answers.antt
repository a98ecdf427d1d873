-- The test of the limit compares the number of held ranges. The prover does not split it in two cases.
use Rattle.std.proofs.Common.{◌≡◌, ◌<◌, ◌≤◌, ℕ, length, ltb, arith, ⊎_elim, Result}
use Rattle.std.proofs.lemmas.Bool.{cases_lt, lt-ltb, le-ltb}
use Rattle.vm_ranges.specs.Cases.{IsTestOf}
use Rattle.vm_ranges.specs.Range.{Range}
use Rattle.vm_ranges.specs.Request.{Request, IsRequest}
use Rattle.vm_ranges.specs.declared.error.Error.{Error}
use Rattle.vm_ranges.specs.Address.{AddressState}
use Rattle.vm_addresses.specs.Allocator.{state_of}
use Rattle.vm_ranges.specs.Answer.{SPLIT_LIMIT_MIN_HELD, Grants, Allocates}
use Rattle.vm_addresses.proofs.Results.Filling.{allocates_filling}
use Rattle.vm_addresses.proofs.Results.Requests.{request_allocates}
use Rattle.vm_addresses.proofs.address_allocator.AddressAllocator.allocate_constraint_counted.Goals as goal

-- The test of the limit.
limit_tested : (held n : ℕ) → held ≡ n → IsTestOf (ltb held SPLIT_LIMIT_MIN_HELD) (n < SPLIT_LIMIT_MIN_HELD)
limit_tested held n e =
    ⊎_elim
    (λ (l : held < SPLIT_LIMIT_MIN_HELD). rw (lt-ltb held SPLIT_LIMIT_MIN_HELD l) (omega arith))
    (λ (l : SPLIT_LIMIT_MIN_HELD ≤ held). rw (le-ltb held SPLIT_LIMIT_MIN_HELD l) (λ k. omega arith))
    (cases_lt held SPLIT_LIMIT_MIN_HELD)

allocates : (held : ℕ) (old new : AddressState) (request : Request) (answer : Result Range Error) → held ≡ length old.held → IsRequest request →
    ((counted : ℕ) → IsTestOf (ltb held SPLIT_LIMIT_MIN_HELD) (counted < SPLIT_LIMIT_MIN_HELD) → Grants counted old request answer new) →
    Allocates old request answer new
allocates held old new request answer e valid h =
    request_allocates request old new answer valid (h (length old.held) (limit_tested held (length old.held) e))

pub returns-clause-answer : goal.returns-clause-answer
returns-clause-answer c =
    allocates c.self.inside.held_count (state_of c.args.self.now) (state_of c.allocate_with.new.self) c.args.request c.allocate_with.result.0
    (rw (← c.self.view_is) c.self.invariant.held_count) c.allocate_with.ensures.valid c.allocate_with.ensures.grants

pub returns-clause-filling : goal.returns-clause-filling
returns-clause-filling c = λ start f.
    allocates_filling (state_of c.args.self.now) (state_of c.allocate_with.new.self) c.args.request start c.allocate_with.result.0
    (allocates c.self.inside.held_count (state_of c.args.self.now) (state_of c.allocate_with.new.self) c.args.request c.allocate_with.result.0
    (rw (← c.self.view_is) c.self.invariant.held_count) c.allocate_with.ensures.valid c.allocate_with.ensures.grants) f
