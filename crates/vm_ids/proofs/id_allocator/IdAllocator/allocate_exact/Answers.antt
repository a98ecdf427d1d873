-- The other clauses follow from the exact condition of the result. The prover finds this condition, but takes no second step from it.
use Rattle.std.proofs.Common.{◌≡◌, Ok, Err, rules}
use Rattle.vm_ranges.specs.declared.error.Error.TheVariants.{ResourceNotAvailable, OutOfMemory}
use Rattle.vm_ids.proofs.Ids.ExactIds.{exact, exact_no_memory, exact_state, exact_was_free, exact_succeeds}
use Rattle.vm_ids.proofs.id_allocator.IdAllocator.allocate_exact.Goals as goal

pub returns-in_err-remove-clause-answer : goal.returns-in_err-remove-clause-answer
returns-in_err-remove-clause-answer c =
    let is : c.from_residual.result ≡ Err OutOfMemory = search rules in
    rw is (exact_no_memory _ _ _ c.args.id _ _ _ c.self.view_is c.self.invariant (search rules) c.in_err-remove.ensures.memory
    c.in_err-remove.ensures.unchanged)

pub returns-in_err-remove-clause-succeeds : goal.returns-in_err-remove-clause-succeeds
returns-in_err-remove-clause-succeeds c = exact_succeeds _ _ c.args.id _ (returns-in_err-remove-clause-answer c)

pub returns-then-not-branch-clause-answer : goal.returns-then-not-branch-clause-answer
returns-then-not-branch-clause-answer c = search (exact, rules)

pub returns-then-not-branch-clause-succeeds : goal.returns-then-not-branch-clause-succeeds
returns-then-not-branch-clause-succeeds c =
    exact_succeeds _ _ c.args.id (Err ResourceNotAvailable) (returns-then-not-branch-clause-answer c)

pub returns-clause-answer : goal.returns-clause-answer
returns-clause-answer c = search (exact, rules)

pub returns-clause-held : goal.returns-clause-held
returns-clause-held c = exact_state _ _ c.args.id (Ok c.args.id) (returns-clause-answer c)

pub returns-clause-free : goal.returns-clause-free
returns-clause-free c = exact_was_free _ _ c.args.id (Ok c.args.id) (returns-clause-answer c)

pub returns-clause-succeeds : goal.returns-clause-succeeds
returns-clause-succeeds c = exact_succeeds _ _ c.args.id (Ok c.args.id) (returns-clause-answer c)
