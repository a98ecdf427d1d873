-- The ids from the bound up to the new id become freed ids. The prover does not derive that the bound fits 32 bits.
use Rattle.std.proofs.Common.{◌≡◌, ◌<◌, Err, arith, rules}
use Rattle.vm_ranges.specs.declared.error.Error.TheVariants.{OutOfMemory}
use Rattle.vm_ids.specs.Ids.{bound_of}
use Rattle.vm_ids.proofs.Ids.ExactIds.{not_ok, bound_is_word, bound_below, keeps_new, holds_past, adds_row, holds_no_memory}
use Rattle.vm_ids.proofs.id_allocator.IdAllocator.allocate_new.Goals as goal

pub overflow_cast-next : goal.overflow_cast-next
overflow_cast-next c =
    let w = bound_is_word c.self.view_is c.self.invariant c.requires in omega (arith, w.1, c.bound_of-next.ensures, c.ranges.id)

pub add_between-requires-clause-order : goal.add_between-requires-clause-order
add_between-requires-clause-order c =
    let w = bound_is_word c.self.view_is c.self.invariant c.requires in omega (arith, w.1, c.bound_of-next.ensures)

pub returns-in_err-add_between-clause-answer : goal.returns-in_err-add_between-clause-answer
returns-in_err-add_between-clause-answer c =
    let w = bound_is_word c.self.view_is c.self.invariant c.requires in
    let is : c.from_residual.result ≡ Err OutOfMemory = search rules in
    let apart : c.bound_of-next.result ≡ c.args.id → ⊥ = λ e. not_ok _ _ c.in_err-add_between.was (c.add_between.ensures.succeeds e) in
    let below : bound_of c.self.inside.next_id c.self.inside.range_end < c.args.id = omega (arith, w.1, apart, c.bound_of-next.ensures) in
    rw is (holds_no_memory _ _ _ _ _ _ _ c.self.view_is below c.in_err-add_between.ensures.unchanged)

pub returns-in_err-add_between-clause-memory : goal.returns-in_err-add_between-clause-memory
returns-in_err-add_between-clause-memory c =
    let w = bound_is_word c.self.view_is c.self.invariant c.requires in
    let is : c.from_residual.result ≡ Err OutOfMemory = search rules in
    let apart : c.bound_of-next.result ≡ c.args.id → ⊥ = λ e. not_ok _ _ c.in_err-add_between.was (c.add_between.ensures.succeeds e) in
    rw is (bound_below _ _ _ _ _ _ c.self.view_is (omega (arith, w.1, apart, c.bound_of-next.ensures)))

pub add_between-requires-clause-above : goal.add_between-requires-clause-above
add_between-requires-clause-above c = λ i t. let w = c.self.invariant.freed_ids i t in omega (arith, w.1, c.bound_of-next.ensures)

pub invariant_of-self-2 : goal.invariant_of-self-2
invariant_of-self-2 c =
    let w = bound_is_word c.self.view_is c.self.invariant c.requires in
    keeps_new _ _ _ _ _ _ _ c.self.view_is _ c.self.invariant c.requires
    (adds_row _ _ _ _ w.1 (rw c.bound_of-next.ensures at c.in_ok-add_between.ensures.added)) c.checked_add-self-inside.ensures

pub returns-clause-answer : goal.returns-clause-answer
returns-clause-answer c =
    let w = bound_is_word c.self.view_is c.self.invariant c.requires in
    holds_past _ _ _ _ _ _ _ c.self.view_is _ c.self.invariant c.requires
    (adds_row _ _ _ _ w.1 (rw c.bound_of-next.ensures at c.in_ok-add_between.ensures.added)) c.checked_add-self-inside.ensures
