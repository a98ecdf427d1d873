-- The ids are held one after the other, and only skipped ids need memory. The prover does not join the facts of the calls so far.
use Rattle.std.proofs.Common.{◌≡◌, ◌≤◌, List, ℕ, take, Err, refl, ap, ◌∙◌, arith, rules}
use Rattle.std.proofs.lemmas.List.{take_all}
use Rattle.vm_ids.specs.Ids.{MAX_ID, new_ids}
use Rattle.vm_ids.specs.IdRequests.{fault_of_held, holding_ids}
use Rattle.vm_ids.proofs.Ids.IdResults.{made_ids}
use Rattle.vm_ids.proofs.Ids.WithHeld.{
  checked_error,
  checked_right,
  made_state,
  made_error,
  held_refused,
  held_no_memory,
  held_made,
  none_yet,
  one_more_held,
  skips_bound,
  new_held_state,
  new_held_error,
}
use Rattle.vm_ids.proofs.id_allocator.IdAllocator.with_held.Goals as goal

pub returns-in_err-ids-clause-answer : goal.returns-in_err-ids-clause-answer
returns-in_err-ids-clause-answer c =
    let is : c.from_residual.result ≡ Err c.in_err-ids.field-0.0 = search rules in
    rw is (made_error c.args.range_base c.args.range_end c.args.held.now c.in_err-ids.field-0.0 c.in_err-ids.ensures.answer)

pub returns-in_err-check_held-clause-answer : goal.returns-in_err-check_held-clause-answer
returns-in_err-check_held-clause-answer c =
    let made = made_state c.args.range_base c.args.range_end c.in_ok-ids.ids c.in_ok-ids.ensures.answer in
    let is : c.from_residual-in_err-check_held.result ≡ Err c.in_err-check_held.field-0.0 = search rules in
    let fault = checked_error (fault_of_held c.args.range_base c.args.range_end c.args.range_base c.args.held.now) c.check_held.result
    c.in_err-check_held.field-0.0 c.in_err-check_held.was c.check_held.ensures in
    rw is (held_refused c.args.range_base c.args.range_end c.args.held.now c.in_err-check_held.field-0.0 made.1 fault)

pub loop-id-init : goal.loop-id-init
loop-id-init c =
    let made = made_state c.args.range_base c.args.range_end c.in_ok-ids.ids c.in_ok-ids.ensures.answer in
    let word : c.args.range_end ≤ MAX_ID = omega (arith, c.ranges.range_end) in
    let valid = made_ids c.args.range_base c.args.range_end c.in_ok-ids.ids word c.in_ok-ids.ensures.answer in
    let right = checked_right (fault_of_held c.args.range_base c.args.range_end c.args.range_base c.args.held.now) c.check_held.result
    c.in_ok-check_held.was c.check_held.ensures in
    none_yet c.args.range_base c.args.range_end c.args.held.now c.in_ok-ids.ids made.0 valid right

pub returns-in_err-allocate_new-clause-answer : goal.returns-in_err-allocate_new-clause-answer
returns-in_err-allocate_new-clause-answer c =
    let made = made_state c.args.range_base c.args.range_end c.in_ok-ids.ids c.in_ok-ids.ensures.answer in
    let right = checked_right (fault_of_held c.args.range_base c.args.range_end c.args.range_base c.args.held.now) c.check_held.result
    c.in_ok-check_held.was c.check_held.ensures in
    let is : c.from_residual-in_err-allocate_new.result ≡ Err c.in_err-allocate_new.field-0.0 = search rules in
    let memory = new_held_error c.loop-id.ids _ _ c.allocate_new.result c.in_err-allocate_new.field-0.0 c.in_err-allocate_new.was
    c.allocate_new.ensures.answer c.allocate_new.ensures.memory in
    let skips = skips_bound c.args.range_base c.args.range_end c.loop-id.id-index _ c.args.held.now c.loop-id.ids c.loop-id-test.true refl
    c.loop-id.invariant memory.0 in
    rw (is, memory.1) (held_no_memory c.args.range_base c.args.range_end c.args.held.now made.1 right skips)

pub returns-in_err-allocate_new-clause-succeeds : goal.returns-in_err-allocate_new-clause-succeeds
returns-in_err-allocate_new-clause-succeeds c = λ l none fits.
    let memory = new_held_error c.loop-id.ids _ _ c.allocate_new.result c.in_err-allocate_new.field-0.0 c.in_err-allocate_new.was
    c.allocate_new.ensures.answer c.allocate_new.ensures.memory in
    absurd (fits (skips_bound c.args.range_base c.args.range_end c.loop-id.id-index _ c.args.held.now c.loop-id.ids c.loop-id-test.true refl
    c.loop-id.invariant memory.0))

pub loop-id-preserved : goal.loop-id-preserved
loop-id-preserved c =
    let new = new_held_state c.loop-id.ids c.allocate_new.new.self _ c.allocate_new.result c.in_ok-allocate_new.field-0
    c.in_ok-allocate_new.was c.allocate_new.ensures.answer in
    one_more_held c.args.range_base c.args.range_end c.loop-id.id-index _ c.args.held.now c.loop-id.ids c.loop-id-test.true refl
    c.loop-id.invariant c.allocate_new.new.self new

pub returns-clause-answer : goal.returns-clause-answer
returns-clause-answer c =
    let made = made_state c.args.range_base c.args.range_end c.in_ok-ids.ids c.in_ok-ids.ensures.answer in
    let right = checked_right (fault_of_held c.args.range_base c.args.range_end c.args.range_base c.args.held.now) c.check_held.result
    c.in_ok-check_held.was c.check_held.ensures in
    let all : take c.loop-id.id-index c.args.held.now
    ≡ c.args.held.now = take_all c.loop-id.id-index c.args.held.now c.loop-id-test.false in
    held_made c.args.range_base c.args.range_end c.args.held.now c.loop-id.ids made.1 right
    (c.loop-id.invariant.so_far ∙ ap (λ (xs : List ℕ). holding_ids xs (new_ids c.args.range_base c.args.range_end)) all)

pub returns-clause-state : goal.returns-clause-state
returns-clause-state c = c.loop-id.invariant.valid
