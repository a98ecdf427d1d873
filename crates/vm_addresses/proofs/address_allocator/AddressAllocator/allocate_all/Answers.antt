-- An error frees the ranges so far, so the state is the same as before the call. The prover does not rewrite along equal states.
use Rattle.std.proofs.Common.{◌≡◌, ◌+◌, take, sym, ap, subst, arith, inr, Ok}
use Rattle.vm_ranges.specs.Range.{Range}
use Rattle.std.specs.Prelude.{List}
use Rattle.vm_ranges.specs.Address.{AddressState, IsAddressState}
use Rattle.vm_addresses.specs.Allocator.{state_of}
use Rattle.vm_addresses.proofs.Results.AddressResults.{allocated_state}
use Rattle.vm_addresses.proofs.Trees.Spaces.{state_of_tree}
use Rattle.vm_addresses.specs.Several.{AllocatesEach, FailsAtIndex}
use Rattle.vm_addresses.proofs.Results.Several.{refused_by, failed_at, all_taken, one_more}
use Rattle.vm_addresses.proofs.address_allocator.AddressAllocator.allocate_all.Goals as goal

-- The state before the call is valid.
valid : (c : goal.After-drop-ranges) → IsAddressState (state_of c.args.self.now)
valid c = rw (← c.self.view_is) (state_of_tree c.self.inside.tree c.self.invariant.tree)

-- The state is that before the first request.
state_again : (c : goal.After-drop-ranges) → state_of c.free_all.new.self ≡ state_of c.args.self.now
state_again c =
    let l = c.loop-index in
    let first = state_of c.args.self.now in
    let some = take l.index c.args.requests.now in
    c.free_all.ensures.state first some (valid c)
    (subst (λ (v : AddressState). AllocatesEach first some l.ranges.items v) (sym (ap state_of c.in-Err.ensures.unchanged))
    l.invariant.each)

-- The request that fails, in the state that the requests before it leave.
failed : (c : goal.After-drop-ranges) →
    FailsAtIndex (state_of c.args.self.now) c.args.requests.now c.loop-index.index c.in-Err.error
failed c =
    let l = c.loop-index in
    let e = c.in-Err.ensures in
    failed_at c.args.requests.now l.index l.ranges.items (state_of c.args.self.now) (state_of l.self)
    (state_of c.allocate_constraint.new.self) c.index-requests-index.result c.in-Err.error c.loop-index-test.true c.index-requests-index.is
    l.invariant.each
    e.answer (ap state_of e.unchanged)

pub returns-in-Err-clause-answer : goal.returns-in-Err-clause-answer
returns-in-Err-clause-answer c = (
  state_again c,
  inr (refused_by (state_of c.args.self.now) c.args.requests.now c.loop-index.index c.in-Err.error (failed c)),
)

pub returns-in-Err-clause-failed : goal.returns-in-Err-clause-failed
returns-in-Err-clause-failed c = failed c

pub returns-in-Err-clause-state : goal.returns-in-Err-clause-state
returns-in-Err-clause-state c = subst IsAddressState (sym (state_again c)) (valid c)

pub loop-index-preserved : goal.loop-index-preserved
loop-index-preserved c =
    let i = c.loop-index.index in
    let first = state_of c.args.self.now in
    let mid = state_of c.loop-index.self in
    let new = state_of c.allocate_constraint.new.self in
    let each = one_more c.args.requests.now i c.loop-index.ranges.items first mid new c.index-requests-index.result c.in-Ok.range
    c.loop-index-test.true c.index-requests-index.is c.loop-index.invariant.each c.in-Ok.ensures.answer in
    record {
      each = subst (λ (v : List Range). AllocatesEach first (take (i + 1) c.args.requests.now) v new) (sym c.in-Ok-push.ensures.items) each;
      state = allocated_state mid new c.index-requests-index.result (Ok c.in-Ok.range) c.loop-index.invariant.state
          c.in-Ok.ensures.answer;
      many = omega (arith, c.in-Ok-push.ensures.len, c.loop-index.invariant.many);
      room = omega (arith, c.in-Ok-push.ensures.capacity, c.loop-index.invariant.room);
    }

pub returns-clause-answer : goal.returns-clause-answer
returns-clause-answer c =
    let l = c.loop-index in
    all_taken c.args.requests.now l.index l.ranges.items (state_of c.args.self.now) (state_of l.self)
    (omega (arith, l.auto.index-end)) l.invariant.each
