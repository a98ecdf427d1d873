-- The request is for as many addresses at the new start. The prover does not rewrite the request in the result of the move.
use Rattle.std.proofs.Common.{◌≡◌, subst, arith}
use Rattle.vm_ranges.specs.Request.{Request}
use Rattle.vm_addresses.specs.Allocator.{state_of}
use Rattle.vm_addresses.specs.Moves.{request_to, MovesRange}
use Rattle.vm_addresses.proofs.Results.Moves.{start_is_valid, made_to, move_to_fits}
use Rattle.vm_addresses.proofs.address_allocator.AddressAllocator.move_range.Goals as goal

-- The request is the one to the start.
made : (c : goal.After-move_constraint) → c.in-Ok.request ≡ request_to c.args.key.now c.args.start
made c = made_to c.args.key.now c.args.start c.len.result c.in-Ok.request c.len.ensures c.in-Ok.ensures

pub unreachable-requires : goal.unreachable-requires
unreachable-requires c =
    let some = c.len.ensures in
    start_is_valid c.len.result c.args.start c.in_default.field-0 (omega (arith, some)) c.in_default.ensures

pub returns-clause-answer : goal.returns-clause-answer
returns-clause-answer c =
    subst (λ (v : Request). MovesRange (state_of c.args.self.now) c.args.key.now v c.move_constraint.result
    (state_of c.move_constraint.new.self)) (made c) c.move_constraint.ensures.answer

pub returns-clause-fits : goal.returns-clause-fits
returns-clause-fits c =
    move_to_fits (state_of c.args.self.now) (state_of c.move_constraint.new.self) c.args.key.now c.args.start c.move_constraint.result
    (returns-clause-answer c)
