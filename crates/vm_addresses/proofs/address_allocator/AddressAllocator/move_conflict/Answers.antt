-- The first held range in the way, except the one that moves, is the conflict. The prover does not replace the allocator by its tree.
use Rattle.std.proofs.Common.{◌≡◌, refl}
use Rattle.std.specs.List.{Contains}
use Rattle.vm_ranges.specs.Address.{IsAddressState}
use Rattle.vm_addresses.specs.Allocator.{state_of}
use Rattle.vm_addresses.specs.Conflicts.{IsMoveConflict}
use Rattle.vm_addresses.proofs.Results.Conflicts.{move_decides, first_in_the_way, not_by_held}
use Rattle.vm_addresses.proofs.Trees.Spaces.{state_of_tree}
use Rattle.vm_addresses.proofs.address_allocator.AddressAllocator.move_conflict.Goals as goal

-- The conflict is the right one after the range that moves is freed.
by_held : (c : goal.After-conflict_beside) → IsMoveConflict (state_of c.args.self.now) c.args.key.now c.args.request c.conflict_beside.result
by_held c =
    let state = state_of c.args.self.now in
    let valid : IsAddressState state = rw (← c.self.view_is) (state_of_tree c.self.inside.tree c.self.invariant.tree) in
    let held : Contains state.held c.args.key.now = c.if-not-holds.ensures.0 refl in
    let space : c.self.inside.space ≡ state.space = rw (← c.self.view_is) c.self.invariant.is_space in
    first_in_the_way state c.self.inside.space c.args.key.now c.in-Ok.range c.args.request c.conflict_beside.result valid space held
    c.in-Ok.ensures.looks c.conflict_beside.ensures

pub returns-in-Ok-clause-value : goal.returns-in-Ok-clause-value
returns-in-Ok-clause-value c = by_held c

pub returns-in-Ok-clause-decides : goal.returns-in-Ok-clause-decides
returns-in-Ok-clause-decides c = λ held.
    move_decides (state_of c.args.self.now) c.args.key.now c.args.request c.conflict_beside.result
    (rw (← c.self.view_is) (state_of_tree c.self.inside.tree c.self.invariant.tree)) c.in-Ok.ensures.valid (by_held c) held

pub returns-in-Err-clause-decides : goal.returns-in-Err-clause-decides
returns-in-Err-clause-decides c = λ held.
    let state = state_of c.args.self.now in
    let space : c.self.inside.space ≡ state.space = rw (← c.self.view_is) c.self.invariant.is_space in
    move_decides state c.args.key.now c.args.request c.in-Err.conflict
    (rw (← c.self.view_is) (state_of_tree c.self.inside.tree c.self.invariant.tree)) c.in-Err.ensures.valid
    (not_by_held state c.self.inside.space c.args.key.now c.args.request c.in-Err.conflict space held c.in-Err.ensures.looks) held
