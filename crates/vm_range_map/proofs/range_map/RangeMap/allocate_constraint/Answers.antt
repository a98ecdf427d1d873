-- The range gets its value, or it is freed again. The prover does not replace the map by its parts in the facts on its state.
use Rattle.std.proofs.Common.{sym, ap, subst}
use Rattle.vm_space.specs.Shape.{Shape}
use Rattle.vm_addresses.specs.Allocator.{state_of}
use Rattle.vm_range_map.specs.RangeMaps.{MapState, IsMapState, map_of}
use Rattle.vm_range_map.proofs.MapStates.{new_start, with_state}
use Rattle.vm_range_map.proofs.MapCalls.{range_refused, range_valued, value_refused, valued_state, returned_state}
use Rattle.vm_range_map.proofs.range_map.RangeMap.allocate_constraint.Goals as goal

pub returns-in-Err-clause-answer : goal.returns-in-Err-clause-answer
returns-in-Err-clause-answer g c =
    let old : MapState g.row.T.Denot = map_of (state_of c.self.inside.addresses) c.self.inside.values in
    let same = ap (λ (a : Shape). map_of (state_of a) c.self.inside.values) c.in-Err.ensures.unchanged in
    rw (← c.self.view_is) (range_refused old _ c.args.request c.args.value c.in-Err.error _ c.in-Err.ensures.answer same)

pub insert-requires : goal.insert-requires
insert-requires g c =
    let old : MapState g.row.T.Denot = map_of (state_of c.self.inside.addresses) c.self.inside.values in
    rw c.start.ensures.value
    (new_start old c.self.invariant c.in-Ok.range c.args.request (state_of c.allocate_constraint.new.self) c.in-Ok.ensures.answer)

pub returns-in-Err-insert-clause-unchanged : goal.returns-in-Err-insert-clause-unchanged
returns-in-Err-insert-clause-unchanged g c =
    let old : MapState g.row.T.Denot = map_of (state_of c.self.inside.addresses) c.self.inside.values in
    rw (← c.self.view_is)
    (returned_state old c.args.request c.in-Ok.range _ _ _ c.free.result c.self.invariant c.in-Ok.ensures.answer
    c.free.ensures.answer c.in-Err-insert.ensures.err)

pub invariant_of-self-in-Err-insert : goal.invariant_of-self-in-Err-insert
invariant_of-self-in-Err-insert g c =
    let old : MapState g.row.T.Denot = map_of (state_of c.self.inside.addresses) c.self.inside.values in
    subst IsMapState
    (sym (returned_state old c.args.request c.in-Ok.range _ _ _ c.free.result c.self.invariant c.in-Ok.ensures.answer
    c.free.ensures.answer c.in-Err-insert.ensures.err))
    c.self.invariant

pub returns-in-Err-insert-clause-state : goal.returns-in-Err-insert-clause-state
returns-in-Err-insert-clause-state g c = invariant_of-self-in-Err-insert g c

pub returns-in-Err-insert-clause-answer : goal.returns-in-Err-insert-clause-answer
returns-in-Err-insert-clause-answer g c =
    let old : MapState g.row.T.Denot = map_of (state_of c.self.inside.addresses) c.self.inside.values in
    rw (← c.self.view_is)
    (value_refused old _ c.args.request c.args.value c.in-Ok.range _ c.in-Ok.ensures.answer
    (returned_state old c.args.request c.in-Ok.range _ _ _ c.free.result c.self.invariant c.in-Ok.ensures.answer
    c.free.ensures.answer c.in-Err-insert.ensures.err))

pub returns-clause-held : goal.returns-clause-held
returns-clause-held g c =
    let old : MapState g.row.T.Denot = map_of (state_of c.self.inside.addresses) c.self.inside.values in
    rw (← c.self.view_is)
    (valued_state old c.args.request c.args.value c.in-Ok.range _ _ c.in-Ok.ensures.answer
    (rw c.start.ensures.value at c.in_default.ensures.inserted))

pub invariant_of-self-in_default : goal.invariant_of-self-in_default
invariant_of-self-in_default g c =
    let old : MapState g.row.T.Denot = map_of (state_of c.self.inside.addresses) c.self.inside.values in
    subst IsMapState
    (sym (valued_state old c.args.request c.args.value c.in-Ok.range _ _ c.in-Ok.ensures.answer
    (rw c.start.ensures.value at c.in_default.ensures.inserted)))
    (with_state old c.self.invariant c.in-Ok.range c.args.request _ c.in-Ok.ensures.answer c.args.value)

pub returns-clause-state : goal.returns-clause-state
returns-clause-state g c = invariant_of-self-in_default g c

pub returns-clause-answer : goal.returns-clause-answer
returns-clause-answer g c =
    let old : MapState g.row.T.Denot = map_of (state_of c.self.inside.addresses) c.self.inside.values in
    rw (← c.self.view_is)
    (range_valued old _ c.args.request c.args.value c.in-Ok.range _ c.in-Ok.ensures.answer
    (valued_state old c.args.request c.args.value c.in-Ok.range _ _ c.in-Ok.ensures.answer
    (rw c.start.ensures.value at c.in_default.ensures.inserted)))
