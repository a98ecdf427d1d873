-- The range is freed and its value removed. The prover does not replace the map by its parts in the facts on its state.
use Rattle.std.proofs.Common.{sym, subst}
use Rattle.vm_addresses.specs.Allocator.{state_of}
use Rattle.vm_range_map.specs.RangeMaps.{MapState, IsMapState, map_of}
use Rattle.vm_range_map.proofs.MapStates.{without_state, held_value}
use Rattle.vm_range_map.proofs.MapCalls.{freed_was, left_without, had_value, range_freed}
use Rattle.vm_range_map.proofs.range_map.RangeMap.free.Goals as goal

pub invariant_of-self-2 : goal.invariant_of-self-2
invariant_of-self-2 g c =
    let old : MapState g.row.T.Denot = map_of (state_of c.self.inside.addresses) c.self.inside.values in
    subst IsMapState
    (sym (left_without old c.args.range.now c.start.result _ _ c.in_ok-free.ensures.answer c.start.ensures.value c.remove.ensures.rest))
    (without_state old c.self.invariant c.args.range.now (freed_was old.space _ c.args.range.now c.in_ok-free.ensures.answer).0)

pub returns-clause-freed : goal.returns-clause-freed
returns-clause-freed g c =
    let old : MapState g.row.T.Denot = map_of (state_of c.self.inside.addresses) c.self.inside.values in
    rw (← c.self.view_is) (
      had_value old c.args.range.now c.start.result c.in-Some.value _ c.in_ok-free.ensures.answer c.start.ensures.value c.in-Some.ensures.value,
      left_without old c.args.range.now c.start.result _ _ c.in_ok-free.ensures.answer c.start.ensures.value c.remove.ensures.rest,
    )

pub returns-clause-state : goal.returns-clause-state
returns-clause-state g c = invariant_of-self-2 g c

pub returns-clause-answer : goal.returns-clause-answer
returns-clause-answer g c =
    let old : MapState g.row.T.Denot = map_of (state_of c.self.inside.addresses) c.self.inside.values in
    rw (← c.self.view_is)
    (range_freed old _ c.args.range.now c.in-Some.value
    (had_value old c.args.range.now c.start.result c.in-Some.value _ c.in_ok-free.ensures.answer c.start.ensures.value c.in-Some.ensures.value)
    (left_without old c.args.range.now c.start.result _ _ c.in_ok-free.ensures.answer c.start.ensures.value c.remove.ensures.rest))

pub unreachable-requires : goal.unreachable-requires
unreachable-requires g c =
    let old : MapState g.row.T.Denot = map_of (state_of c.self.inside.addresses) c.self.inside.values in
    let held = held_value old c.self.invariant c.args.range.now (freed_was old.space _ c.args.range.now c.in_ok-free.ensures.answer).0 in
    let none = c.in_default.ensures.value in
    absurd (cc (none, c.start.ensures.value, held.1))
