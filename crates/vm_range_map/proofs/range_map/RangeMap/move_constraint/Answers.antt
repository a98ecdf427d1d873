-- The value moves with its range, or the move is undone. The prover does not name the value that the range had.
use Rattle.std.proofs.Common.{◌≡◌, sym, ap, ◌∙◌, subst, Err, IfSome, rules}
use Rattle.vm_ranges.specs.Range.{Range, Covers}
use Rattle.vm_ranges.specs.declared.error.Error.TheVariants.{OutOfMemory}
use Rattle.vm_space.specs.Shape.{Shape}
use Rattle.vm_addresses.specs.Allocator.{state_of}
use Rattle.vm_range_map.specs.RangeMaps.{MapState, IsMapState, map_of}
use Rattle.vm_range_map.proofs.MapStates.{was_held, held_value, moved_start, moved_state}
use Rattle.vm_range_map.proofs.MapCalls.{moved_fits, moved_inside, move_refused, move_undone, range_moved, cancelled_state, finished_state}
use Rattle.vm_range_map.proofs.range_map.RangeMap.move_constraint.Goals as goal

pub returns-in_err-begun-clause-answer : goal.returns-in_err-begun-clause-answer
returns-in_err-begun-clause-answer g c =
    let old : MapState g.row.T.Denot = map_of (state_of c.self.inside.addresses) c.self.inside.values in
    let e = c.in_err-begun.field-0.0 in
    let is : c.from_residual.result ≡ Err e = search rules in
    let same = ap (λ (a : Shape). map_of (state_of a) c.self.inside.values) c.in_err-begun.ensures.unchanged in
    rw (← c.self.view_is, is) (move_refused old _ c.args.range.now c.args.request e _ c.in_err-begun.ensures.answer same)

pub move_to-requires-clause-new : goal.move_to-requires-clause-new
move_to-requires-clause-new g c =
    let old : MapState g.row.T.Denot = map_of (state_of c.self.inside.addresses) c.self.inside.values in
    let start : c.start-2.result ≡ c.in_ok-begun.begun.range.start = c.start-2.ensures.value ∙ ap (λ (r : Range). r.start) c.range-to.ensures in
    rw (c.start.ensures.value, start)
    (moved_start old c.self.invariant c.args.range.now c.in_ok-begun.begun.range c.args.request _ c.in_ok-begun.ensures.answer.0)

-- The map after a move that is cancelled is the one before it.
cancelled : (g : _) (c : goal.After-into g) →
    map_of (state_of c.cancel_move.new.self) c.move_to.new.self ≡ map_of (state_of c.self.inside.addresses) c.self.inside.values
cancelled g c = cancelled_state (map_of (state_of c.self.inside.addresses) c.self.inside.values) _ _
    (c.cancel_move.ensures.same _ _ c.in_ok-begun.ensures.answer.1) c.in-Err.ensures.err

pub invariant_of-self-in-Err : goal.invariant_of-self-in-Err
invariant_of-self-in-Err g c = subst IsMapState (sym (cancelled g c)) c.self.invariant

pub returns-in-Err-clause-unchanged : goal.returns-in-Err-clause-unchanged
returns-in-Err-clause-unchanged g c = rw (← c.self.view_is) (cancelled g c)

pub returns-in-Err-clause-state : goal.returns-in-Err-clause-state
returns-in-Err-clause-state g c = invariant_of-self-in-Err g c

pub returns-in-Err-clause-answer : goal.returns-in-Err-clause-answer
returns-in-Err-clause-answer g c =
    let old : MapState g.row.T.Denot = map_of (state_of c.self.inside.addresses) c.self.inside.values in
    let is : c.into.result ≡ OutOfMemory = search rules in
    let start : c.start-2.result ≡ c.in_ok-begun.begun.range.start = c.start-2.ensures.value ∙ ap (λ (r : Range). r.start) c.range-to.ensures in
    rw (← c.self.view_is, is)
    (move_undone old _ c.args.range.now c.args.request c.in_ok-begun.begun.range _ c.in_ok-begun.ensures.answer.0
    (λ e. c.in-Err.ensures.start (c.start.ensures.value ∙ sym e ∙ sym start))
    (cancelled g c))

pub returns-clause-fits : goal.returns-clause-fits
returns-clause-fits g c =
    rw c.range-to.ensures (moved_fits _ _ c.args.range.now c.in_ok-begun.begun.range c.args.request c.in_ok-begun.ensures.answer.0)

pub returns-clause-inside : goal.returns-clause-inside
returns-clause-inside g c =
    subst (λ (v : Range). IfSome c.args.request.window (λ w. Covers w v)) (sym c.range-to.ensures)
    (moved_inside _ _ c.args.range.now c.in_ok-begun.begun.range c.args.request c.in_ok-begun.ensures.answer.0)

pub invariant_of-self-2 : goal.invariant_of-self-2
invariant_of-self-2 g c =
    let old : MapState g.row.T.Denot = map_of (state_of c.self.inside.addresses) c.self.inside.values in
    let m = c.in_ok-begun.ensures.answer.0 in
    let held = held_value old c.self.invariant c.args.range.now (was_held old c.self.invariant c.args.range.now c.in_ok-begun.begun.range c.args.request _ m) in
    let left = finished_state old c.args.range.now c.in_ok-begun.begun.range c.start.result c.start-2.result held.0 _ _ c.start.ensures.value
    (c.start-2.ensures.value ∙ ap (λ (r : Range). r.start) c.range-to.ensures) (c.finish_move.ensures.moved _ c.in_ok-begun.ensures.answer.1)
    held.1 c.in_default.ensures.moved in
    subst IsMapState (sym left)
    (moved_state old c.self.invariant c.args.range.now c.in_ok-begun.begun.range c.args.request _ m held.0)

pub returns-clause-moved : goal.returns-clause-moved
returns-clause-moved g c =
    let old : MapState g.row.T.Denot = map_of (state_of c.self.inside.addresses) c.self.inside.values in
    let m = c.in_ok-begun.ensures.answer.0 in
    let was = was_held old c.self.invariant c.args.range.now c.in_ok-begun.begun.range c.args.request _ m in
    let held = held_value old c.self.invariant c.args.range.now was in
    let left = finished_state old c.args.range.now c.in_ok-begun.begun.range c.start.result c.start-2.result held.0 _ _ c.start.ensures.value
    (c.start-2.ensures.value ∙ ap (λ (r : Range). r.start) c.range-to.ensures) (c.finish_move.ensures.moved _ c.in_ok-begun.ensures.answer.1)
    held.1 c.in_default.ensures.moved in
    rw (← c.self.view_is, c.range-to.ensures) (held.0, (was, held.1), left)

pub returns-clause-state : goal.returns-clause-state
returns-clause-state g c = invariant_of-self-2 g c

pub returns-clause-answer : goal.returns-clause-answer
returns-clause-answer g c =
    let old : MapState g.row.T.Denot = map_of (state_of c.self.inside.addresses) c.self.inside.values in
    let moved = rw (← c.self.view_is, c.range-to.ensures) at (returns-clause-moved g c) in
    rw (← c.self.view_is, c.range-to.ensures)
    (range_moved old _ c.args.range.now c.args.request c.in_ok-begun.begun.range _ c.in_ok-begun.ensures.answer.0 moved.0 moved.1 moved.2)
