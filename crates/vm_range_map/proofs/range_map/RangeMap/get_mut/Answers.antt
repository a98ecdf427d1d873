-- The value of the range is lent, and the range stays held. The prover does not name the range of the value.
use Rattle.std.proofs.Common.{refl, sym, ap, ◌∙◌}
use Rattle.std.specs.FinMap as map
use Rattle.vm_addresses.specs.Allocator.{state_of}
use Rattle.vm_range_map.specs.RangeMaps.{MapState, map_of}
use Rattle.vm_range_map.proofs.MapStates.{value_state}
use Rattle.vm_range_map.proofs.range_map.RangeMap.get_mut.Goals as goal

pub invariant_of-self-lent : goal.invariant_of-self-lent
invariant_of-self-lent g c = λ w.
    let old : MapState g.row.T.Denot = map_of (state_of c.self.inside.addresses) c.self.inside.values in
    rw c.start.ensures.value (value_state old c.self.invariant c.in_ok-range.range c.in_ok-range.ensures.0 w)

pub returns : goal.returns
returns g c =
    let r = c.in_ok-range.range in
    let h = c.in_ok-range.ensures in
    let value = ap (λ k. map.get c.self.inside.values k) (sym c.start.ensures.value) ∙ sym c.value_mut.ensures.value in
    rw (← c.self.view_is) (
      (refl, λ w. (r, c.value_mut.result.now, (h.0, value), h.1, rw c.start.ensures.value refl), refl),
      record { writes_back = tt; value = (r, (h.0, value), h.1); none = tt },
    )
