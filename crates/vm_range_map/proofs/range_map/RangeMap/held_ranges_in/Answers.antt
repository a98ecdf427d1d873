-- Each held range of the window has a value. The prover does not find the ranges of a window among the held ones.
use Rattle.vm_addresses.specs.Allocator.{state_of}
use Rattle.vm_range_map.specs.RangeMaps.{MapState, map_of}
use Rattle.vm_range_map.proofs.Windows.{held_valued}
use Rattle.vm_range_map.proofs.range_map.RangeMap.held_ranges_in.Goals as goal

pub invariant_of-result : goal.invariant_of-result
invariant_of-result g c =
    let state : MapState g.row.T.Denot = map_of (state_of c.self.inside.addresses) c.self.inside.values in
    rw c.held_ranges_in.ensures (held_valued state c.args.window.now c.self.invariant)
