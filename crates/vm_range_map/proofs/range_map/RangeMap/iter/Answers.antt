-- Each held range has a value, and both lists have the same order. The prover does not pair two lists, and a lemma by induction does.
use Rattle.vm_addresses.specs.Allocator.{state_of}
use Rattle.vm_range_map.specs.RangeMaps.{MapState, map_of}
use Rattle.vm_range_map.proofs.Pairs.{listed_pairs}
use Rattle.vm_range_map.proofs.range_map.RangeMap.iter.Goals as goal

pub invariant_of-result : goal.invariant_of-result
invariant_of-result g c =
    let state : MapState g.row.T.Denot = map_of (state_of c.self.inside.addresses) c.self.inside.values in
    rw c.held_ranges.ensures (listed_pairs state c.iter-entries.result.0 c.iter-entries.result.1.now c.self.invariant c.iter-entries.ensures).0

pub returns : goal.returns
returns g c =
    let state : MapState g.row.T.Denot = map_of (state_of c.self.inside.addresses) c.self.inside.values in
    rw (← c.self.view_is, c.held_ranges.ensures) (listed_pairs state c.iter-entries.result.0 c.iter-entries.result.1.now c.self.invariant c.iter-entries.ensures).1
