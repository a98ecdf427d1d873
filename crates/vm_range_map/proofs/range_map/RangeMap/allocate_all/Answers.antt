-- Each range starts where no value is. The prover does not go over a list of allocations.
use Rattle.std.proofs.Common.{List, length, sym, ap, ◌∙◌}
use Rattle.vm_ranges.specs.Range.{Range}
use Rattle.vm_addresses.specs.Allocator.{state_of}
use Rattle.vm_range_map.specs.RangeMaps.{MapState, map_of}
use Rattle.vm_range_map.proofs.SeveralValues.{each_length, each_valid}
use Rattle.vm_range_map.proofs.range_map.RangeMap.allocate_all.Goals as goal

pub insert_all-requires-clause-many : goal.insert_all-requires-clause-many
insert_all-requires-clause-many g c =
    let each = rw c.deref.ensures.value at c.in-Ok.ensures.answer in
    let many = each_length c.list.inside.items.items c.in-Ok.ranges.items (state_of c.self.inside.addresses) (state_of c.allocate_all.new.self) each in
    ap (λ (v : List Range). length v) c.deref-2.ensures.value ∙ sym many ∙ c.list.invariant

pub insert_all-requires-clause-new : goal.insert_all-requires-clause-new
insert_all-requires-clause-new g c =
    let old : MapState g.row.T.Denot = map_of (state_of c.self.inside.addresses) c.self.inside.values in
    let each = rw c.deref.ensures.value at c.in-Ok.ensures.answer in
    rw c.deref-2.ensures.value
    (each_valid c.list.inside.items.items c.in-Ok.ranges.items c.list.inside.values.items old (state_of c.allocate_all.new.self)
    c.list.invariant c.self.invariant each).0

pub invariant_of-self-in_default : goal.invariant_of-self-in_default
invariant_of-self-in_default g c =
    let old : MapState g.row.T.Denot = map_of (state_of c.self.inside.addresses) c.self.inside.values in
    let each = rw c.deref.ensures.value at c.in-Ok.ensures.answer in
    rw (c.in_default.ensures.inserted, c.deref-2.ensures.value)
    (each_valid c.list.inside.items.items c.in-Ok.ranges.items c.list.inside.values.items old (state_of c.allocate_all.new.self)
    c.list.invariant c.self.invariant each).1

pub returns-clause-state : goal.returns-clause-state
returns-clause-state g c =
    let old : MapState g.row.T.Denot = map_of (state_of c.self.inside.addresses) c.self.inside.values in
    let each = rw c.deref.ensures.value at c.in-Ok.ensures.answer in
    rw (c.in_default.ensures.inserted, c.deref-2.ensures.value)
    (each_valid c.list.inside.items.items c.in-Ok.ranges.items c.list.inside.values.items old (state_of c.allocate_all.new.self)
    c.list.invariant c.self.invariant each).1
