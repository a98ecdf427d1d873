-- Each range gets its value in an empty table. The prover does not find the starts of a list of ranges.
use Rattle.std.proofs.Common.{◌≡◌, None, rules}
use Rattle.vm_ranges.specs.declared.error.Error.TheVariants.{OutOfMemory}
use Rattle.vm_addresses.specs.Allocator.{state_of}
use Rattle.vm_range_map.proofs.SeveralValues.{has_held, held_refused, held_valued, held_new, held_valid}
use Rattle.vm_range_map.proofs.range_map.RangeMap.with_held.Goals as goal

pub returns-in-Err-clause-answer : goal.returns-in-Err-clause-answer
returns-in-Err-clause-answer g c =
    let made = rw c.deref.ensures.value at c.in-Err.ensures.answer in
    rw (← c.held.view_is) (held_refused c.args.base c.args.size c.held.inside.items.items c.held.inside.values.items c.in-Err.error.error made)

pub insert_all-requires-clause-new : goal.insert_all-requires-clause-new
insert_all-requires-clause-new g c =
    let made = rw c.deref.ensures.value at c.in-Ok.ensures.answer in
    rw c.deref-2.ensures.value
    (held_new c.args.base c.args.size c.held.inside.items.items (state_of c.in-Ok.addresses) made c.in-Ok.ensures.state c.new-table.result
    c.new-table.ensures)

pub returns-in-Err-insert_all-clause-answer : goal.returns-in-Err-insert_all-clause-answer
returns-in-Err-insert_all-clause-answer g c =
    let is : c.into-error.result ≡ record { index = None; error = OutOfMemory } = search rules in
    let made = rw c.deref.ensures.value at c.in-Ok.ensures.answer in
    let has = has_held c.args.base c.args.size c.held.inside.items.items (state_of c.in-Ok.addresses) made in
    rw (is, ← c.held.view_is)
    (held_refused c.args.base c.args.size c.held.inside.items.items c.held.inside.values.items OutOfMemory has.memory)

pub returns-in-Err-insert_all-clause-index : goal.returns-in-Err-insert_all-clause-index
returns-in-Err-insert_all-clause-index g c =
    let is : c.into-error.result ≡ record { index = None; error = OutOfMemory } = search rules in
    let made = rw c.deref.ensures.value at c.in-Ok.ensures.answer in
    rw (is, ← c.held.view_is) (has_held c.args.base c.args.size c.held.inside.items.items (state_of c.in-Ok.addresses) made).index

pub invariant_of-result : goal.invariant_of-result
invariant_of-result g c =
    let made = rw c.deref.ensures.value at c.in-Ok.ensures.answer in
    let inserted = rw (c.deref-2.ensures.value, c.new-table.ensures) at c.in_default.ensures.inserted in
    held_valid c.args.base c.args.size c.held.inside.items.items (state_of c.in-Ok.addresses) made c.in-Ok.ensures.state
    c.held.inside.values.items c.insert_all.new.self c.held.invariant inserted

pub returns-clause-answer : goal.returns-clause-answer
returns-clause-answer g c =
    let made = rw c.deref.ensures.value at c.in-Ok.ensures.answer in
    let inserted = rw (c.deref-2.ensures.value, c.new-table.ensures) at c.in_default.ensures.inserted in
    rw (← c.held.view_is)
    (held_valued c.args.base c.args.size c.held.inside.items.items (state_of c.in-Ok.addresses) made c.held.inside.values.items
    c.insert_all.new.self inserted)

pub returns-clause-state : goal.returns-clause-state
returns-clause-state g c =
    let made = rw c.deref.ensures.value at c.in-Ok.ensures.answer in
    let inserted = rw (c.deref-2.ensures.value, c.new-table.ensures) at c.in_default.ensures.inserted in
    held_valid c.args.base c.args.size c.held.inside.items.items (state_of c.in-Ok.addresses) made c.in-Ok.ensures.state
    c.held.inside.values.items c.insert_all.new.self c.held.invariant inserted
