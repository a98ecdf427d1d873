use Rattle.std.proofs.Common.{rules, arith}
use Rattle.vm_tree.specs.Slots.{held}
use Rattle.vm_tree.proofs.Grown.{in_lower, in_upper, length_in, length_low, length_up}
use Rattle.vm_tree.proofs.grow.add_child.Goals as goal

pub returns-then-i-at-clause-entries : goal.returns-then-i-at-clause-entries
returns-then-i-at-clause-entries g c =
    in_lower c.args.entries.now c.split_off.new.self c.split_off.new.upper _ c.kept-at.result c.args.i c.args.entry (search rules) (search rules)
    c.split_off.ensures.lower c.split_off.ensures.upper c.insert-then-i-at.ensures

pub returns-then-i-at-clause-held : goal.returns-then-i-at-clause-held
returns-then-i-at-clause-held g c =
    in_lower (held c.args.slots.now) (held c.split_slots.new.slots) (held c.split_slots.new.upper) _ c.kept-at.result c.args.i c.args.child (search rules)
    (search rules) c.split_slots.ensures.lower c.split_slots.ensures.upper c.insert_slot-then-i-at.ensures.held

pub returns-then-i-at-clause-same : goal.returns-then-i-at-clause-same
returns-then-i-at-clause-same g c =
    let a = length_low c.args.entries.now c.split_off.new.self c.kept-at.result (search rules) c.split_off.ensures.lower in
    let b = length_low (held c.args.slots.now) (held c.split_slots.new.slots) c.kept-at.result (search rules) c.split_slots.ensures.lower in
    let d = length_up c.args.entries.now c.split_off.new.upper c.kept-at.result c.split_off.ensures.upper in
    let e = length_up (held c.args.slots.now) (held c.split_slots.new.upper) c.kept-at.result c.split_slots.ensures.upper in
    let x = length_in c.split_off.new.self _ c.args.i c.args.entry (search (rules, a)) c.insert-then-i-at.ensures in
    let y = length_in (held c.split_slots.new.slots) _ c.args.i c.args.child (search (rules, b)) c.insert_slot-then-i-at.ensures.held in
    (omega (arith, a, b, x, y), omega (arith, d, e, c.requires.same))

pub returns-else-i-at-clause-entries : goal.returns-else-i-at-clause-entries
returns-else-i-at-clause-entries g c =
    in_upper c.args.entries.now c.split_off.new.self c.split_off.new.upper _ c.kept-at.result c.args.i c.args.entry (search rules) (search rules)
    c.split_off.ensures.lower c.split_off.ensures.upper c.insert-else-i-at.ensures

pub returns-else-i-at-clause-held : goal.returns-else-i-at-clause-held
returns-else-i-at-clause-held g c =
    in_upper (held c.args.slots.now) (held c.split_slots.new.slots) (held c.split_slots.new.upper) _ c.kept-at.result c.args.i c.args.child (search rules)
    (search rules) c.split_slots.ensures.lower c.split_slots.ensures.upper c.insert_slot-else-i-at.ensures.held
