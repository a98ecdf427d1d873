-- The range at the start that was found fits in the gap. The prover does not join the two lemmas on the part of the gap.
use Rattle.std.proofs.Common.{◌+◌, ◌-◌, arith, Some}
use Rattle.vm_ranges.specs.Range.{IsRange}
use Rattle.vm_addresses.specs.Checks.Moving.{FindsStart, part_for}
use Rattle.vm_addresses.proofs.Moving.Places.{fit_range, start_in_part}
use Rattle.vm_addresses.proofs.address_allocator.moving.place_in.Goals as goal

-- The start is found in the part of the gap.
found : (c : goal.After-size) → FindsStart (part_for c.args.request c.args.gap.now) c.args.request (Some c.in_ok-start.start)
found c = start_in_part c.args.gap.now c.args.request c.window.result c.ends_in-low.result.0 c.ends_in-low.result.1 (Some c.in_ok-start.start)
    c.window.ensures c.ends_in-low.ensures.ends c.in_ok-start.ensures.found

-- The start that is found and the last address of its range are the ends of a range.
range : (c : goal.After-size) → IsRange c.in_ok-start.start (c.in_ok-start.start + (c.size.result - 1))
range c = rw c.size.ensures.value (fit_range c.args.gap.now c.args.request c.in_ok-start.start c.ends_in-low.ensures.range c.size.ensures.valid.some (found c))

pub overflow_add-start : goal.overflow_add-start
overflow_add-start c = omega (arith, (range c).1)

pub between-requires : goal.between-requires
between-requires c = range c
