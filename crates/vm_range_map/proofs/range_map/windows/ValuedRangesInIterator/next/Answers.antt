-- The first range has a value. The prover does not split the list of the ranges.
use Rattle.std.proofs.Common.{◌≡◌, None, ap, sym, ◌∙◌}
use Rattle.std.specs.FinMap as map
use Rattle.vm_range_map.proofs.Windows.{first_valued}
use Rattle.vm_range_map.proofs.range_map.windows.ValuedRangesInIterator.next.Goals as goal

pub unreachable-requires : goal.unreachable-requires
unreachable-requires g c =
    let some = (first_valued c.self.inside.values.now c.self.inside.ranges c.next.new.self c.in_ok-range.range c.self.invariant c.in_ok-range.ensures.steps).0 in
    let none : map.get c.self.inside.values.now c.in_ok-range.range.start ≡ None =
    ap (λ k. map.get c.self.inside.values.now k) (sym c.start.ensures.value) ∙ sym c.in_default.ensures in
    absurd (cc (some, none))

pub invariant_of-self-2 : goal.invariant_of-self-2
invariant_of-self-2 g c =
    (first_valued c.self.inside.values.now c.self.inside.ranges c.next.new.self c.in_ok-range.range c.self.invariant c.in_ok-range.ensures.steps).1
