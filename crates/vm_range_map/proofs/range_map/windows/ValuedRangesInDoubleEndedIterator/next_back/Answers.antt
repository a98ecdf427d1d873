-- The last range has a value. The prover does not split the list of the ranges at its end.
use Rattle.std.proofs.Common.{◌≡◌, None, ap, sym, ◌∙◌, arith, length}
use Rattle.std.proofs.lemmas.List.{length_push}
use Rattle.std.specs.FinMap as map
use Rattle.vm_range_map.proofs.Windows.{last_valued, last_taken}
use Rattle.vm_range_map.proofs.range_map.windows.ValuedRangesInDoubleEndedIterator.next_back.Goals as goal

pub unreachable-requires : goal.unreachable-requires
unreachable-requires g c =
    let some = (last_valued c.self.inside.values.now c.self.inside.ranges c.next_back.new.self c.in_ok-range.range c.self.invariant c.in_ok-range.ensures.steps).1 in
    let none : map.get c.self.inside.values.now c.in_ok-range.range.start ≡ None =
    ap (λ k. map.get c.self.inside.values.now k) (sym c.start.ensures.value) ∙ sym c.in_default.ensures in
    absurd (cc (some, none))

pub invariant_of-self-2 : goal.invariant_of-self-2
invariant_of-self-2 g c =
    (last_valued c.self.inside.values.now c.self.inside.ranges c.next_back.new.self c.in_ok-range.range c.self.invariant c.in_ok-range.ensures.steps).0

pub returns-clause-steps : goal.returns-clause-steps
returns-clause-steps g c =
    sym c.self.view_is ∙ last_taken c.self.inside.values.now c.self.inside.ranges c.next_back.new.self c.in_ok-range.range c.self.invariant
    c.in_ok-range.ensures.steps c.in-Some.value.now
    (c.in-Some.ensures ∙ ap (λ k. map.get c.self.inside.values.now k) c.start.ensures.value)

pub returns-clause-goes : goal.returns-clause-goes
returns-clause-goes g c =
    let last = returns-clause-steps g c in
    record { on = λ _. (tt, tt, omega (arith, ap length last ∙ length_push _ _)); keeps = tt; rests = λ _. tt }
