-- The last range and the last entry are a pair. The prover does not split two lists of the same length at their ends.
use Rattle.std.proofs.Common.{arith, sym, ap, ◌∙◌, length}
use Rattle.std.proofs.lemmas.List.{length_push}
use Rattle.vm_range_map.proofs.Pairs.{pair_none, last_within, last_left, pair_last}
use Rattle.vm_range_map.proofs.range_map.iter.ValuedRangesDoubleEndedIterator.next_back.Goals as goal

pub unreachable-requires : goal.unreachable-requires
unreachable-requires g c =
    pair_none c.self.inside.values.now c.self.inside.ranges c.next_back.new.self c.in_ok-range.range c.self.inside.entries
    c.in_ok-range.ensures.steps c.in_default.ensures.steps.0 c.self.invariant

pub value_at-requires : goal.value_at-requires
value_at-requires g c =
    last_within c.self.inside.values.now c.self.inside.ranges c.next_back.new.self c.self.inside.entries c.next_back-2.new.self
    c.in_ok-range.range c.in-Some.entry.now c.self.invariant c.in_ok-range.ensures.steps c.in-Some.ensures.steps

pub invariant_of-self-2 : goal.invariant_of-self-2
invariant_of-self-2 g c =
    last_left c.self.inside.values.now c.self.inside.ranges c.next_back.new.self c.self.inside.entries c.next_back-2.new.self
    c.in_ok-range.range c.in-Some.entry.now c.self.invariant c.in_ok-range.ensures.steps c.in-Some.ensures.steps

pub returns-clause-steps : goal.returns-clause-steps
returns-clause-steps g c =
    sym c.self.view_is ∙ pair_last c.self.inside.values.now c.self.inside.ranges c.next_back.new.self c.self.inside.entries c.next_back-2.new.self
    c.in_ok-range.range c.in-Some.entry.now c.self.invariant c.in_ok-range.ensures.steps c.in-Some.ensures.steps c.value_at.result.now c.value_at.ensures

pub returns-clause-goes : goal.returns-clause-goes
returns-clause-goes g c =
    let last = returns-clause-steps g c in
    record { on = λ _. (tt, tt, omega (arith, ap length last ∙ length_push _ _)); keeps = tt; rests = λ _. tt }
