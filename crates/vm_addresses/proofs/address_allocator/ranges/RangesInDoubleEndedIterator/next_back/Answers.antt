-- One range less is left. The prover does not rewrite the list as the ranges before its last range, and this range.
use Rattle.std.proofs.Common.{◌≡◌, ◌<◌, [], ◌∷◌, ◌++◌, length, arith, length-append, sym, ap, ◌∙◌, rules}
use Rattle.vm_addresses.specs.Queries.{ranges_with}
use Rattle.vm_addresses.proofs.Walking.StateRanges.{last_with}
use Rattle.vm_addresses.proofs.address_allocator.ranges.RangesInDoubleEndedIterator.next_back.Goals as goal

pub returns-then-eq-clause-goes : goal.returns-then-eq-clause-goes
returns-then-eq-clause-goes c =
    let left = ranges_with c.loop-block.self-inside.state c.next_back.new.self in
    let state : c.in-Some.block.state ≡ c.loop-block.self-inside.state = search rules in
    let last : ranges_with c.loop-block.self-inside.state c.loop-block.self-inside.blocks ≡ left ++ c.in-Some.block.key ∷ [] =
    ap (ranges_with c.loop-block.self-inside.state) c.in-Some.ensures.steps
    ∙ last_with c.loop-block.self-inside.state c.next_back.new.self c.in-Some.block state in
    let all : c.args.self.now ≡ left ++ c.in-Some.block.key ∷ [] = sym c.self.view_is ∙ sym c.loop-block.invariant.ranges ∙ last in
    let fewer : length left < length c.args.self.now = rw all (omega (arith, length-append left (c.in-Some.block.key ∷ []))) in
    record { on = λ _. (tt, tt, fewer); keeps = tt; rests = λ _. tt }
