-- The new tree has as many blocks as were counted. The lemmas on a built tree have many arguments, which the prover does not find.
use Rattle.std.proofs.Common.{arith}
use Rattle.vm_addresses.proofs.Trees.HeldTrees.{held_counted, built_counted, built_is_state, built_state}
use Rattle.vm_addresses.proofs.address_allocator.building.build.Goals as goal

pub overflow_sub-result : goal.overflow_sub-result
overflow_sub-result c =
    let n = c.requires.counted in
    held_counted c.args.space c.args.held.now c.end-end.ensures.range c.requires.in_order c.args.count n.0 (omega (arith, c.requires.few))
    c.in_ok-with_held.field-0 c.in_ok-with_held.ensures

pub invariant_of-result : goal.invariant_of-result
invariant_of-result c =
    let n = c.requires.counted in
    built_counted c.args.space c.args.held.now c.end-end.ensures.range c.requires.in_order c.args.count n.0 (omega (arith, c.requires.few))
    c.in_ok-with_held.field-0 c.in_ok-with_held.ensures c.args.left n.1

pub returns-clause-made : goal.returns-clause-made
returns-clause-made c =
    let n = c.requires.counted in
    built_state c.args.space c.args.held.now c.end-end.ensures.range c.requires.in_order c.args.count n.0 (omega (arith, c.requires.few))
    c.in_ok-with_held.field-0 c.in_ok-with_held.ensures

pub returns-clause-state : goal.returns-clause-state
returns-clause-state c =
    let n = c.requires.counted in
    built_is_state c.args.space c.args.held.now c.end-end.ensures.range c.requires.in_order c.args.count n.0 (omega (arith, c.requires.few))
    c.in_ok-with_held.field-0 c.in_ok-with_held.ensures
