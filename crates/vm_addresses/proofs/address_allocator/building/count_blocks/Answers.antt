-- The number of free addresses fits. A lemma by induction shows that the rest of the ranges has at most the addresses of all.
use Rattle.std.proofs.Common.{arith}
use Rattle.vm_addresses.proofs.Trees.CountedTrees.{count_dropped}
use Rattle.vm_addresses.proofs.address_allocator.building.count_blocks.Goals as goal

pub overflow_add-left : goal.overflow_add-left
overflow_add-left c = omega (
  arith,
  c.loop-range.invariant.left,
  count_dropped c.args.held.now c.loop-range.range-index,
  c.start-then-next-start.ensures.value,
  c.start-then-next-start.type_inv,
)
