use Rattle.vm_ids.proofs.Ids.WithHeld.{HoldsUpTo}
use Rattle.vm_ids.proofs.id_allocator.IdAllocator.with_held.Given as goal

-- The ids so far are allocated.
abbrev pub invariant-loop-id : goal.invariant-loop-id
invariant-loop-id l = HoldsUpTo l.range_base l.range_end l.id-index l.held l.ids
