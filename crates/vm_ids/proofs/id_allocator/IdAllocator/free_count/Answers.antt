use Rattle.std.proofs.Common.{arith}
use Rattle.vm_ids.proofs.Ids.FreeIds.{free_counted}
use Rattle.vm_ids.proofs.id_allocator.IdAllocator.free_count.Goals as goal

pub overflow_sub-result : goal.overflow_sub-result
overflow_sub-result c =
    let h = free_counted _ c.self.inside.range_base c.self.inside.range_end c.self.inside.next_id c.self.inside.freed_ids c.self.view_is
    c.self.invariant in
    omega (arith, h, c.from.ensures, c.from-2.ensures, c.held_count.ensures.value)
