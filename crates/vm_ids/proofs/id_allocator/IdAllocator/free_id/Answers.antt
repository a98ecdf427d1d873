use Rattle.std.proofs.Common.{rules}
use Rattle.vm_ids.specs.Ids.{WasEverAllocated}
use Rattle.vm_ids.proofs.Ids.FreedIds.{keeps_more}
use Rattle.vm_ids.proofs.id_allocator.IdAllocator.free_id.Goals as goal

pub invariant_of-self-2 : goal.invariant_of-self-2
invariant_of-self-2 c =
    let was : WasEverAllocated c.args.self.now c.args.id = search rules in
    keeps_more _ _ _ c.args.id _ _ _ c.self.view_is c.self.invariant was c.in_ok-insert.ensures.added
