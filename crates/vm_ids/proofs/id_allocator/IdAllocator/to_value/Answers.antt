use Rattle.vm_ids.proofs.Ids.ReadIdStates.{encodes_ids}
use Rattle.vm_ids.proofs.id_allocator.IdAllocator.to_value.Goals as goal

pub returns : goal.returns
returns c =
    encodes_ids _ _ _ _ _ _ _ _ _ c.self.view_is c.self.invariant c.freed_ids.ensures c.in_ok-ids_object.ensures c.encode_next-next.ensures
    c.in_ok-freed.ensures
