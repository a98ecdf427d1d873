use Rattle.std.proofs.Common.{refl}
use Rattle.vm_ids.proofs.Ids.IdFields.{is_state}
use Rattle.vm_ids.proofs.id_allocator.IdAllocator.from_ids.Goals as goal

pub invariant_of-result : goal.invariant_of-result
invariant_of-result c = (c.in_ok-check_parts.ensures c.freed_ids.inside.ids.keys c.freed_ids.invariant).parts

pub returns-clause-state : goal.returns-clause-state
returns-clause-state c =
    is_state _ c.args.range_base c.args.range_end c.args.next_id c.freed_ids.inside.ids refl (invariant_of-result c)
