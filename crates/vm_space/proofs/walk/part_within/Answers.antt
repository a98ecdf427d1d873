use Rattle.vm_space.specs.Walks.{addresses_of}
use Rattle.vm_space.proofs.Meetings.{part_order}
use Rattle.vm_space.proofs.walk.part_within.Goals as goal

pub part-requires-clause-order : goal.part-requires-clause-order
part-requires-clause-order c =
    part_order (addresses_of c.args.span) c.args.leaf.now c.len-len.ensures.leaf c.first_from.result c.count_up_to.result c.requires
    c.first_from.ensures c.count_up_to.ensures
