use Rattle.vm_space.proofs.Meetings.{first_at_index}
use Rattle.vm_space.proofs.walk.first_from.Goals as goal

pub returns : goal.returns
returns c =
    let f = c.index_of.ensures.found in
    first_at_index c.args.leaf.now c.len-len.ensures.leaf c.args.address c.index_of.result c.index_of.ensures.within f.0 f.1
