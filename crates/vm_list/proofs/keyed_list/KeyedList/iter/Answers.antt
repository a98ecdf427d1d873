use Rattle.vm_list.proofs.Rising.{rising}
use Rattle.vm_list.proofs.keyed_list.KeyedList.iter.Goals as goal

pub leaves-requires : goal.leaves-requires
leaves-requires g c = record { rise = rising g.E.Keyed.key_of _ (record { order = c.self.invariant; filled = c.facts.ensures.enough }) }
