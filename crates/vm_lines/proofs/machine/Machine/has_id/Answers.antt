use Rattle.std.proofs.Common.{refl}
use Rattle.vm_lines.specs.Machines.{Does, OnIds}
use Rattle.vm_lines.proofs.machine.Machine.has_id.Goals as goal

pub returns : goal.returns
unfolding Does OnIds
returns c = rw (← c.self.view_is, c.in-Some.is) (c.in-Some.ids, (c.is_allocated.result, c.is_allocated.ensures.value, refl, refl), refl)
