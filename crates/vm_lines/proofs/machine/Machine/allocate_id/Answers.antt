use Rattle.std.proofs.Common.{refl}
use Rattle.vm_lines.specs.Machines.{Does, OnIds}
use Rattle.vm_lines.proofs.machine.Machine.allocate_id.Goals as goal

pub returns : goal.returns
unfolding Does OnIds
returns c =
    rw (← c.self.view_is, c.in-Some.is)
    (c.allocate_id.new.self, (c.allocate_id.result, c.allocate_id.ensures.answer, c.id_reply.ensures), refl)
