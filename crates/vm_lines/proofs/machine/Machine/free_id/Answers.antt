use Rattle.std.proofs.Common.{refl}
use Rattle.vm_lines.specs.Machines.{Does, OnIds}
use Rattle.vm_lines.proofs.machine.Machine.free_id.Goals as goal

pub returns : goal.returns
unfolding Does OnIds
returns c =
    rw (← c.self.view_is, c.in-Some.is)
    (c.free_id.new.self, (c.free_id.result, c.free_id.ensures.answer, c.id_reply.ensures), refl)
