use Rattle.std.proofs.Common.{refl}
use Rattle.vm_devices.specs.Manager.{device_state}
use Rattle.vm_lines.specs.Machines.{Does, OnDevices}
use Rattle.vm_lines.proofs.machine.Machine.reserve.Goals as goal

pub returns : goal.returns
unfolding Does OnDevices
returns c =
    rw (← c.self.view_is, c.in-Some.is)
    (device_state c.reserve.new.self, (c.reserve.result, c.reserve.ensures.answer, c.device_reply.ensures), refl)
