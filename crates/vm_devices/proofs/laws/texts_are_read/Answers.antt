use Rattle.vm_devices.proofs.NestedManagers.{text_again}
use Rattle.vm_devices.proofs.laws.texts_are_read.Goals as goal

pub returns : goal.returns
returns c = text_again
