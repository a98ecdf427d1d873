use Rattle.vm_laws.proofs.AddressProofs.MovedRanges.{moved_clear}
use Rattle.vm_laws.proofs.moves.moved_ranges_leave_their_place.Goals as goal

pub returns-clause-clear : goal.returns-clause-clear
returns-clause-clear c = moved_clear
