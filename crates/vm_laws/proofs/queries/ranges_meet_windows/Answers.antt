use Rattle.vm_addresses.proofs.Results.Meeting.{clear_if_none_meets}
use Rattle.vm_laws.proofs.queries.ranges_meet_windows.Goals as goal

pub returns-clause-clear : goal.returns-clause-clear
returns-clause-clear c = clear_if_none_meets
