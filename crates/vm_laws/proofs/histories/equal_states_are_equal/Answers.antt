use Rattle.vm_laws.proofs.AddressProofs.AddressEnds.{one_end_is_equal}
use Rattle.vm_laws.proofs.histories.equal_states_are_equal.Goals as goal

pub returns-clause-any : goal.returns-clause-any
returns-clause-any c = one_end_is_equal
