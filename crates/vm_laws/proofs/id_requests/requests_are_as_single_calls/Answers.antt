use Rattle.vm_laws.proofs.IdProofs.IdsInTurn.{exact_is_as_single}
use Rattle.vm_laws.proofs.id_requests.requests_are_as_single_calls.Goals as goal

pub returns-clause-exact : goal.returns-clause-exact
returns-clause-exact c = exact_is_as_single
