use Rattle.vm_laws.proofs.AddressProofs.HistoryResults.{exact_is_named}
use Rattle.vm_laws.proofs.histories.chosen_places_are_allocated.Goals as goal

pub returns-clause-exact : goal.returns-clause-exact
returns-clause-exact c = exact_is_named
