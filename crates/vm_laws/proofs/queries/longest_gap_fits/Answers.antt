use Rattle.vm_addresses.proofs.Results.HeldAndGaps.{longest_is_zero, longest_fits}
use Rattle.vm_laws.proofs.queries.longest_gap_fits.Goals as goal

pub returns-clause-zero : goal.returns-clause-zero
returns-clause-zero c = longest_is_zero

pub returns-clause-fits : goal.returns-clause-fits
returns-clause-fits c = longest_fits
