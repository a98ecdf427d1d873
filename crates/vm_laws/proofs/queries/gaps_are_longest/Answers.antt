use Rattle.vm_addresses.proofs.Results.HeldAndGaps.{gaps_are_longest, held_and_gaps_are_blocks}
use Rattle.vm_laws.proofs.queries.gaps_are_longest.Goals as goal

pub returns-clause-longest : goal.returns-clause-longest
returns-clause-longest c = gaps_are_longest

pub returns-clause-blocks : goal.returns-clause-blocks
returns-clause-blocks c = held_and_gaps_are_blocks
