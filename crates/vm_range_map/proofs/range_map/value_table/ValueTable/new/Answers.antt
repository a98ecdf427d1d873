-- A table without values has no index. The prover does not compute the table of an empty list.
use Rattle.vm_range_map.proofs.Indices.{nothing_indexed}
use Rattle.vm_range_map.proofs.range_map.value_table.ValueTable.new.Goals as goal

pub invariant_of-result : goal.invariant_of-result
invariant_of-result g c = rw (c.new.ensures, c.new-2.ensures.items) nothing_indexed
