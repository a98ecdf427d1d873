-- The entries ascend by their starts. The prover does not turn the list of the indices.
use Rattle.std.proofs.Common.{refl}
use Rattle.vm_range_map.specs.Checks.{indices_of}
use Rattle.vm_range_map.proofs.ValuedLists.{entries_listed}
use Rattle.vm_range_map.proofs.range_map.value_table.ValueTable.iter.Goals as goal

pub returns : goal.returns
returns g c =
    rw (← c.self.view_is, c.deref.ensures.value, c.iter.ensures.entries)
    (record {
      indices = indices_of c.self.inside.indices;
      indexed = c.self.invariant;
      entries = entries_listed c.self.inside.indices c.iter.ensures.order;
      values = refl;
    })
