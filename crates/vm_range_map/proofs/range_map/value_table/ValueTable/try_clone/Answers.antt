-- Each item has a clone at the same index. The prover does not compare two lists item by item.
use Rattle.vm_range_map.specs.Checks.{indices_of}
use Rattle.vm_range_map.proofs.Copies.{item_copies, copy_indexed, copied_values}
use Rattle.vm_range_map.proofs.range_map.value_table.ValueTable.try_clone.Goals as goal

pub invariant_of-result : goal.invariant_of-result
invariant_of-result g c =
    let es = c.self.inside.indices in
    let vs = c.self.inside.values.items in
    rw c.in_ok-indices.ensures
    (copy_indexed g.T.Clone.is_clone (indices_of es) vs c.in_ok-values.values.items c.self.invariant
    (item_copies g.T.Clone.is_clone vs c.in_ok-values.values.items c.in_ok-values.ensures.cases.0))

pub returns : goal.returns
returns g c =
    let es = c.self.inside.indices in
    let vs = c.self.inside.values.items in
    rw (← c.self.view_is)
    (copied_values g.T.Clone.is_clone (indices_of es) vs c.in_ok-values.values.items c.self.invariant
    (item_copies g.T.Clone.is_clone vs c.in_ok-values.values.items c.in_ok-values.ensures.cases.0))
