-- The invariant of the loop: the ranges from the number of the values that are left on have got the other values.
-- The prover guesses no invariant.
use Rattle.std.specs.Prelude.{◌≡◌, ◌≤◌, List, ◌++◌, length, drop, vec_len, vec_capacity}
use Rattle.vm_range_map.specs.RangeMaps.{with_values}
use Rattle.vm_range_map.proofs.range_map.value_table.ValueTable.insert_all.Given as goal

abbrev pub invariant-loop-value : goal.invariant-loop-value
invariant-loop-value g l = record {
  inserted : (others : List g.row.T.Denot) × (l.initial.left.items ≡ l.left.items ++ others)
      × (l.self ≡ with_values l.initial.self (drop (vec_len l.left) l.ranges) others);
  room : length l.ranges ≤ vec_capacity l.left;
}

abbrev pub decreases-loop-value : goal.decreases-loop-value
decreases-loop-value g l = length l.left.items
