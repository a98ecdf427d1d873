-- The invariant of the loop: the ranges that are left have their values, and the list has got the others.
-- The prover guesses no invariant.
use Rattle.std.specs.Prelude.{◌≡◌, ◌≤◌, ◌+◌, List, ◌++◌, length, drop, vec_len, vec_capacity}
use Rattle.std.specs.Ordering.{nat_cmp}
use Rattle.std.specs.FinMap as map
use Rattle.vm_range_map.specs.Checks.{AreInserted}
use Rattle.vm_range_map.proofs.range_map.value_table.ValueTable.remove_all.Given as goal

abbrev pub invariant-loop-range : goal.invariant-loop-range
invariant-loop-range g l = record {
  inserted : (before : map.FinMap nat_cmp g.row.T.Denot) × (removed : List g.row.T.Denot)
      × AreInserted before (drop l.range-index l.ranges) removed l.self;
  moved : (before : map.FinMap nat_cmp g.row.T.Denot) (removed : List g.row.T.Denot) →
      AreInserted before l.ranges removed l.initial.self →
      (rest : List g.row.T.Denot) × AreInserted before (drop l.range-index l.ranges) rest l.self
      × (l.initial.values.items ++ removed ≡ l.values.items ++ rest);
  room : vec_len l.values + length l.ranges ≤ vec_capacity l.values + l.range-index;
}
