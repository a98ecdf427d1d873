-- The table after a value of it was written through a reference.
use Rattle.std.specs.Prelude.{ℕ}
use Rattle.std.specs.Borrow.{Lends, Fml, RattleType, MutBor}
use Rattle.std.specs.Ordering.{nat_cmp}
use Rattle.std.specs.FinMap as map
use Rattle.vm_range_map.specs.contracts.range_map.value_table.ValueTable.{the_row}

-- The start has the last value written through r.
abbrev pub lends_at : (T : RattleType) → MutBor (map.FinMap nat_cmp T.Denot) → ℕ → MutBor T.Denot → Fml
lends_at T s start r = Lends (the_row T) T s r (λ w. map.insert s.now start w)
