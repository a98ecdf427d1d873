-- The map after a value of it was written through a reference.
use Rattle.std.specs.Prelude.{◌≡◌, ℕ, Option, OnSome}
use Rattle.std.specs.Borrow.{LendsSo, Fml, RattleType, MutBor}
use Rattle.std.specs.FinMap as map
use Rattle.vm_ranges.specs.Range.{Range, IsIn}
use Rattle.vm_range_map.specs.RangeMaps.{HasValue}
use Rattle.vm_range_map.specs.Trees.{RangeMapInTree, map_state}
use Rattle.vm_range_map.specs.contracts.range_map.RangeMap.{the_row}

-- The held range that contains x gets the value w, and nothing else changes.
abbrev pub WritesAt : {X : Type 0} → RangeMapInTree X → ℕ → X → RangeMapInTree X → Type 0
WritesAt {X} old x w new = (r : Range) × (before : X) × HasValue (map_state old) r before × IsIn r x
    × (new ≡ record old { values = map.insert old.values r.start w })

-- The range that contains x has the last value written through r. If there is none, nothing changes.
abbrev pub lends_value : (T : RattleType) → MutBor (RangeMapInTree T.Denot) → ℕ → Option (MutBor T.Denot) → Fml
lends_value T s x r = LendsSo (the_row T) T s r (λ n w. OnSome r (WritesAt s.now x w n)) (λ n. n ≡ s.now)
