-- Memory for the split of a gap.
use Rattle.std.specs.Prelude.{ℕ, ◌-◌, ◌*◌, ◌^◌, ◌<◌, ◌≤◌, Option, Some, None}
use Rattle.vm_leaf.specs.declared.leaf.TheConstants.{MIN_BLOCKS}

-- There are as many spare nodes as a tree with up to k held blocks can be high.
abbrev pub HasSpare : ℕ → Option ℕ → Type 0
HasSpare k None = ⊥
HasSpare k (Some n) = (1 ≤ n) × (k < MIN_BLOCKS * 5 ^ (n - 1))
