-- Heights of binary trees: of the tree of leaves, and of saved trees, which have a node for each block.
use Rattle.std.specs.Prelude.{ℕ, ◌+◌, ◌*◌, ◌^◌, ◌≤◌}

-- A bound on the height. Between two calls every tree is lower, and no higher saved tree is read as that of an allocator.
abbrev pub MAX_HEIGHT : ℕ
MAX_HEIGHT = 49

-- The heights l and r are at most `by` apart.
abbrev pub DifferByAtMost : ℕ → ℕ → ℕ → Type 0
DifferByAtMost by l r = (l ≤ r + by) × (r ≤ l + by)

-- A tree of this many blocks or more is too high.
abbrev pub TOO_MANY_BLOCKS : ℕ
TOO_MANY_BLOCKS = 2 ^ 49

-- No tree of n nodes is lower than h, and a tree that is filled from the middle has this height.
abbrev pub IsLowestHeight : ℕ → ℕ → Type 0
IsLowestHeight n h = (n + 1 ≤ 2 ^ h) × (2 ^ h ≤ 2 * n + 1)
