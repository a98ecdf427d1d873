-- A search for a leaf.
use Rattle.std.specs.Prelude.{◌≡◌, ℕ, ◌+◌, ◌≤◌, ◌<◌, Bool, true, false, List, [], ◌∷◌, ◌++◌, length}
use Rattle.vm_tree.specs.Entry.{Entry}
use Rattle.vm_tree.specs.Subtree.{AllOf, Ascend, leaves_entry}
use Rattle.vm_tree.specs.declared.end.End.{End}
use Rattle.vm_tree.specs.declared.end.End.TheVariants.{First, Last}

-- The things between one and an end of a list: those before it, or those after it.
abbrev pub beyond : {A : Type 0} → End → List A → List A → List A
beyond First before after = before
beyond Last before after = after

-- The sum of the weights.
abbrev pub total : {A : Type 0} → (A → ℕ) → List A → ℕ
total weight [] = 0
total weight (x ∷ xs) = weight x + total weight xs

-- A search of leaves into which the window does not reach follows one path.
abbrev pub extra : Bool → ℕ
extra true = 0
extra false = 1

-- A search for the place that is closest to an end, in a window of addresses. `lacks` is true of leaves without a place, and
-- `fits` of summaries that do not exclude one. A leaf that has no place by one of two tests has a `weight`. Only leaves of
-- which `runs` is true can be next to each other, and the window reaches into those of which `reaches` is true.
pub record Seeking (X : Type 0) : Type 1 where
  pub end : End
  pub low : ℕ
  pub high : ℕ
  pub lacks : X → Type 0
  pub fits : Entry → Bool
  pub weight : Bool → X → ℕ
  pub runs : List X → Type 0
  pub reaches : List X → Bool

-- The conditions of a search on leaves next to each other:
-- - Their addresses do not descend, and a part of them can be next to each other.
-- - A window reaches into a part of leaves into which it reaches, if the part does not begin after it or end before it. It reaches
--   into leaves if an address at which one of them begins is in the window, and is not its lowest one.
-- - Leaves lack a place if they end below the window, if they begin above it, or if their summary excludes a place.
-- - More leaves have a summary that excludes no more.
-- - Leaves that lack a place have a weight, if the window reaches into them and their summary does not exclude a place.
pub record IsSeeking {X : Type 0} (entry : X → Entry) (s : Seeking X) : Type 0 where
  pub ascend : (xs : List X) → s.runs xs → Ascend entry xs
  pub part : (before xs after : List X) → 0 < length xs → s.runs (before ++ (xs ++ after)) → s.runs xs
  pub reach : (before xs after : List X) → 0 < length xs → s.runs (before ++ (xs ++ after)) → s.reaches (before ++ (xs ++ after)) ≡ true
      → (0 < length before → (leaves_entry entry xs).at ≤ s.high) → (0 < length after → s.low < (leaves_entry entry after).at) → s.reaches xs ≡ true
  pub inside : (before after : List X) → 0 < length before → 0 < length after → s.runs (before ++ after) → s.low < (leaves_entry entry after).at
      → (leaves_entry entry after).at ≤ s.high → s.reaches (before ++ after) ≡ true
  pub below : (xs after : List X) → 0 < length after → s.runs (xs ++ after) → (leaves_entry entry after).at ≤ s.low → AllOf s.lacks xs
  pub above : (before xs : List X) → 0 < length xs → s.runs (before ++ xs) → s.high < (leaves_entry entry xs).at → AllOf s.lacks xs
  pub excluded : (xs : List X) → s.runs xs → s.fits (leaves_entry entry xs) ≡ false → AllOf s.lacks xs
  pub wider : (before xs after : List X) → s.fits (leaves_entry entry xs) ≡ true → s.fits (leaves_entry entry (before ++ (xs ++ after))) ≡ true
  pub weighs : (k : Bool) (xs : List X) → s.runs xs → s.reaches xs ≡ true → s.fits (leaves_entry entry xs) ≡ true → AllOf s.lacks xs → 1 ≤ total (s.weight k) xs
