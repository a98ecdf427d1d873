-- The leaf to which a key belongs.
use Rattle.std.specs.Prelude.{◌≡◌, ℕ, List, Option, Some, Box, slice_index_or}
use Rattle.std.specs.declared.alloc.Global.{Global}
use Rattle.vm_tree.specs.Entry.{Entry}
use Rattle.vm_tree.specs.Edits.{IsRefused}

-- x is the leaf of the key.
abbrev pub IsLeafOf : {X : Type 0} → (X → Entry) → ℕ → List X → X → Type 0
IsLeafOf entry key old x = IsRefused entry key (λ l. l ≡ x) old

-- The slot i has a box of x.
pub record HasKid {C : Type 0} (os : List (Option (Box C Global))) (i : ℕ) (x : C) : Type 0 where
  pub box : Box C Global
  pub value : x ≡ box.value
  pub other : Option (Box C Global)
  pub is : slice_index_or os i other ≡ Some box
