-- Lists of entries in leaves.
use Rattle.std.specs.Prelude.{◌≡◌, ℕ, ◌≤◌, ◌<◌, List, [], ◌∷◌, ◌++◌, length}
use Rattle.vm_tree.specs.declared.entries.Entry.{Entry}
use Rattle.vm_tree.specs.Subtree.{AllOf}
use Rattle.vm_list.specs.Entries.{IsDescendingBy}

-- The entries of leaves in ascending order. Each leaf descends, and so do these entries.
abbrev pub items_of : {X : Type 0} → List (List X) → List X
items_of [] = []
items_of (c ∷ cs) = items_of cs ++ c

-- The lowest key of a descending list, or 0.
abbrev pub lowest_key : {X : Type 0} → (X → ℕ) → List X → ℕ
lowest_key key [] = 0
lowest_key key (x ∷ []) = key x
lowest_key key (x ∷ y ∷ xs) = lowest_key key (y ∷ xs)

-- The entry of a leaf: its lowest key.
abbrev pub leaf_entry : {X : Type 0} → (X → ℕ) → List X → Entry
leaf_entry key c = record { at = lowest_key key c; longest = 0; alignments = 0 }

-- The leaf has an entry. Only a leaf that is alone has none.
abbrev pub IsEnough : {X : Type 0} → List X → Type 0
IsEnough c = 0 < length c

-- The entries of leaves descend, and each leaf has one, unless it is alone.
pub record AreLeaves {X : Type 0} (key : X → ℕ) (cs : List (List X)) : Type 0 where
  pub order : IsDescendingBy key (items_of cs)
  pub filled : 2 ≤ length cs → AllOf IsEnough cs

-- The entries m are in the middle of xs: all keys before are above t, and all keys after it are below.
pub record IsMid {X : Type 0} (key : X → ℕ) (t : ℕ) (xs high m low : List X) : Type 0 where
  pub is : xs ≡ high ++ (m ++ low)
  pub over : AllOf (λ x. t < key x) high
  pub under : AllOf (λ x. key x < t) low
