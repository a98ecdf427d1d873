-- Two neighbours among the children of a node that were joined.
use Rattle.std.specs.Prelude.{◌≡◌, ℕ, zero, suc, ◌+◌, ◌<◌, List, [], ◌∷◌, ◌++◌, length, set, Bool, false, ◌⊎◌, if◌then◌else◌}
use Rattle.std.specs.List.{remove}
use Rattle.vm_tree.specs.Entry.{Entry}
use Rattle.vm_tree.specs.Subtree.{Subtree, nth_tree, leaves_of, entry_of, IsFull, AreFull}

-- The items at i and i + 1 are there, and have this in common.
abbrev pub AtPair : {A : Type 0} → (A → A → Type 0) → ℕ → List A → Type 0
AtPair P i [] = ⊥
AtPair P zero (x ∷ []) = ⊥
AtPair P zero (x ∷ y ∷ xs) = P x y
AtPair P (suc i) (x ∷ xs) = AtPair P i xs

-- The list in which others replace the items at i and i + 1.
abbrev pub with_pair : {A : Type 0} → ℕ → List A → List A → List A
with_pair i new [] = new
with_pair zero new (x ∷ []) = new
with_pair zero new (x ∷ y ∷ xs) = new ++ xs
with_pair (suc i) new (x ∷ xs) = x ∷ with_pair i new xs

-- No leaves are joined.
abbrev pub NoJoin : {X : Type 0} → X → X → List X → Type 0
NoJoin x y zs = ⊥

-- Two leaves next to each other were joined.
pub record IsLeafJoin {X : Type 0} (joins : X → X → List X → Type 0) (old new : List X) : Type 0 where
  pub before : List X
  pub low : X
  pub high : X
  pub after : List X
  pub leaves : List X
  pub was : old ≡ before ++ (low ∷ high ∷ after)
  pub is : new ≡ before ++ (leaves ++ after)
  pub joined : joins low high leaves

-- The leaves are the same, or two of them were joined.
abbrev pub IsRegrouped : {X : Type 0} → (X → X → List X → Type 0) → List X → List X → Type 0
IsRegrouped joins old new = (new ≡ old) ⊎ IsLeafJoin joins old new

-- The children i and i + 1 after they shared their items. If one is true, all is in the first one.
pub record ArePaired {X : Type 0} (entry : X → Entry) (enough : X → Type 0) (joins : X → X → List X → Type 0) (h i : ℕ) (ss ts : List (Subtree X)) (one : Bool) (e f : Entry) : Type 0 where
  pub low : Subtree X
  pub high : Subtree X
  pub list : ts ≡ set (set ss i low) (suc i) high
  pub entry_low : e ≡ entry_of entry low
  pub entry_high : one ≡ false → f ≡ entry_of entry high
  pub full_low : IsFull enough h low
  pub full_high : one ≡ false → IsFull enough h high
  pub leaves : IsRegrouped joins ((nth_tree ss i).leaves ++ (nth_tree ss (suc i)).leaves) (if one then low.leaves else (low.leaves ++ high.leaves))

-- The children i and i + 1 of ss became one or two full ones.
pub record IsMended {X : Type 0} (enough : X → Type 0) (joins : X → X → List X → Type 0) (h i : ℕ) (ss ts : List (Subtree X)) : Type 0 where
  pub new : List (Subtree X)
  pub list : ts ≡ with_pair i new ss
  pub full : AreFull enough h new
  pub some : 0 < length new
  pub leaves : IsRegrouped joins ((nth_tree ss i).leaves ++ (nth_tree ss (suc i)).leaves) (leaves_of new)

-- The item at i is x, and that at i + 1 is y, or if one is true it was removed.
abbrev pub with_two : {A : Type 0} → ℕ → Bool → A → A → List A → List A
with_two i one x y xs = if one then remove (set xs i x) (i + 1) else set (set xs i x) (i + 1) y

-- The list without the item at i + 1, if one is true.
abbrev pub without_next : {A : Type 0} → ℕ → Bool → List A → List A
without_next i one xs = if one then remove xs (i + 1) else xs
