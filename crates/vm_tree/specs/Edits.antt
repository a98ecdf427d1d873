-- A change of one leaf of a list of leaves.
use Rattle.std.specs.Prelude.{◌≡◌, ℕ, ◌+◌, ◌*◌, ◌^◌, ◌≤◌, ◌<◌, List, [], ◌∷◌, ◌++◌, length}
use Rattle.vm_tree.specs.Entry.{Entry}
use Rattle.vm_tree.specs.Subtree.{Subtree, IsFull, AllOf, kids}

-- The leaf stands between these leaves, and that is a place at which it can be changed.
pub record StandsAt {X : Type 0} (at : List X → X → List X → Type 0) (old before : List X) (leaf : X) (after : List X) : Type 0 where
  pub was : old ≡ before ++ leaf ∷ after
  pub here : at before leaf after

-- The leaf at the place refused.
pub record IsRefusedAt {X : Type 0} (at : List X → X → List X → Type 0) (refuses : X → Type 0) (old : List X) : Type 0 where
  pub before : List X
  pub leaf : X
  pub after : List X
  pub home : StandsAt at old before leaf after
  pub refused : refuses leaf

-- In place of the leaf at the place stand others.
pub record IsEditedAt {X : Type 0} (enough : X → Type 0) (at : List X → X → List X → Type 0) (edits : X → List X → Type 0) (old new : List X) : Type 0 where
  pub before : List X
  pub leaf : X
  pub after : List X
  pub leaves : List X
  pub home : StandsAt at old before leaf after
  pub is : new ≡ before ++ (leaves ++ after)
  pub edit : edits leaf leaves
  pub some : 0 < length leaves
  pub all : enough leaf → AllOf enough leaves

-- A subtree of which a leaf has changed.
pub record IsOne {X : Type 0} (enough : X → Type 0) (at : List X → X → List X → Type 0) (edits : X → List X → Type 0) (s t : Subtree X) : Type 0 where
  pub height : t.height ≡ s.height
  pub fan : kids s ≤ kids t
  pub few : (1 < s.height → 5 ≤ kids s) → 4 * length t.sizes + 1 ≤ length t.leaves
  pub most : 15 * (length t.sizes + length t.leaves) + 1 ≤ 16 ^ t.height
  pub edited : IsEditedAt enough at edits s.leaves t.leaves

-- A subtree that was split, as a leaf has changed.
pub record IsTwo {X : Type 0} (enough : X → Type 0) (at : List X → X → List X → Type 0) (edits : X → List X → Type 0) (s t u : Subtree X) : Type 0 where
  pub low : IsFull enough s.height t
  pub high : IsFull enough s.height u
  pub edited : IsEditedAt enough at edits s.leaves (t.leaves ++ u.leaves)

module _ {X : Type 0} (entry : X → Entry) where
  -- The key is below the address of the first of these leaves.
  abbrev pub IsBefore : ℕ → List X → Type 0
  IsBefore key [] = Unit {0}
  IsBefore key (x ∷ xs) = key < (entry x).at

  -- The place of a key: the last leaf whose address is at most the key, or the first leaf.
  pub record AtKey (key : ℕ) (before : List X) (leaf : X) (after : List X) : Type 0 where
    pub low : 0 < length before → (entry leaf).at ≤ key
    pub high : IsBefore key after

  -- The leaf to which the key belongs.
  abbrev pub IsHome : ℕ → List X → List X → X → List X → Type 0
  IsHome key old before leaf after = StandsAt (AtKey key) old before leaf after

  -- The leaf of the key refused.
  abbrev pub IsRefused : ℕ → (X → Type 0) → List X → Type 0
  IsRefused key refuses old = IsRefusedAt (AtKey key) refuses old

  -- In place of the leaf of the key stand others.
  abbrev pub IsEdited : (X → Type 0) → ℕ → (X → List X → Type 0) → List X → List X → Type 0
  IsEdited enough key edits old new = IsEditedAt enough (AtKey key) edits old new
