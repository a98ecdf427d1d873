-- Subtrees.
use Rattle.std.specs.Prelude.{◌≡◌, ℕ, ◌+◌, ◌*◌, ◌^◌, ◌≤◌, ◌<◌, List, [], ◌∷◌, ◌++◌, length, slice_index_or}
use Rattle.vm_tree.specs.Entry.{Entry}
use Rattle.vm_tree.specs.Rows.{joined, blank}

-- The height of a subtree, the numbers of children of its inner nodes in preorder, and its leaves. As all leaves are
-- at the same depth, these determine each node.
pub record Subtree (X : Type 0) : Type 0 where
  pub height : ℕ
  pub sizes : List ℕ
  pub leaves : List X

-- The first number, or 0.
abbrev pub first : List ℕ → ℕ
first [] = 0
first (n ∷ ns) = n

module _ {X : Type 0} where
  abbrev pub height_of : Subtree X → ℕ
  height_of s = s.height

  -- The number of children of the root.
  abbrev pub kids : Subtree X → ℕ
  kids s = first s.sizes

  -- A leaf.
  abbrev pub leaf_of : X → Subtree X
  leaf_of x = record { height = 1; sizes = []; leaves = x ∷ [] }

  -- The leaves of subtrees next to each other.
  abbrev pub leaves_of : List (Subtree X) → List X
  leaves_of [] = []
  leaves_of (s ∷ ss) = s.leaves ++ leaves_of ss

  -- The numbers of children in them.
  abbrev pub sizes_of : List (Subtree X) → List ℕ
  sizes_of [] = []
  sizes_of (s ∷ ss) = s.sizes ++ sizes_of ss

  -- The height of the first one.
  abbrev pub front : List (Subtree X) → ℕ
  front [] = 0
  front (s ∷ ss) = s.height

  -- A node over these subtrees.
  abbrev pub over : List (Subtree X) → Subtree X
  over ss = record { height = front ss + 1; sizes = length ss ∷ sizes_of ss; leaves = leaves_of ss }

  -- The subtree that `nth_tree` returns if there is none.
  abbrev pub no_tree : Subtree X
  no_tree = record { height = 0; sizes = []; leaves = [] }

  -- The subtree at an index.
  abbrev pub nth_tree : List (Subtree X) → ℕ → Subtree X
  nth_tree ss i = slice_index_or ss i no_tree

  -- Each leaf has the property.
  abbrev pub AllOf : (X → Type 0) → List X → Type 0
  AllOf P [] = Unit {0}
  AllOf P (x ∷ xs) = P x × AllOf P xs

module _ {X : Type 0} (entry : X → Entry) where
  -- The entry of leaves together.
  abbrev pub leaves_entry : List X → Entry
  leaves_entry [] = blank
  leaves_entry (x ∷ xs) = joined (entry x) (leaves_entry xs)

  -- The entry of a child, which is stored beside it.
  abbrev pub entry_of : Subtree X → Entry
  entry_of s = leaves_entry s.leaves

  -- No address is below z.
  abbrev pub AreFrom : ℕ → List X → Type 0
  AreFrom z [] = Unit {0}
  AreFrom z (x ∷ xs) = (z ≤ (entry x).at) × AreFrom z xs

  -- The addresses of the leaves do not descend.
  abbrev pub Ascend : List X → Type 0
  Ascend [] = Unit {0}
  Ascend (x ∷ xs) = AreFrom (entry x).at xs × Ascend xs

-- A child: its height, enough children or items, as many leaves as its height wants, and as many nodes as it can have.
pub record IsFull {X : Type 0} (enough : X → Type 0) (h : ℕ) (s : Subtree X) : Type 0 where
  pub height : s.height ≡ h
  pub high : 0 < h
  pub fan : 1 < h → 5 ≤ kids s
  pub bound : 5 ^ h ≤ 5 * length s.leaves
  pub few : 4 * length s.sizes + 1 ≤ length s.leaves
  pub most : 15 * (length s.sizes + length s.leaves) + 1 ≤ 16 ^ h
  pub some : 0 < length s.leaves
  pub all : AllOf enough s.leaves

module _ {X : Type 0} (enough : X → Type 0) where
  -- All these children are full enough, and have the height h.
  abbrev pub AreFull : ℕ → List (Subtree X) → Type 0
  AreFull h [] = Unit {0}
  AreFull h (s ∷ ss) = IsFull enough h s × AreFull h ss
