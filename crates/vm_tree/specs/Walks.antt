-- The leaf to which a key belongs, and the start of the next one.
use Rattle.std.specs.Prelude.{◌≡◌, ℕ, List, [], ◌∷◌, Option, Some}
use Rattle.vm_tree.specs.Entry.{Entry}
use Rattle.vm_tree.specs.Edits.{IsHome}

-- The address of the first leaf, or `end` if there is none.
abbrev pub start_or : {X : Type 0} → (X → Entry) → List X → Option ℕ → Option ℕ
start_or entry [] end = end
start_or entry (x ∷ xs) end = Some (entry x).at

-- The key belongs to the leaf, and `next` is the address of the leaf after it, or `end` if it is the last one.
pub record IsFrom {X : Type 0} (entry : X → Entry) (key : ℕ) (end : Option ℕ) (leaves : List X) (leaf : X) (next : Option ℕ) : Type 0 where
  pub before : List X
  pub after : List X
  pub home : IsHome entry key leaves before leaf after
  pub is : next ≡ start_or entry after end
