-- Two nodes after children moved between them.
use Rattle.std.specs.Prelude.{◌≡◌, ℕ, List, [], ◌++◌, Bool, true, false}
use Rattle.vm_tree.specs.Subtree.{Subtree, IsFull}

-- The subtrees s and t have the leaves `old`. If one is true, t has none. Otherwise both are full enough.
pub record AreJoined {X : Type 0} (enough : X → Type 0) (h : ℕ) (old : List X) (one : Bool) (s t : Subtree X) : Type 0 where
  pub low : IsFull enough h s
  pub high : one ≡ false → IsFull enough h t
  pub leaves : s.leaves ++ t.leaves ≡ old
  pub none : one ≡ true → t.leaves ≡ []
