-- Copies of children.
use Rattle.std.specs.Prelude.{◌≡◌, ℕ, List, map, length, take, Option, Box}
use Rattle.std.specs.declared.alloc.Global.{Global}
use Rattle.vm_tree.specs.Slots.{held, IsDense}
use Rattle.vm_tree.specs.Subtree.{Subtree}

-- The slots `to` hold copies of the first n children.
pub record AreCopies {X C : Type 0} (tree : Box C Global → Subtree X) (n : ℕ) (from to : List (Option (Box C Global))) : Type 0 where
  pub dense : IsDense to
  pub count : length (held to) ≡ n
  pub trees : map tree (held to) ≡ take n (map tree (held from))
