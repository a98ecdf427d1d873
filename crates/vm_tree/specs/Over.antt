-- The entries and the children of a node.
use Rattle.std.specs.Prelude.{◌≡◌, ℕ, ◌≤◌, List, map, Option, Box}
use Rattle.std.specs.declared.alloc.Global.{Global}
use Rattle.vm_tree.specs.Entry.{Entry}
use Rattle.vm_tree.specs.Slots.{held, IsDense}
use Rattle.vm_tree.specs.Subtree.{Subtree, entry_of, front, AreFull}

module _ {X C : Type 0} (entry : X → Entry) (enough : X → Type 0) (least : ℕ) (tree : Box C Global → Subtree X) where
  -- The entries es are those of the children in the slots os, which all have the same height, at least this, and are full enough.
  pub record IsOver (es : List Entry) (os : List (Option (Box C Global))) : Type 0 where
    pub dense : IsDense os
    pub deep : least ≤ front (map tree (held os))
    pub even : AreFull enough (front (map tree (held os))) (map tree (held os))
    pub entries : es ≡ map (entry_of entry) (map tree (held os))
