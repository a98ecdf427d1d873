-- A root that lost a child.
use Rattle.std.specs.Prelude.{◌≡◌, ℕ, ◌+◌, ◌≤◌, List, Bool, true, false}
use Rattle.vm_tree.specs.Entry.{Entry}
use Rattle.vm_tree.specs.Subtree.{Subtree, kids}
use Rattle.vm_tree.specs.Edits.{IsRefused}
use Rattle.vm_tree.specs.Shrinks.{IsShrunk, IsUncut, IsCut}
use Rattle.vm_tree.specs.declared.cut.ShrunkNode.{ShrunkNode}
use Rattle.vm_tree.specs.declared.cut.ShrunkNode.TheVariants as shrunk_node

-- The node s with its only child in its place, if it has one child.
pub record IsLowered {X : Type 0} (s t : Subtree X) : Type 0 where
  pub leaves : t.leaves ≡ s.leaves
  pub height : t.height ≤ s.height
  pub lower : s.height ≤ t.height + 1
  pub same : 2 ≤ kids s → t ≡ s

-- A leaf was changed.
abbrev pub HasShrunk : ShrunkNode → Bool
HasShrunk shrunk_node.Refused = false
HasShrunk shrunk_node.Same = true
HasShrunk (shrunk_node.Begins a) = true
HasShrunk shrunk_node.Changed = true
HasShrunk (shrunk_node.Small e) = true

module _ {X : Type 0} (entry : X → Entry) (joins : X → X → List X → Type 0) (key : ℕ) (refuses : X → Type 0) (edits : X → List X → Type 0) (s t : Subtree X) where
  pub record IsUncutTree : Type 0 where
    pub same : t ≡ s
    pub refused : IsRefused entry key refuses s.leaves

  -- A leaf has changed, and the tree is at most one lower.
  pub record IsCutTree : Type 0 where
    pub height : t.height ≤ s.height
    pub lower : s.height ≤ t.height + 1
    pub cut : IsShrunk entry joins key edits s.leaves t.leaves

  -- A tree after a call: nothing was done, or a change.
  abbrev pub IsTreeCut : Bool → Type 0
  IsTreeCut false = IsUncutTree
  IsTreeCut true = IsCutTree

-- A root after a change: the leaf refused, or it has changed.
abbrev pub IsRootCut : {X : Type 0} → (X → Entry) → (X → Type 0) → (X → X → List X → Type 0) → ℕ → (X → Type 0) → (X → List X → Type 0) → Subtree X → Subtree X → Bool → Type 0
IsRootCut entry enough joins key refuses edits s t false = IsUncut entry enough joins key refuses edits s t
IsRootCut entry enough joins key refuses edits s t true = IsCut entry joins key edits s t
