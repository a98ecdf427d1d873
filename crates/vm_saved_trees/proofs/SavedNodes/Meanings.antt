-- The meaning of a span for the subtree that it stands for.
use Rattle.std.proofs.Common.{◌≡◌, ℕ, true, List, [], ◌∷◌, ◌++◌, length, Option, Some, None}
use Rattle.vm_leaf.specs.declared.block.Block.{Block}
use Rattle.vm_leaf.specs.Blocks.{Tiles}
use Rattle.vm_saved_trees.specs.NodeTree.{node_height, HasBalancedNodes}
use Rattle.vm_saved_trees.specs.SavedTrees.{Saved, Absent, nodes_of_saved, saved_blocks, held_keys, HasHeights, IsReadable}
use Rattle.vm_saved_trees.specs.declared.span.Span.{Span}
use Rattle.vm_ranges.specs.declared.state.NodeState.TheVariants.{Allocated}

-- The first and the last block of a list.
pub record HasEnds (bs : List Block) : Type 0 where
  pub first : Block
  pub rest : List Block
  pub first_is : bs ≡ first ∷ rest
  pub before : List Block
  pub last : Block
  pub last_is : bs ≡ before ++ last ∷ []

-- The subtree can be one of an allocator, from the address lo to the address hi.
pub record IsExact (t : Saved) (lo hi : ℕ) : Type 0 where
  pub heights : HasHeights t
  pub balanced : HasBalancedNodes (nodes_of_saved t)
  pub tiles : Tiles Allocated lo (saved_blocks t) hi

pub record Means (s : Span) (t : Saved) : Type 0 where
  pub ends : HasEnds (saved_blocks t)
  pub first_start : ends.first.key.start ≡ s.first
  pub first_state : ends.first.state ≡ s.first_state
  pub last_end : ends.last.key.end ≡ s.last
  pub last_state : ends.last.state ≡ s.last_state
  pub nesting : node_height (nodes_of_saved t) ≡ s.nesting
  pub held : length (held_keys t) ≡ s.held
  pub readable : IsReadable t
  pub exact : s.is_exact ≡ true → IsExact t s.first s.last
  pub all_exact : IsExact t s.first s.last → s.is_exact ≡ true

-- The same for a subtree that can be absent.
abbrev pub MeansAll : Option Span → Saved → Type 0
MeansAll None t = t ≡ Absent
MeansAll (Some s) t = Means s t
