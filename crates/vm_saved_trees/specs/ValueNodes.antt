-- The values that have the nodes of saved trees, and the result of reading them.
use Rattle.std.specs.Prelude.{◌≡◌, ◌+◌, ◌≤◌, ℕ, List, Option, Some, None}
use Rattle.serde_json.specs.Data.{Data, null}
use Rattle.vm_saved_trees.specs.NodeTree.{node_height}
use Rattle.vm_saved_trees.specs.TreeValues.{EncodesNode}
use Rattle.vm_saved_trees.specs.KeyValues.{MAX_NESTING_REPAIRED}
use Rattle.vm_saved_trees.specs.SavedTrees.{Saved, Absent, Node, nodes_of_saved}
use Rattle.vm_saved_trees.specs.WrittenTrees.{IsWritten}
use Rattle.vm_leaf.specs.declared.block.Block.{Block}
use Rattle.vm_saved_trees.specs.Spans.{StandsFor}
use Rattle.vm_saved_trees.specs.declared.span.Span.{Span}

-- The value has the nodes of the saved tree.
abbrev pub EncodesSaved : Data → Saved → Type 0
EncodesSaved d Absent = d ≡ null
EncodesSaved d (Node l b r h) = EncodesNode d b (λ v. EncodesSaved v l) (λ v. EncodesSaved v r) h

-- The value has the nodes of the saved tree that is written for the blocks. They decide this tree.
abbrev pub WritesTree : List Block → Data → Type 0
WritesTree bs d = (t : Saved) × IsWritten bs t × EncodesSaved d t

-- The value has the nodes of the saved tree, for which the span stands. They can be nested in `depth` nodes.
pub record IsSavedIn (depth : ℕ) (d : Data) (span : Option Span) (t : Saved) : Type 0 where
  pub nodes : EncodesSaved d t
  pub stands : StandsFor span t
  pub nested : node_height (nodes_of_saved t) + depth ≤ MAX_NESTING_REPAIRED

-- The result of reading the nodes of a value: the span of their saved tree, or None if there is none.
abbrev pub ReadsValue : ℕ → Data → Option (Option Span) → Type 0
ReadsValue depth d (Some span) = (t : Saved) × IsSavedIn depth d span t
ReadsValue depth d None = ¬ ((span : Option Span) × (t : Saved) × IsSavedIn depth d span t)
