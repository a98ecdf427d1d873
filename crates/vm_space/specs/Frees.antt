-- An allocated block that is freed, and joined with its free neighbours.
use Rattle.std.specs.Prelude.{◌≡◌, ◌⊎◌, ℕ, max, ◌+◌, ◌<◌, List, ◌∷◌, ◌++◌, length, Option, Some, None}
use Rattle.vm_ranges.specs.Range.{Range, address_count}
use Rattle.vm_leaf.specs.declared.block.Block.{Block}
use Rattle.vm_leaf.specs.Block.{held_block}
use Rattle.vm_leaf.specs.Blocks.{nth, freed_between}
use Rattle.vm_leaf.specs.Entries.{blocks_entry}
use Rattle.vm_leaf.specs.Multiples.{alignment_count}
use Rattle.vm_tree.specs.Edits.{IsRefused}
use Rattle.vm_tree.specs.declared.entries.Entry.{Entry}
use Rattle.vm_tree.specs.Subtree.{Subtree}
use Rattle.vm_space.specs.Leaves.{blocks_of, HaveBlocks, IsInLeaf}
use Rattle.vm_space.specs.declared.free.Freeing.{Freeing}
use Rattle.vm_space.specs.declared.free.Freeing.TheVariants.{Absent, AtEdge, Done}
use Rattle.vm_space.specs.Edges.{IsEdgeOf, IsEdge}

-- The entry of a leaf with the gap k as well, of which its other gaps beside k are parts.
abbrev pub raised_entry : Entry → Range → Entry
raised_entry e k = record { at = e.at; longest = max e.longest (address_count k); alignments = max e.alignments (alignment_count k) }

-- The range k was held, and became a gap, joined with its free neighbours.
pub record FreesBlock (k : Range) (old new : List Block) : Type 0 where
  pub lower : List Block
  pub upper : List Block
  pub before : old ≡ lower ++ held_block k ∷ upper
  pub after : new ≡ freed_between lower k upper

-- The list has the held block of this range.
pub record Holds (k : Range) (bs : List Block) : Type 0 where
  pub index : ℕ
  pub within : index < length bs
  pub found : nth bs index ≡ held_block k

-- The range k was freed in its leaf, and joined with gaps of the leaf.
pub record FreesIn (k : Range) (joined : ℕ) (old new : List Block) : Type 0 where
  pub frees : FreesBlock k old new
  pub inner : ((0 < length frees.lower) × (0 < length frees.upper)) ⊎ (length old ≡ 1)
  pub loss : length old ≡ length new + joined
  pub some : 0 < length new

-- The range k was freed in the blocks of leaves, and joined with gaps.
pub record IsFreed (k : Range) (joined : ℕ) (old new : List (List Block)) : Type 0 where
  pub frees : FreesBlock k (blocks_of old) (blocks_of new)
  pub loss : length (blocks_of old) ≡ length (blocks_of new) + joined
  pub some : HaveBlocks new

-- The key k was not freed in the leaf, as the leaf does not hold it.
abbrev pub RefusesFree : Range → List Block → Type 0
RefusesFree k bs = IsInLeaf k.start bs → ¬ Holds k bs

-- Leaves after a call that frees k.
abbrev pub FreesLeaves : Range → List (List Block) → List (List Block) → Option ℕ → Type 0
FreesLeaves k old new None = (new ≡ old) × IsRefused blocks_entry k.start (RefusesFree k) old
FreesLeaves k old new (Some joined) = IsFreed k joined old new

-- Why k was not freed inside the leaf.
abbrev pub RefusesInside : Range → List Block → Freeing → Type 0
RefusesInside k bs Absent = RefusesFree k bs
RefusesInside k bs (AtEdge edge) = IsEdgeOf k edge bs
RefusesInside k bs (Done n) = ⊥

-- The range k was freed inside the leaf.
abbrev pub DoneInside : Range → Freeing → List Block → List Block → Type 0
DoneInside k Absent bs new = ⊥
DoneInside k (AtEdge edge) bs new = ⊥
DoneInside k (Done n) bs new = FreesIn k n bs new

-- A tree after a call that frees k inside its leaf.
abbrev pub CutAfter : Range → Subtree (List Block) → Subtree (List Block) → Freeing → Type 0
CutAfter k old new Absent = (new ≡ old) × IsRefused blocks_entry k.start (RefusesFree k) old.leaves
CutAfter k old new (AtEdge edge) = (new ≡ old) × IsEdge k edge old.leaves
CutAfter k old new (Done n) = IsFreed k n old.leaves new.leaves
