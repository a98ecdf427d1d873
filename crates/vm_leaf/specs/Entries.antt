-- The entry of a leaf of blocks, which a tree stores beside it.
use Rattle.std.specs.Prelude.{◌≡◌, ◌≤◌, ◌<◌, List, [], ◌∷◌, ◌++◌, length}
use Rattle.vm_leaf.specs.declared.block.Block.{Block}
use Rattle.vm_leaf.specs.declared.leaf.TheConstants.{CAPACITY, MIN_BLOCKS}
use Rattle.vm_leaf.specs.Blocks.{start_of, longest_gap, IsRun}
use Rattle.vm_leaf.specs.Multiples.{most_alignments}
use Rattle.vm_tree.specs.declared.entries.Entry.{Entry}

-- The entry of a leaf: its first address, and the summary of its gaps.
abbrev pub blocks_entry : List Block → Entry
blocks_entry bs = record { at = start_of bs; longest = longest_gap bs; alignments = most_alignments bs }

-- The leaf has enough blocks to be one of several leaves, and room for them.
abbrev pub HasEnough : List Block → Type 0
HasEnough bs = (MIN_BLOCKS ≤ length bs) × (length bs ≤ CAPACITY)

-- The second leaf can follow the first one.
abbrev pub AreNext : List Block → List Block → Type 0
AreNext l r = IsRun (l ++ r)

-- Two leaves became one, or have other shares of their blocks.
abbrev pub JoinsTo : List Block → List Block → List (List Block) → Type 0
JoinsTo l r [] = ⊥
JoinsTo l r (a ∷ []) = a ≡ l ++ r
JoinsTo l r (a ∷ b ∷ []) = (a ++ b ≡ l ++ r) × (0 < length a) × (0 < length b)
JoinsTo l r (a ∷ b ∷ c ∷ ls) = ⊥
