-- A block at an end of its leaf that is freed, and the gap beside it in the next leaf.
use Rattle.std.specs.Prelude.{◌≡◌, ◌⊎◌, ℕ, ◌+◌, ◌-◌, ◌<◌, List, [], ◌∷◌, ◌++◌, length}
use Rattle.vm_ranges.specs.Range.{Range, MAX}
use Rattle.vm_ranges.specs.declared.state.NodeState.{NodeState}
use Rattle.vm_ranges.specs.declared.state.NodeState.TheVariants.{Free, Allocated}
use Rattle.vm_leaf.specs.declared.block.Block.{Block}
use Rattle.vm_leaf.specs.Block.{free_block, held_block}
use Rattle.vm_leaf.specs.Blocks.{nth, start_of, end_of, with_free, freed_between}
use Rattle.vm_space.specs.Leaves.{blocks_of}
use Rattle.vm_space.specs.declared.edge.Edge.{Edge}
use Rattle.vm_tree.specs.declared.end.End.{End}
use Rattle.vm_tree.specs.declared.end.End.TheVariants.{First, Last}

-- ---- A gap between other blocks
-- The blocks after a gap that was joined with us, if us begin with a gap.
abbrev pub rest_if : NodeState → Block → List Block → List Block
rest_if Free u us = us
rest_if Allocated u us = u ∷ us

abbrev pub left_of : List Block → List Block
left_of [] = []
left_of (u ∷ us) = rest_if u.state u us

-- The end of the gap that begins before us and ends at z, joined with us.
abbrev pub end_if : NodeState → ℕ → Block → ℕ
end_if Free z u = u.key.end
end_if Allocated z u = z

abbrev pub end_before : ℕ → List Block → ℕ
end_before z [] = z
end_before z (u ∷ us) = end_if u.state z u

-- The start of the gap that starts at a after the block x, joined with x.
abbrev pub start_if : NodeState → ℕ → Block → ℕ
start_if Free a x = x.key.start
start_if Allocated a x = a

-- The blocks m and x without x if it is free.
abbrev pub low_if : NodeState → List Block → Block → List Block
low_if Free m x = m
low_if Allocated m x = m ++ x ∷ []

abbrev pub low_of : List Block → Block → List Block
low_of m x = low_if x.state m x

-- ---- Changes of a leaf at an end
-- The last block is a gap that ends right before z. It was extended up to the address e.
pub record ExtendsLast (z e : ℕ) (old new : List Block) : Type 0 where
  pub lower : List Block
  pub gap : Block
  pub before : old ≡ lower ++ gap ∷ []
  pub free : gap.state ≡ Free
  pub next : gap.key.end + 1 ≡ z
  pub after : new ≡ lower ++ free_block (record { start = gap.key.start; end = e }) ∷ []

-- The first block is a gap that starts right after z. It was extended down to the address a.
pub record ExtendsFirst (z a : ℕ) (old new : List Block) : Type 0 where
  pub gap : Block
  pub upper : List Block
  pub before : old ≡ gap ∷ upper
  pub free : gap.state ≡ Free
  pub next : z + 1 ≡ gap.key.start
  pub after : new ≡ free_block (record { start = a; end = gap.key.end }) ∷ upper

-- The gap beside the address z, in the leaf beyond this end of another leaf, was extended to the address t.
abbrev pub Extends : End → ℕ → ℕ → List Block → List Block → Type 0
Extends First z t old new = ExtendsLast z t old new
Extends Last z t old new = ExtendsFirst z t old new

-- The gap cannot be extended: there is none, or it would have all addresses.
abbrev pub RefusesExtension : End → ℕ → ℕ → List Block → Type 0
RefusesExtension First z t bs = ((new : List Block) → ExtendsLast z t bs new → ⊥) ⊎ ((start_of bs ≡ 0) × (t ≡ MAX))
RefusesExtension Last z t bs = ((new : List Block) → ExtendsFirst z t bs new → ⊥) ⊎ ((t ≡ 0) × (end_of bs ≡ MAX))

-- The block at an end is free.
abbrev pub RefusesEnd : End → List Block → Type 0
RefusesEnd First bs = (nth bs 0).state ≡ Free
RefusesEnd Last bs = (nth bs (length bs - 1)).state ≡ Free

-- The first block was dropped, with a gap after it.
pub record DropsFirst (old new : List Block) : Type 0 where
  pub block : Block
  pub upper : List Block
  pub before : old ≡ block ∷ upper
  pub after : new ≡ left_of upper

-- The last block was dropped, with a gap before it.
pub record DropsLast (old new : List Block) : Type 0 where
  pub lower : List Block
  pub last : Block
  pub block : Block
  pub before : old ≡ lower ++ last ∷ block ∷ []
  pub after : new ≡ low_of lower last

-- The block at an end was dropped, with a gap beside it.
abbrev pub Drops : End → List Block → List Block → Type 0
Drops First old new = DropsFirst old new
Drops Last old new = DropsLast old new

-- The first block was held, and became a gap, joined with a gap after it.
pub record FreesFirst (old new : List Block) : Type 0 where
  pub key : Range
  pub upper : List Block
  pub before : old ≡ held_block key ∷ upper
  pub after : new ≡ with_free key upper

-- The last block was held, and became a gap, joined with a gap before it.
pub record FreesLast (old new : List Block) : Type 0 where
  pub key : Range
  pub lower : List Block
  pub before : old ≡ lower ++ held_block key ∷ []
  pub after : new ≡ freed_between lower key []

-- The block at an end was held, and became a gap, joined with a gap beside it.
abbrev pub FreesEnd : End → List Block → List Block → Type 0
FreesEnd First old new = FreesFirst old new
FreesEnd Last old new = FreesLast old new

-- The list lost this many blocks, and some are left.
pub record IsShorter (lost : ℕ) (old new : List Block) : Type 0 where
  pub loss : length old ≡ length new + lost
  pub some : 0 < length new

-- The leaf became another one.
abbrev pub BecomesOne : (List Block → List Block → Type 0) → List Block → List (List Block) → Type 0
BecomesOne R l ls = (n : List Block) × ((ls ≡ n ∷ []) × R l n)

-- ---- A held block at an end
-- The held range k is the first block. With a gap after it, it ends at t.
pub record IsFirstHeld (k : Range) (t : ℕ) (bs : List Block) : Type 0 where
  pub upper : List Block
  pub is : bs ≡ held_block k ∷ upper
  pub some : 0 < length upper
  pub to : t ≡ end_before k.end upper

-- The held range k is the last block. With a gap before it, it starts at t.
pub record IsLastHeld (k : Range) (t : ℕ) (bs : List Block) : Type 0 where
  pub lower : List Block
  pub last : Block
  pub is : bs ≡ lower ++ last ∷ held_block k ∷ []
  pub to : t ≡ start_if last.state k.start last

abbrev pub IsHeldAt : End → Range → ℕ → List Block → Type 0
IsHeldAt First k t bs = IsFirstHeld k t bs
IsHeldAt Last k t bs = IsLastHeld k t bs

-- The leaf holds the range k at an end.
pub record IsEdgeOf (k : Range) (edge : Edge) (bs : List Block) : Type 0 where
  pub held : IsHeldAt edge.end k edge.to bs
  pub at : edge.at ≡ start_of bs

-- One of the leaves holds the range k at an end.
pub record IsEdge (k : Range) (edge : Edge) (ls : List (List Block)) : Type 0 where
  pub before : List (List Block)
  pub leaf : List Block
  pub after : List (List Block)
  pub was : ls ≡ before ++ leaf ∷ after
  pub here : IsEdgeOf k edge leaf

-- The blocks do not end with a gap.
abbrev pub EndHeld : List Block → Type 0
EndHeld [] = Unit {0}
EndHeld (b ∷ []) = b.state ≡ Allocated
EndHeld (b ∷ c ∷ bs) = EndHeld (c ∷ bs)

-- The blocks do not begin with a gap.
abbrev pub StartHeld : List Block → Type 0
StartHeld [] = Unit {0}
StartHeld (b ∷ bs) = b.state ≡ Allocated

-- No gap is beyond this end of a leaf between others.
abbrev pub NoGap : End → List (List Block) → List (List Block) → Type 0
NoGap First before after = EndHeld (blocks_of before)
NoGap Last before after = StartHeld (blocks_of after)

-- One of the leaves holds the range k at an end, and no gap is beside it in the next leaf.
pub record IsApart (k : Range) (edge : Edge) (ls : List (List Block)) : Type 0 where
  pub place : IsEdge k edge ls
  pub none : NoGap edge.end place.before place.after

-- The gap before the first block of a leaf, in the leaf before, was extended over the block.
pub record IsExtendedLow (k : Range) (edge : Edge) (old new : List (List Block)) : Type 0 where
  pub before : List (List Block)
  pub low : List Block
  pub new_low : List Block
  pub leaf : List Block
  pub after : List (List Block)
  pub was : old ≡ before ++ low ∷ leaf ∷ after
  pub is : new ≡ before ++ new_low ∷ leaf ∷ after
  pub extends : ExtendsLast k.start edge.to low new_low
  pub held : IsFirstHeld k edge.to leaf
  pub at : edge.at ≡ start_of leaf

-- The gap after the last block of a leaf, in the leaf after, was extended over the block.
pub record IsExtendedHigh (k : Range) (edge : Edge) (old new : List (List Block)) : Type 0 where
  pub before : List (List Block)
  pub leaf : List Block
  pub high : List Block
  pub new_high : List Block
  pub after : List (List Block)
  pub was : old ≡ before ++ leaf ∷ high ∷ after
  pub is : new ≡ before ++ leaf ∷ new_high ∷ after
  pub extends : ExtendsFirst k.end edge.to high new_high
  pub held : IsLastHeld k edge.to leaf
  pub at : edge.at ≡ start_of leaf

abbrev pub ExtendedAt : End → Range → Edge → List (List Block) → List (List Block) → Type 0
ExtendedAt First k edge old new = IsExtendedLow k edge old new
ExtendedAt Last k edge old new = IsExtendedHigh k edge old new
