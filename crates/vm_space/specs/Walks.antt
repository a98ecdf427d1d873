-- Iteration over the blocks of a tree from both ends.
use Rattle.std.specs.Prelude.{◌≡◌, ℕ, ◌<◌, ◌≤◌, nat_le, ◌&&◌, Bool, List, [], ◌++◌, length, Option, Some, None}
use Rattle.std.specs.List.{filter}
use Rattle.vm_ranges.specs.Range.{Range}
use Rattle.vm_leaf.specs.declared.block.Block.{Block}
use Rattle.vm_leaf.specs.Blocks.{nth}
use Rattle.vm_tree.specs.Subtree.{Subtree}
use Rattle.vm_space.specs.Spaces.{AreSpace}
use Rattle.vm_space.specs.declared.walk.Span.{Span}

-- Whether an address is in both ranges, if the ends of each are in order.
abbrev pub meets : Range → Range → Bool
meets window r = nat_le window.start r.end && nat_le r.start window.end

-- The blocks that have an address in common with the window, in order.
abbrev pub meeting_blocks : Range → List Block → List Block
meeting_blocks window bs = filter (λ b. meets window b.key) bs

-- The addresses of a span.
abbrev pub addresses_of : Span → Range
addresses_of span = record { start = span.start; end = span.end }

-- The blocks that have an address in common with the span, or none if there is no span.
abbrev pub blocks_in : Option Span → List Block → List Block
blocks_in None bs = []
blocks_in (Some span) bs = meeting_blocks (addresses_of span) bs

-- The ends of the span are in order.
abbrev pub IsSpan : Option Span → Type 0
IsSpan None = Unit {0}
IsSpan (Some span) = span.start ≤ span.end

-- An iteration can go over this tree.
pub record IsWalked (s : Subtree (List Block)) (rest : Option Span) : Type 0 where
  pub space : AreSpace s.leaves
  pub span : IsSpan rest

-- i is the index of the first block that ends at x or above.
pub record IsFirstFrom (x : ℕ) (bs : List Block) (i : ℕ) : Type 0 where
  pub within : i < length bs
  pub below : (k : ℕ) → k < i → (nth bs k).key.end < x
  pub from : (k : ℕ) → i ≤ k → k < length bs → x ≤ (nth bs k).key.end

-- The first n blocks, and no others, start at x or below.
pub record IsCountUpTo (x : ℕ) (bs : List Block) (n : ℕ) : Type 0 where
  pub within : n ≤ length bs
  pub upto : (k : ℕ) → k < n → (nth bs k).key.start ≤ x
  pub above : (k : ℕ) → n ≤ k → k < length bs → x < (nth bs k).key.start

-- The first blocks in the span are `part`, and the others those in `rest`. If `part` is empty, so is the rest.
pub record TakesFirst (span : Span) (bs part : List Block) (rest : Option Span) : Type 0 where
  pub cut : meeting_blocks (addresses_of span) bs ≡ part ++ blocks_in rest bs
  pub none : part ≡ [] → blocks_in rest bs ≡ []
  pub order : IsSpan rest

-- The last blocks in the span are `part`, and the others those in `rest`. If `part` is empty, so is the rest.
pub record TakesLast (span : Span) (bs part : List Block) (rest : Option Span) : Type 0 where
  pub cut : meeting_blocks (addresses_of span) bs ≡ blocks_in rest bs ++ part
  pub none : part ≡ [] → blocks_in rest bs ≡ []
  pub order : IsSpan rest
