-- The span of a subtree that was read. Only this and the held keys are kept of it. The lemmas of proofs/SavedNodes show which
-- subtrees have a span.
use Rattle.std.specs.Prelude.{
  ◌≡◌,
  ℕ,
  ◌+◌,
  min,
  max,
  Bool,
  true,
  false,
  not,
  ◌&&◌,
  ◌||◌,
  ◌==◌,
  nat_lt,
  nat_le,
  ◌^◌,
  ◌-◌,
  if◌then◌else◌,
  Option,
  Some,
  None,
  option_and_then,
}
use Rattle.vm_ranges.specs.Range.{Range, MAX}
use Rattle.vm_leaf.specs.declared.block.Block.{Block}
use Rattle.vm_leaf.specs.Block.{is_free}
use Rattle.vm_leaf.specs.TreeHeights.{MAX_HEIGHT}
use Rattle.vm_ranges.specs.Answer.{SPLIT_LIMIT_MIN_HELD}
use Rattle.vm_saved_trees.specs.KeyValues.{MAX_NESTING_REPAIRED}
use Rattle.vm_saved_trees.specs.SavedTrees.{Saved, Absent, Node, HasRanges}
use Rattle.vm_saved_trees.specs.NodeChecks.{is_correct_height}
use Rattle.vm_saved_trees.specs.declared.span.Form.{Form}
use Rattle.vm_saved_trees.specs.declared.span.Form.TheVariants.{Strict, Repaired}
use Rattle.vm_saved_trees.specs.declared.span.Span.{Span}
use Rattle.vm_ranges.specs.declared.state.NodeState.{NodeState}

-- The number of levels of a subtree, which can be absent.
abbrev pub nesting_of : Option Span → ℕ
nesting_of None = 0
nesting_of (Some s) = s.nesting

-- The number of held keys of a subtree, which can be absent.
abbrev pub held_in : Option Span → ℕ
held_in None = 0
held_in (Some s) = s.held

-- The last key ends below x, if there is one.
abbrev pub ends_below : Option Span → ℕ → Bool
ends_below None x = true
ends_below (Some s) x = nat_lt s.last x

-- The first key starts above x, if there is one.
abbrev pub starts_above : Option Span → ℕ → Bool
starts_above None x = true
starts_above (Some s) x = nat_lt x s.first

-- A node with this block can have these children.
abbrev pub can_join : Option Span → Block → Option Span → Bool
can_join left b right =
    (is_free b.state || nat_lt b.key.end MAX) &&
    (nat_lt (max (nesting_of left) (nesting_of right)) MAX_NESTING_REPAIRED &&
    (ends_below left b.key.start && starts_above right b.key.end))

-- The subtree is absent, or is exact and its last block and b can be neighbours.
abbrev pub joins_left : Option Span → Block → Bool
joins_left None b = true
joins_left (Some s) b = s.is_exact && ((s.last + 1 == b.key.start) && not (is_free s.last_state && is_free b.state))

-- The subtree is absent, or is exact and b and its first block can be neighbours.
abbrev pub joins_right : Option Span → Block → Bool
joins_right None b = true
joins_right (Some s) b = s.is_exact && ((b.key.end + 1 == s.first) && not (is_free b.state && is_free s.first_state))

-- The node is exact.
abbrev pub is_exact_over : Option Span → Block → Option Span → ℕ → Bool
is_exact_over left b right height =
    joins_left left b && (joins_right right b && is_correct_height (nesting_of left) (nesting_of right) height)

-- The number of held keys of a node with a block in this state.
abbrev pub held_over : Option Span → NodeState → Option Span → ℕ
held_over left state right =
    min (min (held_in left + held_in right) (2 ^ 64 - 1) + (if is_free state then 0 else 1)) (2 ^ 64 - 1)

-- The start and the state of the first block of a node.
abbrev pub first_of : Option Span → Block → ℕ × NodeState
first_of None b = (b.key.start, b.state)
first_of (Some s) b = (s.first, s.first_state)

-- The end and the state of the last block of a node.
abbrev pub last_of : Option Span → Block → ℕ × NodeState
last_of None b = (b.key.end, b.state)
last_of (Some s) b = (s.last, s.last_state)

-- The span of a node with this block, these children and this height.
abbrev pub joined : Option Span → Block → Option Span → ℕ → Span
joined left b right height = record {
  first = (first_of left b).0;
  first_state = (first_of left b).1;
  last = (last_of right b).0;
  last_state = (last_of right b).1;
  nesting = max (nesting_of left) (nesting_of right) + 1;
  held = held_over left b.state right;
  is_exact = is_exact_over left b right height;
}

-- The span of a node, or None if it cannot have these children.
abbrev pub span_over : Option Span → Block → Option Span → ℕ → Option Span
span_over left b right height = if can_join left b right then Some (joined left b right height) else None

-- The span of a saved tree, None if it is absent. There is no result if one of its nodes cannot have its children.
abbrev pub span_of : Saved → Option (Option Span)
span_of Absent = Some None
span_of (Node l b r h) =
    option_and_then (λ left. option_and_then (λ right. option_and_then (λ span. Some (Some span))
    (span_over left b right h))
    (span_of r))
    (span_of l)

-- The span is that of the saved tree, whose keys are ranges. An example, a tree of two Allocated nodes:
--
-- - The root has key 4 to 9 and height 2. Its span is from 0 to 9, with nesting 2 and 2 held keys, and is exact.
-- - Its left child has key 0 to 3 and height 1. Its span is from 0 to 3, with nesting 1 and 1 held key, and is exact.
pub record StandsFor (span : Option Span) (t : Saved) : Type 0 where
  pub is_span : span_of t ≡ Some span
  pub ranges : HasRanges t

-- The keys lie in the space, and not too many are held.
abbrev pub is_inside : Range → Option Span → Bool
is_inside space None = true
is_inside space (Some s) = nat_le space.start s.first && (nat_le s.last space.end && nat_le s.held SPLIT_LIMIT_MIN_HELD)

-- The tree is exact, and its keys cover the space.
abbrev pub is_tree_of : Range → Option Span → Bool
is_tree_of space None = false
is_tree_of space (Some s) =
    (s.is_exact && nat_le s.nesting MAX_HEIGHT) && ((s.first == space.start) && (s.last == space.end))

-- The saved tree with this span is accepted for the space.
abbrev pub is_accepted : Form → Range → Option Span → Bool
is_accepted Strict = is_tree_of
is_accepted Repaired = is_inside
