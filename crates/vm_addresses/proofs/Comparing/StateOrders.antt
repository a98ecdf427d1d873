-- The orders of states agree with the equality of spaces and held ranges.
use Rattle.std.proofs.Common.{◌≡◌, ◌↔◌, List, sym, ap, ◌∙◌}
use Rattle.std.specs.declared.cmp.Ordering.TheVariants.{Equal}
use Rattle.std.proofs.lemmas.Cmp.{tied_itself}
use Rattle.vm_ranges.specs.RangeOrder.{range_cmp}
use Rattle.vm_leaf.specs.declared.block.Block.{Block}
use Rattle.vm_leaf.specs.SpaceBlocks.{held_of, blocks_state, blocks_of}
use Rattle.vm_ranges.specs.Address.{AddressState}
use Rattle.vm_space.specs.Shape.{Shape, blocks}
use Rattle.vm_addresses.specs.Allocator.{space_of, state_of, IsSpaceTree}
use Rattle.vm_addresses.specs.Comparison.{blocks_cmp, layout_cmp, layout_cmp-total, state_cmp, state_cmp-total, AreEqual, IsOrder}
use Rattle.vm_addresses.proofs.Comparing.Orders.{order_of_total, blocks_cmp-exact}
use Rattle.vm_ranges.proofs.RangeOrders.{both_equal, range_cmp-exact}
use Rattle.vm_leaf.proofs.Spaces.Tilings.{held_of-blocks_of}
use Rattle.vm_addresses.proofs.Trees.Spaces.{tree_blocks}

-- Equal states are identical.
pub one_state : (a b : AddressState) → AreEqual a b → a ≡ b
one_state a b e = λ i. record { space = e.space i; held = e.held i }

pub equal_states : (a b : AddressState) → a ≡ b → AreEqual a b
equal_states a b e = record { space = ap (λ (s : AddressState). s.space) e; held = ap (λ (s : AddressState). s.held) e }

-- States with the same blocks have the same held ranges.
same_held : (a b : AddressState) → blocks_of a ≡ blocks_of b → a.held ≡ b.held
same_held a b e = sym (held_of-blocks_of a) ∙ ap held_of e ∙ held_of-blocks_of b

-- The order returns Equal if and only if both states are equal.
pub state_cmp-Equal : (a b : AddressState) → (state_cmp a b ≡ Equal) ↔ AreEqual a b
state_cmp-Equal a b = (
  λ h.
      let both = both_equal (range_cmp a.space b.space) (layout_cmp a b) h in
      record { space = range_cmp-exact a.space b.space both.0; held = same_held a b (blocks_cmp-exact (blocks_of a) (blocks_of b) both.1) },
  λ e. ap (state_cmp a) (sym (one_state a b e)) ∙ tied_itself state_cmp-total a,
)

-- Both orders are total and transitive.
pub state_order : IsOrder state_cmp
state_order = order_of_total state_cmp state_cmp-total

pub layout_order : IsOrder layout_cmp
layout_order = order_of_total layout_cmp layout_cmp-total

-- ---- Trees
same_state : (s t : Shape) → blocks s ≡ blocks t → AreEqual (state_of s) (state_of t)
same_state s t e = equal_states (state_of s) (state_of t) (ap (λ (bs : List Block). blocks_state (space_of bs) bs) e)

-- The order of the blocks of two trees is the order of their states.
pub blocks_ordered : (s t : Shape) → IsSpaceTree s → IsSpaceTree t →
    blocks_cmp (blocks s) (blocks t) ≡ layout_cmp (state_of s) (state_of t)
blocks_ordered s t p q = ap (λ (bs : List Block). blocks_cmp bs (blocks t)) (sym (tree_blocks s p))
    ∙ ap (blocks_cmp (blocks_of (state_of s))) (sym (tree_blocks t q))

-- It returns Equal if and only if the states are equal.
pub trees_Equal : (s t : Shape) → IsSpaceTree s → IsSpaceTree t →
    (layout_cmp (state_of s) (state_of t) ≡ Equal) ↔ AreEqual (state_of s) (state_of t)
trees_Equal s t p q = (
  λ h. same_state s t (sym (tree_blocks s p) ∙ blocks_cmp-exact (blocks_of (state_of s)) (blocks_of (state_of t)) h ∙ tree_blocks t q),
  λ e. ap (layout_cmp (state_of s)) (sym (one_state (state_of s) (state_of t) e)) ∙ tied_itself layout_cmp-total (state_of s),
)

pub ruleset blocks_compared = (blocks_ordered, trees_Equal)

-- ---- Allocators
pub ruleset allocators_compared = (state_cmp-Equal)
