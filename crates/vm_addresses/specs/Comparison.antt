-- The orders of blocks, of lists of blocks, and of states.
use Rattle.std.specs.Prelude.{◌≡◌, ◌↔◌, List}
use Rattle.std.specs.declared.cmp.Ordering.{Ordering}
use Rattle.std.specs.declared.cmp.Ordering.TheVariants.{Equal}
use Rattle.std.specs.Ordering.{on, then_cmp, ordering_reverse}
use Rattle.std.specs.Cmp.{IsTotalOrder}
use Rattle.std.specs.Cmp.Lexicographic.{slice_cmp}
use Rattle.std.proofs.lemmas.Cmp.{lists_total, then_total, on_total}
use Rattle.vm_ranges.specs.RangeOrder.{range_cmp, range_cmp-total}
use Rattle.vm_leaf.specs.declared.block.Block.{Block}
use Rattle.vm_leaf.specs.SpaceBlocks.{blocks_of}
use Rattle.vm_ranges.specs.Address.{AddressState}
use Rattle.vm_leaf.specs.BlockOrder.{block_cmp, block_cmp-total}

-- The order of lists of blocks: by the first blocks that differ. A proper prefix is less.
abbrev pub blocks_cmp : List Block → List Block → Ordering
blocks_cmp = slice_cmp block_cmp

-- The order of states by their blocks.
abbrev pub layout_cmp : AddressState → AddressState → Ordering
layout_cmp = on blocks_of blocks_cmp

-- The order of states: by space, then by blocks.
abbrev pub state_cmp : AddressState → AddressState → Ordering
state_cmp = then_cmp (on (λ s. s.space) range_cmp) layout_cmp

-- Both states have the same space and the same held ranges.
pub record AreEqual (a b : AddressState) : Type 0 where
  pub space : a.space ≡ b.space
  pub held : a.held ≡ b.held

-- The order `compare` is total and transitive. Exchanging its arguments reverses the result.
pub record IsOrder (compare : AddressState → AddressState → Ordering) : Type 0 where
  pub total : (a b : AddressState) → compare b a ≡ ordering_reverse (compare a b)
  pub transitive : (a b c : AddressState) (answer : Ordering) →
      compare a b ≡ answer → compare b c ≡ answer → compare a c ≡ answer

-- The order returns Equal if and only if both states are equal.
abbrev pub OrderAgreesWithEquality : Type 0
OrderAgreesWithEquality = (a b : AddressState) → (state_cmp a b ≡ Equal) ↔ AreEqual a b

-- The order of lists of blocks is total.
pub blocks_cmp-total : IsTotalOrder blocks_cmp
blocks_cmp-total = lists_total block_cmp-total

-- The order of states by their blocks is total.
pub layout_cmp-total : IsTotalOrder layout_cmp
layout_cmp-total = on_total blocks_of blocks_cmp-total

-- The order of states is total.
pub state_cmp-total : IsTotalOrder state_cmp
state_cmp-total = then_total (on_total (λ (s : AddressState). s.space) range_cmp-total) layout_cmp-total
