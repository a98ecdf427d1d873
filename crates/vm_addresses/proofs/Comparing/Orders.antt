-- The results of the orders of blocks and of lists of blocks.
use Rattle.std.proofs.Common.{◌≡◌, [], ◌∷◌, refl, ap, ◌∙◌, arith}
use Rattle.std.specs.declared.cmp.Ordering.{Ordering}
use Rattle.std.specs.declared.cmp.Ordering.TheVariants.{Less, Equal, Greater}
use Rattle.std.specs.Ordering.{nat_cmp, ordering_reverse}
use Rattle.std.specs.Cmp.{IsTotalOrder}
use Rattle.std.proofs.lemmas.Map.Lookups.{CmpEqualImpliesEq, exact_unsigned}
use Rattle.vm_ranges.specs.RangeOrder.{range_cmp}
use Rattle.vm_ranges.specs.Address.{AddressState}
use Rattle.vm_leaf.specs.BlockOrder.{rank, block_cmp}
use Rattle.vm_addresses.specs.Comparison.{blocks_cmp, IsOrder}
use Rattle.vm_ranges.specs.declared.state.NodeState.{NodeState}
use Rattle.vm_ranges.specs.declared.state.NodeState.TheVariants.{Free, Allocated}
use Rattle.vm_ranges.proofs.RangeOrders.{both_equal, range_cmp-exact}
use Rattle.vm_leaf.proofs.Spaces.OneList.{same_block}

-- A total order of the standard library is an order in the sense of `IsOrder`.
pub order_of_total : (R : AddressState → AddressState → Ordering) → IsTotalOrder R → IsOrder R
order_of_total R o = record { total = λ a b. o.antisymm b a; transitive = transitive }
  where
    transitive : (a b c : AddressState) (answer : Ordering) → R a b ≡ answer → R b c ≡ answer → R a c ≡ answer
    transitive a b c Less p q = o.trans a b c p q
    transitive a b c Equal p q = o.congr a b c p ∙ q
    transitive a b c Greater p q =
        let back : R c a ≡ Less = o.trans c b a (o.antisymm c b ∙ ap ordering_reverse q) (o.antisymm b a ∙ ap ordering_reverse p) in
        o.antisymm a c ∙ ap ordering_reverse back

rank-injective : (s t : NodeState) → rank s ≡ rank t → s ≡ t
rank-injective Free Free e = refl
rank-injective Free Allocated e = absurd (omega arith)
rank-injective Allocated Free e = absurd (omega arith)
rank-injective Allocated Allocated e = refl

block_cmp-exact : CmpEqualImpliesEq block_cmp
block_cmp-exact a b h =
    let p = both_equal (range_cmp a.key b.key) (nat_cmp (rank a.state) (rank b.state)) h in
    same_block a b (range_cmp-exact a.key b.key p.0) (rank-injective a.state b.state (exact_unsigned (rank a.state) (rank b.state) p.1))

pub blocks_cmp-exact : CmpEqualImpliesEq blocks_cmp
blocks_cmp-exact [] [] h = refl
blocks_cmp-exact [] (y ∷ ys) h = cc
blocks_cmp-exact (x ∷ xs) [] h = cc
blocks_cmp-exact (x ∷ xs) (y ∷ ys) h =
    let p = both_equal (block_cmp x y) (blocks_cmp xs ys) h in
    let first = block_cmp-exact x y p.0 in
    let rest = blocks_cmp-exact xs ys p.1 in
    cc
