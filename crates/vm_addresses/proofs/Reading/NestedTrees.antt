-- How deep the values of trees and of allocators nest.
use Rattle.std.proofs.Common.{ℕ, ◌+◌, ◌≤◌, max, [], ◌∷◌, codes, refl, ap, arith}
use Rattle.serde_json.specs.Data.{Data, depth}
use Rattle.vm_ranges.proofs.FieldSteps.{field_map}
use Rattle.vm_ranges.proofs.Nesting.{object_within, number_within, range_nests, state_nests}
use Rattle.vm_ranges.specs.Range.{Range}
use Rattle.vm_ranges.specs.Address.{AddressState}
use Rattle.vm_saved_trees.specs.NodeTree.{NodeTree, Tip, Fork, node_height}
use Rattle.vm_leaf.specs.TreeHeights.{MAX_HEIGHT}
use Rattle.vm_addresses.specs.Values.AllocatorValues.{EncodesTree, EncodesAddresses}
use Rattle.vm_saved_trees.specs.TreeValues.{EncodesShape, EncodesSpaceTree}

-- The value of a tree nests at most one deeper than its nodes.
pub shape_nests : (s : NodeTree) (d : Data) → EncodesShape d s → depth d ≤ node_height s + 1
shape_nests Tip d p = let e = ap depth p in omega (arith, e)
shape_nests (Fork l b r) d p =
    let n = max (node_height l) (node_height r) + 1 in
    let e =
    object_within n (codes "key" ∷ codes "node_state" ∷ codes "left" ∷ codes "right" ∷ codes "height" ∷ []) d
    ((refl, (refl, (refl, (refl, tt)))), ((refl, (refl, (refl, tt))), ((refl, (refl, tt)), ((refl, tt), (tt, tt)))))
    p.five_fields (
      field_map (codes "key") d _ _ (λ v k. let i = range_nests v b.key k in omega (arith, i)) p.key,
      (
        field_map (codes "node_state") d _ _ (λ v k. let i = state_nests v b.state k in omega (arith, i)) p.node_state,
        (
          field_map (codes "left") d _ _ (λ v k. let i = shape_nests l v k in omega (arith, i)) p.left,
          (
            field_map (codes "right") d _ _ (λ v k. let i = shape_nests r v k in omega (arith, i)) p.right,
            (number_within n n (codes "height") d p.height, tt),
          ),
        ),
      ),
    ) in
    omega (arith, e)

-- The value of an allocator's tree nests at most MAX_HEIGHT + 1 deep.
pub tree_nests : (d : Data) (space : Range) (state : AddressState) → EncodesSpaceTree d space state → depth d ≤ MAX_HEIGHT + 1
tree_nests d space state p = let e = shape_nests p.tree d p.encoded in let h = p.nested in omega (arith, e, h)

-- ---- The values of allocators
root_nests : (d : Data) (Root : Data → Type 0) (n : ℕ) → ((v : Data) → Root v → depth v ≤ n) → EncodesTree d Root → depth d ≤ n + 1
root_nests d Root n f p = let e = object_within n (codes "root" ∷ []) d (tt, tt) p.one_field (field_map (codes "root") d _ _ f p.root, tt)
    in omega (arith, e)

pub addresses_nest : (d : Data) (state : AddressState) → EncodesAddresses d state → depth d ≤ 52
addresses_nest d state p =
    object_within 51 (codes "address_space" ∷ codes "interval_tree" ∷ []) d ((refl, tt), (tt, tt)) p.two_fields (
      field_map (codes "address_space") d _ _ (λ v k. let e = range_nests v state.space k in omega (arith, e)) p.address_space,
      (field_map (codes "interval_tree") d _ _ (λ v k. root_nests v _ 50 (λ w t. tree_nests w state.space state t) k) p.interval_tree, tt),
    )
