-- The keys of a saved tree as held ranges of a space.
use Rattle.std.proofs.Common.{◌≡◌, List, length, sym, ap, ◌∙◌, subst, arith}
use Rattle.vm_ranges.specs.Range.{Range, IsRange}
use Rattle.vm_ranges.specs.Address.{AreInOrder}
use Rattle.vm_leaf.specs.SpaceBlocks.{blocks_of}
use Rattle.vm_leaf.proofs.Spaces.BlockStates.{keys_in_order, is_state}
use Rattle.vm_leaf.proofs.Spaces.Tilings.{tiling_blocks}
use Rattle.vm_saved_trees.specs.SavedTrees.{Saved, nodes_of_saved, saved_blocks, HasHeldAs}
use Rattle.vm_saved_trees.specs.declared.span.Form.{Form}
use Rattle.vm_saved_trees.specs.declared.span.Form.TheVariants.{Strict, Repaired}
use Rattle.vm_saved_trees.proofs.SavedNodes.Heights.{few_in_tree}
use Rattle.vm_addresses.specs.Checks.HeldKeys.{CanBeHeld}
use Rattle.vm_addresses.proofs.Blocks.BlockCounts.{blocks_are_few}

-- The keys of a saved tree that is accepted can be held.
pub can_hold : (form : Form) (space : Range) (t : Saved) (keys : List Range) → IsRange space.start space.end →
    HasHeldAs form space t (record { space = space; held = keys }) → CanBeHeld space keys
can_hold Repaired space t keys range h =
    let order = subst (λ (v : List Range). AreInOrder space.start v space.end) h.held
    (keys_in_order space.start space.end (saved_blocks t) h.keys h.below) in
    let few = blocks_are_few (record { space = space; held = keys }) (record { space = range; in_order = order }) in
    record { in_order = order; few = omega (arith, few, h.few, ap length h.held) }
can_hold Strict space t keys range h =
    let s = h.tree in
    let order = subst (λ (v : List Range). AreInOrder space.start v space.end) h.held
    (is_state space (saved_blocks t) s.blocks range).in_order in
    let same : blocks_of (record { space = space; held = keys })
    ≡ saved_blocks t = ap (λ (v : List Range). blocks_of (record { space = space; held = v })) (sym h.held)
    ∙ tiling_blocks space (saved_blocks t) s.blocks.tiles in
    let few = few_in_tree (nodes_of_saved t) s.nested in
    record { in_order = order; few = omega (arith, few, ap length same) }
