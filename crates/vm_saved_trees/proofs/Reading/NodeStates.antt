-- The states of allocators that were read node by node.
use Rattle.std.proofs.Common.{◌≡◌, List, ap, ◌∙◌, sym, subst}
use Rattle.vm_ranges.specs.Range.{Range, IsRange}
use Rattle.vm_ranges.specs.Address.{AddressState, IsAddressState}
use Rattle.vm_saved_trees.specs.SavedTrees.{Saved, saved_blocks, held_keys, HasHeldKeys, HasTreeOf}
use Rattle.vm_leaf.proofs.Spaces.BlockStates.{keys_in_order, is_state}
use Rattle.vm_saved_trees.proofs.SavedNodes.Roots.{state_with}

-- The state with the held keys is the one that was read.
same_read : (space : Range) (held : List Range) (state : AddressState) → held ≡ state.held → state.space ≡ space →
    state_with space held ≡ state
same_read space held state e f = ap (λ (s : Range). state_with s held) (sym f) ∙ ap (λ (h : List Range). state_with state.space h) e

pub tree_read_state : (space : Range) (t : Saved) (state : AddressState) → IsRange space.start space.end → HasTreeOf space t state →
    IsAddressState state
tree_read_state space t state r h =
    subst IsAddressState (same_read space (held_keys t) state h.held h.is_space) (is_state space (saved_blocks t) h.tree.blocks r)

pub keys_read_state : (space : Range) (t : Saved) (state : AddressState) → IsRange space.start space.end → HasHeldKeys space t state →
    IsAddressState state
keys_read_state space t state r h =
    let in_order = keys_in_order space.start space.end (saved_blocks t) h.keys h.below in
    subst IsAddressState (same_read space (held_keys t) state h.held h.is_space) (record { space = r; in_order = in_order })
