-- The values that encode a tree of a space are read, and no others.
use Rattle.std.proofs.Common.{◌≡◌, Option, sym, ap, ◌∙◌, subst, arith, List}
use Rattle.serde_json.specs.Data.{Data}
use Rattle.vm_ranges.specs.Range.{Range, MAX, IsRange}
use Rattle.vm_ranges.specs.declared.state.NodeState.TheVariants.{Allocated}
use Rattle.vm_ranges.specs.Address.{AddressState, IsAddressState}
use Rattle.vm_saved_trees.specs.ValueNodes.{IsSavedIn}
use Rattle.vm_leaf.specs.SpaceBlocks.{TilesSpace, held_of}
use Rattle.vm_saved_trees.specs.NodeTree.{NodeTree, node_blocks}
use Rattle.vm_saved_trees.specs.SavedTrees.{Saved, saved_blocks, IsReadable}
use Rattle.vm_saved_trees.specs.TreeValues.{EncodesSpaceTree}
use Rattle.vm_saved_trees.specs.declared.span.Span.{Span}
use Rattle.vm_leaf.proofs.Spaces.BlockStates.{tiles_keys, is_state}
use Rattle.vm_saved_trees.proofs.Reading.ReadNodes.{one_shape}
use Rattle.vm_saved_trees.proofs.SavedNodes.KeyLists.{keys_within}
use Rattle.vm_saved_trees.proofs.SavedNodes.Roots.{state_with}
use Rattle.vm_saved_trees.proofs.SavedNodes.Spans.{complete}
use Rattle.vm_saved_trees.proofs.SavedNodes.ValueLaws.{strict_nodes}
use Rattle.vm_saved_trees.proofs.SavedNodes.ValueTrees.{ranges_saved}

-- A value that encodes a tree of the space is read.
pub saved_in : (d : Data) (space : Range) (state : AddressState) → IsRange space.start space.end → EncodesSpaceTree d space state →
    (span : Option Span) × (t : Saved) × IsSavedIn 0 d span t
unfolding TilesSpace
saved_in d space state range p =
    let t = strict_nodes d space state p in
    let whole = t.2.tree in
    let nested = whole.nested in
    let keys = keys_within space.start 0 space.end MAX (saved_blocks t.0) (omega arith) range.1
    (tiles_keys Allocated space.start space.end (saved_blocks t.0) whole.blocks.tiles) in
    let readable : IsReadable t.0 = record { nested = omega arith; keys = keys; below = whole.blocks.below } in
    let ranges = ranges_saved t.0 d t.1 in
    let o = complete t.0 ranges readable in
    (o.0, t.0, record { nodes = t.1; stands = record { is_span = o.1; ranges = ranges }; nested = omega arith })

-- A value encodes at most one state of a space.
pub one_encoded : (d : Data) (space : Range) (a b : AddressState) → EncodesSpaceTree d space a → EncodesSpaceTree d space b → a ≡ b
one_encoded d space a b p q =
    let tree : p.tree ≡ q.tree = one_shape p.tree q.tree d p.encoded q.encoded in
    let held : a.held ≡ b.held = sym p.held ∙ ap (λ (s : NodeTree). held_of (node_blocks s)) tree ∙ q.held in
    ap (λ (v : Range). state_with v a.held) (p.is_space ∙ sym q.is_space) ∙ ap (state_with b.space) held

-- The state that a value encodes is valid.
pub tree_state_valid : (d : Data) (state : AddressState) → IsRange state.space.start state.space.end →
    EncodesSpaceTree d state.space state → IsAddressState state
tree_state_valid d state range p =
    let i = is_state state.space (node_blocks p.tree) p.blocks range in
    subst (λ (hs : List Range). IsAddressState (state_with state.space hs)) p.held i
