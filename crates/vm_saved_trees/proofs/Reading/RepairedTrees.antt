-- The values that encode the held ranges of a space by their keys are read, and no others.
use Rattle.std.proofs.Common.{◌≡◌, ◌≤◌, List, length, Option, sym, ap, ◌∙◌, subst, arith}
use Rattle.serde_json.specs.Data.{Data}
use Rattle.vm_ranges.specs.Range.{Range, MAX, IsRange}
use Rattle.vm_ranges.specs.Address.{AddressState, IsAddressState, AreInOrder}
use Rattle.vm_ranges.specs.Answer.{SPLIT_LIMIT_MIN_HELD}
use Rattle.vm_leaf.specs.SpaceBlocks.{held_of, TilesSpace}
use Rattle.vm_saved_trees.specs.NodeTree.{NodeTree, node_blocks}
use Rattle.vm_saved_trees.specs.TreeValues.{EncodesSpaceTree}
use Rattle.vm_saved_trees.specs.KeyValues.{EncodesKeys}
use Rattle.vm_saved_trees.specs.SavedTrees.{Saved, IsReadable}
use Rattle.vm_saved_trees.specs.ValueNodes.{IsSavedIn}
use Rattle.vm_saved_trees.specs.declared.span.Span.{Span}
use Rattle.vm_ranges.specs.declared.state.NodeState.TheVariants.{Allocated}
use Rattle.vm_leaf.proofs.Spaces.BlockStates.{tiles_keys, keys_in_order}
use Rattle.vm_saved_trees.proofs.Reading.ReadNodes.{shape_nodes, one_tree}
use Rattle.vm_saved_trees.proofs.SavedNodes.KeyLists.{keys_within}
use Rattle.vm_saved_trees.proofs.SavedNodes.Spans.{complete}
use Rattle.vm_saved_trees.proofs.SavedNodes.Roots.{state_with}
use Rattle.vm_saved_trees.proofs.SavedNodes.ValueTrees.{nodes_saved, ranges_saved}

-- A value that encodes the keys of the space is read.
pub saved_in : (d : Data) (space : Range) (state : AddressState) → space.end ≤ MAX → EncodesKeys d space state →
    (span : Option Span) × (t : Saved) × IsSavedIn 0 d span t
saved_in d space state v p =
    let t = nodes_saved p.tree d p.nodes in
    let keys = keys_within space.start 0 space.end MAX (node_blocks p.tree) (omega arith) v p.keys in
    let readable : IsReadable t.0 = record { nested = rw t.2 p.nested; keys = rw t.2 keys; below = rw t.2 p.below } in
    let ranges = ranges_saved t.0 d t.1 in
    let o = complete t.0 ranges readable in
    let nested = readable.nested in
    (o.0, t.0, record { nodes = t.1; stands = record { is_span = o.1; ranges = ranges }; nested = omega (arith, nested) })

-- A value encodes at most one state.
pub one_keys : (d : Data) (space : Range) (a b : AddressState) → EncodesKeys d space a → EncodesKeys d space b → a ≡ b
one_keys d space a b p q =
    let tree : p.tree ≡ q.tree = one_tree p.tree q.tree d p.nodes q.nodes in
    let held : a.held ≡ b.held = sym p.held ∙ ap (λ (s : NodeTree). held_of (node_blocks s)) tree ∙ q.held in
    ap (λ (v : Range). state_with v a.held) (p.is_space ∙ sym q.is_space) ∙ ap (state_with b.space) held

-- The state that a value encodes is valid.
pub keys_state : (d : Data) (state : AddressState) → IsRange state.space.start state.space.end → EncodesKeys d state.space state →
    IsAddressState state
keys_state d state range p =
    let in_order = keys_in_order state.space.start state.space.end (node_blocks p.tree) p.keys p.below in
    record { space = range; in_order = subst (λ (hs : List Range). AreInOrder state.space.start hs state.space.end) p.held in_order }

-- A value that is read without repairs is read with repairs to the same state, if not too many ranges are held.
pub strict_keys : (d : Data) (space : Range) (state : AddressState) → EncodesSpaceTree d space state →
    length state.held ≤ SPLIT_LIMIT_MIN_HELD → EncodesKeys d space state
unfolding TilesSpace
strict_keys d space state p few =
    let nested = p.nested in
    record {
      tree = p.tree;
      nodes = shape_nodes p.tree d p.encoded;
      nested = omega arith;
      keys = tiles_keys Allocated space.start space.end (node_blocks p.tree) p.blocks.tiles;
      below = p.blocks.below;
      few = omega (arith, few, ap length p.held);
      held = p.held;
      is_space = p.is_space;
    }
