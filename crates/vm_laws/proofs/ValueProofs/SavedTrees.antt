-- The laws of saved trees.
use Rattle.std.proofs.Common.{◌≡◌, ◌∙◌, List, Option, Some, None, sym, ap, subst, arith}
use Rattle.vm_leaf.specs.SpaceBlocks.{blocks_of}
use Rattle.vm_leaf.specs.declared.block.Block.{Block}
use Rattle.vm_space.specs.Shape.{blocks}
use Rattle.vm_saved_trees.specs.SavedTrees.{Saved, IsReadable}
use Rattle.vm_saved_trees.specs.WrittenTrees.{IsWritten}
use Rattle.vm_saved_trees.specs.declared.span.Span.{Span}
use Rattle.vm_saved_trees.proofs.SavedNodes.Meanings.{MeansAll}
use Rattle.vm_saved_trees.proofs.SavedNodes.SavedTreeLaws.{nodes_are_written}
use Rattle.vm_saved_trees.proofs.SavedNodes.Spans.{sound, complete}
use Rattle.vm_saved_trees.proofs.SavedNodes.ValueLaws.{strict_nodes, strict_value, keys_nodes, keys_value}
use Rattle.vm_saved_trees.proofs.SavedNodes.Written.{one_written}
use Rattle.vm_addresses.proofs.Trees.Spaces.{tree_blocks}
use Rattle.vm_addresses.proofs.Trees.WrittenTrees.{written_is_read}
use Rattle.vm_laws.specs.SavedLaws.{SpansAreExact, EqualAreWrittenEqually, ValuesAreSavedTrees, ValuesHaveHeldKeys}

readable : (o : Option Span) (t : Saved) → MeansAll o t → IsReadable t
readable None t m = subst IsReadable (sym m) (record { nested = omega arith; keys = tt; below = tt })
readable (Some s) t m = m.readable

pub spans_are_exact : SpansAreExact
spans_are_exact = record {
  some = λ t v x. let c = complete t v x in (c.0, record { is_span = c.1; ranges = v });
  readable = λ t o st. readable o t (sound t o st.ranges st.is_span);
}

pub equal_are_written_equally : EqualAreWrittenEqually
equal_are_written_equally = λ s other t u p q e w x.
    let same : blocks s ≡ blocks other = sym (tree_blocks s p) ∙ ap blocks_of e ∙ tree_blocks other q in
    one_written t u (blocks s) w (subst (λ (v : List Block). IsWritten v u) (sym same) x)

pub ruleset saved_trees = (spans_are_exact, nodes_are_written, written_is_read, equal_are_written_equally)

pub values_are_saved_trees : ValuesAreSavedTrees
values_are_saved_trees = record { nodes = strict_nodes; tree = strict_value }

pub values_have_held_keys : ValuesHaveHeldKeys
values_have_held_keys = record { nodes = keys_nodes; keys = keys_value }

pub ruleset values = (values_are_saved_trees, values_have_held_keys)
