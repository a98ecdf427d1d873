-- The saved trees of the trees of allocators.
use Rattle.std.proofs.Common.{◌≡◌, ◌≢◌, ◌≤◌, ℕ, List, [], ◌∷◌, refl, ap, arith, subst, sym, Result, Ok, Err}
use Rattle.serde_json.specs.View.{view}
use Rattle.serde_json.specs.declared.value.Value.{Value}
use Rattle.vm_ranges.specs.Range.{Range}
use Rattle.vm_ranges.specs.Saving.{Saves}
use Rattle.vm_ranges.specs.declared.error.Error.{Error}
use Rattle.vm_ranges.specs.declared.state.NodeState.TheVariants.{Allocated}
use Rattle.vm_leaf.specs.BlockStarts.{starts_of, blocks_from, AreRanges}
use Rattle.vm_leaf.specs.SpaceBlocks.{TilesSpace, held_of}
use Rattle.vm_leaf.specs.declared.block.Block.{Block}
use Rattle.vm_leaf.specs.declared.block.BlockStart.{BlockStart}
use Rattle.vm_space.specs.Shape.{Shape, blocks}
use Rattle.vm_saved_trees.specs.SavedTrees.{Saved, HasTreeOf}
use Rattle.vm_saved_trees.specs.TreeValues.{EncodesSpaceTree}
use Rattle.vm_saved_trees.specs.ValueNodes.{WritesTree}
use Rattle.vm_saved_trees.specs.WrittenTrees.{IsWritten}
use Rattle.vm_saved_trees.proofs.SavedNodes.BlockStarts.{blocks_again, blocks_are_ranges}
use Rattle.vm_saved_trees.proofs.SavedNodes.ValueLaws.{strict_value}
use Rattle.vm_saved_trees.proofs.SavedNodes.Written.{written_blocks, written_tree}
use Rattle.vm_addresses.specs.Allocator.{space_of, state_of, IsSpaceTree}

-- The list of the starts of a tree has its blocks.
pub starts_kept : (s : Shape) (ss : List BlockStart) (hi : ℕ) → IsSpaceTree s → ss ≡ starts_of (blocks s) → hi ≡ (state_of s).space.end →
    (blocks_from ss hi ≡ blocks s) × AreRanges (blocks_from ss hi)
unfolding TilesSpace
starts_kept s ss hi h e f =
    let again = blocks_again Allocated (state_of s).space.start (state_of s).space.end (blocks s) h.tiling.tiles in
    let same : blocks_from ss hi ≡ blocks s = rw (e, f) again in
    let ranges = blocks_are_ranges Allocated (state_of s).space.start (state_of s).space.end (blocks s) h.tiling.tiles h.space in
    (same, subst AreRanges (sym same) ranges)

some_block : (sp : Range) (bs : List Block) → TilesSpace sp bs → sp.start ≤ sp.end → bs ≢ []
unfolding TilesSpace
some_block sp [] t l = absurd (omega (arith, t))
some_block sp (b ∷ bs) t l = λ e. cc e

-- The tree that is written for an allocator's tree is a saved tree of its space, node for node, with its state.
pub written_is_read : (s : Shape) (t : Saved) → IsSpaceTree s → IsWritten (blocks s) t → HasTreeOf (space_of (blocks s)) t (state_of s)
written_is_read s t tree w = record {
  tree = written_tree (space_of (blocks s)) (blocks s) t tree.tiling
      (some_block (space_of (blocks s)) (blocks s) tree.tiling.tiles tree.space.0) tree.few w;
  held = ap held_of (written_blocks (blocks s) t w);
  is_space = refl;
}

-- ---- The value that is written
pub value_written : (s : Shape) (answer : Result Value Error) → IsSpaceTree s → Saves (WritesTree (blocks s)) answer →
    Saves (λ d. EncodesSpaceTree d (state_of s).space (state_of s)) answer
value_written s (Ok v) h w = strict_value (view v) (state_of s).space (state_of s) w.0 w.2 (written_is_read s w.0 h w.1)
value_written s (Err e) h w = w
