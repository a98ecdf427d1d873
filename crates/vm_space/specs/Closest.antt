-- A search of the leaves of a space, as the tree sees it.
use Rattle.std.specs.Prelude.{◌≡◌, ℕ, ◌≤◌, ◌<◌, ◌&&◌, nat_le, nat_lt, Bool, List, ◌^◌}
use Rattle.std.specs.Int.{w64, trailing_zeros}
use Rattle.vm_leaf.specs.declared.block.Block.{Block}
use Rattle.vm_leaf.specs.Blocks.{start_of, end_of, IsRun}
use Rattle.vm_tree.specs.declared.entries.Entry.{Entry}
use Rattle.vm_tree.specs.Seeking.{Seeking}
use Rattle.vm_tree.specs.declared.end.End.{End}
use Rattle.vm_space.specs.Allocation.{window_of, HasNoPlace}
use Rattle.vm_space.specs.Leaves.{blocks_of, HaveBlocks}
use Rattle.vm_space.specs.NodeCounts.{weight, may_fit_in}
use Rattle.vm_space.specs.declared.search.Search.{Search}

-- The search is valid, as a proposition: the alignment is the power of two of its trailing zeros.
pub record IsValid (search : Search) : Type 0 where
  pub some : 0 < search.size
  pub exponent : trailing_zeros w64 search.alignment < 64
  pub power : search.alignment ≡ 2 ^ trailing_zeros w64 search.alignment

-- The weight of blocks in a search.
abbrev pub weight_in : Bool → Search → List Block → ℕ
weight_in k search bs = weight k (window_of search) search.size search.alignment bs

-- The blocks are not all on one side of the window.
pub record Reaches (search : Search) (bs : List Block) : Type 0 where
  pub low : search.low ≤ end_of bs
  pub high : start_of bs ≤ search.high

-- The same as a test.
abbrev pub reaches : Search → List Block → Bool
reaches search bs = nat_le search.low (end_of bs) && nat_le (start_of bs) search.high

-- The summary of the blocks does not exclude a place.
abbrev pub may_fit : Search → List Block → Bool
may_fit search bs = may_fit_in search.size search.alignment bs

-- Tests if the summary of leaves does not exclude a place.
abbrev pub fits_entry : Search → Entry → Bool
fits_entry search e = nat_le search.size e.longest && nat_lt (trailing_zeros w64 search.alignment) e.alignments

-- The leaves have blocks, which are a run.
pub record AreRun (ls : List (List Block)) : Type 0 where
  pub run : IsRun (blocks_of ls)
  pub some : HaveBlocks ls

-- The search for the place that is closest to the end.
abbrev pub seeking : End → Search → Seeking (List Block)
seeking end search = record {
  end = end;
  low = search.low;
  high = search.high;
  lacks = λ bs. HasNoPlace search bs;
  fits = fits_entry search;
  weight = λ k bs. weight_in k search bs;
  runs = AreRun;
  reaches = λ ls. reaches search (blocks_of ls);
}
