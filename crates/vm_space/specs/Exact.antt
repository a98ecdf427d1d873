-- The allocation of a range in the leaf that has its start.
use Rattle.std.specs.Prelude.{◌≡◌, ℕ, ◌+◌, ◌≤◌, ◌<◌, List, length, true, Result, Ok, Err, IsOk}
use Rattle.vm_ranges.specs.Range.{MAX, IsIn, span}
use Rattle.vm_leaf.specs.declared.block.Block.{Block}
use Rattle.vm_leaf.specs.declared.leaf.TheConstants.{CAPACITY}
use Rattle.vm_leaf.specs.Blocks.{nth, parts}
use Rattle.vm_space.specs.Leaves.{blocks_of, HaveBlocks, IsInLeaf}
use Rattle.vm_space.specs.Allocation.{AllocatesExact, IsOutOfMemory}
use Rattle.vm_space.specs.Placing.{LiesIn}
use Rattle.vm_space.specs.declared.search.Search.{Search}
use Rattle.vm_space.specs.declared.search.Taken.{Taken}
use Rattle.vm_space.specs.declared.search.Refusal.{Refusal}

-- The range of a search at its start: it is not empty, the start is in the window, and its range ends at most at MAX.
pub record IsExactSearch (search : Search) (t : ℕ) : Type 0 where
  pub some : 0 < search.size
  pub low : search.low ≤ t
  pub high : t ≤ search.high
  pub fits : t + search.size ≤ MAX + 1

-- The range of the search at t can be allocated in the leaf, which has no room for the parts that stay free.
pub record IsFullAt (search : Search) (t : ℕ) (bs : List Block) : Type 0 where
  pub at : IsInLeaf t bs
  pub index : ℕ
  pub within : index < length bs
  pub inside : IsIn (nth bs index).key t
  pub lies : LiesIn search t (nth bs index)
  pub below : (span t search.size).end < MAX
  pub low : search.can_split ≡ true
  pub fits : length bs ≤ CAPACITY
  pub full : CAPACITY + 1 < length bs + length (parts (nth bs index).key (span t search.size))

-- The result is an error, and not the one for a lack of memory.
abbrev pub IsRefusal : Result Taken Refusal → Type 0
IsRefusal (Ok taken) = ⊥
IsRefusal (Err refusal) = ¬ IsOutOfMemory refusal

-- The range was not allocated in the leaf, and the answer is the reason.
abbrev pub RefusesExact : Search → ℕ → List Block → Result Taken Refusal → Type 0
RefusesExact search t bs answer = IsInLeaf t bs → AllocatesExact search t bs bs answer × IsRefusal answer

-- The range was allocated in the leaf, which became these leaves.
pub record EditsExact (search : Search) (t : ℕ) (bs : List Block) (answer : Result Taken Refusal) (ls : List (List Block)) : Type 0 where
  pub allocates : AllocatesExact search t bs (blocks_of ls) answer
  pub ok : IsOk answer
  pub some : HaveBlocks ls
