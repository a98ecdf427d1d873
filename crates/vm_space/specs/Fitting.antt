-- The allocation of a place of a search in one leaf.
use Rattle.std.specs.Prelude.{◌≡◌, ◌⊎◌, ℕ, ◌+◌, ◌<◌, List, ◌∷◌, ◌++◌, ◌≤◌, length, None, Result, Ok, Err, ◌≢◌, ◌-◌, min, OnErr}
use Rattle.vm_leaf.specs.declared.block.Block.{Block}
use Rattle.vm_leaf.specs.declared.leaf.TheConstants.{CAPACITY}
use Rattle.vm_leaf.specs.Rest.{added_by}
use Rattle.vm_tree.specs.Subtree.{Subtree}
use Rattle.vm_tree.specs.Sought.{nodes}
use Rattle.vm_space.specs.NodeCounts.{IsSearchCount}
use Rattle.vm_space.specs.Shape.{blocks}
use Rattle.vm_space.specs.Allocation.{window_of, ListPlace, HasNoPlace, IsClosestPlace, SettlesAt}
use Rattle.vm_tree.specs.Seeking.{beyond}
use Rattle.vm_space.specs.Leaves.{blocks_of, HaveBlocks}
use Rattle.vm_space.specs.declared.search.Taken as taken
use Rattle.vm_space.specs.declared.search.Refusal.{Refusal}
use Rattle.vm_space.specs.declared.search.Refusal.TheVariants.{NoPlace}
use Rattle.vm_space.specs.Placing.{IsClosestLeafPlace, RefusesPlace}
use Rattle.vm_tree.specs.declared.end.End.{End}
use Rattle.vm_space.specs.declared.place.Place.{Place}
use Rattle.vm_space.specs.declared.search.Search.{Search}
use Rattle.vm_space.specs.declared.fit.Fitting.{Fitting}
use Rattle.vm_space.specs.declared.fit.Fitting.TheVariants.{Absent, Refused, Full, Taken}

-- The place is the closest one to the end, it can be allocated, and the leaf has no room for the parts that stay free.
pub record CanSplit (end : End) (search : Search) (bs : List Block) (place : Place) : Type 0 where
  pub closest : IsClosestLeafPlace end search bs place
  pub free : RefusesPlace search place None
  pub fits : length bs ≤ CAPACITY
  pub full : CAPACITY < length bs + added_by place.rest

-- The place of the search that is closest to the end was allocated, or the answer is why not.
abbrev pub SettlesFit : End → Search → List Block → List Block → Result taken.Taken Refusal → Type 0
SettlesFit end search old new answer = (place : ListPlace) × IsClosestPlace end search old place × SettlesAt search place new answer

-- The result of a search in a leaf.
abbrev pub FitsLeaf : End → Search → List Block → List Block → Fitting → Type 0
FitsLeaf end search old new Absent = (new ≡ old) × HasNoPlace search old
FitsLeaf end search old new (Refused refusal) = (new ≡ old) × SettlesFit end search old old (Err refusal)
FitsLeaf end search old new (Full place) = (new ≡ old) × CanSplit end search old place
FitsLeaf end search old new (Taken taken) = SettlesFit end search old new (Ok taken)

-- A leaf of the tree has the closest place of the search to the end. It became other leaves, or the answer is why not.
pub record FitsAt (end : End) (search : Search) (old new : List (List Block)) (answer : Result taken.Taken Refusal) : Type 0 where
  pub before : List (List Block)
  pub leaf : List Block
  pub after : List (List Block)
  pub leaves : List (List Block)
  pub was : old ≡ before ++ leaf ∷ after
  pub is : new ≡ before ++ (leaves ++ after)
  pub none : HasNoPlace search (beyond end (blocks_of before) (blocks_of after))
  pub some : HaveBlocks leaves
  pub place : ListPlace
  pub closest : IsClosestPlace end search leaf place
  pub settles : SettlesAt search place (blocks_of leaves) answer

-- The result of a search in a tree.
abbrev pub FitsTree : End → Search → List (List Block) → List (List Block) → Result taken.Taken Refusal → Type 0
FitsTree end search old new answer = ((new ≡ old) × HasNoPlace search (blocks_of old) × (answer ≡ Err NoPlace)) ⊎ FitsAt end search old new answer

module _ (end : End) (search : Search) (bs : List Block) where
  -- Why the place in the leaf was refused.
  abbrev pub RefusesClosest : Fitting → Type 0
  RefusesClosest Absent = ⊥
  RefusesClosest (Refused refusal) = SettlesFit end search bs bs (Err refusal)
  RefusesClosest (Full place) = ⊥
  RefusesClosest (Taken taken) = ⊥

  -- The place in the leaf was allocated, and the leaf became others.
  abbrev pub EditsClosest : Fitting → List (List Block) → Type 0
  EditsClosest Absent ls = ⊥
  EditsClosest (Refused refusal) ls = ⊥
  EditsClosest (Full place) ls = ⊥
  EditsClosest (Taken taken) ls = SettlesFit end search bs (blocks_of ls) (Ok taken) × HaveBlocks ls

  -- The leaf has no room for the place that was found.
  abbrev pub SplitsClosest : Fitting → Type 0
  SplitsClosest Absent = ⊥
  SplitsClosest (Refused refusal) = ⊥
  SplitsClosest (Full place) = CanSplit end search bs place
  SplitsClosest (Taken taken) = ⊥

  -- The leaf has no room for its place.
  abbrev pub NeedsClosest : Type 0
  NeedsClosest = (place : Place) × CanSplit end search bs place

-- The answer of a search in a tree.
abbrev pub answer_of : Fitting → Result taken.Taken Refusal
answer_of Absent = Err NoPlace
answer_of (Refused refusal) = Err refusal
answer_of (Full place) = Err NoPlace
answer_of (Taken taken) = Ok taken

-- A tree after a call that allocates the place that is closest to the end, and a counter.
pub record IsFitTree (end : End) (s : Search) (old new : Subtree (List Block)) (c d : ℕ) (answer : Result taken.Taken Refusal) : Type 0 where
  pub fits : FitsTree end s old.leaves new.leaves answer
  pub unchanged : OnErr answer (new ≡ old)
  pub height : (old.height ≤ new.height) × (new.height ≤ old.height + 1)
  pub count : IsSearchCount (window_of s) s.size s.alignment old.height (nodes old) (blocks old) (d - c)
  pub path : answer ≢ Err NoPlace → min (c + old.height) 18446744073709551615 ≤ d
