-- The result of a search in a subtree.
use Rattle.std.specs.Prelude.{◌≡◌, ℕ, suc, ◌+◌, ◌*◌, ◌<◌, ◌≤◌, min, Bool, true, false, List, ◌++◌, ◌∷◌, length, take, drop, Option, Some, None, Box}
use Rattle.std.specs.declared.alloc.Global.{Global}
use Rattle.vm_tree.specs.Entry.{Entry}
use Rattle.vm_tree.specs.Subtree.{Subtree, over, leaves_of, front, nth_tree, AllOf, leaves_entry}
use Rattle.vm_tree.specs.Edits.{StandsAt}
use Rattle.vm_tree.specs.Grew.{IsKept, Grew, GrewAt, FailedAt, Went}
use Rattle.vm_tree.specs.Raised.{IsKeptTree, IsTreeAfterAt}
use Rattle.vm_tree.specs.Seeking.{Seeking, IsSeeking, beyond, total, extra}
use Rattle.vm_tree.specs.Passing.{nodes_of, passed}
use Rattle.vm_tree.specs.declared.end.End.{End}
use Rattle.vm_tree.specs.declared.outcome.Outcome.{Outcome}

-- The number of nodes of a subtree.
abbrev pub nodes : {X : Type 0} → Subtree X → ℕ
nodes s = length s.sizes + length s.leaves

-- The search may find a place in these leaves, as their summary does not exclude one.
pub record MayEnter {X : Type 0} (entry : X → Entry) (q : Seeking X) (xs : List X) : Type 0 where
  pub lawful : IsSeeking entry q
  pub runs : q.runs xs
  pub fits : q.fits (leaves_entry entry xs) ≡ true

-- A counter went from c to d as it counted n nodes. It does not go past its end.
pub record IsCounted (c d n : ℕ) : Type 0 where
  pub upto : d ≤ c + n
  pub from : min (c + n) 18446744073709551615 ≤ d

-- No leaf has a place. In a subtree of the height h with n nodes, the search took the counter from c to d.
pub record IsVain {X : Type 0} (q : Seeking X) (h n c d : ℕ) (xs : List X) : Type 0 where
  pub none : AllOf q.lacks xs
  pub entered : ℕ
  pub counted : IsCounted c d entered
  pub weights : (k : Bool) → entered ≤ h * (total (q.weight k) xs + extra (q.reaches xs))
  pub most : entered ≤ n

module _ {X : Type 0} (end : End) (q : Seeking X) where
  -- The leaf is the one with a place that is closest to the end. In a subtree of the height h with n nodes, the search took the
  -- counter from c to d.
  pub record IsNearest (h n c d : ℕ) (before : List X) (leaf : X) (after : List X) : Type 0 where
    pub none : AllOf q.lacks (beyond end before after)
    pub entered : ℕ
    pub counted : IsCounted c d entered
    pub weights : (k : Bool) → entered ≤ h * (total (q.weight k) (beyond end before after) + 1)
    pub path : h ≤ entered
    pub most : entered ≤ n

  -- The children before `from`, and those starting at `to`, have no place. The parent and nodes below these were entered. The
  -- window reaches into the children that are left if it reaches into the node, and otherwise one child is left at most.
  pub record IsPassing (ss : List (Subtree X)) (from to c d : ℕ) : Type 0 where
    pub within : to ≤ length ss
    pub low : (i : ℕ) → i < from → i < length ss → AllOf q.lacks (nth_tree ss i).leaves
    pub high : (i : ℕ) → to ≤ i → i < length ss → AllOf q.lacks (nth_tree ss i).leaves
    pub reach : q.reaches (leaves_of ss) ≡ true → (i : ℕ) → from ≤ i → i < to → q.reaches (nth_tree ss i).leaves ≡ true
    pub lone : q.reaches (leaves_of ss) ≡ false → to ≤ from + 1
    -- 1 if the window does not reach into the child that was searched last, and the node has no child that is left.
    pub besides : ℕ
    pub least : from < to → besides ≡ 0
    pub greatest : besides ≤ extra (q.reaches (leaves_of ss))
    pub entered : ℕ
    pub counted : IsCounted c d entered
    pub some : 1 ≤ entered
    pub weights : (k : Bool) → entered ≤ 1 + front ss * (total (q.weight k) (leaves_of (passed end from to ss)) + besides)
    pub nodes : entered ≤ 1 + nodes_of (passed end from to ss)

-- The place is one in the child i.
pub record IsInChild {X : Type 0} (at : List X → X → List X → Type 0) (i : ℕ) (ss : List (Subtree X)) (before : List X) (leaf : X) (after : List X) : Type 0 where
  pub low : List X
  pub high : List X
  pub below : before ≡ leaves_of (take i ss) ++ low
  pub above : after ≡ high ++ leaves_of (drop (suc i) ss)
  pub here : StandsAt at (nth_tree ss i).leaves low leaf high

module _ {X : Type 0} (q : Seeking X) (c d : ℕ) where
  -- The place that is closest to the end, in a subtree.
  abbrev pub AtNearest : Subtree X → List X → X → List X → Type 0
  AtNearest s = IsNearest q.end q s.height (nodes s) c d

  -- Nothing was found or changed in the subtree s.
  pub record IsUnsought (s t : Subtree X) : Type 0 where
    pub same : t ≡ s
    pub vain : IsVain q s.height (nodes s) c d s.leaves

  -- Nothing was found or changed in the child i.
  pub record IsUnsoughtAt (i : ℕ) (ss ts : List (Subtree X)) : Type 0 where
    pub same : ts ≡ ss
    pub vain : IsVain q (nth_tree ss i).height (nodes (nth_tree ss i)) c d (nth_tree ss i).leaves

  -- The leaf has a place, and is the one of the subtree that is closest to the end.
  pub record IsPlaceLeaf (s : Subtree X) (leaf : X) : Type 0 where
    pub before : List X
    pub after : List X
    pub home : StandsAt (AtNearest s) s.leaves before leaf after
    pub has : q.lacks leaf → ⊥

  -- The result of a search that counts nodes and changes nothing, in a subtree.
  abbrev pub Looked : Subtree X → Option X → Type 0
  Looked s None = IsVain q s.height (nodes s) c d s.leaves
  Looked s (Some leaf) = IsPlaceLeaf s leaf

-- The leaf has a place, and is the one of these leaves that is closest to the end.
pub record IsClosestLeaf {X : Type 0} (q : Seeking X) (xs : List X) (leaf : X) : Type 0 where
  pub before : List X
  pub after : List X
  pub was : xs ≡ before ++ leaf ∷ after
  pub none : AllOf q.lacks (beyond q.end before after)
  pub has : q.lacks leaf → ⊥

-- The result of a search that changes nothing, in leaves.
abbrev pub FindsLeaf : {X : Type 0} → Seeking X → List X → Option X → Type 0
FindsLeaf q xs None = AllOf q.lacks xs
FindsLeaf q xs (Some leaf) = IsClosestLeaf q xs leaf

module _ {X : Type 0} (entry : X → Entry) (enough : X → Type 0) (q : Seeking X) (c d : ℕ) (refuses : X → Type 0) (edits : X → List X → Type 0) where
  -- A subtree after a search.
  abbrev pub Sought : {C : Type 0} → (Box C Global → Subtree X) → Subtree X → Subtree X → Option (Outcome C) → Type 0
  Sought tree s t None = IsUnsought q c d s t
  Sought tree s t (Some o) = Grew entry enough (AtNearest q c d s) refuses edits tree s t o

  -- A root after a search.
  abbrev pub SoughtRoot : {C : Type 0} → (Box C Global → Subtree X) → Subtree X → Subtree X → Option (Outcome C) → Type 0
  SoughtRoot tree s t None = IsUnsought q c d s t
  SoughtRoot tree s t (Some o) = Went entry enough (AtNearest q c d s) refuses edits tree s t o

  -- The child i after a search.
  abbrev pub SoughtAt : {C : Type 0} → (Box C Global → Subtree X) → ℕ → List (Subtree X) → List (Subtree X) → Option (Outcome C) → Type 0
  SoughtAt tree i ss ts None = IsUnsoughtAt q c d i ss ts
  SoughtAt tree i ss ts (Some o) = GrewAt entry enough (AtNearest q c d (nth_tree ss i)) refuses edits tree i ss ts o

  -- The node after a search of its child i.
  abbrev pub SoughtIn : {C : Type 0} → (Box C Global → Subtree X) → ℕ → List (Subtree X) → List (Subtree X) → Option (Outcome C) → Type 0
  SoughtIn tree i ss ts None = IsUnsoughtAt q c d i ss ts
  SoughtIn tree i ss ts (Some o) = Grew entry enough (IsInChild (AtNearest q c d (nth_tree ss i)) i ss) refuses edits tree (over ss) (over ts) o

module _ {X : Type 0} (entry : X → Entry) (enough : X → Type 0) (q : Seeking X) (c d : ℕ) (needs : X → Type 0) where
  -- There was no memory to change a leaf of the subtree, and nothing was changed.
  abbrev pub FailedSought : Subtree X → Subtree X → Type 0
  FailedSought s t = IsKept entry enough (AtNearest q c d s) needs (λ l ls. ⊥) s t

  -- The same of the child i.
  abbrev pub FailedSoughtAt : {C : Type 0} → (Box C Global → Subtree X) → ℕ → List (Subtree X) → List (Subtree X) → Type 0
  FailedSoughtAt tree i ss ts = FailedAt entry enough (AtNearest q c d (nth_tree ss i)) needs (λ l ls. ⊥) tree i ss ts

  abbrev pub FailedSoughtIn : ℕ → List (Subtree X) → List (Subtree X) → Type 0
  FailedSoughtIn i ss ts = IsKept entry enough (IsInChild (AtNearest q c d (nth_tree ss i)) i ss) needs (λ l ls. ⊥) (over ss) (over ts)

-- A tree after a search: it found no place, or it found one, and with true the leaf was changed.
abbrev pub IsTreeSought : {X : Type 0} → (X → Type 0) → Seeking X → ℕ → ℕ → (X → Type 0) → (X → List X → Type 0) → Subtree X → Subtree X → Option Bool → Type 0
IsTreeSought enough q c d refuses edits s t None = IsUnsought q c d s t
IsTreeSought enough q c d refuses edits s t (Some done) = IsTreeAfterAt enough (AtNearest q c d s) refuses edits s t done

-- There was no memory to change the leaf of a tree, and nothing was changed.
abbrev pub IsTreeFailed : {X : Type 0} → (X → Type 0) → Seeking X → ℕ → ℕ → (X → Type 0) → Subtree X → Subtree X → Type 0
IsTreeFailed enough q c d needs s t = IsKeptTree enough (AtNearest q c d s) needs (λ l ls. ⊥) s t
