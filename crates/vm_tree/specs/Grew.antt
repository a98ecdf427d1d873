-- A subtree after a change.
use Rattle.std.specs.Prelude.{◌≡◌, ℕ, ◌+◌, ◌≤◌, List, set, map, Box, Option}
use Rattle.std.specs.declared.alloc.Global.{Global}
use Rattle.vm_tree.specs.Entry.{Entry}
use Rattle.vm_tree.specs.Slots.{held, IsDense}
use Rattle.vm_tree.specs.Subtree.{Subtree, entry_of, nth_tree, over}
use Rattle.vm_tree.specs.Over.{IsOver}
use Rattle.vm_tree.specs.Outcomes.{IsSettled}
use Rattle.vm_tree.specs.Edits.{IsRefusedAt, IsOne, IsTwo}
use Rattle.vm_tree.specs.declared.outcome.Halves.{Halves}
use Rattle.vm_tree.specs.declared.outcome.Upper.{Upper}
use Rattle.vm_tree.specs.declared.outcome.Outcome.{Outcome}
use Rattle.vm_tree.specs.declared.outcome.Settled.{Settled}
use Rattle.vm_tree.specs.declared.outcome.Outcome.TheVariants as outcome
use Rattle.vm_tree.specs.declared.outcome.Settled.TheVariants as settled

module _ {X : Type 0} (entry : X → Entry) (enough : X → Type 0) (at : List X → X → List X → Type 0) (refuses : X → Type 0) (edits : X → List X → Type 0) where
  -- The leaf refused, and nothing was changed.
  pub record IsKept (s t : Subtree X) : Type 0 where
    pub same : t ≡ s
    pub refused : IsRefusedAt at refuses s.leaves

  -- A leaf has changed, and the entry is as before.
  pub record IsSame (s t : Subtree X) : Type 0 where
    pub one : IsOne enough at edits s t
    pub sum : entry_of entry t ≡ entry_of entry s

  -- A leaf has changed.
  pub record IsChanged (e : Entry) (s t : Subtree X) : Type 0 where
    pub one : IsOne enough at edits s t
    pub sum : e ≡ entry_of entry t

  -- The subtree was split.
  pub record IsSplit (e f : Entry) (s t u : Subtree X) : Type 0 where
    pub two : IsTwo enough at edits s t u
    pub low : e ≡ entry_of entry t
    pub high : f ≡ entry_of entry u

  -- The subtree s became t.
  abbrev pub Grew : {C : Type 0} → (Box C Global → Subtree X) → Subtree X → Subtree X → Outcome C → Type 0
  Grew tree s t outcome.Refused = IsKept s t
  Grew tree s t outcome.Same = IsSame s t
  Grew tree s t (outcome.Changed e) = IsChanged e s t
  Grew tree s t (outcome.Split h) = IsSplit h.low h.high s t (tree h.upper)

  -- The root s became t.
  abbrev pub Went : {C : Type 0} → (Box C Global → Subtree X) → Subtree X → Subtree X → Outcome C → Type 0
  Went tree s t outcome.Refused = IsKept s t
  Went tree s t outcome.Same = IsOne enough at edits s t
  Went tree s t (outcome.Changed e) = IsOne enough at edits s t
  Went tree s t (outcome.Split h) = IsSplit h.low h.high s t (tree h.upper)

  -- The child i of ss became another.
  pub record GrewAt {C : Type 0} (tree : Box C Global → Subtree X) (i : ℕ) (ss ts : List (Subtree X)) (o : Outcome C) : Type 0 where
    pub new : Subtree X
    pub list : ts ≡ set ss i new
    pub grew : Grew tree (nth_tree ss i) new o

  -- There was no memory to change a leaf of the child i, and nothing was changed.
  abbrev pub FailedAt : {C : Type 0} → (Box C Global → Subtree X) → ℕ → List (Subtree X) → List (Subtree X) → Type 0
  FailedAt tree i ss ts = GrewAt tree i ss ts outcome.Refused

  -- The node over ss became one over ts.
  abbrev pub GrewOver : {C : Type 0} → (Box C Global → Subtree X) → List (Subtree X) → List (Subtree X) → Settled C → Type 0
  GrewOver tree ss ts settled.Refused = IsKept (over ss) (over ts)
  GrewOver tree ss ts settled.Same = IsSame (over ss) (over ts)
  GrewOver tree ss ts (settled.Changed e) = IsChanged e (over ss) (over ts)
  GrewOver tree ss ts (settled.Split u) = IsSplit u.low u.high (over ss) (over ts) (over (map tree (held u.slots)))

module _ {C : Type 0} where
  -- There are n nodes if a child was split.
  abbrev pub HasSpares : ℕ → ℕ → Outcome C → Type 0
  HasSpares n m outcome.Refused = Unit {0}
  HasSpares n m outcome.Same = Unit {0}
  HasSpares n m (outcome.Changed e) = Unit {0}
  HasSpares n m (outcome.Split h) = n ≤ m

module _ {X C : Type 0} (entry : X → Entry) (enough : X → Type 0) (least : ℕ) (tree : Box C Global → Subtree X) where
  -- If there is an upper half, then it may stand in a node, and there is one for it.
  abbrev pub CanFinish : ℕ → Settled C → Type 0
  CanFinish n settled.Refused = Unit {0}
  CanFinish n settled.Same = Unit {0}
  CanFinish n (settled.Changed e) = Unit {0}
  CanFinish n (settled.Split u) = IsOver entry enough least tree u.entries u.slots × (1 ≤ n)

module _ {X C D : Type 0} (tree : Box C Global → Subtree X) (node : Box D Global → Subtree X) (n m : ℕ) where
  -- The upper half stands in a node.
  pub record IsInNode (u : Upper C) (h : Halves D) : Type 0 where
    pub low : h.low ≡ u.low
    pub high : h.high ≡ u.high
    pub upper : node h.upper ≡ over (map tree (held u.slots))
    pub used : m + 1 ≡ n

  abbrev pub IsFinished : Settled C → Outcome D → Type 0
  IsFinished settled.Refused outcome.Refused = Unit {0}
  IsFinished settled.Same outcome.Same = Unit {0}
  IsFinished (settled.Changed e) (outcome.Changed d) = d ≡ e
  IsFinished (settled.Split u) (outcome.Split h) = IsInNode u h
  IsFinished _ _ = ⊥

-- Whatever becomes of the node by what was done with the child i, an upper half may stand in a node, and there is one for it.
abbrev pub CanSettle : {X C : Type 0} → (X → Entry) → (X → Type 0) → ℕ → (Box C Global → Subtree X) → ℕ → ℕ → List Entry → List (Box C Global) → Outcome C → Type 0
CanSettle {X} {C} entry enough least tree n i es bs o =
    (fs : List Entry) (os : List (Option (Box C Global))) (r : Settled C) → IsDense os → IsSettled i es bs fs (held os) o r
    → CanFinish entry enough least tree n r

-- A change of the child i has this outcome for its node. An upper half stands in a node.
pub record IsSettledIn {X C D : Type 0} (tree : Box C Global → Subtree X) (node : Box D Global → Subtree X) (n m i : ℕ) (es : List Entry)
    (bs : List (Box C Global)) (fs : List Entry) (cs : List (Box C Global)) (o : Outcome C) (r : Outcome D) : Type 0 where
  pub settled : Settled C
  pub is : IsSettled i es bs fs cs o settled
  pub finished : IsFinished tree node n m settled r
