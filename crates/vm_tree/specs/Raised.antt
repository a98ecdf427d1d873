-- A root after a change.
use Rattle.std.specs.Prelude.{◌≡◌, ℕ, ◌+◌, ◌≤◌, List, [], ◌∷◌, Box, Bool, true, false}
use Rattle.std.specs.declared.alloc.Global.{Global}
use Rattle.vm_tree.specs.Entry.{Entry}
use Rattle.vm_tree.specs.Subtree.{Subtree, over, entry_of, IsFull}
use Rattle.vm_tree.specs.Edits.{AtKey, IsRefusedAt, IsEditedAt}
use Rattle.vm_tree.specs.declared.outcome.Halves.{Halves}
use Rattle.vm_tree.specs.declared.outcome.Outcome.{Outcome}
use Rattle.vm_tree.specs.declared.outcome.Outcome.TheVariants as outcome

module _ {X C : Type 0} (tree : Box C Global → Subtree X) (t : Subtree X) where
  -- Both halves stand below a new root.
  abbrev pub raised : Outcome C → Subtree X
  raised outcome.Refused = t
  raised outcome.Same = t
  raised (outcome.Changed e) = t
  raised (outcome.Split h) = over (t ∷ tree h.upper ∷ [])

module _ {C : Type 0} where
  -- A leaf was changed.
  abbrev pub HasChanged : Outcome C → Bool
  HasChanged outcome.Refused = false
  HasChanged outcome.Same = true
  HasChanged (outcome.Changed e) = true
  HasChanged (outcome.Split h) = true

module _ {X C : Type 0} (entry : X → Entry) (enough : X → Type 0) (least : ℕ) (tree : Box C Global → Subtree X) (t : Subtree X) where
  pub record AreHalves (h : Halves C) : Type 0 where
    pub low : IsFull enough t.height t
    pub high : IsFull enough t.height (tree h.upper)
    pub first : h.low ≡ entry_of entry t
    pub second : h.high ≡ entry_of entry (tree h.upper)
    pub deep : least ≤ t.height

  -- If there are two halves, then they may stand below a new root, and there is a node for it.
  abbrev pub CanRaise : ℕ → Outcome C → Type 0
  CanRaise n outcome.Refused = Unit {0}
  CanRaise n outcome.Same = Unit {0}
  CanRaise n (outcome.Changed e) = Unit {0}
  CanRaise n (outcome.Split h) = AreHalves h × (1 ≤ n)

module _ {X : Type 0} (enough : X → Type 0) (at : List X → X → List X → Type 0) (refuses : X → Type 0) (edits : X → List X → Type 0) (s t : Subtree X) where
  pub record IsKeptTree : Type 0 where
    pub same : t ≡ s
    pub refused : IsRefusedAt at refuses s.leaves

  pub record IsEditedTree : Type 0 where
    pub height : s.height ≤ t.height
    pub higher : t.height ≤ s.height + 1
    pub edited : IsEditedAt enough at edits s.leaves t.leaves

  -- A tree after a call at a place: nothing was done, or a change.
  abbrev pub IsTreeAfterAt : Bool → Type 0
  IsTreeAfterAt false = IsKeptTree
  IsTreeAfterAt true = IsEditedTree

-- A tree after a call with the leaf of the key: nothing was done, or a change.
abbrev pub IsTreeAfter : {X : Type 0} → (X → Entry) → (X → Type 0) → ℕ → (X → Type 0) → (X → List X → Type 0) → Subtree X → Subtree X → Bool → Type 0
IsTreeAfter entry enough key refuses edits s t done = IsTreeAfterAt enough (AtKey entry key) refuses edits s t done
