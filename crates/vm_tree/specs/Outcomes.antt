-- The children of a node after a change.
use Rattle.std.specs.Prelude.{◌≡◌, ℕ, ◌+◌, ◌≤◌, List, ◌++◌, length, set, Box, Option, Some, None}
use Rattle.std.specs.declared.alloc.Global.{Global}
use Rattle.std.specs.List.{insert}
use Rattle.vm_tree.specs.Entry.{Entry}
use Rattle.vm_tree.specs.Slots.{held, IsDense}
use Rattle.vm_tree.specs.Rows.{sum_of, nth}
use Rattle.vm_tree.specs.declared.outcome.Upper.{Upper}
use Rattle.vm_tree.specs.declared.outcome.Outcome.{Outcome}
use Rattle.vm_tree.specs.declared.outcome.Settled.{Settled}
use Rattle.vm_tree.specs.declared.outcome.Outcome.TheVariants as outcome
use Rattle.vm_tree.specs.declared.outcome.Settled.TheVariants as settled

module _ {C : Type 0} (es : List Entry) (bs : List (Box C Global)) (i : ℕ) (entry : Entry) (child : Box C Global) (fs : List Entry) (cs : List (Box C Global)) where
  -- The child was inserted.
  pub record IsAdded (d : Entry) : Type 0 where
    pub entries : fs ≡ insert es i entry
    pub kids : cs ≡ insert bs i child
    pub sum : d ≡ sum_of fs

  -- The child was inserted, and the upper half of all children belongs to another node.
  pub record IsHalved (u : Upper C) : Type 0 where
    pub entries : fs ++ u.entries ≡ insert es i entry
    pub kids : cs ++ held u.slots ≡ insert bs i child
    pub dense : IsDense u.slots
    pub full : 16 ≤ length es
    pub low : 5 ≤ length cs
    pub high : 5 ≤ length (held u.slots)
    pub same : length fs ≡ length cs
    pub sum : u.low ≡ sum_of fs
    pub upper : u.high ≡ sum_of u.entries

  -- One of both.
  abbrev pub IsGrown : Settled C → Type 0
  IsGrown settled.Refused = ⊥
  IsGrown settled.Same = ⊥
  IsGrown (settled.Changed d) = IsAdded d
  IsGrown (settled.Split u) = IsHalved u

-- The entry i became e: it was e before, or the sum of the entries is told.
abbrev pub IsNoted : ℕ → List Entry → Entry → List Entry → Option Entry → Type 0
IsNoted i es e fs None = (fs ≡ es) × (nth es i ≡ e)
IsNoted i es e fs (Some d) = (fs ≡ set es i e) × (d ≡ sum_of fs)

module _ {C : Type 0} (i : ℕ) (es : List Entry) (bs : List (Box C Global)) (fs : List Entry) (cs : List (Box C Global)) where
  -- Nothing was changed.
  pub record AreSame : Type 0 where
    pub entries : fs ≡ es
    pub kids : cs ≡ bs

  -- The child i has the entry e.
  pub record IsSet (e d : Entry) : Type 0 where
    pub entries : fs ≡ set es i e
    pub kids : cs ≡ bs
    pub sum : d ≡ sum_of fs

  -- The child i has the entry e, as before.
  pub record IsKept (e : Entry) : Type 0 where
    pub entries : fs ≡ es
    pub kids : cs ≡ bs
    pub entry : nth es i ≡ e

  -- A change of a child has this outcome for its node.
  abbrev pub IsSettled : Outcome C → Settled C → Type 0
  IsSettled outcome.Refused settled.Refused = AreSame
  IsSettled outcome.Same settled.Same = AreSame
  IsSettled (outcome.Changed e) settled.Same = IsKept e
  IsSettled (outcome.Changed e) (settled.Changed d) = IsSet e d
  IsSettled (outcome.Split h) s = IsGrown (set es i h.low) bs (i + 1) h.high h.upper fs cs s
  IsSettled _ _ = ⊥
