-- A subtree after a change that leaves fewer items.
use Rattle.std.specs.Prelude.{◌≡◌, ℕ, ◌+◌, ◌≤◌, ◌<◌, List, [], ◌∷◌, ◌++◌, length, set}
use Rattle.vm_tree.specs.Entry.{Entry}
use Rattle.vm_tree.specs.Rows.{sum_of, beginning_at}
use Rattle.vm_tree.specs.Subtree.{Subtree, entry_of, nth_tree, kids, IsFull}
use Rattle.vm_tree.specs.Edits.{IsHome, IsRefused, IsEdited}
use Rattle.vm_tree.specs.Mends.{IsRegrouped}
use Rattle.vm_tree.specs.declared.cut.Shrunk.{Shrunk}
use Rattle.vm_tree.specs.declared.cut.Shrunk.TheVariants as shrunk
use Rattle.vm_tree.specs.declared.cut.ShrunkNode.{ShrunkNode}
use Rattle.vm_tree.specs.declared.cut.ShrunkNode.TheVariants as shrunk_node

-- Nothing is asked.
abbrev pub Any : {X : Type 0} → X → Type 0
Any x = Unit {0}

-- Each leaf meets the next one.
abbrev pub Meet : {X : Type 0} → (X → X → Type 0) → List X → Type 0
Meet meets [] = Unit {0}
Meet meets (x ∷ []) = Unit {0}
Meet meets (x ∷ y ∷ xs) = meets x y × Meet meets (y ∷ xs)

-- After such a change the leaf of the key meets its neighbours.
abbrev pub MeetsAfter : {X : Type 0} → (X → Entry) → (X → X → Type 0) → ℕ → (X → List X → Type 0) → List X → Type 0
MeetsAfter {X} entry meets key edits old =
    (before : List X) (leaf : X) (after leaves : List X) → IsHome entry key old before leaf after → edits leaf leaves
    → Meet meets (before ++ (leaves ++ after))

-- Leaves are joined in this way, and only if S.
abbrev pub JoinsIf : {X : Type 0} → Type 0 → (X → X → List X → Type 0) → X → X → List X → Type 0
JoinsIf S joins x y zs = S × joins x y zs

-- A leaf has changed, and then two leaves were joined, or none.
pub record IsShrunk {X : Type 0} (entry : X → Entry) (joins : X → X → List X → Type 0) (key : ℕ) (edits : X → List X → Type 0) (old new : List X) : Type 0 where
  pub middle : List X
  pub edited : IsEdited entry Any key edits old middle
  pub regrouped : IsRegrouped joins middle new

-- The subtree s became t. It has at most one child less.
pub record IsCut {X : Type 0} (entry : X → Entry) (joins : X → X → List X → Type 0) (key : ℕ) (edits : X → List X → Type 0) (s t : Subtree X) : Type 0 where
  pub height : t.height ≡ s.height
  pub fan : kids s ≤ kids t + 1
  pub cut : IsShrunk entry joins key edits s.leaves t.leaves

module _ {X : Type 0} (entry : X → Entry) (enough : X → Type 0) (joins : X → X → List X → Type 0) (key : ℕ) (refuses : X → Type 0) (edits : X → List X → Type 0) where
  -- The leaf refused, and nothing was changed.
  pub record IsUncut (s t : Subtree X) : Type 0 where
    pub same : t ≡ s
    pub refused : IsRefused entry key refuses s.leaves

  -- The entry is as before.
  pub record IsCutSame (s t : Subtree X) : Type 0 where
    pub one : IsCut entry joins key edits s t
    pub sum : entry_of entry t ≡ entry_of entry s
    pub full : IsFull enough s.height s → IsFull enough s.height t

  pub record IsCutFull (e : Entry) (s t : Subtree X) : Type 0 where
    pub one : IsCut entry joins key edits s t
    pub sum : e ≡ entry_of entry t
    pub full : IsFull enough s.height s → IsFull enough s.height t

  -- The subtree may be too small.
  pub record IsCutSmall (e : Entry) (s t : Subtree X) : Type 0 where
    pub one : IsCut entry joins key edits s t
    pub sum : e ≡ entry_of entry t

  -- The subtree is not too small if it was not before.
  pub record IsCutOther (s t : Subtree X) : Type 0 where
    pub one : IsCut entry joins key edits s t
    pub full : IsFull enough s.height s → IsFull enough s.height t

  -- The node s became t.
  abbrev pub ShrankNode : Subtree X → Subtree X → ShrunkNode → Type 0
  ShrankNode s t shrunk_node.Refused = IsUncut s t
  ShrankNode s t shrunk_node.Same = IsCutSame s t
  ShrankNode s t (shrunk_node.Begins a) = IsCutFull (beginning_at a (entry_of entry s)) s t
  ShrankNode s t shrunk_node.Changed = IsCutOther s t
  ShrankNode s t (shrunk_node.Small e) = IsCutSmall e s t

  -- The subtree s became t.
  abbrev pub Shrank : Subtree X → Subtree X → Shrunk → Type 0
  Shrank s t shrunk.Refused = IsUncut s t
  Shrank s t shrunk.Same = IsCutSame s t
  Shrank s t (shrunk.Begins a) = IsCutFull (beginning_at a (entry_of entry s)) s t
  Shrank s t (shrunk.Changed e) = IsCutFull e s t
  Shrank s t (shrunk.Small e) = IsCutSmall e s t

  -- The child i of ss became another.
  pub record ShrankAt (i : ℕ) (ss ts : List (Subtree X)) (o : Shrunk) : Type 0 where
    pub new : Subtree X
    pub list : ts ≡ set ss i new
    pub shrank : Shrank (nth_tree ss i) new o

-- These entries are enough for a child, or they are not known to be, and this is their sum.
abbrev pub IsSmallOrFull : List Entry → ShrunkNode → Type 0
IsSmallOrFull es shrunk_node.Refused = ⊥
IsSmallOrFull es shrunk_node.Same = ⊥
IsSmallOrFull es (shrunk_node.Begins a) = ⊥
IsSmallOrFull es shrunk_node.Changed = 5 ≤ length es
IsSmallOrFull es (shrunk_node.Small e) = e ≡ sum_of es

-- The first address of the child i was written: what it changes of the sum of all.
abbrev pub HasBegun : ℕ → ℕ → ShrunkNode → Type 0
HasBegun i a shrunk_node.Refused = ⊥
HasBegun i a shrunk_node.Same = 0 < i
HasBegun i a (shrunk_node.Begins b) = (i ≡ 0) × (b ≡ a)
HasBegun i a shrunk_node.Changed = ⊥
HasBegun i a (shrunk_node.Small e) = ⊥

-- A change of a child as its parent knows it. The entry can be as before, or begin at another address.
abbrev pub IsQuiet : Entry → Shrunk → Shrunk → Type 0
IsQuiet was shrunk.Refused shrunk.Refused = Unit {0}
IsQuiet was shrunk.Same shrunk.Same = Unit {0}
IsQuiet was (shrunk.Begins a) (shrunk.Begins b) = b ≡ a
IsQuiet was (shrunk.Changed e) shrunk.Same = e ≡ was
IsQuiet was (shrunk.Changed e) (shrunk.Begins a) = e ≡ beginning_at a was
IsQuiet was (shrunk.Changed e) (shrunk.Changed d) = d ≡ e
IsQuiet was (shrunk.Small e) (shrunk.Small d) = d ≡ e
IsQuiet _ _ _ = ⊥

-- A change of a node as its parent knows it. The node has the entry e now.
abbrev pub IsShrunkOf : Entry → Entry → ShrunkNode → Shrunk → Type 0
IsShrunkOf e was shrunk_node.Refused r = r ≡ shrunk.Refused
IsShrunkOf e was shrunk_node.Same r = r ≡ shrunk.Same
IsShrunkOf e was (shrunk_node.Begins a) r = r ≡ shrunk.Begins a
IsShrunkOf e was shrunk_node.Changed r = IsQuiet was (shrunk.Changed e) r
IsShrunkOf e was (shrunk_node.Small d) r = r ≡ shrunk.Small d
