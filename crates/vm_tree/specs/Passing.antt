-- The children of a node that a search passes over.
use Rattle.std.specs.Prelude.{◌≡◌, ℕ, ◌+◌, ◌-◌, ◌<◌, ◌≤◌, Bool, true, false, List, length, take, drop, Option, MatchOption}
use Rattle.vm_tree.specs.Entry.{Entry}
use Rattle.vm_tree.specs.Rows.{nth}
use Rattle.vm_tree.specs.Subtree.{Subtree, leaves_of, sizes_of}
use Rattle.vm_tree.specs.declared.end.End.{End}
use Rattle.vm_tree.specs.declared.end.End.TheVariants.{First, Last}

-- No entry from `from` up to, but not including, `to` passes the test.
abbrev pub NoneFits : (Entry → Bool) → List Entry → ℕ → ℕ → Type 0
NoneFits test es from to = (j : ℕ) → from ≤ j → j < to → test (nth es j) ≡ false

-- The entries between i and the end, among those from `from` up to, but not including, `to`.
abbrev pub NoneCloser : End → (Entry → Bool) → List Entry → ℕ → ℕ → ℕ → Type 0
NoneCloser First test es from to i = NoneFits test es from i
NoneCloser Last test es from to i = NoneFits test es (i + 1) to

-- i is the entry that passes the test and is closest to the end.
pub record IsNext (end : End) (test : Entry → Bool) (es : List Entry) (from to i : ℕ) : Type 0 where
  pub after : from ≤ i
  pub before : i < to
  pub fits : test (nth es i) ≡ true
  pub closer : NoneCloser end test es from to i

-- The next child to be searched, if there is one.
abbrev pub FindsNext : End → (Entry → Bool) → List Entry → ℕ → ℕ → Option ℕ → Type 0
FindsNext end test es from to next = MatchOption next (NoneFits test es from to) (λ i. IsNext end test es from to i)

-- The number of nodes of subtrees next to each other.
abbrev pub nodes_of : {X : Type 0} → List (Subtree X) → ℕ
nodes_of ss = length (sizes_of ss) + length (leaves_of ss)

-- The children that a search from the end has passed over.
abbrev pub passed : {X : Type 0} → End → ℕ → ℕ → List (Subtree X) → List (Subtree X)
passed First from to ss = take from ss
passed Last from to ss = drop to ss

-- The first child that can have addresses of the window.
pub record IsLowKid (address : ℕ) (es : List Entry) (i : ℕ) : Type 0 where
  pub within : i < length es
  pub from : 0 < i → (nth es i).at ≤ address
  pub upto : i + 1 < length es → address < (nth es (i + 1)).at

-- The number of children that start at the address or below it, or 1 if there is none.
pub record IsKidCount (address : ℕ) (es : List Entry) (n : ℕ) : Type 0 where
  pub some : 0 < n
  pub within : n ≤ length es
  pub from : 1 < n → (nth es (n - 1)).at ≤ address
  pub upto : n < length es → address < (nth es n).at
