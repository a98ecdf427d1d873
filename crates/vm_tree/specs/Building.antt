-- A tree that is built of leaves.
use Rattle.std.specs.Prelude.{◌≡◌, ℕ, ◌+◌, ◌-◌, ◌*◌, ◌^◌, ◌≤◌, ◌<◌, List, ◌++◌, map, length, Option, Box}
use Rattle.std.specs.declared.alloc.Global.{Global}
use Rattle.vm_tree.specs.Entry.{Entry}
use Rattle.vm_tree.specs.Slots.{held, IsDense}
use Rattle.vm_tree.specs.Subtree.{Subtree, leaf_of, leaves_of, entry_of, kids, IsFull, AreFull, AllOf}
use Rattle.vm_tree.specs.declared.build.Built.{Built}
use Rattle.vm_tree.specs.declared.build.Built.TheVariants as built

-- The first i children of a node, which have the height h and the first `made` of the leaves `old`. The leaves `now` are left.
pub record IsRow {X C : Type 0} (entry : X → Entry) (enough : X → Type 0) (tree : Box C Global → Subtree X) (h i : ℕ) (es : List Entry)
    (os : List (Option (Box C Global))) (old now : List X) (made : ℕ) : Type 0 where
  pub dense : IsDense os
  pub count : length (held os) ≡ i
  pub entries : es ≡ map (entry_of entry) (map tree (held os))
  pub even : AreFull enough h (map tree (held os))
  pub cut : old ≡ leaves_of (map tree (held os)) ++ now
  pub total : length (leaves_of (map tree (held os))) ≡ made
  pub all : AllOf enough now

-- `rest` leaves are shared by r children, each of which has lo to hi.
pub record IsShare (r lo hi rest : ℕ) : Type 0 where
  pub some : r * lo ≤ rest
  pub most : rest ≤ r * hi

-- A node over the first n leaves. Each of its children can have `below` leaves.
pub record IsBuilt {X : Type 0} (enough : X → Type 0) (levels below n : ℕ) (old new : List X) (s : Subtree X) : Type 0 where
  pub height : s.height ≡ levels + 2
  pub cut : old ≡ s.leaves ++ new
  pub count : length s.leaves ≡ n
  pub fan : n ≤ below * kids s
  pub full : 5 ≤ kids s → IsFull enough (levels + 2) s
  pub all : AllOf enough new

-- A tree of the first n leaves. A lower one has at most as many leaves as are too few.
pub record IsBuiltTree {X : Type 0} (enough : X → Type 0) (n : ℕ) (old new : List X) (s : Subtree X) : Type 0 where
  pub cut : old ≡ s.leaves ++ new
  pub count : length s.leaves ≡ n
  pub root : 2 ≤ s.height → 2 ≤ kids s
  pub lowest : 2 ≤ s.height → 16 ^ (s.height - 2) < n
  pub fits : n ≤ 16 ^ (s.height - 1)

module _ {X : Type 0} where
  -- What was built. A root that is a node has two children at least.
  abbrev pub IsBuiltRoot : (X → Type 0) → ℕ → List X → List X → Built X → Type 0
  IsBuiltRoot enough n old new (built.Leaf b) = IsBuiltTree enough n old new (leaf_of b.value)
  IsBuiltRoot enough n old new (built.Node b) = (2 ≤ kids b.value) × IsBuiltTree enough n old new b.value
