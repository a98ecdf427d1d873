-- The arrays of a node as a list of entries.
use Rattle.std.specs.Prelude.{ℕ, ◌≤◌, ◌<◌, max, List, [], ◌∷◌, take, length, slice_index_or}
use Rattle.vm_tree.specs.Entry.{Entry}
use Rattle.vm_tree.specs.Padded.{IsPadded}
use Rattle.vm_tree.specs.declared.entries.Entries.TheInside.{Inside}
use Rattle.vm_tree.specs.declared.entries.TheConstants.{FANOUT}

-- The entries with these parts.
abbrev pub rows : List ℕ → List ℕ → List ℕ → List Entry
rows [] bs cs = []
rows (a ∷ xs) [] cs = []
rows (a ∷ xs) (b ∷ bs) [] = []
rows (a ∷ xs) (b ∷ bs) (c ∷ cs) = record { at = a; longest = b; alignments = c } ∷ rows xs bs cs

-- The entries that the fields encode.
abbrev pub entries_of : Inside → List Entry
entries_of a = rows (take a.len a.at) (take a.len a.longest) (take a.len a.alignments)

-- The fields are valid: the items that are not used are at the end of all addresses, and have no gap.
pub record IsInside (a : Inside) : Type 0 where
  pub fits : a.len ≤ FANOUT
  pub at : IsPadded a.at a.len 18446744073709551615
  pub longest : IsPadded a.longest a.len 0
  pub alignments : IsPadded a.alignments a.len 0

-- The entry that `nth` returns if there is none.
abbrev pub blank : Entry
blank = record { at = 0; longest = 0; alignments = 0 }

-- The entry at an index.
abbrev pub nth : List Entry → ℕ → Entry
nth es i = slice_index_or es i blank

-- The entry with this first address.
abbrev pub beginning_at : ℕ → Entry → Entry
beginning_at a e = record { at = a; longest = e.longest; alignments = e.alignments }

-- The addresses ascend, from the second entry on.
abbrev pub Ascends : List Entry → Type 0
Ascends es = (i j : ℕ) → 0 < i → i ≤ j → j < length es → (nth es i).at ≤ (nth es j).at

-- The length of the longest gap of all entries.
abbrev pub longest_of : List Entry → ℕ
longest_of [] = 0
longest_of (e ∷ es) = max e.longest (longest_of es)

-- The most alignments of all entries.
abbrev pub alignments_of : List Entry → ℕ
alignments_of [] = 0
alignments_of (e ∷ es) = max e.alignments (alignments_of es)

-- The entry of two parts: the first address, and the greater one of each other field.
abbrev pub joined : Entry → Entry → Entry
joined a b = record { at = a.at; longest = max a.longest b.longest; alignments = max a.alignments b.alignments }

-- The entry of items with these entries.
abbrev pub sum_of : List Entry → Entry
sum_of [] = blank
sum_of (e ∷ es) = joined e (sum_of es)
