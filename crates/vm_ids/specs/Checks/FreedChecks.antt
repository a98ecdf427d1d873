-- The check of the freed ids of a saved id allocator, of which only the first and the last are kept. Only private functions
-- cite these definitions.
use Rattle.std.specs.Prelude.{◌≡◌, ℕ, ◌<◌, ◌≤◌, List, [], ◌∷◌, ◌++◌, Option, None, Some, IsTrue}
use Rattle.std.specs.BTreeSet.{contains}
use Rattle.std.specs.List.Sorted.{IsStrictlySortedBy}
use Rattle.std.specs.Ordering.{nat_cmp}
use Rattle.vm_ids.specs.declared.saved.read_ids.Ends.{Ends}

-- The last of the ids after `first`, or `first` if there are none.
abbrev pub last_id : ℕ → List ℕ → ℕ
last_id first [] = first
last_id first (id ∷ ids) = last_id id ids

-- The first and the last of the ids, if there are any.
abbrev pub ends_of : List ℕ → Option Ends
ends_of [] = None
ends_of (id ∷ ids) = Some (record { first = id; last = last_id id ids })

-- The ids are in strictly ascending order, and these are their ends.
abbrev pub AreEndsOf : Option Ends → List ℕ → Type 0
AreEndsOf ends ids = IsStrictlySortedBy nat_cmp ids × (ends ≡ ends_of ids)

-- The result of adding an id at the end: the new ends, or None if the ids are not in strictly ascending order then.
abbrev pub AddsAtEnd : List ℕ → ℕ → Option Ends → Type 0
AddsAtEnd ids id None = ¬ IsStrictlySortedBy nat_cmp (ids ++ id ∷ [])
AddsAtEnd ids id (Some ends) = AreEndsOf (Some ends) (ids ++ id ∷ [])

-- The ids are at least `lowest` and below `bound`.
abbrev pub AreWithin : ℕ → ℕ → List ℕ → Type 0
AreWithin lowest bound ids = (i : ℕ) → IsTrue (contains nat_cmp (record { keys = ids }) i) → (lowest ≤ i) × (i < bound)
