-- Freed ids that are read one by one, and id allocators that are created of them.
use Rattle.std.specs.Prelude.{◌≡◌, ℕ, ◌<◌, List, [], ◌∷◌, ◌++◌, Option, Result, Ok, Err}
use Rattle.std.specs.List.Sorted.{IsStrictlySortedBy}
use Rattle.std.specs.Ordering.{nat_cmp}
use Rattle.vm_ranges.specs.Cases.{IfElse, Unless}
use Rattle.vm_ranges.specs.declared.saved.Condition.{Condition}
use Rattle.vm_ranges.specs.declared.saved.Condition.TheVariants as conditions
use Rattle.vm_ranges.specs.declared.saved.SavedError.{SavedError}
use Rattle.vm_ranges.specs.declared.saved.SavedError.TheVariants.{Violated, OutOfMemory}
use Rattle.vm_ids.specs.Ids.{IdState, IsNext, AreIds, ids_of}

-- The parts are those of an allocator, and the freed ids are in strictly ascending order.
pub record AreFreedOf (lo hi : ℕ) (next : Option ℕ) (freed : List ℕ) : Type 0 where
  pub parts : AreIds lo hi next (record { keys = freed })
  pub ascending : IsStrictlySortedBy nat_cmp freed

-- The result of `push`: the id is added at the end, unless the ids are not in strictly ascending order then. An error
-- changes nothing.
abbrev pub PushesId : List ℕ → ℕ → Result (Unit {0}) SavedError → List ℕ → Type 0
PushesId old id (Ok _) new = (new ≡ old ++ id ∷ []) × IsStrictlySortedBy nat_cmp new
PushesId old id (Err (Violated c)) new = (c ≡ conditions.Order) × (new ≡ old) × ¬ IsStrictlySortedBy nat_cmp (old ++ id ∷ [])
PushesId old id (Err OutOfMemory) new = (new ≡ old) × IsStrictlySortedBy nat_cmp (old ++ id ∷ [])

-- The condition that parts violate if they are not those of an allocator: that of the range, else that of the next id, else
-- that of the freed ids.
abbrev pub IsViolatedBy : ℕ → ℕ → Option ℕ → Condition → Type 0
IsViolatedBy lo hi next c =
    IfElse (hi < lo) (c ≡ conditions.IdRange) (Unless (IsNext lo hi next) (c ≡ conditions.NextId) (c ≡ conditions.FreedIds))

-- The result of `from_ids`: the state with these parts, or the first condition that they violate. It needs no memory.
abbrev pub MakesOfIds : ℕ → ℕ → Option ℕ → List ℕ → Result IdState SavedError → Type 0
MakesOfIds lo hi next freed (Ok state) = AreFreedOf lo hi next freed × (state ≡ ids_of lo hi next (record { keys = freed }))
MakesOfIds lo hi next freed (Err (Violated c)) = IsViolatedBy lo hi next c × ¬ AreFreedOf lo hi next freed
MakesOfIds lo hi next freed (Err OutOfMemory) = ⊥
