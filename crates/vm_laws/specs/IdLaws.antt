-- Laws of ids that follow only from the definitions.
use Rattle.std.specs.Prelude.{◌≡◌, ◌≢◌, ℕ, ◌≤◌, ◌↔◌, List, length, Result, Ok}
use Rattle.std.specs.List.{All, AllPairs, Contains}
use Rattle.vm_ids.specs.Ids.{MAX_ID, IdState, IsHeld, held_count, IsIdState, MakesIds, AllocatesId, FreesId}
use Rattle.vm_ids.specs.Histories.IdHistories.{IdCall, IsIdCallFrom}
use Rattle.vm_ranges.specs.declared.error.Error.{Error}
use Rattle.vm_ids.specs.Facts.{RemovesId, AddsId}

-- `new` has one result for each range.
abbrev pub MakingIsDetermined : Type 0
MakingIsDetermined =
    (lo hi : ℕ) (answer other : Result IdState Error) → MakesIds lo hi answer → MakesIds lo hi other → answer ≡ other

-- `allocate_id` has one result and one next state in each state.
abbrev pub AllocatingIsDetermined : Type 0
AllocatingIsDetermined =
    (old new later : IdState) (answer other : Result ℕ Error) →
    AllocatesId old answer new → AllocatesId old other later → (answer ≡ other) × (new ≡ later)

-- A new allocator has a valid state, and each call preserves valid states.
pub record IdStateIsPreserved : Type 0 where
  pub made : (lo hi : ℕ) (state : IdState) → hi ≤ MAX_ID → MakesIds lo hi (Ok state) → IsIdState state
  pub called : (old new : IdState) (call : IdCall) → IsIdState old → IsIdCallFrom old call new → IsIdState new

-- Allocating an id adds it.
abbrev pub AllocatingAdds : Type 0
AllocatingAdds = (old new : IdState) (id : ℕ) → IsIdState old → AllocatesId old (Ok id) new → AddsId old new id

-- Freeing an id removes it.
abbrev pub FreeingRemoves : Type 0
FreeingRemoves = (old new : IdState) (id back : ℕ) → FreesId old id (Ok back) new → RemovesId old new id

-- A list of different held ids contains all held ids if and only if its length is the number of held ids.
abbrev pub IdCountFindsAll : Type 0
IdCountFindsAll =
    (state : IdState) (list : List ℕ) → AllPairs (λ i j. i ≢ j) list → All (IsHeld state) list →
    (length list ≡ held_count state) ↔ ((i : ℕ) → IsHeld state i → Contains list i)
