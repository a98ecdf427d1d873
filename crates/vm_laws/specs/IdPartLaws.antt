-- Laws of the parts of an id allocator: its range, its next id and its freed ids.
use Rattle.std.specs.Prelude.{◌≡◌, ◌↔◌}
use Rattle.vm_ranges.specs.declared.saved.SavedError.TheVariants as saved_errors
use Rattle.vm_ids.specs.Ids.{IdState, IsIdState, freed_ids, next_id_of}

-- Valid states are equal if and only if they have the same range, the same next id and the same freed ids.
abbrev pub PartsDecideIds : Type 0
PartsDecideIds =
    (a b : IdState) → IsIdState a → IsIdState b →
    (a ≡ b) ↔ ((a.lo ≡ b.lo) × (a.hi ≡ b.hi) × (next_id_of a ≡ next_id_of b) × (freed_ids a ≡ freed_ids b))
