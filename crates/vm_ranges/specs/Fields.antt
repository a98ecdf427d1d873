-- The fields of a saved value. Their order does not matter.
use Rattle.std.specs.Prelude.{ℕ, ◌==◌, Bool, false, List, Option, Some, None, option_map, MatchOption}
use Rattle.serde_json.specs.Data.{Data}
use Rattle.serde_json.specs.Find.{get, as_object}
use Rattle.serde_json.specs.Events.{members_len}

-- The number of fields of an object, which have different names. It is None for other values.
abbrev pub field_count : Data → Option ℕ
field_count d = option_map members_len (as_object d)

-- Whether the number of fields is n.
abbrev pub is_count : ℕ → Option ℕ → Bool
is_count n None = false
is_count n (Some c) = c == n

-- The value has a field with this name, and the fact is true for the value of the field.
abbrev pub FieldIs : List ℕ → Data → (Data → Type 0) → Type 0
FieldIs name d fact = MatchOption (get name d) ⊥ fact
