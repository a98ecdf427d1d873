-- The saved values of ranges and of states.
use Rattle.std.specs.Prelude.{◌≡◌, ℕ, Bool, not, ◌&&◌, ◌||◌, ◌==◌, nat_lt, nat_le, if◌then◌else◌, List, Option, Some, None, option_and_then, codes, bytes_eq}
use Rattle.serde_json.specs.Data.{Data, string}
use Rattle.serde_json.specs.Find.{as_str}
use Rattle.vm_ranges.specs.Fields.{field_count, is_count}
use Rattle.vm_ranges.specs.Numbers.{number_in}
use Rattle.vm_ranges.specs.Range.{Range, MAX, IsRange}
use Rattle.vm_ranges.specs.declared.state.NodeState.{NodeState}
use Rattle.vm_ranges.specs.declared.state.NodeState.TheVariants.{Free, Allocated}

-- The value is an object with exactly a start and an end, which are those of the range.
pub record EncodesRange (d : Data) (r : Range) : Type 0 where
  pub two_fields : field_count d ≡ Some 2
  pub start : number_in (codes "start") d ≡ Some r.start
  pub end : number_in (codes "end") d ≡ Some r.end
  pub range : IsRange r.start r.end

-- Whether these are the ends of a range.
abbrev pub are_ends : ℕ → ℕ → Bool
are_ends s e = nat_le s e && (nat_le e MAX && (not (s == 0) || nat_lt e MAX))

-- The range with these ends, if they are valid.
abbrev pub range_between : ℕ → ℕ → Option Range
range_between s e = if are_ends s e then Some (record { start = s; end = e }) else None

-- The range that a value encodes.
abbrev pub decoded_range : Data → Option Range
decoded_range d =
    if is_count 2 (field_count d) then
    option_and_then (λ s. option_and_then (λ e. range_between s e) (number_in (codes "end") d))
    (number_in (codes "start") d)
    else None

-- The text of a state.
abbrev pub state_name : NodeState → List ℕ
state_name Free = codes "Free"
state_name Allocated = codes "Allocated"

-- The value is the text of the state.
abbrev pub EncodesState : Data → NodeState → Type 0
EncodesState d state = d ≡ string (state_name state)

-- The state with this text.
abbrev pub state_named : Option (List ℕ) → Option NodeState
state_named None = None
state_named (Some t) =
    if bytes_eq t (codes "Free") then Some Free
    else (if bytes_eq t (codes "Allocated") then Some Allocated else None)

-- The state that a value encodes.
abbrev pub decoded_state : Data → Option NodeState
decoded_state d = state_named (as_str d)
