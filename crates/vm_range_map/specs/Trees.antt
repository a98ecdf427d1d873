-- The view of a map in clauses, and its state.
use Rattle.std.specs.Prelude.{Result, Ok, Err, refl}
use Rattle.std.specs.Ordering.{nat_cmp}
use Rattle.std.specs.Coded.{Coded, code_by, coded×, coded_ℕ}
use Rattle.std.specs.FinMap as map
use Rattle.vm_ranges.specs.declared.error.Error.{Error}
use Rattle.vm_space.specs.Shape.{Shape}
use Rattle.vm_space.specs.Shape.{shape_code}
use Rattle.vm_addresses.specs.Allocator.{state_of}
use Rattle.vm_range_map.specs.declared.refused.Refused.{Refused}
use Rattle.vm_range_map.specs.declared.refused.RefusedList.{RefusedList}
use Rattle.vm_range_map.specs.RangeMaps.{MapState, map_of}

-- The view of the address allocator of a map, and the value of each held range by the start of the range.
pub record RangeMapInTree (X : Type 0) : Type 0 where
  pub addresses : Shape
  pub values : map.FinMap nat_cmp X

-- Proof: encodes the view as the pair of its fields.
abbrev pub range_map_code : {X : Type 0} → Coded X → Coded (RangeMapInTree X)
range_map_code {X} x =
    code_by (Shape × map.FinMap nat_cmp X)
    (coded× shape_code (map.code coded_ℕ x))
    (λ m. (m.addresses, m.values))
    (λ p. record { addresses = p.0; values = p.1 })
    (λ _. refl)

-- The state of a map: the state of its address allocator, and its values.
abbrev pub map_state : {X : Type 0} → RangeMapInTree X → MapState X
map_state m = map_of (state_of m.addresses) m.values

-- The result of creating a map, with its state instead of the map.
abbrev pub made_map : {X E : Type 0} → Result (RangeMapInTree X) E → Result (MapState X) E
made_map (Ok m) = Ok (map_state m)
made_map (Err error) = Err error

-- The result of an allocation, without the value that an error returns.
abbrev pub plain : {A X : Type 0} → Result A (Refused X) → Result A Error
plain (Ok a) = Ok a
plain (Err refused) = Err refused.error

-- The result of a call with a list, without the list and the index that an error returns.
abbrev pub plain_list : {A K X : Type 0} → Result A (RefusedList K X) → Result A Error
plain_list (Ok a) = Ok a
plain_list (Err refused) = Err refused.error.error
