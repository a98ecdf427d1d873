-- Conflicts: why the range of a request is not free at the start that ExactMatch names.
use Rattle.std.specs.Prelude.{◌≡◌, ◌↔◌, List, [], ◌∷◌, Option, Some, None, option_map, Result, Ok, Err}
use Rattle.std.specs.List.{Contains}
use Rattle.vm_ranges.specs.Cases.{Unless}
use Rattle.vm_ranges.specs.Range.{Range, Overlaps, Covers, span}
use Rattle.vm_ranges.specs.Request.{Request, ByPolicy}
use Rattle.vm_ranges.specs.Address.{AddressState, IsPlace, releasing}
use Rattle.vm_addresses.specs.Queries.{meeting}
use Rattle.vm_ranges.specs.Windows.{within}
use Rattle.vm_addresses.specs.declared.address_allocator.conflicts.Conflict.{Conflict}
use Rattle.vm_addresses.specs.declared.address_allocator.conflicts.Conflict.TheVariants.{OutsideWindow, OutsideSpace, Allocated}

-- The first of the ranges, or None if there is no range.
abbrev pub first_of : List Range → Option Range
first_of [] = None
first_of (r ∷ rs) = Some r

-- The conflict with the first of the ranges, or None if there is no range.
abbrev pub with_first : List Range → Option Conflict
with_first rs = option_map (λ r. Allocated r) (first_of rs)

-- The range r is not in the window and `outside` is true for the window. Or it is, or there is no window, and `otherwise`
-- is true.
abbrev pub UnlessInWindow : Option Range → Range → (Range → Type 0) → Type 0 → Type 0
UnlessInWindow None r outside otherwise = otherwise
UnlessInWindow (Some window) r outside otherwise = Unless (Covers window r) (outside window) otherwise

-- The conflict of the range r. The first condition that is true decides:
-- - The space, if r is not in it.
-- - The window, if r is not in it.
-- - The lowest held range that overlaps r, if there is one.
-- - Otherwise there is no conflict.
unfoldable pub IsConflictOf : AddressState → Option Range → Range → Option Conflict → Type 0
IsConflictOf state window r answer =
    Unless (Covers state.space r) (answer ≡ Some (OutsideSpace state.space)) (
    UnlessInWindow window r (λ w. answer ≡ Some (OutsideWindow w)) (
    answer ≡ with_first (meeting r state.held)))

-- The space, if it and the window have no address in common. Otherwise there is no conflict.
abbrev pub IsWindowConflict : Range → Option Range → Option Conflict → Type 0
IsWindowConflict space None answer = answer ≡ None
IsWindowConflict space (Some window) answer = Unless (Overlaps window space) (answer ≡ Some (OutsideSpace space)) (answer ≡ None)

-- The conflict of a request: that of its range for the policy ExactMatch, and that of its window for other policies.
unfoldable pub IsConflict : AddressState → Request → Option Conflict → Type 0
IsConflict state request answer =
    let of_window : Type 0 = IsWindowConflict state.space request.window answer in
    ByPolicy request.policy of_window of_window (λ start. IsConflictOf state request.window (span start request.size) answer)

-- The conflict of a move of the range r: that of the request in the state in which r is free. A range that is not held has none.
abbrev pub IsMoveConflict : AddressState → Range → Request → Option Conflict → Type 0
IsMoveConflict state r request answer =
    Unless (Contains state.held r) (answer ≡ None) (IsConflict (releasing r state) request answer)

-- The range whose first held range in the way is the conflict of the request, or the conflict if it does not depend on held ranges.
abbrev pub LooksAt : Range → Request → Result Range (Option Conflict) → Type 0
LooksAt space request (Ok r) =
    (held : List Range) → IsConflict (record { space = space; held = held }) request (with_first (meeting r held))
LooksAt space request (Err answer) = (held : List Range) → IsConflict (record { space = space; held = held }) request answer

-- A request with the policy ExactMatch has no conflict if and only if its start is a place in its window.
unfoldable pub ConflictDecides : AddressState → Request → Option Conflict → Type 0
ConflictDecides state request answer =
    ByPolicy request.policy (Unit {0}) (Unit {0})
    (λ start. (answer ≡ None) ↔ IsPlace request.size request.align (within request.window state) start)
