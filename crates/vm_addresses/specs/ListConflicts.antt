-- Conflicts of lists: why a range of a list cannot be held after the range before it.
use Rattle.std.specs.Prelude.{ℕ, ◌+◌, ◌-◌, nat_lt, nat_eq, if◌then◌else◌, List, Option, Some, None}
use Rattle.std.specs.List.{slice_get}
use Rattle.vm_ranges.specs.Range.{Range, MAX}
use Rattle.vm_ranges.specs.declared.error.Error.{Error}
use Rattle.vm_ranges.specs.declared.error.Error.TheVariants.{Overflow, ResourceNotAvailable}
use Rattle.vm_addresses.specs.Held.{range_fault}
use Rattle.vm_addresses.specs.declared.address_allocator.list_conflicts.ListConflict.{ListConflict}
use Rattle.vm_addresses.specs.declared.address_allocator.list_conflicts.ListConflict.TheVariants.{NotAfter, OutsideSpace, EndsAtMax}

-- The lowest start of a range: one past the range before it, or the first address of the space.
abbrev pub lowest_start : Range → Option Range → ℕ
lowest_start space None = space.start
lowest_start space (Some before) = before.end + 1

-- The conflict of a range that starts below its lowest start.
abbrev pub low_conflict : Range → Option Range → ListConflict
low_conflict space None = OutsideSpace space
low_conflict space (Some before) = NotAfter before

-- The conflict of the range r after the range before it, if there is one. The first condition that is true decides.
abbrev pub range_conflict : Range → Option Range → Range → Option ListConflict
range_conflict space before r =
    if nat_lt r.start (lowest_start space before) then Some (low_conflict space before)
    else if nat_eq r.start MAX then Some EndsAtMax
    else if nat_lt space.end r.end then Some (OutsideSpace space)
    else if nat_eq r.end MAX then Some EndsAtMax
    else None

-- The range before the one with the index i, if there is one.
abbrev pub range_before : List Range → ℕ → Option Range
range_before ranges i = if nat_eq i 0 then None else slice_get ranges (i - 1)

-- The conflict of a range that the list can have.
abbrev pub conflict_of : Range → Option Range → Option Range → Option ListConflict
conflict_of space before None = None
conflict_of space before (Some r) = range_conflict space before r

-- The conflict of the range with the index i, or None if there is no such range.
abbrev pub conflict_at : Range → List Range → ℕ → Option ListConflict
conflict_at space ranges i = conflict_of space (range_before ranges i) (slice_get ranges i)

-- The error of `with_held` for a conflict.
abbrev pub list_error : ListConflict → Error
list_error (NotAfter before) = ResourceNotAvailable
list_error (OutsideSpace space) = ResourceNotAvailable
list_error EndsAtMax = Overflow

-- The error of `with_held` for a range that the list can have after the range before it, or None if it can be held.
abbrev pub fault_of : Range → Option Range → Option Range → Option Error
fault_of space before None = None
fault_of space before (Some r) = range_fault (lowest_start space before) space.end r

-- The same for the range with the index i.
abbrev pub fault_at : Range → List Range → ℕ → Option Error
fault_at space ranges i = fault_of space (range_before ranges i) (slice_get ranges i)
