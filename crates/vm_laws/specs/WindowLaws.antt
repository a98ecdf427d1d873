-- Laws of requests with a window.
use Rattle.std.specs.Prelude.{◌≤◌, ◌↔◌, Option, Result, Ok}
use Rattle.vm_ranges.specs.Range.{Range, Covers}
use Rattle.vm_ranges.specs.Request.{Request}
use Rattle.vm_ranges.specs.Address.{AddressState, IsAddressState}
use Rattle.vm_ranges.specs.Answer.{Allocates}
use Rattle.vm_ranges.specs.declared.error.Error.{Error}
use Rattle.vm_addresses.specs.declared.address_allocator.conflicts.Conflict.{Conflict}
use Rattle.vm_addresses.specs.Conflicts.{IsConflict}
use Rattle.vm_addresses.specs.Facts.{in_window, anywhere}

-- An allocated range lies in the window of its request.
abbrev pub LiesInWindow : Type 0
LiesInWindow =
    (old new : AddressState) (request : Request) (window r : Range) →
    Allocates old (in_window window request) (Ok r) new → Covers window r

-- A window that contains the space changes no result.
abbrev pub WholeWindowIsNone : Type 0
WholeWindowIsNone =
    (old new : AddressState) (request : Request) (window : Range) (answer : Result Range Error) →
    window.start ≤ old.space.start → old.space.end ≤ window.end →
    Allocates old (in_window window request) answer new ↔ Allocates old (anywhere request) answer new

-- A window that contains the space changes no conflict.
abbrev pub WholeWindowKeepsConflicts : Type 0
WholeWindowKeepsConflicts =
    (state : AddressState) (request : Request) (window : Range) (answer : Option Conflict) → IsAddressState state →
    window.start ≤ state.space.start → state.space.end ≤ window.end →
    IsConflict state (in_window window request) answer ↔ IsConflict state (anywhere request) answer

-- If the range that a request gets without a window lies in the window, then it is the one that it gets with the window.
abbrev pub KeptInWindow : Type 0
KeptInWindow =
    (old new : AddressState) (request : Request) (window r : Range) →
    Allocates old (anywhere request) (Ok r) new → Covers window r → Allocates old (in_window window request) (Ok r) new
