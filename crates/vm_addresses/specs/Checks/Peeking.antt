-- The steps of a search that changes nothing. Only private functions cite these definitions.
use Rattle.std.specs.Prelude.{◌≡◌, ◌≢◌, ℕ, length, Option, Some, None, Result, Err}
use Rattle.vm_ranges.specs.Cases.{IfElse}
use Rattle.vm_ranges.specs.Range.{Range, MAX, span}
use Rattle.vm_ranges.specs.Request.{Request}
use Rattle.vm_ranges.specs.Address.{AddressState, IsPlace}
use Rattle.vm_ranges.specs.Answer.{IsChosen, AllocatesAt}
use Rattle.vm_ranges.specs.Windows.{within}
use Rattle.vm_addresses.specs.Peeks.{state_after}
use Rattle.vm_ranges.specs.declared.error.Error.{Error}
use Rattle.vm_ranges.specs.declared.error.Error.TheVariants.{Overflow, OutOfMemory}

-- The answer is the range at the place that the policy chooses, or None if there is no place in the window.
abbrev pub FindsChosen : AddressState → Request → Option Range → Type 0
FindsChosen state request None = (s : ℕ) → ¬ IsPlace request.size request.align (within request.window state) s
FindsChosen state request (Some q) = (q ≡ span q.start request.size) × IsChosen request state q.start

-- The result for the range r at the chosen place: Overflow if it ends at MAX, otherwise that of an allocation that has memory.
unfoldable pub Settles : AddressState → Range → Result Range Error → Type 0
Settles state r answer =
    (answer ≢ Err OutOfMemory)
    × IfElse (r.end ≡ MAX) (answer ≡ Err Overflow) (AllocatesAt (length state.held) state r answer (state_after answer state))
