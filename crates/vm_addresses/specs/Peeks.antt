-- The result of a request without a change.
use Rattle.std.specs.Prelude.{◌≢◌, Result, Ok, Err}
use Rattle.vm_ranges.specs.Range.{Range}
use Rattle.vm_ranges.specs.Request.{Request}
use Rattle.vm_ranges.specs.Address.{AddressState, holding}
use Rattle.vm_ranges.specs.Answer.{Allocates}
use Rattle.vm_ranges.specs.declared.error.Error.{Error}
use Rattle.vm_ranges.specs.declared.error.Error.TheVariants.{OutOfMemory}

-- The state after a request with this result.
abbrev pub state_after : Result Range Error → AddressState → AddressState
state_after (Ok r) old = holding r old
state_after (Err e) old = old

-- The result of `peek`: that of `allocate_constraint`, if its memory does not run out.
unfoldable pub Peeks : AddressState → Request → Result Range Error → Type 0
Peeks state request answer = (answer ≢ Err OutOfMemory) × Allocates state request answer (state_after answer state)
