-- The result of cloning.
use Rattle.std.specs.Prelude.{◌≡◌, ◌⊎◌, Result, Ok, Err}
use Rattle.vm_ranges.specs.declared.error.Error.{Error}
use Rattle.vm_ranges.specs.declared.error.Error.TheVariants.{OutOfMemory}

-- The result of cloning is the original state, or OutOfMemory.
abbrev pub Clones : {X : Type 0} → X → Result X Error → Type 0
Clones original answer = (answer ≡ Ok original) ⊎ (answer ≡ Err OutOfMemory)
