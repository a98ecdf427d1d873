-- The results of calls with lists.
use Rattle.std.specs.Prelude.{Result, Ok, Err}
use Rattle.vm_ranges.specs.declared.error.Error.{Error}
use Rattle.vm_ranges.specs.declared.error.ListError.{ListError}

-- The result with its error alone, without the index.
abbrev pub by_error : {X : Type 0} → Result X ListError → Result X Error
by_error (Ok x) = Ok x
by_error (Err failure) = Err failure.error
