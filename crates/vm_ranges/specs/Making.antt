-- The results of creating a range, and the offset of an address in it.
use Rattle.std.specs.Prelude.{◌≡◌, ℕ, ◌+◌, ◌-◌, ◌<◌, Option, Some, None, Result, Ok, Err}
use Rattle.vm_ranges.specs.Cases.{IfElse, Unless}
use Rattle.vm_ranges.specs.Range.{Range, MAX, IsRange, IsIn, span}
use Rattle.vm_ranges.specs.declared.error.Error.{Error}
use Rattle.vm_ranges.specs.declared.error.Error.TheVariants.{InvalidRange, InvalidSize, Overflow}

-- The result of `new`: the range from start to end, or InvalidRange if these are not the ends of a range.
abbrev pub MakesRange : ℕ → ℕ → Result Range Error → Type 0
MakesRange start end answer =
    Unless (IsRange start end) (answer ≡ Err (InvalidRange start end))
    (answer ≡ Ok (record { start = start; end = end }))

-- The result of `from_start_len`: InvalidSize if the length n is 0, Overflow if the n addresses that start at s would end
-- past MAX, otherwise the range of these addresses.
abbrev pub MakesSpan : ℕ → ℕ → Result Range Error → Type 0
MakesSpan s n answer =
    IfElse (n ≡ 0) (answer ≡ Err (InvalidSize 0)) (
    IfElse (MAX < s + n - 1) (answer ≡ Err Overflow) (answer ≡ Ok (span s n)))

-- The answer is the number of addresses of the range below x, or None if x is not in the range.
abbrev pub IsOffset : Range → ℕ → Option ℕ → Type 0
IsOffset r x None = ¬ IsIn r x
IsOffset r x (Some offset) = IsIn r x × (r.start + offset ≡ x)
