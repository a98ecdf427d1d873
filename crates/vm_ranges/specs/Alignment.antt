-- Alignments, their multiples, and the results of `align_down` and `align_up`.
use Rattle.std.specs.Prelude.{◌≡◌, ℕ, ◌+◌, ◌-◌, ◌%◌, ◌^◌, ◌<◌, ◌≤◌, Result, Ok, Err}
use Rattle.vm_ranges.specs.Cases.{IfElse, Unless}
use Rattle.vm_ranges.specs.Range.{MAX}
use Rattle.vm_ranges.specs.declared.error.Error.{Error}
use Rattle.vm_ranges.specs.declared.error.Error.TheVariants.{InvalidAlignment, Overflow}

-- The number a is one of the 64 powers of two from 1 to 2 ^ 63.
unfoldable pub IsAlignment : ℕ → Type 0
IsAlignment a = (k : ℕ) × (k < 64) × (a ≡ 2 ^ k)

-- r is the highest multiple of a that is at most x.
unfoldable pub IsHighestMultiple : ℕ → ℕ → ℕ → Type 0
IsHighestMultiple a x r = (r % a ≡ 0) × (r ≤ x) × ((m : ℕ) → m % a ≡ 0 → m ≤ x → m ≤ r)

-- r is the lowest multiple of a that is at least x.
unfoldable pub IsLowestMultiple : ℕ → ℕ → ℕ → Type 0
IsLowestMultiple a x r = (r % a ≡ 0) × (x ≤ r) × ((m : ℕ) → m % a ≡ 0 → x ≤ m → r ≤ m)

-- The result of `align_down` for the address x and the alignment a.
unfoldable pub AlignsDown : ℕ → ℕ → Result ℕ Error → Type 0
AlignsDown x a answer =
    Unless (IsAlignment a) (answer ≡ Err InvalidAlignment)
    ((r : ℕ) × (answer ≡ Ok r) × IsHighestMultiple a x r)

-- The result of `align_up` for the address x and the alignment a. The first condition that is true decides.
unfoldable pub AlignsUp : ℕ → ℕ → Result ℕ Error → Type 0
AlignsUp x a answer =
    IfElse (a ≡ 0) (answer ≡ Err InvalidAlignment) (
    IfElse (MAX < x + a - 1) (answer ≡ Err Overflow) (
    Unless (IsAlignment a) (answer ≡ Err InvalidAlignment)
    ((r : ℕ) × (answer ≡ Ok r) × IsLowestMultiple a x r)))
