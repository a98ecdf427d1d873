-- The creation of a space in which given ranges are free. A *hole* is the range of the addresses between two of them.
use Rattle.std.specs.Prelude.{◌≡◌, ℕ, ◌+◌, ◌-◌, nat_lt, if◌then◌else◌, List, [], ◌∷◌, Option, Some, None, MatchOption, Result, Err}
use Rattle.vm_ranges.specs.Cases.{Unless}
use Rattle.vm_ranges.specs.Range.{Range, IsRange}
use Rattle.vm_ranges.specs.Address.{AddressState}
use Rattle.vm_addresses.specs.Held.{MakesHeld}
use Rattle.vm_ranges.specs.declared.error.Error.{Error}
use Rattle.vm_ranges.specs.declared.error.Error.TheVariants.{ResourceNotAvailable, Underflow, InvalidRange}

-- The holes between an address and ranges above it, in order. There is none if the next range starts at the address.
abbrev pub holes_after : ℕ → List Range → List Range
holes_after next [] = []
holes_after next (r ∷ rs) =
    if nat_lt next r.start then record { start = next; end = r.start - 1 } ∷ holes_after (r.end + 1) rs
    else holes_after (r.end + 1) rs

-- The end of the last range, or `end` if there is no range.
abbrev pub last_range_end : ℕ → List Range → ℕ
last_range_end end [] = end
last_range_end end (r ∷ rs) = last_range_end r.end rs

-- The index of the first range that starts below `next`, which is one past the range before it, or None. The first range has
-- the index i.
abbrev pub wrong_index : ℕ → ℕ → List Range → Option ℕ
wrong_index i next [] = None
wrong_index i next (r ∷ rs) = if nat_lt r.start next then Some i else wrong_index (i + 1) (r.end + 1) rs

-- The result of `with_free`. The first condition that is true decides:
-- - Underflow if there is no range.
-- - ResourceNotAvailable if a range does not start after the end of the range before it.
-- - InvalidRange if the space, from the start of the first range to the end of the last one, is none.
-- - Otherwise the space with its holes held, or the error for too many blocks or for memory.
abbrev pub MakesWithFree : List Range → Result AddressState Error → Type 0
MakesWithFree [] answer = answer ≡ Err Underflow
MakesWithFree (r ∷ rs) answer =
    MatchOption (wrong_index 0 0 (r ∷ rs))
    (Unless (IsRange r.start (last_range_end r.end rs)) (answer ≡ Err (InvalidRange r.start (last_range_end r.end rs)))
    (MakesHeld (record { start = r.start; end = last_range_end r.end rs }) (holes_after (r.end + 1) rs) answer))
    (λ index. answer ≡ Err ResourceNotAvailable)
