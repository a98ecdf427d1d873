-- The check of a list of free ranges, and the holes between them.
use Rattle.std.specs.Prelude.{◌≡◌, ◌≢◌, ℕ, ◌+◌, List, [], ◌∷◌, length, None, Result, MatchResult}
use Rattle.vm_ranges.specs.Range.{Range, IsRange}
use Rattle.vm_ranges.specs.declared.error.Error.TheVariants.{ResourceNotAvailable}
use Rattle.vm_ranges.specs.declared.error.ListError.{ListError}
use Rattle.vm_addresses.specs.Holes.{holes_after, last_range_end, wrong_index}

-- The ends of each range are valid.
abbrev pub AreRanges : List Range → Type 0
AreRanges [] = Unit {0}
AreRanges (r ∷ rs) = IsRange r.start r.end × AreRanges rs

-- The ranges after the first one are in order, and these are the last range and the number of holes. Or this is the error of
-- the first range that is not.
abbrev pub ChecksFree : Range → List Range → Result (Range × ℕ) ListError → Type 0
ChecksFree first others answer =
    MatchResult answer
    (λ found. (wrong_index 1 (first.end + 1) others ≡ None)
    × (found.0.end ≡ last_range_end first.end others)
    × (found.1 ≡ length (holes_after (first.end + 1) others))
    × AreRanges others)
    (λ failure. (failure.index ≡ wrong_index 1 (first.end + 1) others) × (failure.index ≢ None)
    × (failure.error ≡ ResourceNotAvailable))
