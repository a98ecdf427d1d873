-- Laws of the queries of addresses and gaps.
use Rattle.std.specs.Prelude.{◌≡◌, ◌↔◌, ℕ, ◌+◌, ◌<◌, ◌≤◌, ◌⊎◌, Option, ◌-◌, ◌*◌, length}
use Rattle.std.specs.List.{Contains}
use Rattle.vm_ranges.specs.Range.{Range, IsIn, Covers, address_count, IsInNone}
use Rattle.vm_ranges.specs.Address.{AddressState, IsAddressState, IsClear, IsPlace}
use Rattle.vm_addresses.specs.Queries.{gaps_of, longest_of, longest_in, count_of, IsHeldAt, IsGapAt}
use Rattle.vm_ranges.specs.Windows.{within}
use Rattle.vm_addresses.specs.Facts.{IsInOne, AgreesWithLists, AgreesWithGaps, IsGap, ListsOverlaps, IsClearIfNoneMeets, IsInBlocks}

-- Each address of the space is either in exactly one held range or in exactly one gap.
abbrev pub EachAddressIsInOne : Type 0
EachAddressIsInOne =
    (state : AddressState) (x : ℕ) → IsAddressState state → IsIn state.space x →
    (IsInOne state.held x × IsInNone (gaps_of state) x) ⊎ (IsInOne (gaps_of state) x × IsInNone state.held x)

-- The result of `held_at` agrees with the lists of held ranges and gaps.
abbrev pub HeldAtAgrees : Type 0
HeldAtAgrees =
    (state : AddressState) (x : ℕ) (answer : Option Range) →
    IsAddressState state → IsHeldAt state x answer → AgreesWithLists state x answer

-- The result of `gap_at` agrees with the lists of held ranges and gaps.
abbrev pub GapAtAgrees : Type 0
GapAtAgrees =
    (state : AddressState) (x : ℕ) (answer : Option Range) →
    IsAddressState state → IsGapAt state x answer → AgreesWithGaps state x answer

-- The gaps are exactly the longest ranges of clear addresses.
abbrev pub GapsAreLongest : Type 0
GapsAreLongest = (state : AddressState) (g : Range) → IsAddressState state → Contains (gaps_of state) g ↔ IsGap state g

-- The held ranges and the gaps of each valid state are in turn its blocks, which cover the space.
abbrev pub HeldAndGapsAreBlocks : Type 0
HeldAndGapsAreBlocks = (state : AddressState) → IsAddressState state → IsInBlocks state

-- The length of the longest gap is 0 if and only if no address is clear.
abbrev pub LongestIsZero : Type 0
LongestIsZero =
    (state : AddressState) → IsAddressState state →
    (longest_of (gaps_of state) ≡ 0) ↔ ((x : ℕ) → ¬ IsClear state x)

-- There is a place for n addresses at alignment 1 if and only if n is at most the length of the longest gap. In a window, the
-- parts of the gaps in the window count.
abbrev pub LongestFits : Type 0
LongestFits =
    (state : AddressState) (window : Option Range) (n : ℕ) → IsAddressState state → 0 < n →
    ((s : ℕ) × IsPlace n 1 (within window state) s) ↔ (n ≤ longest_in window (gaps_of state))

-- There is a place for n addresses at alignment a if a gap has n + a - 1 addresses or more. In a window, the parts of the
-- gaps in the window count.
abbrev pub LongGapFits : Type 0
LongGapFits =
    (state : AddressState) (window : Option Range) (n a : ℕ) → IsAddressState state → 0 < n → 0 < a →
    n + a - 1 ≤ longest_in window (gaps_of state) → (s : ℕ) × IsPlace n a (within window state) s

-- For k held ranges, there are at most k + 1 times as many clear addresses as addresses of the longest gap.
abbrev pub ClearAreFew : Type 0
ClearAreFew =
    (state : AddressState) → count_of (gaps_of state) ≤ (length state.held + 1) * longest_of (gaps_of state)

-- The clear addresses and the addresses of the held ranges are together as many as those of the space.
abbrev pub CountsAddUp : Type 0
CountsAddUp =
    (state : AddressState) → IsAddressState state →
    count_of (gaps_of state) + count_of state.held ≡ address_count state.space

-- The ranges that meet a window are those that overlap it.
abbrev pub MeetingIsOverlap : Type 0
MeetingIsOverlap =
    (state : AddressState) (window : Range) → IsAddressState state → window.start ≤ window.end → ListsOverlaps state window

-- The ranges that meet a range of the space decide whether its addresses are clear.
abbrev pub ClearIfNoneMeets : Type 0
ClearIfNoneMeets =
    (state : AddressState) (window : Range) →
    IsAddressState state → window.start ≤ window.end → Covers state.space window → IsClearIfNoneMeets state window
