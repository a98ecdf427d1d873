-- Windows: ranges of addresses in which the range of a request must lie.
--
-- A request sees the state with its space cut to its window. So the definitions of places are those of any state.
use Rattle.std.specs.Prelude.{max, min, Option, Some, None}
use Rattle.vm_ranges.specs.Range.{Range}
use Rattle.vm_ranges.specs.Address.{AddressState}

-- The addresses that are in both ranges. If there is none, the start is past the end.
abbrev pub common : Range → Range → Range
common r s = record { start = max r.start s.start; end = min r.end s.end }

-- The part of a range that lies in the window, or the whole range if there is no window.
abbrev pub part_in : Option Range → Range → Range
part_in None r = r
part_in (Some window) r = common window r

-- The state with its space cut to the window. The same ranges are held: one that is only partly in the window is still
-- known as held. If the window and the space share no address, the space that results starts past its end. Such a space is
-- impossible elsewhere, and no address is in it.
abbrev pub within : Option Range → AddressState → AddressState
within window state = record state { space = part_in window state.space }

-- The addresses that a request searches: its window, or the whole space if it has none.
abbrev pub window_in : Option Range → Range → Range
window_in None space = space
window_in (Some window) space = window
