-- The state of an address allocator, and the places in it.
--
-- - A *space* is a range of addresses.
-- - A range is *held* if it is allocated.
-- - An address of the space is *clear* if it is in no held range.
-- - A *place* is an address at which a request can start.
-- - A *gap* is a longest range of clear addresses.
use Rattle.std.specs.Prelude.{◌≡◌, ℕ, ◌+◌, ◌%◌, ◌<◌, ◌≤◌, ◌⊎◌, List, [], ◌∷◌, if◌then◌else◌, nat_lt, nat_eq, refl}
use Rattle.std.specs.List.{All}
use Rattle.std.specs.Coded.{Coded, code_by, coded×, coded_list}
use Rattle.vm_ranges.specs.Range.{Range, MAX, range_code, IsRange, IsIn}

-- The ranges are in order from lo to hi, do not overlap, and do not contain MAX.
abbrev pub AreInOrder : ℕ → List Range → ℕ → Type 0
AreInOrder lo [] hi = Unit {0}
AreInOrder lo (r ∷ rs) hi =
    (lo ≤ r.start) × (r.start ≤ r.end) × (r.end ≤ hi) × (r.end < MAX) × AreInOrder (r.end + 1) rs hi

-- A space and the ranges held in it, from the lowest to the highest.
pub record AddressState : Type 0 where
  pub space : Range
  pub held : List Range

-- Proof: encodes a state as the pair of its fields.
abbrev pub address_state_code : Coded AddressState
address_state_code =
    code_by (Range × List Range)
    (coded× range_code (coded_list range_code))
    (λ s. (s.space, s.held))
    (λ p. record { space = p.0; held = p.1 })
    (λ _. refl)

-- The address x is in the space, and in no held range.
abbrev pub IsClear : AddressState → ℕ → Type 0
IsClear state x = IsIn state.space x × All (λ r. ¬ IsIn r x) state.held

-- The n addresses that start at s are clear.
abbrev pub AreClear : ℕ → AddressState → ℕ → Type 0
AreClear n state s = (x : ℕ) → s ≤ x → x < s + n → IsClear state x

-- s is a place for n addresses at alignment a: a divides s, and the n addresses that start at s are clear.
unfoldable pub IsPlace : ℕ → ℕ → AddressState → ℕ → Type 0
IsPlace n a state s = (s % a ≡ 0) × AreClear n state s

-- s is the lowest place for n addresses at alignment a.
unfoldable pub IsLowestPlace : ℕ → ℕ → AddressState → ℕ → Type 0
IsLowestPlace n a state s = IsPlace n a state s × ((t : ℕ) → IsPlace n a state t → s ≤ t)

-- s is the highest place for n addresses at alignment a.
unfoldable pub IsHighestPlace : ℕ → ℕ → AddressState → ℕ → Type 0
IsHighestPlace n a state s = IsPlace n a state s × ((t : ℕ) → IsPlace n a state t → t ≤ s)

-- A clear address is right before or right after the range r. Holding r splits its gap.
unfoldable pub SplitsGap : AddressState → Range → Type 0
SplitsGap state r = (x : ℕ) × IsClear state x × ((x + 1 ≡ r.start) ⊎ (x ≡ r.end + 1))

-- The ranges with r inserted before the first range that starts above it.
abbrev pub with_range : Range → List Range → List Range
with_range r [] = r ∷ []
with_range r (h ∷ hs) = if nat_lt r.start h.start then r ∷ h ∷ hs else h ∷ with_range r hs

-- The ranges without the first range that starts like r.
abbrev pub without_range : Range → List Range → List Range
without_range r [] = []
without_range r (h ∷ hs) = if nat_eq r.start h.start then hs else h ∷ without_range r hs

-- The state after the range r is allocated.
abbrev pub holding : Range → AddressState → AddressState
holding r state = record state { held = with_range r state.held }

-- The state after the range r is freed.
abbrev pub releasing : Range → AddressState → AddressState
releasing r state = record state { held = without_range r state.held }

-- The state is valid: the space is a range, and the held ranges are in it, in order, disjoint and below MAX.
pub record IsAddressState (state : AddressState) : Type 0 where
  pub space : IsRange state.space.start state.space.end
  pub in_order : AreInOrder state.space.start state.held state.space.end
