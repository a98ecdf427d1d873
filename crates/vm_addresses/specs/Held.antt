-- The results of creating a space with some ranges held.
use Rattle.std.specs.Prelude.{
  ◌≡◌,
  ℕ,
  ◌+◌,
  ◌-◌,
  ◌<◌,
  ◌≤◌,
  ◌⊎◌,
  nat_lt,
  nat_eq,
  if◌then◌else◌,
  List,
  [],
  ◌∷◌,
  length,
  Option,
  Some,
  None,
  is_some,
  MatchOption,
  MatchResult,
  Result,
  Ok,
  Err,
}
use Rattle.vm_ranges.specs.Cases.{IfElse}
use Rattle.vm_ranges.specs.Range.{Range, MAX, span, address_count}
use Rattle.vm_leaf.specs.TreeHeights.{TOO_MANY_BLOCKS}
use Rattle.vm_leaf.specs.SpaceBlocks.{blocks_between, blocks_of}
use Rattle.vm_ranges.specs.Address.{AreInOrder, AddressState}
use Rattle.vm_addresses.specs.Queries.{count_of}
use Rattle.vm_ranges.specs.declared.error.Error.{Error}
use Rattle.vm_ranges.specs.declared.error.ListError.{ListError}
use Rattle.vm_ranges.specs.declared.error.Error.TheVariants.{Overflow, ResourceNotAvailable, Underflow, OutOfMemory}

-- The error of a range that must start at lo or later in a space that ends at hi, or None if it can be held. The first of
-- these is true: it starts below lo, starts at MAX, ends past the space, or ends at MAX.
abbrev pub range_fault : ℕ → ℕ → Range → Option Error
range_fault lo hi r =
    if nat_lt r.start lo then Some ResourceNotAvailable
    else if nat_eq r.start MAX then Some Overflow
    else if nat_lt hi r.end then Some ResourceNotAvailable
    else if nat_eq r.end MAX then Some Overflow
    else None

-- The first of two optional errors.
abbrev pub or_else : Option Error → Option Error → Option Error
or_else None e = e
or_else (Some e) f = Some e

-- The error of the first range that cannot be held after the ranges before it, or None.
abbrev pub first_fault : ℕ → ℕ → List Range → Option Error
first_fault lo hi [] = None
first_fault lo hi (r ∷ rs) = or_else (range_fault lo hi r) (first_fault (r.end + 1) hi rs)

-- The index of the first range that cannot be held after the ranges before it, or None. The first range has the index i.
abbrev pub fault_index : ℕ → ℕ → ℕ → List Range → Option ℕ
fault_index i lo hi [] = None
fault_index i lo hi (r ∷ rs) = if is_some (range_fault lo hi r) then Some i else fault_index (i + 1) (r.end + 1) hi rs

-- The result of creating the state with these ranges held.
unfoldable pub MakesHeld : Range → List Range → Result AddressState Error → Type 0
MakesHeld space held answer =
    let state : AddressState = record { space = space; held = held } in
    MatchOption (first_fault space.start space.end held)
    (IfElse (TOO_MANY_BLOCKS ≤ length (blocks_of state))
    (answer ≡ Err Overflow)
    ((answer ≡ Ok state) ⊎ (answer ≡ Err OutOfMemory)))
    (λ fault. answer ≡ Err fault)

-- `makes` is true for the space of `size` addresses that starts at `base`, or `refused` for the error if there is none.
unfoldable pub BySpace : ℕ → ℕ → (Error → Type 0) → (Range → Type 0) → Type 0
BySpace base size refused makes =
    IfElse (size ≡ 0) (refused Underflow) (
    IfElse (MAX < base + size - 1) (refused Overflow) (makes (span base size)))

-- The space of `size` addresses that starts at `base`, or the error.
abbrev pub MakesSpace : ℕ → ℕ → Result Range Error → Type 0
MakesSpace base size answer = BySpace base size (λ e. answer ≡ Err e) (λ space. answer ≡ Ok space)

-- The index is that of the first range that cannot be held in the space of `size` addresses that starts at `base`, or None
-- if there is none.
abbrev pub HasFaultIndex : ℕ → ℕ → List Range → Option ℕ → Type 0
HasFaultIndex base size held index =
    BySpace base size (λ e. index ≡ None) (λ space. index ≡ fault_index 0 space.start space.end held)

-- The result of creating an allocator of `size` addresses that starts at `base`, with these ranges held.
abbrev pub MakesWithHeld : ℕ → ℕ → List Range → Result AddressState Error → Type 0
MakesWithHeld base size held answer = BySpace base size (λ e. answer ≡ Err e) (λ space. MakesHeld space held answer)

-- The ranges can be held in the space, or the error and the index of the first one that cannot.
abbrev pub ChecksHeld : Range → List Range → Result (Unit {0}) ListError → Type 0
ChecksHeld space held answer =
    MatchResult answer
    (λ _. (first_fault space.start space.end held ≡ None)
    × AreInOrder space.start held space.end
    × (fault_index 0 space.start space.end held ≡ None))
    (λ failure. (first_fault space.start space.end held ≡ Some failure.error)
    × (failure.index ≡ fault_index 0 space.start space.end held))

-- The numbers of blocks and of free addresses of the space with these ranges held.
abbrev pub CountsBlocks : Range → List Range → ℕ × ℕ → Type 0
CountsBlocks space held n = (n.0 ≡ length (blocks_between space.start held space.end)) × (n.1 + count_of held ≡ address_count space)
