-- Laws that follow from the definitions, for one call of an address allocator.
use Rattle.std.specs.Prelude.{◌≡◌, ◌≢◌, ℕ, ◌<◌, ◌≤◌, ◌↔◌, true, List, length, Result, Ok}
use Rattle.std.specs.List.{All, AllPairs, Contains}
use Rattle.vm_ranges.specs.Range.{Range}
use Rattle.vm_ranges.specs.Address.{AddressState, IsAddressState}
use Rattle.vm_leaf.specs.declared.block.Block.{Block}
use Rattle.vm_leaf.specs.Block.{free_length}
use Rattle.vm_leaf.specs.Fit.{HasNoFit}
use Rattle.vm_space.specs.NodeCounts.{is_misaligned}
use Rattle.vm_addresses.specs.Counts.GapSearch.{misaligned_gaps}
use Rattle.vm_ranges.specs.Request.{Request}
use Rattle.vm_ranges.specs.Answer.{Allocates, Frees}
use Rattle.vm_ranges.specs.declared.error.Error.{Error}
use Rattle.vm_addresses.specs.Facts.{AddsRange, RemovesRange, AgreeUnlessMemory, AreDisjoint}

-- A request has one result and one next state, unless memory runs out.
abbrev pub AllocatesOnce : Type 0
AllocatesOnce =
    (old new later : AddressState) (request : Request) (answer other : Result Range Error) →
    Allocates old request answer new → Allocates old request other later →
    AgreeUnlessMemory answer new other later

-- A call of `free` has one result and one next state.
abbrev pub FreesOnce : Type 0
FreesOnce =
    (old new later : AddressState) (r : Range) (answer other : Result (Unit {0}) Error) →
    Frees old r answer new → Frees old r other later → (answer ≡ other) × (new ≡ later)

-- The held ranges of each valid state are disjoint.
abbrev pub HeldAreDisjoint : Type 0
HeldAreDisjoint = (state : AddressState) → IsAddressState state → AreDisjoint state

-- A successful allocation adds exactly its range.
abbrev pub AllocatingAddsRange : Type 0
AllocatingAddsRange =
    (old new : AddressState) (request : Request) (r : Range) →
    IsAddressState old → Allocates old request (Ok r) new → AddsRange old new r

-- Freeing a range removes exactly that range.
abbrev pub FreeingRemovesRange : Type 0
FreeingRemovesRange =
    (old new : AddressState) (r : Range) →
    IsAddressState old → Frees old r (Ok tt) new → RemovesRange old new r

-- Freeing a range right after its allocation succeeds and restores the state.
abbrev pub FreeingUndoes : Type 0
FreeingUndoes =
    (old mid new : AddressState) (request : Request) (r : Range) (answer : Result (Unit {0}) Error) →
    IsAddressState old → Allocates old request (Ok r) mid → Frees mid r answer new → (answer ≡ Ok tt) × (new ≡ old)

-- The test `is_misaligned` is exact: the gap is long enough for n addresses, but has no fit for them.
abbrev pub MisalignedIsExact : Type 0
MisalignedIsExact = (n a : ℕ) (b : Block) → 0 < a → (is_misaligned n a b ≡ true) ↔ ((n ≤ free_length b) × HasNoFit n a b)

-- No gap is misaligned at alignment 1, and in a window no part of a gap.
abbrev pub NoneIsMisalignedAtOne : Type 0
NoneIsMisalignedAtOne =
    (state : AddressState) (request : Request) → 0 < request.size → request.align ≡ 1 → misaligned_gaps state request ≡ 0

-- A list of different held ranges has every held range if and only if its length is the number of held ranges.
abbrev pub CountFindsAll : Type 0
CountFindsAll =
    (state : AddressState) (list : List Range) → IsAddressState state →
    AllPairs (λ r s. r ≢ s) list → All (Contains state.held) list →
    (length list ≡ length state.held) ↔ ((r : Range) → Contains state.held r → Contains list r)
