-- The number of nodes that a search enters, by the number of gaps that are long enough but have no place.
--
-- Gaps are counted by tests over the blocks of the state. A law of vm_laws shows that each test is exact.
use Rattle.std.specs.Prelude.{◌≡◌, ℕ, ◌+◌, ◌*◌, ◌≤◌, Bool, List, length, Option, Some, None, MatchOption, Result, Err}
use Rattle.std.specs.List.{filter}
use Rattle.vm_ranges.specs.Range.{Range}
use Rattle.vm_leaf.specs.declared.block.Block.{Block}
use Rattle.vm_ranges.specs.Address.{AddressState}
use Rattle.vm_leaf.specs.SpaceBlocks.{blocks_of}
use Rattle.vm_ranges.specs.Request.{Request, ByPolicy}
use Rattle.vm_ranges.specs.declared.error.Error.{Error}
use Rattle.vm_ranges.specs.declared.error.Error.TheVariants.{ResourceNotAvailable}
use Rattle.vm_space.specs.NodeCounts.{is_misaligned, on_part}

-- The number of blocks that pass the test, or whose parts in the window do if there is a window.
abbrev pub passing : Option Range → (Block → Bool) → List Block → ℕ
passing None test bs = length (filter test bs)
passing (Some w) test bs = length (filter (on_part w test) bs)

-- The number of gaps of a state that are long enough for a request, but have no place for it. A window counts the parts of
-- gaps.
unfoldable pub misaligned_gaps : AddressState → Request → ℕ
misaligned_gaps state request = passing request.window (is_misaligned request.size request.align) (blocks_of state)

-- The bound on the nodes that a request enters in a tree of height h with v gaps without a place: at most h nodes for each of
-- these gaps, and the path to the place that is found.
pub record IsGapSearchCount (h v : ℕ) (answer : Result Range Error) (count : ℕ) : Type 0 where
  pub most : count ≤ h * (v + 1)
  pub none : answer ≡ Err ResourceNotAvailable → count ≤ h * v

-- The bound for a search within a window. It can also enter the path to an end of the window.
abbrev pub IsWindowSearchCount : ℕ → ℕ → ℕ → Type 0
IsWindowSearchCount h v count = count ≤ h * (v + 2)

-- The bound for v gaps is true if the policy is FirstMatch or LastMatch.
abbrev pub SearchesAmongGaps : ℕ → ℕ → Request → Result Range Error → ℕ → Type 0
SearchesAmongGaps h v request answer count =
    let by_gaps : Type 0 = MatchOption request.window (IsGapSearchCount h v answer count) (λ window. IsWindowSearchCount h v count) in
    ByPolicy request.policy by_gaps by_gaps (λ start. Unit {0})

-- The bound is true for the number of misaligned gaps.
unfoldable pub SearchesGaps : ℕ → AddressState → Request → Result Range Error → ℕ → Type 0
SearchesGaps h old request answer count = SearchesAmongGaps h (misaligned_gaps old request) request answer count
