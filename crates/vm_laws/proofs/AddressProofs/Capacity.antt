-- Capacity: the requests that the longest gap has a place for, and the clear addresses that it bounds.
use Rattle.std.proofs.Common.{ℕ, ◌+◌, ◌-◌, ◌*◌, ◌≤◌, Bool, true, false, cond, ltb, List, [], ◌∷◌, length, arith, ◌++◌}
use Rattle.std.proofs.Math.Nat.{mul-le-mul}
use Rattle.vm_ranges.specs.Range.{Range}
use Rattle.vm_ranges.specs.Alignment.{IsLowestMultiple}
use Rattle.vm_ranges.specs.Address.{IsPlace}
use Rattle.vm_leaf.specs.SpaceBlocks.{blocks_between, blocks_of}
use Rattle.vm_addresses.specs.Queries.{free_of, gaps_of, longest_of, count_of}
use Rattle.vm_space.specs.NodeCounts.{multiple_from}
use Rattle.vm_laws.specs.QueryLaws.{LongGapFits, ClearAreFew}
use Rattle.vm_addresses.proofs.Results.HeldAndGaps.{longest_fits}
use Rattle.vm_space.proofs.SearchedBlocks.{lowest_from}
use Rattle.vm_ranges.specs.declared.state.NodeState.TheVariants.{Free, Allocated}
use Rattle.vm_leaf.specs.declared.block.Block.{Block}

-- Among n + a - 1 clear addresses, n start at a multiple of a.
pub long_gap_fits : LongGapFits
unfolding IsPlace IsLowestMultiple
long_gap_fits state window n a valid some aligned long =
    let wide = (longest_fits state window (n + a - 1) valid (omega arith)).1 long in
    let lowest = lowest_from a wide.0 aligned in
    (multiple_from a wide.0, (lowest.0, λ x l m. wide.1.1 x (omega (arith, lowest.1, l)) (omega (arith, m))))

-- ---- The number of clear addresses
-- A gap, or none, and a held range in front of a list.
gap_and_rest : (t : Bool) (gap r : Range) (bs : List Block) (n : ℕ) → length (free_of bs) ≤ n →
    length (free_of (cond t (record { key = gap; state = Free } ∷ []) [] ++ record { key = r; state = Allocated } ∷ bs)) ≤ n + 1
gap_and_rest true gap r bs n l = omega (arith, l)
gap_and_rest false gap r bs n l = omega (arith, l)

few_gaps : (lo hi : ℕ) (rs : List Range) → length (free_of (blocks_between lo rs hi)) ≤ length rs + 1
few_gaps lo hi [] =
    elim (ltb lo (hi + 1)) as (λ v. length
    (free_of (cond v (record { key = record { start = lo; end = hi + 1 - 1 }; state = Free } ∷ []) [])) ≤ 1) [
      | true ↦ omega arith
      | false ↦ omega arith
    ]
few_gaps lo hi (r ∷ rs) =
    let rest = blocks_between (r.end + 1) rs hi in
    let more = gap_and_rest (ltb lo r.start) (record { start = lo; end = r.start - 1 }) r rest (length rs + 1)
    (few_gaps (r.end + 1) hi rs) in
    omega (arith, more)

each_at_most : (rs : List Range) → count_of rs ≤ length rs * longest_of rs
each_at_most [] = omega arith
each_at_most (r ∷ rs) =
    let rest : length rs * longest_of rs ≤ length rs * longest_of (r ∷ rs) = mul-le-mul (omega arith) (omega arith) in
    omega (arith, rest, each_at_most rs)

pub clear_are_few : ClearAreFew
unfolding blocks_of
clear_are_few state =
    let longest = longest_of (gaps_of state) in
    let more : length (gaps_of state) * longest
    ≤ (length state.held + 1) * longest = mul-le-mul (few_gaps state.space.start state.space.end state.held) (omega arith) in
    omega (arith, more, each_at_most (gaps_of state))
