-- The counts of a tree after the allocation for a request.
use Rattle.std.proofs.Common.{◌≡◌, ℕ, ◌+◌, ◌-◌, ◌^◌, ◌<◌, ◌≤◌, ◌⊎◌, true, false, Bool, ◌∷◌, ◌++◌, length, refl, sym, ap, ◌∙◌, subst, arith, inl, inr, ⊎_elim, Result, Ok, Err, length-append}
use Rattle.std.proofs.lemmas.Bool.{cases_lt, le-ltb}
use Rattle.vm_ranges.specs.Cases.{IsTestOf}
use Rattle.vm_ranges.specs.Range.{Range, MAX, address_count}
use Rattle.vm_ranges.specs.Request.{Request, IsRequest}
use Rattle.vm_ranges.specs.declared.error.Error.{Error}
use Rattle.vm_leaf.specs.Block.{free_block}
use Rattle.vm_leaf.specs.Blocks.{parts}
use Rattle.vm_space.specs.Allocation.{range_at}
use Rattle.vm_space.specs.Shape.{Shape, blocks, height_of}
use Rattle.vm_space.specs.declared.search.Taken.{Taken}
use Rattle.vm_ranges.specs.Address.{AddressState, IsAddressState, holding}
use Rattle.vm_ranges.specs.Answer.{SPLIT_LIMIT_MIN_HELD, Grants}
use Rattle.vm_addresses.specs.Tree.Allocation.{taken_range, Takes, IsAllocation}
use Rattle.vm_addresses.specs.Tree.CountedTrees.{IsCountedTree}
use Rattle.vm_leaf.specs.SpaceBlocks.{TilesSpace, IsBlocksOf, held_of, blocks_state}
use Rattle.vm_addresses.specs.Allocator.{space_of, state_of, IsSpaceTree}
use Rattle.vm_leaf.proofs.Spaces.OneList.{few_blocks}
use Rattle.vm_addresses.proofs.Placing.Places.{taken_from}
use Rattle.vm_addresses.proofs.Placing.TakenRanges.{as_blocks, blocks_split}
use Rattle.vm_addresses.proofs.Trees.CountedTrees.{TakesOne, length_with, taken_counted, taken_fits, gaps_left, gaps_fit}
use Rattle.vm_addresses.proofs.Trees.Spaces.{state_of_tree}
use Rattle.vm_addresses.specs.Counts.GapSearch.{SearchesGaps}
use Rattle.vm_addresses.specs.Counts.Steps.{IsAllocationCount, IsGrantCount}
use Rattle.vm_addresses.proofs.Counts.Allocating.{valid_count}

-- ---- The number of parts
one_part : (k r : Range) → r.start ≤ k.start → k.end ≤ r.end → length (parts k r) ≡ 1
one_part k r p q = rw (le-ltb k.start r.start p, le-ltb r.end k.end q) refl

not_split : (k r : Range) → ((k.start < r.start) ⊎ (r.end < k.end) → ⊥) → length (parts k r) ≡ 1
not_split k r n =
    one_part k r
    (⊎_elim (λ (l : k.start < r.start). absurd (n (inl l))) (λ (l : r.start ≤ k.start). l) (cases_lt k.start r.start))
    (⊎_elim (λ (l : r.end < k.end). absurd (n (inr l))) (λ (l : k.end ≤ r.end). l) (cases_lt r.end k.end))

-- ---- A range that was taken
module _ (s m : Shape) (can_split : Bool) (n : ℕ) (taken : Taken) (h : IsSpaceTree s)
    (few : can_split ≡ true → length (held_of (blocks s)) ≤ SPLIT_LIMIT_MIN_HELD) (z : 0 < n)
    (t : Takes can_split n (blocks s) (blocks m) taken) where
  abbrev range : Range
  range = range_at t.search t.range.place

  is_range : range ≡ taken.range
  is_range = sym t.range.at.range

  holds_range : IsBlocksOf (holding range (state_of s)) (blocks m)
  unfolding TilesSpace
  holds_range =
      let sp = space_of (blocks s) in
      let from = taken_from sp (blocks s) h.tiling.tiles t.search (omega (arith, t.size, z)) t.range.place t.range.cut t.range.in_gap in
      let k = blocks_split (state_of s) (blocks s) t.range.place.lower t.range.place.upper (free_block t.range.place.key) range
      (as_blocks sp (blocks s) h.tiling.tiles) t.range.cut refl from in
      subst (IsBlocksOf (holding range (state_of s))) (sym t.range.at.blocks) k

  longer : length (blocks m) ≡ length (blocks s) + taken.added
  longer =
      let place = t.range.place in
      let old = ap length t.range.cut ∙ length-append place.lower (free_block place.key ∷ place.upper) in
      let new = ap length t.range.at.blocks ∙ length-append place.lower (parts place.key range ++ place.upper) in
      omega (arith, old, new, length-append (parts place.key range) place.upper, t.range.at.added)

  one_held : length (held_of (blocks m)) ≡ length (held_of (blocks s)) + 1
  one_held = ap length holds_range.held ∙ length_with range (held_of (blocks s))

  few_split : (c : Bool) → can_split ≡ c → length (blocks m) < 2 ^ 49
  few_split true e =
      let k = few e in
      let b = few_blocks (holding range (state_of s)) (blocks m) holds_range in
      let l = length_with range (held_of (blocks s)) in
      omega arith
  few_split false e =
      let none : length (parts t.range.place.key range)
      ≡ 1 = not_split t.range.place.key range (λ k. absurd (cc (t.range.at.low k, t.split, e))) in
      omega (arith, longer, none, t.range.at.added, h.few)

  pub takes_one : TakesOne s m taken.range taken.added
  takes_one = record {
    is = subst (λ (r : Range). IsBlocksOf (holding r (state_of s)) (blocks m)) is_range holds_range;
    below = subst (λ (r : Range). r.end < MAX) is_range t.range.at.below;
    more = longer;
    few = few_split can_split refl;
  }

-- ---- The result of the call
-- The clauses of the contract on a result.
pub record IsAnswered (s m : Shape) (can_split : Bool) (request : Request) (answer : Result Range Error) (count : ℕ) : Type 0 where
  pub grants : (counted : ℕ) → IsTestOf can_split (counted < SPLIT_LIMIT_MIN_HELD) → Grants counted (state_of s) request answer (state_of m)
  pub steps : IsAllocationCount (height_of s) (state_of s) request answer count
  pub search : SearchesGaps (height_of s) (state_of s) request answer count

module _ (s m : Shape) (space : Range) (held gaps clear : ℕ) (can_split : Bool) (request : Request) (count : ℕ)
    (h : IsCountedTree s space held gaps clear) where
  state_is : blocks_state space (blocks s) ≡ state_of s
  state_is = ap (λ (v : Range). blocks_state v (blocks s)) h.is_space

  -- The state of the space is that of the tree, so facts of one are facts of the other.
  module _ (answer : Result Taken Error) (a : IsAllocation request space can_split s m answer count) where
    grants_if : (counted : ℕ) → IsTestOf can_split (counted < SPLIT_LIMIT_MIN_HELD) → state_of m ≡ blocks_state space (blocks m) →
        Grants counted (state_of s) request (taken_range answer) (state_of m)
    grants_if counted few e =
        let g = subst (λ (v : AddressState). Grants counted v request (taken_range answer) (blocks_state space (blocks m))) state_is
        (a.granted counted few) in
        subst (λ (v : AddressState). Grants counted (state_of s) request (taken_range answer) v) (sym e) g

    pub answered : IsRequest request → state_of m ≡ blocks_state space (blocks m) →
        IsAnswered s m can_split request (taken_range answer) count
    answered v e = record {
      grants = λ counted few. grants_if counted few e;
      steps = valid_count (height_of s) (state_of s) request (taken_range answer) count v
          (subst (λ (v : AddressState). IsGrantCount (height_of s) v request (taken_range answer) count) state_is a.steps);
      search = subst (λ (v : AddressState). SearchesGaps (height_of s) v request (taken_range answer) count) state_is a.search;
    }

  -- ---- An error
  module _ (e : Error) (a : IsAllocation request space can_split s m (Err e) count) where
    pub refused_answer : IsRequest request → IsAnswered s m can_split request (Err e) count
    refused_answer v = answered (Err e) a v (rw a.unchanged (sym state_is))

    pub refused_state : IsAddressState (state_of m)
    refused_state = rw a.unchanged (state_of_tree s h.tree)

  -- ---- A range
  module _ (taken : Taken) (few : can_split ≡ true → length (held_of (blocks s)) ≤ SPLIT_LIMIT_MIN_HELD) (z : 0 < request.size)
      (a : IsAllocation request space can_split s m (Ok taken) count) where
    one : TakesOne s m taken.range taken.added
    one = takes_one s m can_split request.size taken h.tree few z a.taken

    length_is : request.size ≡ address_count taken.range
    length_is = let e = a.taken.range.at.range in rw e (omega (arith, z, a.taken.size))

    pub taken_new : (gap clears : ℕ) → gap ≡ taken.added → clears ≡ request.size →
        IsCountedTree m space (held + 1) (gaps + gap - 1) (clear - clears)
    taken_new gap clears e f = rw e (taken_counted s m space taken.range held gaps clear taken.added h one clears (f ∙ length_is))

    pub taken_gaps : (gap : ℕ) → gap ≡ taken.added → (1 ≤ gaps + gap) × (gaps + gap < 2 ^ 50)
    taken_gaps gap e =
        let new = taken_new gap request.size e refl in
        let some = gaps_left s m space taken.range held gaps clear taken.added h one in
        (omega (arith, some), omega (arith, some, gaps_fit m space (held + 1) (gaps + gap - 1) (clear - request.size) new))

    pub taken_clear : (size : ℕ) → size ≡ request.size → size ≤ clear
    taken_clear size e = omega (arith, length_is, taken_fits s m space taken.range held gaps clear taken.added h one)

    pub granted_state : IsAddressState (state_of m)
    granted_state = state_of_tree m (taken_new taken.added request.size refl refl).tree

    pub granted_answer : IsRequest request → IsAnswered s m can_split request (Ok taken.range) count
    granted_answer v = answered (Ok taken) a v
        (ap (λ (v : Range). blocks_state v (blocks m)) (sym (taken_new taken.added request.size refl refl).is_space))
