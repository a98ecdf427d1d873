-- From the bounds on the nodes of a search to those by the gaps of the state without a place.
use Rattle.std.proofs.Common.{◌≡◌, ℕ, ◌+◌, ◌*◌, ◌≤◌, Bool, true, false, cond, leb, List, [], ◌∷◌, length, refl, sym, ap, ◌∙◌, subst, arith, Option, Some, None, Result, Err}
use Rattle.std.specs.Prelude.{◌&&◌}
use Rattle.std.specs.List.{list_any, filter}
use Rattle.std.proofs.lemmas.Bool.{le-leb}
use Rattle.vm_ranges.specs.Range.{Range}
use Rattle.vm_ranges.specs.Request.{Request}
use Rattle.vm_ranges.specs.declared.error.Error.{Error}
use Rattle.vm_ranges.specs.declared.error.Error.TheVariants.{ResourceNotAvailable}
use Rattle.vm_ranges.specs.declared.constraint.AllocPolicy.{AllocPolicy}
use Rattle.vm_ranges.specs.declared.constraint.AllocPolicy.TheVariants.{FirstMatch, LastMatch, ExactMatch}
use Rattle.vm_ranges.specs.declared.state.NodeState.{NodeState}
use Rattle.vm_ranges.specs.declared.state.NodeState.TheVariants.{Allocated}
use Rattle.vm_ranges.proofs.RangeCalls.{same_range}
use Rattle.vm_leaf.specs.declared.block.Block.{Block}
use Rattle.vm_leaf.specs.Blocks.{Tiles}
use Rattle.vm_leaf.specs.Windows.{cut_to}
use Rattle.vm_ranges.specs.Windows.{common, window_in}
use Rattle.vm_space.specs.NodeCounts.{has_fit_in, is_misaligned, on_part, parts_passing, gaps_without_place, IsWholeWindow, IsSearchCount}
use Rattle.vm_space.specs.Shape.{Shape, blocks, height_of, node_count}
use Rattle.std.proofs.Math.Nat.{mul-le-mul}
use Rattle.vm_ranges.specs.Address.{AddressState}
use Rattle.vm_addresses.specs.Counts.GapSearch.{misaligned_gaps, passing, SearchesAmongGaps, SearchesGaps}
use Rattle.vm_leaf.specs.SpaceBlocks.{blocks_state, TilesSpace}
use Rattle.vm_leaf.proofs.Spaces.Tilings.{tiling_blocks}
use Rattle.vm_addresses.proofs.Counts.Allocating.{invalid_count}
use Rattle.vm_addresses.proofs.Results.Requests.{request_in, allocates_refused}
use Rattle.vm_addresses.proofs.Trees.Ends.{whole_window}

-- ---- A window with all of the space does not cut its blocks
whole_part : (sp : Range) (test : Block → Bool) (b : Block) → sp.start ≤ b.key.start → b.key.start ≤ b.key.end → b.key.end ≤ sp.end →
    on_part sp test b ≡ test b
whole_part sp test b from some upto =
    let key : common sp b.key ≡ b.key = same_range (common sp b.key) b.key (omega arith) (omega arith) in
    let part : cut_to sp b ≡ b = ap (λ (k : Range). record { key = k; state = b.state }) key in
    ap (λ (v : Block). leb v.key.start v.key.end && test v) part ∙ rw (le-leb b.key.start b.key.end some) refl

counted_with : (test other : Block → Bool) (b : Block) (bs : List Block) → test b ≡ other b →
    length (filter test bs) ≡ length (filter other bs) → length (filter test (b ∷ bs)) ≡ length (filter other (b ∷ bs))
counted_with test other b bs e rest = rw e
    (elim (other b) as (λ v. length (cond v (b ∷ filter test bs) (filter test bs)) ≡ length
    (cond v (b ∷ filter other bs) (filter other bs))) [ true ↦ omega (arith, rest) | false ↦ rest ])

whole_parts : (sp : Range) (test : Block → Bool) (p : NodeState) (lo hi : ℕ) (bs : List Block) → sp.start ≤ lo → hi ≤ sp.end →
    Tiles p lo bs hi → length (filter (on_part sp test) bs) ≡ length (filter test bs)
whole_parts sp test p lo hi [] l m t = refl
whole_parts sp test p lo hi (b ∷ bs) l m t =
    counted_with (on_part sp test) test b bs
    (whole_part sp test b (omega (arith, t.0)) (omega (arith, t.0, t.1)) (omega (arith, ends_by b.state (b.key.end + 1) hi bs t.3)))
    (whole_parts sp test b.state (b.key.end + 1) hi bs (omega (arith, t.0, t.1)) m t.3)
  where
    ends_by : (q : NodeState) (lo hi : ℕ) (bs : List Block) → Tiles q lo bs hi → lo ≤ hi + 1
    ends_by q lo hi [] t = omega arith
    ends_by q lo hi (b ∷ bs) t = let h = ends_by b.state (b.key.end + 1) hi bs t.3 in omega (arith, t.0, t.1)

passing_is : (w : Option Range) (sp : Range) (test : Block → Bool) (bs : List Block) → TilesSpace sp bs →
    parts_passing (window_in w sp) test bs ≡ passing w test bs
unfolding TilesSpace
passing_is None sp test bs t = whole_parts sp test Allocated sp.start sp.end bs (omega arith) (omega arith) t
passing_is (Some w) sp test bs t = refl

-- ---- The numbers of the gaps of the state
module _ (sp : Range) (bs : List Block) (tiles : TilesSpace sp bs) (request : Request) where
  misaligned_are : parts_passing (window_in request.window sp) (is_misaligned request.size request.align) bs
      ≡ misaligned_gaps (blocks_state sp bs) request
  unfolding misaligned_gaps
  misaligned_are = passing_is request.window sp (is_misaligned request.size request.align) bs tiles
      ∙ ap (passing request.window (is_misaligned request.size request.align)) (sym (tiling_blocks sp bs tiles))

-- ---- The bounds
-- The bounds on a search, for v gaps without a place.
record IsGapCount (w : Range) (n a v : ℕ) (s : Shape) (count : ℕ) : Type 0 where
  none : IsWholeWindow w (blocks s) → list_any (has_fit_in w n a) (blocks s) ≡ false → count ≤ height_of s * v
  whole : IsWholeWindow w (blocks s) → count ≤ height_of s * (v + 1)
  most : count ≤ height_of s * (v + 2)

by_misaligned : (w : Range) (n a : ℕ) (s : Shape) (count : ℕ) → IsSearchCount w n a (height_of s) (node_count s) (blocks s) count
    → IsGapCount w n a (parts_passing w (is_misaligned n a) (blocks s)) s count
by_misaligned w n a s count b =
    let h = height_of s in
    let v = parts_passing w (is_misaligned n a) (blocks s) in
    let g = gaps_without_place w n a (blocks s) in
    let l : g ≤ v = omega arith in
    record {
      none = λ x y. let k : h * g ≤ h * v = mul-le-mul (omega arith) l in omega (arith, b.none x y, k);
      whole = λ x. let k : h * (g + 1) ≤ h * (v + 1) = mul-le-mul (omega arith) (omega (arith, l)) in omega (arith, b.whole x, k);
      most = let k : h * (g + 2) ≤ h * (v + 2) = mul-le-mul (omega arith) (omega (arith, l)) in omega (arith, b.most, k);
    }

among : (policy : AllocPolicy) (w : Option Range) (sp : Range) (n a v : ℕ) (s : Shape) (answer : Result Range Error) (count : ℕ) →
    TilesSpace sp (blocks s) → sp.start ≤ sp.end
    → IsGapCount (window_in w sp) n a v s count →
    (answer ≡ Err ResourceNotAvailable → list_any (has_fit_in (window_in w sp) n a) (blocks s) ≡ false) →
    SearchesAmongGaps (height_of s) v (request_in w n a policy) answer count
among FirstMatch None sp n a v s answer count t l b none = let whole = whole_window sp (blocks s) t l in record
    { most = b.whole whole; none = λ e. b.none whole (none e) }
among LastMatch None sp n a v s answer count t l b none = let whole = whole_window sp (blocks s) t l in record
    { most = b.whole whole; none = λ e. b.none whole (none e) }
among (ExactMatch x) None sp n a v s answer count t l b none = tt
among FirstMatch (Some w) sp n a v s answer count t l b none = b.most
among LastMatch (Some w) sp n a v s answer count t l b none = b.most
among (ExactMatch x) (Some w) sp n a v s answer count t l b none = tt

pub searches : (request : Request) (sp : Range) (s : Shape) (answer : Result Range Error) (count : ℕ) → TilesSpace sp (blocks s) →
    sp.start ≤ sp.end
    → IsSearchCount (window_in request.window sp) request.size request.align (height_of s) (node_count s) (blocks s) count
    → (answer ≡ Err ResourceNotAvailable →
    list_any (has_fit_in (window_in request.window sp) request.size request.align) (blocks s) ≡ false) →
    SearchesGaps (height_of s) (blocks_state sp (blocks s)) request answer count
unfolding SearchesGaps
searches request sp s answer count t l b none =
    subst (λ (v : ℕ). SearchesAmongGaps (height_of s) v request answer count) (misaligned_are sp (blocks s) t request)
    (among request.policy request.window sp request.size request.align _ s answer count t l (by_misaligned _ _ _ s count b) none)

-- An ExactMatch request searches no gap.
pub exact_searches : (request : Request) (t h : ℕ) (old : AddressState) (answer : Result Range Error) (count : ℕ) →
    request.policy ≡ ExactMatch t → SearchesGaps h old request answer count
unfolding SearchesGaps
exact_searches request t h old answer count e = by_window request.window (misaligned_gaps old request)
  where
    by_window : (w : Option Range) (v : ℕ) → SearchesAmongGaps h v request answer count
    by_window w v = rw e tt

-- ---- Requests that can be invalid
none_searched : (h v : ℕ) (policy : AllocPolicy) (w : Option Range) (n a : ℕ) (e : Error) →
    SearchesAmongGaps h v (request_in w n a policy) (Err e) 0
none_searched h v FirstMatch None n a e = record { most = omega arith; none = λ k. omega arith }
none_searched h v LastMatch None n a e = record { most = omega arith; none = λ k. omega arith }
none_searched h v (ExactMatch t) None n a e = tt
none_searched h v FirstMatch (Some w) n a e = omega arith
none_searched h v LastMatch (Some w) n a e = omega arith
none_searched h v (ExactMatch t) (Some w) n a e = tt

pub invalid_search : (h : ℕ) (old : AddressState) (request : Request) (e : Error) → SearchesGaps h old request (Err e) 0
unfolding SearchesGaps
invalid_search h old request e = none_searched h (misaligned_gaps old request) request.policy request.window request.size request.align e

pub ruleset refused = (allocates_refused, invalid_count, invalid_search)
