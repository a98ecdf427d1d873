-- A search that finds no place below a node passes over a gap without a place, or over a block beside an end of the window.
use Rattle.std.proofs.Common.{
  ◌≡◌,
  ℕ,
  ◌+◌,
  ◌<◌,
  ◌≤◌,
  Bool,
  true,
  false,
  cond,
  List,
  [],
  ◌∷◌,
  ◌++◌,
  length,
  refl,
  sym,
  ap,
  ◌∙◌,
  arith,
  ⊎_elim,
}
use Rattle.std.specs.List.{list_any, filter}
use Rattle.std.proofs.lemmas.List.{length-append}
use Rattle.std.proofs.lemmas.List.Elements.{filter-append}
use Rattle.std.proofs.lemmas.Bool.{or_parts, and_parts, leb-true, le-leb, lt-ltb, cases_lt}
use Rattle.vm_ranges.specs.Range.{Range}
use Rattle.vm_ranges.proofs.Power.{alignment_pos}
use Rattle.vm_ranges.proofs.RangeCalls.{same_range}
use Rattle.vm_ranges.specs.declared.state.NodeState.{NodeState}
use Rattle.vm_ranges.specs.declared.state.NodeState.TheVariants.{Allocated}
use Rattle.vm_leaf.specs.declared.block.Block.{Block}
use Rattle.vm_leaf.specs.Block.{free_length}
use Rattle.vm_leaf.specs.Blocks.{Tiles, IsRun, longest_gap}
use Rattle.vm_ranges.specs.Windows.{common}
use Rattle.vm_leaf.specs.Windows.{cut_to}
use Rattle.vm_space.specs.NodeCounts.{
  has_aligned,
  has_fit,
  has_fit_in,
  may_fit_in,
  is_misaligned,
  is_too_short,
  lacks_place,
  on_part,
  passing,
  parts_passing,
  holds_before,
  holds_after,
  weight,
}
use Rattle.vm_space.specs.declared.search.Search.{Search}
use Rattle.vm_space.specs.Allocation.{window_of, IsSearch, HasNoPlace}
use Rattle.vm_space.specs.Closest.{weight_in, Reaches, may_fit}
use Rattle.vm_space.proofs.SearchedBlocks.{none_found, start_of_run, end_of_run}

-- The blocks of two lists that pass a test are those of each list.
pub among_append : (q : Block → Bool) (xs ys : List Block) → passing q (xs ++ ys) ≡ passing q xs + passing q ys
among_append q xs ys = ap length (filter-append q xs ys) ∙ length-append (filter q xs) (filter q ys)

pub weight-append : (k : Bool) (s : Search) (xs ys : List Block) → weight_in k s (xs ++ ys) ≡ weight_in k s xs + weight_in k s ys
unfolding weight
weight-append k s xs ys =
    omega (
      arith,
      among_append (on_part (window_of s) (lacks_place k s.size s.alignment)) xs ys,
      among_append (holds_before (window_of s)) xs ys,
      among_append (holds_after (window_of s)) xs ys,
    )

-- ---- Gaps without a place
-- If the longest gap is long enough and nothing fits, a gap is misaligned.
misaligned_in_long : (n a : ℕ) (bs : List Block) → 0 < n → n ≤ longest_gap bs → list_any (has_fit n a) bs ≡ false →
    1 ≤ passing (is_misaligned n a) bs
unfolding is_misaligned
misaligned_in_long n a [] z p e = absurd (omega arith)
misaligned_in_long n a (b ∷ bs) z p e =
    let none = or_parts (has_fit n a b) (list_any (has_fit n a) bs) e in
    let split = among_append (is_misaligned n a) (b ∷ []) bs in
    ⊎_elim
    (λ (k : free_length b < n). omega (arith, split, misaligned_in_long n a bs z (omega arith) none.1))
    (λ (k : n ≤ free_length b).
    let one : passing (is_misaligned n a) (b ∷ []) ≡ 1 = rw (le-leb n (free_length b) k, none.0) refl in omega (arith, split))
    (cases_lt (free_length b) n)

-- If a gap is aligned and nothing fits, a gap is too short.
too_short_in_aligned : (n a : ℕ) (bs : List Block) → list_any (has_aligned a) bs ≡ true → list_any (has_fit n a) bs ≡ false →
    1 ≤ passing (is_too_short n a) bs
unfolding is_too_short
too_short_in_aligned n a [] p e = absurd (cc p)
too_short_in_aligned n a (b ∷ bs) p e =
    let none = or_parts (has_fit n a b) (list_any (has_fit n a) bs) e in
    let split = among_append (is_too_short n a) (b ∷ []) bs in
    elim (has_aligned a b) as (λ v. has_aligned a b ≡ v → 1 ≤ passing (is_too_short n a) (b ∷ bs)) [
      | true ↦ λ f. let one : passing (is_too_short n a) (b ∷ []) ≡ 1 = rw (f, none.0) refl in omega (arith, split)
      | false ↦ λ f. omega (arith, split, too_short_in_aligned n a bs (rw f at p) none.1)
    ] refl

-- Blocks that may have a fit but have none have such a gap, by either test.
in_vain : (k : Bool) (n a : ℕ) (bs : List Block) → 0 < n → may_fit_in n a bs ≡ true → list_any (has_fit n a) bs ≡ false →
    1 ≤ passing (lacks_place k n a) bs
unfolding may_fit_in
in_vain true n a bs z m e = misaligned_in_long n a bs z (leb-true _ _ (and_parts _ (list_any (has_aligned a) bs) m).0) e
in_vain false n a bs z m e = too_short_in_aligned n a bs (and_parts _ (list_any (has_aligned a) bs) m).1 e

module _ (w : Range) (n a : ℕ) where
  -- ---- Blocks that lie in the window are their own parts
  same_part : (b : Block) → w.start ≤ b.key.start → b.key.end ≤ w.end → cut_to w b ≡ b
  same_part b p u = ap (λ (v : Range). record b { key = v }) (same_range (common w b.key) b.key (omega (arith, p)) (omega (arith, u)))

  -- A block in the window passes a test if and only if its part does.
  part_passes : (q : Block → Bool) (b : Block) → w.start ≤ b.key.start → b.key.start ≤ b.key.end → b.key.end ≤ w.end → on_part w q b ≡ q b
  part_passes q b p m u = rw (le-leb (common w b.key).start (common w b.key).end (omega (arith, p, m, u)), same_part b p u) refl

  -- Each block of a cover ends at its end or before it.
  ends : (p : NodeState) (lo hi : ℕ) (b : Block) (bs : List Block) → Tiles p lo (b ∷ bs) hi → b.key.end ≤ hi
  ends p lo hi b [] t = omega (arith, t.3)
  ends p lo hi b (x ∷ bs) t = omega (arith, t.3.0, t.3.1, ends b.state (b.key.end + 1) hi x bs t.3)

  -- If all blocks are in the window, their fits are those in it.
  same_fits : (p : NodeState) (lo hi : ℕ) (bs : List Block) → Tiles p lo bs hi → w.start ≤ lo → hi ≤ w.end →
      list_any (has_fit_in w n a) bs ≡ list_any (has_fit n a) bs
  same_fits p lo hi [] k s u = refl
  same_fits p lo hi (b ∷ bs) k s u =
      let e = ends p lo hi b bs k in
      rw (same_part b (omega (arith, k.0)) (omega arith), same_fits b.state (b.key.end + 1) hi bs k.3 (omega (arith, k.0, k.1)) u) refl

  -- If all blocks are in the window, the parts that pass a test are the blocks that do.
  same_parts : (q : Block → Bool) (p : NodeState) (lo hi : ℕ) (bs : List Block) → Tiles p lo bs hi → w.start ≤ lo → hi ≤ w.end →
      parts_passing w q bs ≡ passing q bs
  same_parts q p lo hi [] k s u = refl
  same_parts q p lo hi (b ∷ bs) k s u =
      let e = ends p lo hi b bs k in
      let own : on_part w q b ≡ q b = part_passes q b (omega (arith, k.0)) (omega (arith, k.0, k.1)) (omega arith) in
      let rest = same_parts q b.state (b.key.end + 1) hi bs k.3 (omega (arith, k.0, k.1)) u in
      by_test (on_part w q b) (q b) own rest
    where
      by_test : (t v : Bool) → t ≡ v → parts_passing w q bs ≡ passing q bs →
          length (cond t (b ∷ filter (on_part w q) bs) (filter (on_part w q) bs)) ≡ length (cond v (b ∷ filter q bs) (filter q bs))
      by_test true true e h = omega (arith, h)
      by_test false false e h = h
      by_test true false e h = absurd (cc e)
      by_test false true e h = absurd (cc e)

  -- ---- The blocks beside the window
  before_held : (p : NodeState) (lo hi : ℕ) (bs : List Block) → Tiles p lo bs hi → lo < w.start → w.start ≤ hi →
      1 ≤ passing (holds_before w) bs
  before_held p lo hi [] t i j = absurd (omega (arith, t))
  before_held p lo hi (b ∷ bs) t i j =
      let split = among_append (holds_before w) (b ∷ []) bs in
      ⊎_elim
      (λ (k : b.key.end + 1 < w.start). omega (arith, split, before_held b.state (b.key.end + 1) hi bs t.3 k j))
      (λ (k : w.start ≤ b.key.end + 1).
      let one : passing (holds_before w) (b ∷ []) ≡ 1 = rw (lt-ltb b.key.start w.start (omega (arith, t.0)), le-leb w.start (b.key.end + 1) k) refl in
      omega (arith, split))
      (cases_lt (b.key.end + 1) w.start)

  after_held : (p : NodeState) (lo hi : ℕ) (bs : List Block) → Tiles p lo bs hi → lo ≤ w.end + 1 → w.end < hi →
      1 ≤ passing (holds_after w) bs
  after_held p lo hi [] t i j = absurd (omega (arith, t))
  after_held p lo hi (b ∷ bs) t i j =
      let split = among_append (holds_after w) (b ∷ []) bs in
      ⊎_elim
      (λ (k : w.end < b.key.end).
      let one : passing (holds_after w) (b ∷ []) ≡ 1 = rw (le-leb b.key.start (w.end + 1) (omega (arith, t.0)), lt-ltb w.end b.key.end k) refl in
      omega (arith, split))
      (λ (k : b.key.end ≤ w.end). omega (arith, split, after_held b.state (b.key.end + 1) hi bs t.3 (omega arith) j))
      (cases_lt w.end b.key.end)

-- A subtree that is searched in vain weighs something.
pub weight_some : (k : Bool) (s : Search) (bs : List Block) → IsSearch s → IsRun bs → Reaches s bs → may_fit s bs ≡ true → HasNoPlace s bs →
    1 ≤ weight_in k s bs
unfolding weight
weight_some k s bs valid run reach m none =
    let w = window_of s in
    let lo = start_of_run bs run in
    let hi = end_of_run bs run in
    ⊎_elim
    (λ (p : run.lo < s.low). omega (arith, before_held w s.size s.alignment Allocated run.lo run.hi bs run.tiles p (omega (arith, hi, reach.low))))
    (λ (p : s.low ≤ run.lo).
    ⊎_elim
    (λ (u : s.high < run.hi). omega (arith, after_held w s.size s.alignment Allocated run.lo run.hi bs run.tiles (omega (arith, lo, reach.high)) u))
    (λ (u : run.hi ≤ s.high).
    let a = alignment_pos s.alignment valid.aligned in
    let e : list_any (has_fit s.size s.alignment) bs ≡ false =
    sym (same_fits w s.size s.alignment Allocated run.lo run.hi bs run.tiles p u) ∙ none_found w s.size s.alignment bs a none in
    omega (
      arith,
      same_parts w s.size s.alignment (lacks_place k s.size s.alignment) Allocated run.lo run.hi bs run.tiles p u,
      in_vain k s.size s.alignment bs valid.some m e,
    ))
    (cases_lt s.high run.hi))
    (cases_lt run.lo s.low)
