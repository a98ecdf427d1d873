-- The blocks that a search for a place looks at, and those that it passes over.
use Rattle.std.specs.Prelude.{◌&&◌, ◌||◌}
use Rattle.std.proofs.Common.{
  ◌≡◌,
  ℕ,
  zero,
  suc,
  ◌+◌,
  ◌-◌,
  ◌^◌,
  ◌<◌,
  ◌≤◌,
  Bool,
  true,
  false,
  cond,
  leb,
  List,
  [],
  ◌∷◌,
  ◌++◌,
  length,
  take,
  drop,
  refl,
  sym,
  ap,
  ◌∙◌,
  subst,
  arith,
  inl,
  inr,
}
use Rattle.std.specs.Int.{w64, trailing_zeros, bit_at}
use Rattle.std.specs.List.{All, list_any}
use Rattle.std.proofs.Math.Bool.{or-true}
use Rattle.std.proofs.lemmas.Nat.{pow_pos}
use Rattle.std.proofs.lemmas.Nat.Bits.{bit_at-trailing_zeros, bit_at-pow_other}
use Rattle.std.proofs.lemmas.List.Elements.{All-nil, All-cons, All-head, All-tail}
use Rattle.std.proofs.lemmas.List.Folds.{list_any-append}
use Rattle.std.proofs.lemmas.Bool.{and_parts, or_parts, leb-true, le-leb, lt-leb, cases_lt, cases_eq, false_from_ne_true}
use Rattle.vm_ranges.specs.Range.{Range}
use Rattle.vm_ranges.specs.Alignment.{IsAlignment, IsLowestMultiple}
use Rattle.vm_ranges.specs.declared.state.NodeState.{NodeState}
use Rattle.vm_ranges.specs.declared.state.NodeState.TheVariants.{Free, Allocated}
use Rattle.vm_ranges.proofs.Power.{alignment_pos, alignment_below, highest_multiple, lowest_multiple}
use Rattle.vm_leaf.specs.declared.block.Block.{Block}
use Rattle.vm_leaf.specs.Block.{is_free, free_length}
use Rattle.vm_leaf.specs.Blocks.{Tiles, nth, start_of, end_of, longest_gap, IsRun}
use Rattle.vm_leaf.specs.Fit.{IsFit, HasNoFit}
use Rattle.vm_leaf.specs.Windows.{cut_to, HaveNoFitIn}
use Rattle.vm_leaf.specs.Multiples.{has_multiple, alignment_count, free_alignments, most_alignments}
use Rattle.vm_leaf.proofs.Highest.{HasMultiple}
use Rattle.vm_leaf.proofs.Tiles.{tiles_part}
use Rattle.vm_leaf.proofs.MultiplesBetween.{multiple_is_exact, count_is_exact}
use Rattle.vm_space.specs.Allocation.{HasNoFitIn}
use Rattle.vm_space.specs.NodeCounts.{has_aligned, multiple_from, has_fit, has_fit_in, may_fit_in}

-- ---- The exponent of an alignment
-- A power of two has one bit, at its exponent.
lowest_of_power : (j k : ℕ) → bit_at (2 ^ k) j ≡ 1 → j ≡ k
lowest_of_power j k e =
    elim (cases_eq j k) [ inl same ↦ same | inr other ↦ absurd (omega (arith, bit_at-pow_other k j other)) ]

-- An alignment is the power of two of its trailing zeros.
pub exponent_by_trailing : (a : ℕ) → IsAlignment a → (trailing_zeros w64 a < 64) × (a ≡ 2 ^ trailing_zeros w64 a)
unfolding IsAlignment
exponent_by_trailing a h =
    let low = bit_at-trailing_zeros w64 a (alignment_pos a h) (alignment_below a h) in (
      low.0,
      h.2 ∙ ap (λ (v : ℕ). 2 ^ v) (sym
          (lowest_of_power (trailing_zeros w64 a) h.0 (ap (λ (v : ℕ). bit_at v (trailing_zeros w64 a)) (sym h.2) ∙ low.1))),
    )

-- ---- The number of alignments decides if a gap has a multiple
-- A gap has a multiple of each power below its number of alignments.
own_aligned : (k : ℕ) (b : Block) → k < 64 → k < free_alignments b → has_aligned (2 ^ k) b ≡ true
unfolding has_aligned
own_aligned k b w = by_state b.state
  where
    by_state : (st : NodeState) → k < cond (is_free st) (alignment_count b.key) 0 → (is_free st && has_multiple (2 ^ k) b.key) ≡ true
    by_state Free l = (multiple_is_exact (2 ^ k) b.key (pow_pos k)).1 ((count_is_exact k b.key w).0 l)
    by_state Allocated l = absurd (omega arith)

-- A gap has no multiple of the other powers.
own_unaligned : (k : ℕ) (b : Block) → k < 64 → free_alignments b ≤ k → has_aligned (2 ^ k) b ≡ false
unfolding has_aligned
own_unaligned k b w = by_state b.state
  where
    by_state : (st : NodeState) → cond (is_free st) (alignment_count b.key) 0 ≤ k → (is_free st && has_multiple (2 ^ k) b.key) ≡ false
    by_state Free l = false_from_ne_true (has_multiple (2 ^ k) b.key)
        (λ e. omega (arith, (count_is_exact k b.key w).1 ((multiple_is_exact (2 ^ k) b.key (pow_pos k)).0 e)))
    by_state Allocated l = refl

-- A gap of the list has a multiple of each power below the most alignments.
some_aligned : (k : ℕ) (bs : List Block) → k < 64 → k < most_alignments bs → list_any (has_aligned (2 ^ k)) bs ≡ true
some_aligned k [] w m = absurd (omega arith)
some_aligned k (b ∷ bs) w m =
    elim (cases_lt k (free_alignments b)) [
      | inl i ↦ rw (own_aligned k b w i) refl
      | inr i ↦ rw (some_aligned k bs w (omega arith)) (or-true (has_aligned (2 ^ k) b))
    ]

-- No gap of the list has a multiple of the other powers.
none_aligned : (k : ℕ) (bs : List Block) → k < 64 → most_alignments bs ≤ k → list_any (has_aligned (2 ^ k)) bs ≡ false
none_aligned k [] w m = refl
none_aligned k (b ∷ bs) w m = rw (own_unaligned k b w (omega arith), none_aligned k bs w (omega arith)) refl

-- ---- The lists that are searched
-- The test of the summary passes a list with a gap that is long enough and one that is aligned.
pub searched_if : (n a : ℕ) (bs : List Block) → IsAlignment a → n ≤ longest_gap bs → trailing_zeros w64 a < most_alignments bs →
    may_fit_in n a bs ≡ true
unfolding may_fit_in
searched_if n a bs u p q =
    let t = exponent_by_trailing a u in
    let some : list_any (has_aligned a) bs ≡ true = subst (λ (v : ℕ). list_any (has_aligned v) bs ≡ true) (sym t.1)
    (some_aligned (trailing_zeros w64 a) bs t.0 q) in
    rw (le-leb n (longest_gap bs) p) some

-- The test of the summary stops a list whose longest gap is too short.
pub not_if_short : (n a : ℕ) (bs : List Block) → longest_gap bs < n → may_fit_in n a bs ≡ false
unfolding may_fit_in
not_if_short n a bs p = rw (lt-leb n (longest_gap bs) p) refl

-- The test of the summary stops a list whose gaps are misaligned.
pub not_if_unaligned : (n a : ℕ) (bs : List Block) → IsAlignment a → most_alignments bs ≤ trailing_zeros w64 a → may_fit_in n a bs ≡ false
unfolding may_fit_in
not_if_unaligned n a bs u q =
    let t = exponent_by_trailing a u in
    let none : list_any (has_aligned a) bs ≡ false = subst (λ (v : ℕ). list_any (has_aligned v) bs ≡ false) (sym t.1)
    (none_aligned (trailing_zeros w64 a) bs t.0 q) in
    false_from_ne_true _ (λ e. let parts = and_parts (leb n (longest_gap bs)) (list_any (has_aligned a) bs) e in cc)

pub ruleset searched = (searched_if, not_if_short, not_if_unaligned)

-- ---- There is no place in the others
-- A gap that is too short has no fit.
short_without_fit : (n a : ℕ) (b : Block) → free_length b < n → HasNoFit n a b
unfolding HasNoFit
short_without_fit n a b p = λ t f. let free : free_length b ≡ b.key.end - b.key.start + 1 = rw f.0 refl in omega (arith, f.2, f.3)

-- A list whose longest gap is too short has no fit.
none_in_short : (n a : ℕ) (bs : List Block) → longest_gap bs < n → All (HasNoFit n a) bs
none_in_short n a [] p = All-nil (HasNoFit n a)
none_in_short n a (b ∷ bs) p = All-cons (HasNoFit n a) b bs (short_without_fit n a b (omega arith)) (none_in_short n a bs (omega arith))

-- A gap without a multiple has no fit.
unaligned_without_fit : (n a : ℕ) (b : Block) → 0 < n → 0 < a → has_aligned a b ≡ false → HasNoFit n a b
unfolding has_aligned HasMultiple HasNoFit
unaligned_without_fit n a b p z e = λ t f.
    let multiple : has_multiple a b.key ≡ true = (multiple_is_exact a b.key z).1 (t, f.1, (f.2, omega (arith, f.3))) in
    let free : is_free b.state ≡ true = ap is_free f.0 in
    let same : true ≡ false = rw (free, multiple) at e in
    cc

-- A list without an aligned gap has no fit.
none_in_unaligned : (n a : ℕ) (bs : List Block) → 0 < n → 0 < a → list_any (has_aligned a) bs ≡ false → All (HasNoFit n a) bs
none_in_unaligned n a [] p z e = All-nil (HasNoFit n a)
none_in_unaligned n a (b ∷ bs) p z e =
    let parts = or_parts (has_aligned a b) (list_any (has_aligned a) bs) e in
    All-cons (HasNoFit n a) b bs (unaligned_without_fit n a b p z parts.0) (none_in_unaligned n a bs p z parts.1)

-- A list that the test of the summary stops has no fit.
none_unless_searched : (n a : ℕ) (bs : List Block) → 0 < n → IsAlignment a → may_fit_in n a bs ≡ false → All (HasNoFit n a) bs
unfolding may_fit_in
none_unless_searched n a bs p u e =
    elim (cases_lt (longest_gap bs) n) [
      | inl short ↦ none_in_short n a bs short
      | inr long ↦ none_in_unaligned n a bs p (alignment_pos a u) (rw (le-leb n (longest_gap bs) long) at e)
    ]

-- ---- Blocks without a fit in the window
module _ (w : Range) (n a : ℕ) where
  -- A gap whose part in the window has no fit has none in the window.
  in_part : (b : Block) → HasNoFit n a (cut_to w b) → HasNoFitIn w n a b
  unfolding HasNoFitIn
  in_part b h = h

  -- A gap without a fit has none in the window.
  cut_none : (b : Block) → HasNoFit n a b → HasNoFitIn w n a b
  unfolding HasNoFit HasNoFitIn
  cut_none b h = λ t f. h t (f.0, f.1, omega (arith, f.2), omega (arith, f.3))

  all_cut : (bs : List Block) → All (HasNoFit n a) bs → All (HasNoFitIn w n a) bs
  all_cut [] h = All-nil (HasNoFitIn w n a)
  all_cut (b ∷ bs) h = All-cons (HasNoFitIn w n a) b bs (cut_none b (All-head (HasNoFit n a) b bs h))
      (all_cut bs (All-tail (HasNoFit n a) b bs h))

  -- A list that is passed over has no fit in the window.
  pub none_if_passed : (bs : List Block) → 0 < n → IsAlignment a → may_fit_in n a bs ≡ false → All (HasNoFitIn w n a) bs
  none_if_passed bs z u e = all_cut bs (none_unless_searched n a bs z u e)

  -- A block below the window has no fit in it.
  block_below : (b : Block) → 0 < n → b.key.end < w.start → HasNoFitIn w n a b
  unfolding HasNoFit HasNoFitIn
  block_below b z l = λ t f. omega (arith, f.2, f.3)

  -- A block above the window has no fit in it.
  block_above : (b : Block) → 0 < n → w.end < b.key.start → HasNoFitIn w n a b
  unfolding HasNoFit HasNoFitIn
  block_above b z l = λ t f. omega (arith, f.2, f.3)

  -- The end of a cover is at most one below its start.
  tiles_up : (p : NodeState) (lo hi : ℕ) (bs : List Block) → Tiles p lo bs hi → lo ≤ hi + 1
  tiles_up p lo hi [] t = omega arith
  tiles_up p lo hi (b ∷ bs) t = let h = tiles_up b.state (b.key.end + 1) hi bs t.3 in omega arith

  -- A cover below the window has no fit in it.
  pub none_below : (p : NodeState) (lo hi : ℕ) (bs : List Block) → 0 < n → Tiles p lo bs hi → hi < w.start → All (HasNoFitIn w n a) bs
  none_below p lo hi [] z t l = All-nil (HasNoFitIn w n a)
  none_below p lo hi (b ∷ bs) z t l =
      let h = tiles_up b.state (b.key.end + 1) hi bs t.3 in
      All-cons (HasNoFitIn w n a) b bs (block_below b z (omega arith)) (none_below b.state (b.key.end + 1) hi bs z t.3 l)

  -- A cover above the window has no fit in it.
  pub none_above : (p : NodeState) (lo hi : ℕ) (bs : List Block) → 0 < n → Tiles p lo bs hi → w.end < lo → All (HasNoFitIn w n a) bs
  none_above p lo hi [] z t l = All-nil (HasNoFitIn w n a)
  none_above p lo hi (b ∷ bs) z t l =
      All-cons (HasNoFitIn w n a) b bs (block_above b z (omega arith)) (none_above b.state (b.key.end + 1) hi bs z t.3 (omega arith))

  -- ---- By index
  -- Without a fit at each index below m, the first m blocks have none.
  all_upto : (bs : List Block) (m : ℕ) → ((k : ℕ) → k < m → HasNoFitIn w n a (nth bs k)) → All (HasNoFitIn w n a) (take m bs)
  all_upto [] zero h = All-nil (HasNoFitIn w n a)
  all_upto [] (suc m) h = All-nil (HasNoFitIn w n a)
  all_upto (b ∷ bs) zero h = All-nil (HasNoFitIn w n a)
  all_upto (b ∷ bs) (suc m) h = All-cons (HasNoFitIn w n a) b (take m bs) (h zero (omega arith))
      (all_upto bs m (λ k l. h (suc k) (omega arith)))

  -- Without a fit at each index from m, the blocks starting at m have none.
  all_from : (bs : List Block) (m : ℕ) → ((k : ℕ) → m ≤ k → k < length bs → HasNoFitIn w n a (nth bs k)) →
      All (HasNoFitIn w n a) (drop m bs)
  all_from [] zero h = All-nil (HasNoFitIn w n a)
  all_from [] (suc m) h = All-nil (HasNoFitIn w n a)
  all_from (b ∷ bs) zero h = All-cons (HasNoFitIn w n a) b bs (h zero (omega arith) (omega arith))
      (all_from bs zero (λ k l u. h (suc k) (omega arith) (omega arith)))
  all_from (b ∷ bs) (suc m) h = all_from bs m (λ k l u. h (suc k) (omega arith) (omega arith))

  -- Without a fit before i, the first i blocks have none.
  pub none_upto : (bs : List Block) (i : ℕ) → HaveNoFitIn w n a bs 0 i → All (HasNoFitIn w n a) (take i bs)
  unfolding HaveNoFitIn
  none_upto bs i h = all_upto bs i (λ k l. in_part (nth bs k) (h k (omega arith) l))

  -- Without a fit from i, the blocks starting at i have none.
  pub none_from : (bs : List Block) (i : ℕ) → HaveNoFitIn w n a bs i (length bs) → All (HasNoFitIn w n a) (drop i bs)
  unfolding HaveNoFitIn
  none_from bs i h = all_from bs i (λ k l u. in_part (nth bs k) (h k l u))

-- ---- The ends of a run
-- A run starts and ends at the ends of its cover.
pub start_of_run : (bs : List Block) (h : IsRun bs) → start_of bs ≡ h.lo
start_of_run [] h = absurd (omega (arith, h.some))
start_of_run (b ∷ bs) h = h.tiles.0

pub end_of_run : (bs : List Block) (h : IsRun bs) → end_of bs ≡ h.hi
end_of_run bs h =
    let p = tiles_part Allocated h.lo h.hi bs (length bs - 1) h.tiles (omega (arith, h.some)) in
    p.last (omega (arith, h.some))

-- ---- The test `has_fit` is exact
-- `multiple_from` is the lowest multiple at x or above.
pub lowest_from : (a x : ℕ) → 0 < a → IsLowestMultiple a x (multiple_from a x)
lowest_from a x p = lowest_multiple a x (multiple_from a x) p (highest_multiple a (x + (a - 1)) p)

-- The test for a free state is true only for Free.
pub free_if_true : (s : NodeState) → is_free s ≡ true → s ≡ Free
free_if_true Free e = refl
free_if_true Allocated e = absurd (cc)

-- A block with a fit passes the test.
pub fit_found : (n a t : ℕ) (b : Block) → 0 < a → IsFit n a b t → has_fit n a b ≡ true
unfolding has_fit IsLowestMultiple
fit_found n a t b p f =
    let lowest = (lowest_from a b.key.start p).2 t f.1 f.2 in
    rw (f.0, le-leb (multiple_from a b.key.start + n) (b.key.end + 1) (omega (arith, f.3)))

-- A block without a fit does not pass the test.
pub no_fit_missed : (n a : ℕ) (b : Block) → 0 < a → HasNoFit n a b → has_fit n a b ≡ false
unfolding has_fit HasNoFit IsLowestMultiple
no_fit_missed n a b p h = false_from_ne_true (has_fit n a b) (λ e.
    let parts = and_parts (is_free b.state) (leb (multiple_from a b.key.start + n) (b.key.end + 1)) e in
    let lowest = lowest_from a b.key.start p in
    h (multiple_from a b.key.start) (free_if_true b.state parts.0, lowest.0, lowest.1, leb-true _ _ parts.1))

-- A list with a block that passes the test passes it.
one_found_by : (q : Block → Bool) (xs : List Block) (b : Block) (ys : List Block) → q b ≡ true → list_any q (xs ++ b ∷ ys) ≡ true
one_found_by q xs b ys e = list_any-append q xs (b ∷ ys) ∙ or_true (list_any q xs)
  where
    or_true : (t : Bool) → (t || (q b || list_any q ys)) ≡ true
    or_true true = refl
    or_true false = rw e

module _ (w : Range) (n a : ℕ) where
  -- A block without a fit in the window does not pass its test.
  missed_in : (b : Block) → 0 < a → HasNoFitIn w n a b → has_fit_in w n a b ≡ false
  unfolding HasNoFitIn
  missed_in b p h = no_fit_missed n a (cut_to w b) p h

  -- Without a place the test is false for each block.
  pub none_found : (bs : List Block) → 0 < a → All (HasNoFitIn w n a) bs → list_any (has_fit_in w n a) bs ≡ false
  none_found [] p h = refl
  none_found (b ∷ bs) p h =
      rw (missed_in b p (All-head (HasNoFitIn w n a) b bs h), none_found bs p (All-tail (HasNoFitIn w n a) b bs h))

  -- With a place in a block, the test is true for that block.
  pub one_found : (xs : List Block) (b : Block) (ys : List Block) (t : ℕ) → 0 < a → IsFit n a (cut_to w b) t →
      list_any (has_fit_in w n a) (xs ++ b ∷ ys) ≡ true
  one_found xs b ys t p f = one_found_by (has_fit_in w n a) xs b ys (fit_found n a t (cut_to w b) p f)
