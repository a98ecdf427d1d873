-- The blocks of one leaf in a window, and those after or before them.
use Rattle.std.proofs.Common.{◌≡◌, ℕ, suc, ◌+◌, ◌-◌, ◌<◌, ◌≤◌, List, [], ◌∷◌, ◌++◌, length, Some, None, refl, ap, ◌∙◌, sym, arith, inl, inr, length-append, append-nil}
use Rattle.std.proofs.lemmas.Bool.{cases_lt, le-leb}
use Rattle.std.proofs.lemmas.List.{get_or_append_left, get_or-append_right}
use Rattle.std.proofs.lemmas.List.Elements.{filter-append}
use Rattle.vm_ranges.specs.Range.{Range, MAX}
use Rattle.vm_ranges.specs.declared.state.NodeState.TheVariants.{Allocated}
use Rattle.vm_leaf.specs.declared.block.Block.{Block}
use Rattle.vm_leaf.specs.Blocks.{nth, blank, start_of, end_of, IsRun}
use Rattle.vm_leaf.proofs.Tiles.{tiles_part}
use Rattle.vm_space.specs.Lookups.{IsLeafAt}
use Rattle.vm_space.specs.Walks.{meets, meeting_blocks, addresses_of, TakesFirst, TakesLast}
use Rattle.vm_space.specs.declared.walk.Span.{Span}
use Rattle.vm_space.proofs.Meetings.{apart, none_before, none_after, same_meeting, meeting_one}

module _ (bs lower leaf upper : List Block) (run : IsRun bs) (cut : bs ≡ lower ++ (leaf ++ upper)) (some : 0 < length leaf) where
  -- The list has the blocks of its three parts.
  long : length bs ≡ length lower + length leaf + length upper
  long = let k = ap length cut in let n = length-append lower (leaf ++ upper) in let m = length-append leaf upper in omega arith

  -- An index in the list is one in the part that contains it.
  in_lower : (k : ℕ) → k < length lower → nth bs k ≡ nth lower k
  in_lower k l = ap (λ (v : List Block). nth v k) cut ∙ get_or_append_left lower (leaf ++ upper) blank k l

  in_leaf : (k : ℕ) → k < length leaf → nth bs (length lower + k) ≡ nth leaf k
  in_leaf k l =
      let e : length lower + k - length lower ≡ k = omega arith in
      ap (λ (v : List Block). nth v (length lower + k)) cut
      ∙ get_or-append_right lower (leaf ++ upper) (length lower) (length lower + k) blank refl (omega arith)
      ∙ ap (nth (leaf ++ upper)) e ∙ get_or_append_left leaf upper blank k l

  in_upper : (k : ℕ) → k < length upper → nth bs (length lower + (length leaf + k)) ≡ nth upper k
  in_upper k l =
      let e : length lower + (length leaf + k) - length lower ≡ length leaf + k = omega arith in
      let f : length leaf + k - length leaf ≡ k = omega arith in
      ap (λ (v : List Block). nth v (length lower + (length leaf + k))) cut
      ∙ get_or-append_right lower (leaf ++ upper) (length lower) (length lower + (length leaf + k)) blank refl (omega arith)
      ∙ ap (nth (leaf ++ upper)) e ∙ get_or-append_right leaf upper (length leaf) (length leaf + k) blank refl (omega arith)
      ∙ ap (nth upper) f

  -- The blocks before the leaf end below it.
  pub lower_ends : (k : ℕ) → k < length lower → (nth lower k).key.end < start_of leaf
  lower_ends k l =
      let n = long in
      let a = apart Allocated run.lo run.hi bs k (length lower + 0) run.tiles (omega arith) (omega arith) in
      let e = ap (λ (b : Block). b.key.end) (in_lower k l) in
      let f = ap (λ (b : Block). b.key.start) (in_leaf 0 some) in
      omega arith

  -- The blocks behind the leaf start above it.
  pub upper_starts : (k : ℕ) → k < length upper → end_of leaf < (nth upper k).key.start
  upper_starts k l =
      let n = long in
      let a = apart Allocated run.lo run.hi bs (length lower + (length leaf - 1)) (length lower + (length leaf + k)) run.tiles (omega arith)
      (omega arith) in
      let e = ap (λ (b : Block). b.key.end) (in_leaf (length leaf - 1) (omega arith)) in
      let f = ap (λ (b : Block). b.key.start) (in_upper k l) in
      omega arith

  -- Each block of the three parts starts at most at its end.
  pub upper_order : (k : ℕ) → k < length upper → (nth upper k).key.start ≤ (nth upper k).key.end
  upper_order k l =
      let n = long in
      let a = tiles_part Allocated run.lo run.hi bs (length lower + (length leaf + k)) run.tiles (omega arith) in
      let e = ap (λ (b : Block). b.key.end) (in_upper k l) in
      let f = ap (λ (b : Block). b.key.start) (in_upper k l) in
      omega (arith, a.some)

  pub lower_order : (k : ℕ) → k < length lower → (nth lower k).key.start ≤ (nth lower k).key.end
  lower_order k l =
      let n = long in
      let a = tiles_part Allocated run.lo run.hi bs k run.tiles (omega arith) in
      let e = ap (λ (b : Block). b.key.end) (in_lower k l) in
      let f = ap (λ (b : Block). b.key.start) (in_lower k l) in
      omega (arith, a.some)

  pub leaf_order : (k : ℕ) → k < length leaf → (nth leaf k).key.start ≤ (nth leaf k).key.end
  leaf_order k l =
      let n = long in
      let a = tiles_part Allocated run.lo run.hi bs (length lower + k) run.tiles (omega arith) in
      let e = ap (λ (b : Block). b.key.end) (in_leaf k l) in
      let f = ap (λ (b : Block). b.key.start) (in_leaf k l) in
      omega (arith, a.some)

  -- Each block of the leaf is between its ends.
  pub leaf_within : (k : ℕ) → k < length leaf → (start_of leaf ≤ (nth leaf k).key.start) × ((nth leaf k).key.end ≤ end_of leaf)
  leaf_within k l =
      let n = long in
      let o = leaf_order k l in
      let z = leaf_order 0 some in
      let y = leaf_order (length leaf - 1) (omega arith) in
      let s = ap (λ (b : Block). b.key.start) (in_leaf k l) in
      let e = ap (λ (b : Block). b.key.end) (in_leaf k l) in
      let f = ap (λ (b : Block). b.key.end) (in_leaf 0 some) in
      let g = ap (λ (b : Block). b.key.start) (in_leaf (length leaf - 1) (omega arith)) in (
        elim (cases_lt 0 k) [
          | inl m ↦ (let a = apart Allocated run.lo run.hi bs (length lower + 0) (length lower + k) run.tiles (omega arith) (omega arith) in
              omega arith)
          | inr m ↦ (let h : start_of leaf ≡ (nth leaf k).key.start = ap (λ (i : ℕ). (nth leaf i).key.start) (omega arith) in omega arith)
        ],
        elim (cases_lt k (length leaf - 1)) [
          | inl m ↦ (let a = apart Allocated run.lo run.hi bs (length lower + k) (length lower + (length leaf - 1)) run.tiles (omega arith)
              (omega arith) in omega arith)
          | inr m ↦ (let h : end_of leaf ≡ (nth leaf k).key.end = ap (λ (i : ℕ). (nth leaf i).key.end) (omega arith) in omega arith)
        ],
      )

  -- The blocks in a window are those of the three parts in it.
  pub in_parts : (w : Range) → meeting_blocks w bs ≡ meeting_blocks w lower ++ (meeting_blocks w leaf ++ meeting_blocks w upper)
  in_parts w =
      ap (meeting_blocks w) cut ∙ filter-append (λ b. meets w b.key) lower (leaf ++ upper)
      ∙ ap (λ (v : List Block). meeting_blocks w lower ++ v) (filter-append (λ b. meets w b.key) leaf upper)

nothing : (xs : List Block) → length xs ≡ 0 → xs ≡ []
nothing [] z = refl
nothing (x ∷ xs) z = absurd (omega arith)

-- ---- The blocks of the first leaf
module _ (span : Span) (bs leaf : List Block) (run : IsRun bs) (at : IsLeafAt span.start bs leaf) (order : span.start ≤ span.end) where
  -- The blocks before the leaf are not in the span.
  none_in_lower : meeting_blocks (addresses_of span) at.lower ≡ []
  none_in_lower = none_before (addresses_of span) at.lower (λ k l.
      let a = lower_ends bs at.lower leaf at.upper run at.cut at.some k l in
      let b = at.from (omega arith) in
      omega arith)

  -- If the span ends in the leaf, its blocks are those of the leaf.
  pub first_of_all : (part : List Block) → part ≡ meeting_blocks (addresses_of span) leaf → span.end ≤ end_of leaf →
      TakesFirst span bs part None
  first_of_all part e h =
      let above : meeting_blocks (addresses_of span) at.upper ≡ [] = none_after (addresses_of span) at.upper (λ k l.
      let a = upper_starts bs at.lower leaf at.upper run at.cut at.some k l in
      omega arith) in
      record {
        cut = in_parts bs at.lower leaf at.upper run at.cut at.some (addresses_of span) ∙ rw (none_in_lower, above, e) refl;
        none = λ z. refl;
        order = tt;
      }

  module _ (h : end_of leaf < span.end) where
    abbrev rest : Span
    rest = record { start = end_of leaf + 1; end = span.end }

    -- The blocks before the leaf are not in the rest of the span.
    none_of_lower : meeting_blocks (addresses_of rest) at.lower ≡ []
    none_of_lower = none_before (addresses_of rest) at.lower (λ k l.
        let a = lower_ends bs at.lower leaf at.upper run at.cut at.some k l in
        let b = leaf_order bs at.lower leaf at.upper run at.cut at.some 0 at.some in
        let c = leaf_within bs at.lower leaf at.upper run at.cut at.some 0 at.some in
        omega (arith, c.1))

    -- The blocks of the leaf are not in the rest of the span.
    none_of_leaf : meeting_blocks (addresses_of rest) leaf ≡ []
    none_of_leaf = none_before (addresses_of rest) leaf (λ k l.
        let c = leaf_within bs at.lower leaf at.upper run at.cut at.some k l in
        omega (arith, c.1))

    -- The blocks behind the leaf are in the rest if and only if they are in the span.
    same_upper : meeting_blocks (addresses_of rest) at.upper ≡ meeting_blocks (addresses_of span) at.upper
    same_upper = same_meeting (addresses_of rest) (addresses_of span) at.upper (λ k l.
        let a = upper_starts bs at.lower leaf at.upper run at.cut at.some k l in
        let b = upper_order bs at.lower leaf at.upper run at.cut at.some k l in
        let c = at.upto (omega arith) in
        rw (le-leb (end_of leaf + 1) (nth at.upper k).key.end (omega arith), le-leb span.start (nth at.upper k).key.end (omega arith)) refl)

    -- The blocks in the rest of the span are those behind the leaf.
    rest_is : meeting_blocks (addresses_of rest) bs ≡ meeting_blocks (addresses_of span) at.upper
    rest_is = in_parts bs at.lower leaf at.upper run at.cut at.some (addresses_of rest) ∙ rw (none_of_lower, none_of_leaf, same_upper) refl

    -- If no block of the leaf is in the span, all blocks end before it.
    none_left : meeting_blocks (addresses_of span) leaf ≡ [] → meeting_blocks (addresses_of rest) bs ≡ []
    none_left e = elim (cases_lt 0 (length at.upper)) [
      | inl m ↦ (
          let c = at.upto m in
          let b = leaf_order bs at.lower leaf at.upper run at.cut at.some (length leaf - 1) (omega (arith, at.some)) in
          absurd (meeting_one (addresses_of span) leaf (length leaf - 1) (omega (arith, at.some)) (omega arith) (omega arith) e)
          )
      | inr m ↦ rest_is ∙ ap (meeting_blocks (addresses_of span)) (nothing at.upper (omega arith))
    ]

    -- If the span ends behind the leaf, the blocks of the leaf come first.
    pub first_of_more : (part : List Block) → part ≡ meeting_blocks (addresses_of span) leaf → TakesFirst span bs part (Some rest)
    first_of_more part e = record {
      cut = in_parts bs at.lower leaf at.upper run at.cut at.some (addresses_of span) ∙ rw (none_in_lower, e, rest_is) refl;
      none = λ z. none_left (sym e ∙ z);
      order = omega arith;
    }

-- ---- The blocks of the last leaf
module _ (span : Span) (bs leaf : List Block) (run : IsRun bs) (at : IsLeafAt span.end bs leaf) (order : span.start ≤ span.end) where
  -- The blocks behind the leaf are not in the span.
  none_in_upper : meeting_blocks (addresses_of span) at.upper ≡ []
  none_in_upper = none_after (addresses_of span) at.upper (λ k l.
      let a = upper_starts bs at.lower leaf at.upper run at.cut at.some k l in
      let b = at.upto (omega arith) in
      omega arith)

  -- If the span starts in the leaf, its blocks are those of the leaf.
  pub last_of_all : (part : List Block) → part ≡ meeting_blocks (addresses_of span) leaf → start_of leaf ≤ span.start →
      TakesLast span bs part None
  last_of_all part e h =
      let below : meeting_blocks (addresses_of span) at.lower ≡ [] = none_before (addresses_of span) at.lower (λ k l.
      let a = lower_ends bs at.lower leaf at.upper run at.cut at.some k l in
      omega arith) in
      record {
        cut = in_parts bs at.lower leaf at.upper run at.cut at.some (addresses_of span)
            ∙ rw (none_in_upper, below, e) (append-nil (meeting_blocks (addresses_of span) leaf));
        none = λ z. refl;
        order = tt;
      }

  module _ (h : span.start < start_of leaf) where
    abbrev before : Span
    before = record { start = span.start; end = start_of leaf - 1 }

    -- The blocks behind the leaf are not in the rest of the span.
    none_of_upper : meeting_blocks (addresses_of before) at.upper ≡ []
    none_of_upper = none_after (addresses_of before) at.upper (λ k l.
        let a = upper_starts bs at.lower leaf at.upper run at.cut at.some k l in
        let b = leaf_order bs at.lower leaf at.upper run at.cut at.some 0 at.some in
        let c = leaf_within bs at.lower leaf at.upper run at.cut at.some 0 at.some in
        omega (arith, c.1))

    -- The blocks of the leaf are not in the rest of the span.
    none_of_last : meeting_blocks (addresses_of before) leaf ≡ []
    none_of_last = none_after (addresses_of before) leaf (λ k l.
        let c = leaf_within bs at.lower leaf at.upper run at.cut at.some k l in
        omega (arith, c.0))

    -- The blocks before the leaf are in the rest if and only if they are in the span.
    same_lower : meeting_blocks (addresses_of before) at.lower ≡ meeting_blocks (addresses_of span) at.lower
    same_lower = same_meeting (addresses_of before) (addresses_of span) at.lower (λ k l.
        let a = lower_ends bs at.lower leaf at.upper run at.cut at.some k l in
        let b = lower_order bs at.lower leaf at.upper run at.cut at.some k l in
        let c = at.from (omega arith) in
        rw (le-leb (nth at.lower k).key.start (start_of leaf - 1) (omega arith), le-leb (nth at.lower k).key.start span.end (omega arith))
        refl)

    -- The blocks in the rest of the span are those before the leaf.
    before_is : meeting_blocks (addresses_of before) bs ≡ meeting_blocks (addresses_of span) at.lower
    before_is =
        in_parts bs at.lower leaf at.upper run at.cut at.some (addresses_of before)
        ∙ rw (none_of_upper, none_of_last, same_lower) (append-nil (meeting_blocks (addresses_of span) at.lower))

    -- If no block of the leaf is in the span, all blocks start after it.
    none_left_before : meeting_blocks (addresses_of span) leaf ≡ [] → meeting_blocks (addresses_of before) bs ≡ []
    none_left_before e = elim (cases_lt 0 (length at.lower)) [
      | inl m ↦ (
          let c = at.from m in
          let b = leaf_order bs at.lower leaf at.upper run at.cut at.some 0 at.some in
          absurd (meeting_one (addresses_of span) leaf 0 at.some (omega arith) (omega arith) e)
          )
      | inr m ↦ before_is ∙ ap (meeting_blocks (addresses_of span)) (nothing at.lower (omega arith))
    ]

    -- If the span starts before the leaf, the blocks of the leaf come last.
    pub last_of_more : (part : List Block) → part ≡ meeting_blocks (addresses_of span) leaf → TakesLast span bs part (Some before)
    last_of_more part e = record {
      cut =
          in_parts bs at.lower leaf at.upper run at.cut at.some (addresses_of span)
          ∙ rw (none_in_upper, e, before_is)
          (ap (λ (v : List Block). meeting_blocks (addresses_of span) at.lower ++ v)
          (append-nil (meeting_blocks (addresses_of span) leaf)));
      none = λ z. none_left_before (sym e ∙ z);
      order = omega arith;
    }

-- ---- All blocks
-- If each block meets the window, all blocks do.
all_meet : (w : Range) (bs : List Block) → ((k : ℕ) → k < length bs → (w.start ≤ (nth bs k).key.end) × ((nth bs k).key.start ≤ w.end)) →
    meeting_blocks w bs ≡ bs
all_meet w [] h = refl
all_meet w (b ∷ bs) h =
    rw (le-leb w.start b.key.end (h 0 (omega arith)).0, le-leb b.key.start w.end (h 0 (omega arith)).1)
    (ap (λ (v : List Block). b ∷ v) (all_meet w bs (λ k l. h (suc k) (omega arith))))

-- All blocks of a run meet the window of all addresses.
pub whole_run : (bs : List Block) (w : Range) → IsRun bs → w.start ≡ 0 → MAX ≤ w.end → meeting_blocks w bs ≡ bs
whole_run bs w run a b = all_meet w bs
    (λ k l. (let q = tiles_part Allocated run.lo run.hi bs k run.tiles l in (omega arith, omega (arith, q.some, q.upto, run.range.1))))

pub ruleset wholes = (whole_run, append-nil)
