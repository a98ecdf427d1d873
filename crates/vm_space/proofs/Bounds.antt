-- The bounds on the nodes that a search enters, by the gaps without a place.
use Rattle.std.proofs.Common.{◌≡◌, ℕ, ◌+◌, ◌*◌, ◌<◌, ◌≤◌, min, Bool, true, false, cond, List, [], ◌∷◌, ◌++◌, length, refl, ap, ◌∙◌, subst, arith, ⊎_elim}
use Rattle.std.specs.List.{list_any}
use Rattle.std.proofs.Math.Nat.{mul-le-mul}
use Rattle.std.proofs.lemmas.Bool.{le-leb, lt-leb, lt-ltb, le-ltb, cases_lt}
use Rattle.vm_ranges.specs.Range.{Range, MAX}
use Rattle.vm_ranges.proofs.Power.{alignment_pos}
use Rattle.vm_ranges.specs.declared.state.NodeState.{NodeState}
use Rattle.vm_ranges.specs.declared.state.NodeState.TheVariants.{Allocated}
use Rattle.vm_leaf.specs.declared.block.Block.{Block}
use Rattle.vm_leaf.specs.Block.{free_block}
use Rattle.vm_leaf.specs.Blocks.{Tiles, IsRun, start_of, end_of}
use Rattle.vm_leaf.specs.Fit.{IsFit, IsLowestFit, IsHighestFit}
use Rattle.vm_leaf.specs.Windows.{cut_to}
use Rattle.vm_tree.specs.Seeking.{beyond}
use Rattle.vm_space.specs.NodeCounts.{
  has_fit_in,
  lacks_place,
  on_part,
  passing,
  parts_passing,
  gaps_without_place,
  holds_before,
  holds_after,
  weight,
  IsWholeWindow,
  IsSearchCount,
}
use Rattle.vm_tree.specs.declared.end.End.{End}
use Rattle.vm_tree.specs.declared.end.End.TheVariants.{First, Last}
use Rattle.vm_space.specs.declared.search.Search.{Search}
use Rattle.vm_space.specs.Allocation.{ListPlace, window_of, IsSearch, IsClosestFit, IsClosestPlace}
use Rattle.vm_space.specs.Closest.{weight_in, reaches}
use Rattle.vm_tree.specs.Seeking.{extra}
use Rattle.vm_space.proofs.Seekings.{reach_true}
use Rattle.vm_space.proofs.Lists.{cut_tiles}
use Rattle.vm_space.proofs.SearchedBlocks.{one_found, start_of_run, end_of_run}
use Rattle.vm_space.proofs.Weights.{among_append}

module _ (w : Range) where
  -- ---- The blocks beside the window are at most one on each side
  single : (q : Block → Bool) (b : Block) → passing q (b ∷ []) ≤ 1
  single q b = elim (q b) as (λ v. length (cond v (b ∷ []) []) ≤ 1) [ true ↦ omega arith | false ↦ omega arith ]

  no_before : (b : Block) → w.start ≤ b.key.start → passing (holds_before w) (b ∷ []) ≡ 0
  no_before b p = rw (le-ltb b.key.start w.start p) refl

  none_before : (p : NodeState) (lo hi : ℕ) (bs : List Block) → Tiles p lo bs hi → w.start ≤ lo → passing (holds_before w) bs ≡ 0
  none_before p lo hi [] t i = refl
  none_before p lo hi (b ∷ bs) t i =
      omega (
        arith,
        among_append (holds_before w) (b ∷ []) bs,
        no_before b (omega (arith, t.0)),
        none_before b.state (b.key.end + 1) hi bs t.3 (omega (arith, t.1)),
      )

  one_before : (p : NodeState) (lo hi : ℕ) (bs : List Block) → Tiles p lo bs hi → passing (holds_before w) bs ≤ 1
  one_before p lo hi [] t = omega arith
  one_before p lo hi (b ∷ bs) t =
      let split = among_append (holds_before w) (b ∷ []) bs in
      ⊎_elim
      (λ (k : b.key.end + 1 < w.start).
      let z : passing (holds_before w) (b ∷ []) ≡ 0 = rw (lt-ltb b.key.start w.start (omega (arith, t.0, t.1)), lt-leb w.start (b.key.end + 1) k) refl in
      omega (arith, split, one_before b.state (b.key.end + 1) hi bs t.3))
      (λ (k : w.start ≤ b.key.end + 1).
      omega (arith, split, single (holds_before w) b, none_before b.state (b.key.end + 1) hi bs t.3 k))
      (cases_lt (b.key.end + 1) w.start)

  -- Each block of a cover ends at its end or before it.
  ends : (p : NodeState) (lo hi : ℕ) (b : Block) (bs : List Block) → Tiles p lo (b ∷ bs) hi → b.key.end ≤ hi
  ends p lo hi b [] t = omega (arith, t.3)
  ends p lo hi b (x ∷ bs) t = omega (arith, t.3.0, t.3.1, ends b.state (b.key.end + 1) hi x bs t.3)

  no_after : (b : Block) → b.key.end ≤ w.end → passing (holds_after w) (b ∷ []) ≡ 0
  no_after b p = by_test (holds_after_false b p)
    where
      holds_after_false : (b : Block) → b.key.end ≤ w.end → holds_after w b ≡ false
      holds_after_false b p =
          ⊎_elim
          (λ (k : w.end + 1 < b.key.start). rw (lt-leb b.key.start (w.end + 1) k) refl)
          (λ (k : b.key.start ≤ w.end + 1). rw (le-leb b.key.start (w.end + 1) k, le-ltb w.end b.key.end p) refl)
          (cases_lt (w.end + 1) b.key.start)

      by_test : holds_after w b ≡ false → passing (holds_after w) (b ∷ []) ≡ 0
      by_test e = ap (λ v. length (cond v (b ∷ []) [])) e

  none_after : (p : NodeState) (lo hi : ℕ) (bs : List Block) → Tiles p lo bs hi → hi ≤ w.end → passing (holds_after w) bs ≡ 0
  none_after p lo hi [] t i = refl
  none_after p lo hi (b ∷ bs) t i =
      omega (
        arith,
        among_append (holds_after w) (b ∷ []) bs,
        no_after b (omega (arith, ends p lo hi b bs t)),
        none_after b.state (b.key.end + 1) hi bs t.3 i,
      )

  above : (p : NodeState) (lo hi : ℕ) (bs : List Block) → Tiles p lo bs hi → w.end + 1 < lo → passing (holds_after w) bs ≡ 0
  above p lo hi [] t i = refl
  above p lo hi (b ∷ bs) t i =
      let z : passing (holds_after w) (b ∷ []) ≡ 0 = rw (lt-leb b.key.start (w.end + 1) (omega (arith, t.0))) refl in
      omega (arith, among_append (holds_after w) (b ∷ []) bs, above b.state (b.key.end + 1) hi bs t.3 (omega (arith, t.0, t.1)))

  one_after : (p : NodeState) (lo hi : ℕ) (bs : List Block) → Tiles p lo bs hi → passing (holds_after w) bs ≤ 1
  one_after p lo hi [] t = omega arith
  one_after p lo hi (b ∷ bs) t =
      let split = among_append (holds_after w) (b ∷ []) bs in
      ⊎_elim
      (λ (k : w.end < b.key.end).
      omega (arith, split, single (holds_after w) b, above b.state (b.key.end + 1) hi bs t.3 (omega arith)))
      (λ (k : b.key.end ≤ w.end). omega (arith, split, no_after b k, one_after b.state (b.key.end + 1) hi bs t.3))
      (cases_lt w.end b.key.end)

  -- The blocks below a block that starts in the window, and those above one that ends in it.
  after_lower : (lo hi : ℕ) (lower upper : List Block) (b : Block) → Tiles Allocated lo (lower ++ b ∷ upper) hi → b.key.start ≤ w.end →
      passing (holds_after w) lower ≡ 0
  after_lower lo hi [] upper b t i = refl
  after_lower lo hi (x ∷ lower) upper b t i =
      let c = cut_tiles Allocated lo hi (x ∷ lower) (b ∷ upper) (omega arith) t in
      none_after Allocated lo _ (x ∷ lower) c.0 (omega (arith, c.1.1.0))

  before_upper : (p : NodeState) (lo hi : ℕ) (lower upper : List Block) (b : Block) → Tiles p lo (lower ++ b ∷ upper) hi → w.start ≤ b.key.end →
      passing (holds_before w) upper ≡ 0
  before_upper p lo hi [] upper b t i = none_before b.state (b.key.end + 1) hi upper t.3 (omega arith)
  before_upper p lo hi (x ∷ lower) upper b t i = before_upper x.state (x.key.end + 1) hi lower upper b t.3 i

-- ---- The counts
wider : (c h a b m : ℕ) → c ≤ h * a → a ≤ b → c ≤ h * b
wider c h a b m p q = let k : h * a ≤ h * b = mul-le-mul (omega arith) q in omega arith

-- The lesser of two numbers of gaps.
lesser : (P : ℕ → Type 0) (x y : ℕ) → P x → P y → P (min x y)
lesser P x y p q =
    ⊎_elim
    (λ (k : x < y). let e : x ≡ min x y = omega arith in subst P e p)
    (λ (k : y ≤ x). let e : y ≡ min x y = omega arith in subst P e q)
    (cases_lt x y)

module _ (s : Search) (bs : List Block) (run : IsRun bs) where
  -- The parts of blocks that pass a test, among the blocks before or after one.
  part_lower : (q : Block → Bool) (lower upper : List Block) → bs ≡ lower ++ upper → passing q lower ≤ passing q bs
  part_lower q lower upper e = omega (arith, among_append q lower upper, ap (passing q) e)

  part_upper : (q : Block → Bool) (lower upper : List Block) → bs ≡ lower ++ upper → passing q upper ≤ passing q bs
  part_upper q lower upper e = omega (arith, among_append q lower upper, ap (passing q) e)

  -- A bound with the number of gaps that pass one of the tests.
  abbrev gaps : Bool → ℕ
  gaps k = parts_passing (window_of s) (lacks_place k s.size s.alignment) bs

  by_gaps : (c h e : ℕ) → ((k : Bool) → c ≤ h * (gaps k + e)) → c ≤ h * (gaps_without_place (window_of s) s.size s.alignment bs + e)
  by_gaps c h e f = lesser (λ x. c ≤ h * (x + e)) (gaps true) (gaps false) (f true) (f false)

  -- ---- A search in vain
  before_all : passing (holds_before (window_of s)) bs ≤ 1
  before_all = one_before (window_of s) Allocated run.lo run.hi bs run.tiles

  after_all : passing (holds_after (window_of s)) bs ≤ 1
  after_all = one_after (window_of s) Allocated run.lo run.hi bs run.tiles

  whole_before : IsWholeWindow (window_of s) bs → passing (holds_before (window_of s)) bs ≡ 0
  whole_before w = none_before (window_of s) Allocated run.lo run.hi bs run.tiles (omega (arith, w.from, start_of_run bs run))

  whole_after : IsWholeWindow (window_of s) bs → passing (holds_after (window_of s)) bs ≡ 0
  whole_after w = none_after (window_of s) Allocated run.lo run.hi bs run.tiles (omega (arith, w.upto, end_of_run bs run))

  with_none : (h n : ℕ) → h * (n + 0) ≡ h * n
  with_none h n = ap (λ m. h * m) (zero n)
    where
      zero : (n : ℕ) → n + 0 ≡ n
      zero n = omega arith

  -- A window that does not reach into the blocks is beside one end.
  beside : s.low ≤ s.high → (k : Bool) → weight_in k s bs + extra (reaches s bs) ≤ gaps k + 2
  unfolding weight
  beside o k =
      ⊎_elim
      (λ (p : end_of bs < s.low).
      omega (arith, before_all, none_after (window_of s) Allocated run.lo run.hi bs run.tiles (omega (arith, end_of_run bs run, o, p)), extra_most (reaches s bs)))
      (λ (p : s.low ≤ end_of bs).
      ⊎_elim
      (λ (u : s.high < start_of bs).
      omega (arith, after_all, none_before (window_of s) Allocated run.lo run.hi bs run.tiles (omega (arith, start_of_run bs run, o, u)), extra_most (reaches s bs)))
      (λ (u : start_of bs ≤ s.high).
      omega (arith, before_all, after_all, ap extra (reach_true s bs (record { low = p; high = u }))))
      (cases_lt s.high (start_of bs)))
      (cases_lt (end_of bs) s.low)
    where
      extra_most : (b : Bool) → extra b ≤ 1
      extra_most true = omega arith
      extra_most false = omega arith

  whole_reach : IsWholeWindow (window_of s) bs → extra (reaches s bs) ≡ 0
  whole_reach w =
      let x = start_of_run bs run in
      let y = end_of_run bs run in
      ap extra (reach_true s bs (record { low = omega (arith, w.from, x, y, run.range.0); high = omega (arith, w.upto, x, y, run.range.0) }))

  pub vain_bounds : (h nodes c : ℕ) → s.low ≤ s.high → ((k : Bool) → c ≤ h * (weight_in k s bs + extra (reaches s bs))) → c ≤ nodes
      → IsSearchCount (window_of s) s.size s.alignment h nodes bs c
  unfolding weight
  vain_bounds h nodes c o weights m =
      record {
        none = λ w _.
            omega (
              arith,
              with_none h (gaps_without_place (window_of s) s.size s.alignment bs),
              by_gaps c h 0 (λ k. wider c h (weight_in k s bs + extra (reaches s bs)) (gaps k + 0) 0 (weights k)
                  (omega (arith, whole_before w, whole_after w, whole_reach w))),
            );
        whole = λ w. by_gaps c h 1 (λ k. wider c h (weight_in k s bs + extra (reaches s bs)) (gaps k + 1) 0 (weights k)
            (omega (arith, whole_before w, whole_after w, whole_reach w)));
        most = by_gaps c h 2 (λ k. wider c h (weight_in k s bs + extra (reaches s bs)) (gaps k + 2) 0 (weights k) (beside o k));
        all = m;
      }

  -- ---- A search that finds a place
  module _ (place : ListPlace) (valid : IsSearch s) where
    fits : (end : End) → IsClosestFit end s.size s.alignment (cut_to (window_of s) (free_block place.key)) place.start →
        IsFit s.size s.alignment (cut_to (window_of s) (free_block place.key)) place.start
    unfolding IsLowestFit IsHighestFit
    fits First f = f.0
    fits Last f = f.0

    -- The blocks passed over weigh at most one more than their gaps.
    passed_over : (end : End) (k : Bool) → (f : IsClosestPlace end s bs place) → weight_in k s (beyond end place.lower place.upper) ≤ gaps k + 1
    unfolding weight
    passed_over First k f =
        let t = fits First f.fit in
        let tiles : Tiles Allocated run.lo (place.lower ++ free_block place.key ∷ place.upper) run.hi = subst (λ zs. Tiles Allocated run.lo zs run.hi) f.cut run.tiles in
        omega (
          arith,
          part_lower (on_part (window_of s) (lacks_place k s.size s.alignment)) place.lower (free_block place.key ∷ place.upper) f.cut,
          part_lower (holds_before (window_of s)) place.lower (free_block place.key ∷ place.upper) f.cut,
          before_all,
          after_lower (window_of s) run.lo run.hi place.lower place.upper (free_block place.key) tiles (omega (arith, t.2, t.3, valid.some)),
        )
    passed_over Last k f =
        let t = fits Last f.fit in
        let tiles : Tiles Allocated run.lo (place.lower ++ free_block place.key ∷ place.upper) run.hi = subst (λ zs. Tiles Allocated run.lo zs run.hi) f.cut run.tiles in
        let more = part_upper (on_part (window_of s) (lacks_place k s.size s.alignment)) place.lower (free_block place.key ∷ place.upper) f.cut in
        let rest = part_upper (holds_after (window_of s)) place.lower (free_block place.key ∷ place.upper) f.cut in
        omega (
          arith,
          more,
          rest,
          among_append (on_part (window_of s) (lacks_place k s.size s.alignment)) (free_block place.key ∷ []) place.upper,
          among_append (holds_after (window_of s)) (free_block place.key ∷ []) place.upper,
          after_all,
          before_upper (window_of s) Allocated run.lo run.hi place.lower place.upper (free_block place.key) tiles (omega (arith, t.2, t.3, valid.some)),
        )

    -- In a window of all blocks it weighs its gaps.
    passed_whole : (end : End) (k : Bool) → (f : IsClosestPlace end s bs place) → IsWholeWindow (window_of s) bs →
        weight_in k s (beyond end place.lower place.upper) ≤ gaps k
    unfolding weight
    passed_whole First k f w =
        omega (
          arith,
          part_lower (on_part (window_of s) (lacks_place k s.size s.alignment)) place.lower (free_block place.key ∷ place.upper) f.cut,
          part_lower (holds_before (window_of s)) place.lower (free_block place.key ∷ place.upper) f.cut,
          part_lower (holds_after (window_of s)) place.lower (free_block place.key ∷ place.upper) f.cut,
          whole_before w,
          whole_after w,
        )
    passed_whole Last k f w =
        omega (
          arith,
          part_upper (on_part (window_of s) (lacks_place k s.size s.alignment)) place.lower (free_block place.key ∷ place.upper) f.cut,
          part_upper (holds_before (window_of s)) place.lower (free_block place.key ∷ place.upper) f.cut,
          part_upper (holds_after (window_of s)) place.lower (free_block place.key ∷ place.upper) f.cut,
          among_append (on_part (window_of s) (lacks_place k s.size s.alignment)) (free_block place.key ∷ []) place.upper,
          among_append (holds_before (window_of s)) (free_block place.key ∷ []) place.upper,
          among_append (holds_after (window_of s)) (free_block place.key ∷ []) place.upper,
          whole_before w,
          whole_after w,
        )

    -- The list has a fit.
    has_place : (end : End) → (f : IsClosestPlace end s bs place) → list_any (has_fit_in (window_of s) s.size s.alignment) bs ≡ true
    has_place end f =
        ap (list_any (has_fit_in (window_of s) s.size s.alignment)) f.cut
        ∙ one_found (window_of s) s.size s.alignment place.lower (free_block place.key) place.upper place.start (alignment_pos s.alignment valid.aligned)
        (fits end f.fit)

    pub found_bounds : (end : End) (h nodes c : ℕ) → IsClosestPlace end s bs place
        → ((k : Bool) → c ≤ h * (weight_in k s (beyond end place.lower place.upper) + 1)) → c ≤ nodes →
        IsSearchCount (window_of s) s.size s.alignment h nodes bs c
    found_bounds end h nodes c f weights m =
        record {
          none = λ w e. (let z = has_place end f in absurd (cc));
          whole = λ w. by_gaps c h 1 (λ k. wider c h (weight_in k s (beyond end place.lower place.upper) + 1) (gaps k + 1) 0 (weights k)
              (omega (arith, passed_whole end k f w)));
          most = by_gaps c h 2 (λ k. wider c h (weight_in k s (beyond end place.lower place.upper) + 1) (gaps k + 2) 0 (weights k)
              (omega (arith, passed_over end k f)));
          all = m;
        }

-- Fewer nodes.
pub fewer : (w : Range) (n a h nodes : ℕ) (bs : List Block) (c d : ℕ) → c ≤ d → IsSearchCount w n a h nodes bs d → IsSearchCount w n a h nodes bs c
fewer w n a h nodes bs c d l i = record {
  none = λ p e. omega (arith, l, i.none p e);
  whole = λ p. omega (arith, l, i.whole p);
  most = omega (arith, l, i.most);
  all = omega (arith, l, i.all);
}

-- A search that enters no node.
pub none_entered : (w : Range) (n a h nodes : ℕ) (bs : List Block) → IsSearchCount w n a h nodes bs 0
none_entered w n a h nodes bs = record { none = λ p q. omega arith; whole = λ p. omega arith; most = omega arith; all = omega arith }

-- A run has at most MAX blocks.
run_length : (p : NodeState) (lo hi : ℕ) (bs : List Block) → Tiles p lo bs hi → length bs + lo ≤ hi + 1
run_length p lo hi [] t = omega (arith, t)
run_length p lo hi (b ∷ bs) t = omega (arith, t.0, t.1, run_length b.state (b.key.end + 1) hi bs t.3)

pub few_blocks : (bs : List Block) → IsRun bs → length bs ≤ MAX
few_blocks bs run =
    let l = run_length Allocated run.lo run.hi bs run.tiles in
    ⊎_elim
    (λ (p : 0 < run.lo). omega (arith, l, run.range.1))
    (λ (p : run.lo ≤ 0). omega (arith, l, run.range.2 (omega arith)))
    (cases_lt 0 run.lo)
