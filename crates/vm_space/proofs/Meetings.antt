-- The blocks of a list that have an address in common with a window.
use Rattle.std.proofs.Common.{◌≡◌, ℕ, zero, suc, ◌+◌, ◌-◌, ◌<◌, ◌≤◌, true, false, cond, Bool, leb, List, [], ◌∷◌, length, refl, ap, sym, arith, inl, inr}
use Rattle.std.proofs.lemmas.Bool.{cases_lt, le-leb, lt-leb, and_right}
use Rattle.vm_ranges.specs.Range.{Range}
use Rattle.vm_ranges.specs.declared.state.NodeState.{NodeState}
use Rattle.vm_ranges.specs.declared.state.NodeState.TheVariants.{Allocated}
use Rattle.vm_leaf.specs.declared.block.Block.{Block}
use Rattle.vm_leaf.specs.Blocks.{nth, start_of, end_of, Tiles, IsLeaf}
use Rattle.vm_leaf.specs.Walks.{part_of}
use Rattle.vm_leaf.proofs.Tiles.{tiles_part}
use Rattle.vm_space.specs.Walks.{meets, meeting_blocks, IsFirstFrom, IsCountUpTo}

-- ---- The order of blocks
-- Blocks of a cover are in order.
pub apart : (p : NodeState) (lo hi : ℕ) (bs : List Block) (i k : ℕ) → Tiles p lo bs hi → i < k → k < length bs →
    (nth bs i).key.end < (nth bs k).key.start
apart p lo hi [] i k t l h = absurd (omega arith)
apart p lo hi (b ∷ bs) i zero t l h = absurd (omega arith)
apart p lo hi (b ∷ bs) zero (suc k) t l h = let q = tiles_part b.state (b.key.end + 1) hi bs k t.3 (omega arith) in omega (arith, q.from)
apart p lo hi (b ∷ bs) (suc i) (suc k) t l h = apart b.state (b.key.end + 1) hi bs i k t.3 (omega arith) (omega arith)

-- ---- Indices in a leaf
module _ (bs : List Block) (h : IsLeaf bs) where
  -- A block starts at most at its end.
  in_order : (k : ℕ) → k < length bs → (nth bs k).key.start ≤ (nth bs k).key.end
  in_order k l = (tiles_part Allocated h.lo h.hi bs k h.tiles l).some

  -- No block starts below the leaf, or ends above it.
  from_start : (k : ℕ) → k < length bs → start_of bs ≤ (nth bs k).key.start
  from_start k l = elim (cases_lt 0 k) [
    | inl z ↦ (let a = apart Allocated h.lo h.hi bs 0 k h.tiles z l in let b = in_order 0 h.some in omega arith)
    | inr z ↦ (let e : k ≡ 0 = omega arith in rw e (omega arith))
  ]

  upto_end : (k : ℕ) → k < length bs → (nth bs k).key.end ≤ end_of bs
  upto_end k l = elim (cases_lt (k + 1) (length bs)) [
    | inl z ↦ (let a = apart Allocated h.lo h.hi bs k (length bs - 1) h.tiles (omega arith) (omega arith) in let b = in_order
        (length bs - 1) (omega arith) in omega arith)
    | inr z ↦ (let e : end_of bs ≡ (nth bs k).key.end = ap (λ (i : ℕ). (nth bs i).key.end) (omega arith) in omega arith)
  ]

  -- If x is not above the start of the leaf, the first block is the first one from x.
  pub first_at_start : (x : ℕ) → x ≤ start_of bs → IsFirstFrom x bs 0
  first_at_start x l = record {
    within = h.some;
    below = λ k z. absurd (omega arith);
    from = λ k z m. (let a = from_start k m in let b = in_order k m in omega arith);
  }

  -- The block that contains x is the first one from x.
  pub first_at_index : (x i : ℕ) → i < length bs → (nth bs i).key.start ≤ x → x ≤ (nth bs i).key.end → IsFirstFrom x bs i
  first_at_index x i l f g = record {
    within = l;
    below = λ k z. (let a = apart Allocated h.lo h.hi bs k i h.tiles z l in omega arith);
    from = λ k z m. elim (cases_lt i k) [
      | inl y ↦ (let a = apart Allocated h.lo h.hi bs i k h.tiles y m in let b = in_order k m in omega arith)
      | inr y ↦ (let e : k ≡ i = omega arith in rw e g)
    ];
  }

  -- If the leaf ends at x or below it, all its blocks count.
  pub count_to_end : (x : ℕ) → end_of bs ≤ x → IsCountUpTo x bs (length bs)
  count_to_end x l = record {
    within = omega arith;
    upto = λ k z. (let a = upto_end k z in let b = in_order k z in omega arith);
    above = λ k z m. absurd (omega arith);
  }

  -- The blocks up to the one that contains x count.
  pub count_to_index : (x i : ℕ) → i < length bs → (nth bs i).key.start ≤ x → x ≤ (nth bs i).key.end → IsCountUpTo x bs (i + 1)
  count_to_index x i l f g = record {
    within = omega arith;
    upto = λ k z. elim (cases_lt k i) [
      | inl y ↦ (let a = apart Allocated h.lo h.hi bs k i h.tiles y l in let b = in_order k (omega arith) in omega arith)
      | inr y ↦ (let e : k ≡ i = omega arith in rw e f)
    ];
    above = λ k z m. (let a = apart Allocated h.lo h.hi bs i k h.tiles (omega arith) m in omega arith);
  }

pub ruleset indices = (first_at_start, first_at_index, count_to_end, count_to_index)

-- ---- The blocks that meet a window
-- Blocks below the window do not meet it.
pub none_before : (w : Range) (bs : List Block) → ((k : ℕ) → k < length bs → (nth bs k).key.end < w.start) → meeting_blocks w bs ≡ []
none_before w [] h = refl
none_before w (b ∷ bs) h = rw (lt-leb w.start b.key.end (h 0 (omega arith))) (none_before w bs (λ k l. h (suc k) (omega arith)))

-- Blocks above the window do not meet it.
pub none_after : (w : Range) (bs : List Block) → ((k : ℕ) → k < length bs → w.end < (nth bs k).key.start) → meeting_blocks w bs ≡ []
none_after w [] h = refl
none_after w (b ∷ bs) h =
    rw (lt-leb b.key.start w.end (h 0 (omega arith)), and_right (leb w.start b.key.end) false refl)
    (none_after w bs (λ k l. h (suc k) (omega arith)))

-- The blocks that meet a window are those between two indices.
meeting_part : (w : Range) (bs : List Block) (i j : ℕ) → i ≤ j → j ≤ length bs
    → ((k : ℕ) → k < i → (nth bs k).key.end < w.start) → ((k : ℕ) → i ≤ k → k < length bs → w.start ≤ (nth bs k).key.end)
    → ((k : ℕ) → k < j → (nth bs k).key.start ≤ w.end) → ((k : ℕ) → j ≤ k → k < length bs → w.end < (nth bs k).key.start)
    → part_of bs i j ≡ meeting_blocks w bs
meeting_part w [] zero zero o l a b c d = refl
meeting_part w [] zero (suc j) o l a b c d = absurd (omega arith)
meeting_part w [] (suc i) j o l a b c d = absurd (omega arith)
meeting_part w (x ∷ bs) (suc i) zero o l a b c d = absurd (omega arith)
meeting_part w (x ∷ bs) zero zero o l a b c d = sym (none_after w (x ∷ bs) (λ k m. d k (omega arith) m))
meeting_part w (x ∷ bs) zero (suc j) o l a b c d =
    rw (le-leb w.start x.key.end (b 0 (omega arith) (omega arith)), le-leb x.key.start w.end (c 0 (omega arith)))
    (ap (λ (v : List Block). x ∷ v)
    (meeting_part w bs zero j (omega arith) (omega arith) (λ k m. absurd (omega arith)) (λ k m n. b (suc k) (omega arith) (omega arith))
    (λ k m. c (suc k) (omega arith)) (λ k m n. d (suc k) (omega arith) (omega arith))))
meeting_part w (x ∷ bs) (suc i) (suc j) o l a b c d =
    rw (lt-leb w.start x.key.end (a 0 (omega arith)))
    (meeting_part w bs i j (omega arith) (omega arith) (λ k m. a (suc k) (omega arith)) (λ k m n. b (suc k) (omega arith) (omega arith))
    (λ k m. c (suc k) (omega arith)) (λ k m n. d (suc k) (omega arith) (omega arith)))

module _ (w : Range) (bs : List Block) (h : IsLeaf bs) where
  -- A leaf below the window has no block in it.
  pub ends_before : end_of bs < w.start → [] ≡ meeting_blocks w bs
  ends_before l = sym (none_before w bs (λ k m. (let a = upto_end bs h k m in omega arith)))

  -- A leaf above the window has no block in it.
  pub starts_after : w.end < start_of bs → [] ≡ meeting_blocks w bs
  starts_after l = sym (none_after w bs (λ k m. (let a = from_start bs h k m in omega arith)))

  -- The first index is at most the second one.
  pub part_order : (i j : ℕ) → w.start ≤ w.end → IsFirstFrom w.start bs i → IsCountUpTo w.end bs j → i ≤ j
  part_order i j o f c = elim (cases_lt j i) [
    | inl z ↦ (let a = f.below j z in let b = c.above j (omega arith) (omega (arith, f.within)) in let d = in_order bs h j
        (omega (arith, f.within)) in absurd (omega arith))
    | inr z ↦ z
  ]

  -- The part of the leaf between both indices has the blocks in the window.
  pub part_is : (i j : ℕ) → w.start ≤ w.end → IsFirstFrom w.start bs i → IsCountUpTo w.end bs j → part_of bs i j ≡ meeting_blocks w bs
  part_is i j o f c = meeting_part w bs i j (part_order i j o f c) c.within f.below f.from c.upto c.above

pub ruleset parts = (ends_before, starts_after, part_order, part_is)

-- Windows that the same blocks meet have the same blocks.
pub same_meeting : (v w : Range) (bs : List Block) → ((k : ℕ) → k < length bs → meets v (nth bs k).key ≡ meets w (nth bs k).key) →
    meeting_blocks v bs ≡ meeting_blocks w bs
same_meeting v w [] h = refl
same_meeting v w (b ∷ bs) h =
    let e : meets v b.key ≡ meets w b.key = h 0 (omega arith) in
    rw (e, same_meeting v w bs (λ k l. h (suc k) (omega arith))) refl

-- If a block meets the window, some block does.
pub meeting_one : (w : Range) (bs : List Block) (k : ℕ) → k < length bs → w.start ≤ (nth bs k).key.end → (nth bs k).key.start ≤ w.end →
    meeting_blocks w bs ≡ [] → ⊥
meeting_one w [] k l a b e = absurd (omega arith)
meeting_one w (x ∷ bs) zero l a b e = none_of x (meeting_blocks w bs) (rw (le-leb w.start x.key.end a, le-leb x.key.start w.end b) at e)
  where
    none_of : (x : Block) (xs : List Block) → x ∷ xs ≡ [] → ⊥
    none_of x xs e = cc
meeting_one w (x ∷ bs) (suc k) l a b e = meeting_one w bs k (omega arith) a b (tail_none (meets w x.key) x (meeting_blocks w bs) e)
  where
    tail_none : (c : Bool) (x : Block) (xs : List Block) → cond c (x ∷ xs) xs ≡ [] → xs ≡ []
    tail_none true x xs e = absurd (cc)
    tail_none false x xs e = e
