-- A held block at an end of its leaf that is dropped, or freed in its leaf.
use Rattle.std.proofs.Common.{◌≡◌, ℕ, ◌+◌, ◌-◌, ◌<◌, ◌≤◌, List, [], ◌∷◌, ◌++◌, length, Bool, true, false, refl, ap, ◌∙◌, sym, subst, arith, inl, inr, append_assoc, length-append}
use Rattle.std.proofs.lemmas.List.{append-nil}
use Rattle.vm_ranges.specs.Range.{Range}
use Rattle.vm_ranges.specs.declared.state.NodeState.TheVariants.{Free, Allocated}
use Rattle.vm_ranges.specs.declared.state.NodeState.{NodeState}
use Rattle.vm_leaf.specs.declared.block.Block.{Block}
use Rattle.vm_leaf.specs.declared.leaf.TheConstants.{MIN_BLOCKS}
use Rattle.vm_leaf.specs.Block.{free_block, held_block}
use Rattle.vm_leaf.specs.Blocks.{Tiles, nth, start_of, with_free, freed_between, IsRun}
use Rattle.vm_leaf.specs.Entries.{blocks_entry, HasEnough, AreNext, JoinsTo}
use Rattle.vm_tree.specs.Subtree.{Subtree, AreFrom, Ascend, AllOf}
use Rattle.vm_tree.specs.Edits.{AtKey, IsBefore}
use Rattle.vm_tree.specs.Shrinks.{MeetsAfter}
use Rattle.vm_tree.specs.Lowers.{IsTreeCut}
use Rattle.vm_space.specs.Leaves.{blocks_of, HaveBlocks}
use Rattle.vm_space.specs.Spaces.{AreSpace}
use Rattle.vm_space.specs.Frees.{FreesBlock, IsFreed}
use Rattle.vm_space.specs.Edges.{BecomesOne, Drops, DropsFirst, DropsLast, FreesEnd, FreesFirst, FreesLast, IsShorter, RefusesEnd, IsFirstHeld, IsLastHeld, IsHeldAt, IsEdge, IsApart, NoGap, EndHeld, StartHeld, IsExtendedLow, IsExtendedHigh, ExtendedAt, left_of, low_of, end_before, start_if}
use Rattle.vm_space.specs.declared.edge.Edge.{Edge}
use Rattle.vm_tree.specs.declared.end.End.{End}
use Rattle.vm_tree.specs.declared.end.End.TheVariants.{First, Last}
use Rattle.vm_space.proofs.Lists.{last_append}
use Rattle.vm_space.proofs.Spaces.{blocks_cut, have_append, have_left, have_right, space_ascends}
use Rattle.vm_space.proofs.Steps.{left_edge, right_edge, after_held, before_held}
use Rattle.vm_space.proofs.Insides.{freed_meets, freed_regrouped, one_loss, one_have, enough_leaf}
use Rattle.vm_space.proofs.Beside.{one_place, last_of, snoc, next_start, leaf_run, leaf_order}
use Rattle.vm_space.proofs.Frees.{freed_under, with_free_append}

-- ---- The leaves between the two steps
-- A leaf with another entry, whose address is between those of the leaves beside it.
from_set : (z : ℕ) (b : List (List Block)) (x y : List Block) (a : List (List Block)) → AreFrom blocks_entry z (b ++ x ∷ a) → start_of x ≤ start_of y
    → AreFrom blocks_entry z (b ++ y ∷ a)
from_set z [] x y a f l = (omega (arith, f.0, l), f.1)
from_set z (w ∷ b) x y a f l = (f.0, from_set z b x y a f.1 l)

from_weaken : (y z : ℕ) (xs : List (List Block)) → y ≤ z → AreFrom blocks_entry z xs → AreFrom blocks_entry y xs
from_weaken y z [] l f = tt
from_weaken y z (x ∷ xs) l f = (omega (arith, f.0, l), from_weaken y z xs l f.1)

ascend_same : (b : List (List Block)) (x y : List Block) (a : List (List Block)) → Ascend blocks_entry (b ++ x ∷ a) → start_of y ≡ start_of x
    → Ascend blocks_entry (b ++ y ∷ a)
ascend_same [] x y a s e = (from_weaken (start_of y) (start_of x) a (omega (arith, e)) s.0, s.1)
ascend_same (w ∷ b) x y a s e = (from_set (start_of w) b x y a s.0 (omega (arith, e)), ascend_same b x y a s.1 e)

ascend_lower : (b : List (List Block)) (x y z : List Block) (a : List (List Block)) → Ascend blocks_entry (b ++ x ∷ y ∷ a) → start_of x ≤ start_of z
    → start_of z ≤ start_of y → Ascend blocks_entry (b ++ x ∷ z ∷ a)
ascend_lower [] x y z a s l h = ((l, s.0.1), (from_weaken (start_of z) (start_of y) a h s.1.0, s.1.1))
ascend_lower (w ∷ b) x y z a s l h =
    (from_pair (start_of w) b s.0, ascend_lower b x y z a s.1 l h)
  where
    from_pair : (v : ℕ) (b : List (List Block)) → AreFrom blocks_entry v (b ++ x ∷ y ∷ a) → AreFrom blocks_entry v (b ++ x ∷ z ∷ a)
    from_pair v [] f = (f.0, (omega (arith, f.0, l), f.1.1))
    from_pair v (u ∷ b) f = (f.0, from_pair v b f.1)

-- A space `was` that has the leaves `now` after a change of a leaf at an end.
pub record IsChangeable (at : ℕ) (R : List Block → List Block → Type 0) (refuses : List Block → Type 0) (k : Range) (was now : List (List Block)) : Type 0 where
  pub before : List (List Block)
  pub leaf : List Block
  pub after : List (List Block)
  pub is : now ≡ before ++ leaf ∷ after
  pub key : AtKey blocks_entry at before leaf after
  pub ascends : Ascend blocks_entry now
  pub not : refuses leaf → ⊥
  pub frees : (n : List Block) (lost : ℕ) → R leaf n → IsShorter lost leaf n → IsFreed k lost was (before ++ n ∷ after)

module _ (at : ℕ) (R : List Block → List Block → Type 0) (refuses : List Block → Type 0) (k : Range) (was now : List (List Block)) (s : AreSpace was)
    (c : IsChangeable at R refuses k was now) where
  one : (b : List (List Block)) (x : List Block) (a : List (List Block)) → now ≡ b ++ x ∷ a → AtKey blocks_entry at b x a
      → (c.before ≡ b) × (c.leaf ≡ x) × (c.after ≡ a)
  one b x a e h = one_place blocks_entry at c.before c.leaf c.after b x a (subst (Ascend blocks_entry) c.is c.ascends) (sym c.is ∙ e) c.key h

  freed_one : (lost : ℕ) (b : List (List Block)) (x : List Block) (a ls : List (List Block)) → now ≡ b ++ x ∷ a → AtKey blocks_entry at b x a
      → BecomesOne (λ u v. R u v × IsShorter lost u v) x ls → IsFreed k lost was (b ++ (ls ++ a))
  freed_one lost b x a ls e h d =
      let o = one b x a e h in
      let f = c.frees d.0 lost (subst (λ z. R z d.0) (sym o.1) d.1.1.0) (subst (λ z. IsShorter lost z d.0) (sym o.1) d.1.1.1) in
      subst (λ z. IsFreed k lost was (b ++ (z ++ a))) (sym d.1.0)
      (subst (λ z. IsFreed k lost was (z ++ d.0 ∷ a)) o.0 (subst (λ z. IsFreed k lost was (c.before ++ d.0 ∷ z)) o.2 f))

  pub changed_meets : {E : Type 0} (lost : E → ℕ)
      → MeetsAfter blocks_entry AreNext at (λ l ls. (e : E) × BecomesOne (λ u v. R u v × IsShorter (lost e) u v) l ls) now
  changed_meets lost before leaf after leaves home h =
      freed_meets k (lost h.0) was (before ++ (leaves ++ after)) s (freed_one (lost h.0) before leaf after leaves home.was home.here h.1)

  pub changed_after : (lost : ℕ) (t u : Subtree (List Block)) (done : Bool) → t.leaves ≡ now
      → IsTreeCut blocks_entry JoinsTo at refuses (λ l ls. BecomesOne (λ u v. R u v × IsShorter lost u v) l ls) t u done → IsFreed k lost was u.leaves
  changed_after lost t u false e h =
      let r = h.refused in
      let o = one r.before r.leaf r.after (sym e ∙ r.home.was) r.home.here in
      absurd (c.not (subst refuses (sym o.1) r.refused))
  changed_after lost t u true e h =
      let d = h.cut.edited in
      freed_regrouped k lost was h.cut.middle u.leaves
      (subst (IsFreed k lost was) (sym d.is) (freed_one lost d.before d.leaf d.after d.leaves (sym e ∙ d.home.was) d.home.here d.edit)) h.cut.regrouped

-- ---- The leaf of an edge, by its first address
at_key : (b : List (List Block)) (x : List Block) (a : List (List Block)) (at : ℕ) → AreSpace (b ++ x ∷ a) → at ≡ start_of x → AtKey blocks_entry at b x a
at_key b x a at s e = record { low = λ h. omega (arith, e); high = by_after a s }
  where
    by_after : (a : List (List Block)) → AreSpace (b ++ x ∷ a) → IsBefore blocks_entry at a
    by_after [] s = tt
    by_after (y ∷ a) s = omega (arith, e, next_start b x y a s, leaf_order b x (y ∷ a) s)

pair_length : (b : List (List Block)) (x y : List Block) (a : List (List Block))
    → length (blocks_of (b ++ x ∷ y ∷ a)) ≡ length (blocks_of b) + (length x + (length y + length (blocks_of a)))
pair_length b x y a =
    omega (arith, ap length (blocks_cut b x (y ∷ a)), length-append (blocks_of b) (x ++ blocks_of (y ∷ a)), length-append x (blocks_of (y ∷ a)), length-append y (blocks_of a))

pair_have : (b : List (List Block)) (x y u v : List Block) (a : List (List Block)) → HaveBlocks (b ++ x ∷ y ∷ a) → 0 < length u → 0 < length v
    → HaveBlocks (b ++ u ∷ v ∷ a)
pair_have b x y u v a h l m = have_append b (u ∷ v ∷ a) (have_left b (x ∷ y ∷ a) h) (l, (m, (have_right b (x ∷ y ∷ a) h).1.1))

-- ---- The gap before the first block was extended over it
module _ (k : Range) (edge : Edge) (was now : List (List Block)) (s : AreSpace was) (x : IsExtendedLow k edge was now)
    (facts : 2 ≤ length now → AllOf HasEnough now) where
  low_space : AreSpace (x.before ++ x.low ∷ x.leaf ∷ x.after)
  low_space = subst AreSpace x.was s

  low_starts : (lower : List Block) (g h : Block) → h.key.start ≡ g.key.start → start_of (lower ++ h ∷ []) ≡ start_of (lower ++ g ∷ [])
  low_starts [] g h e = e
  low_starts (z ∷ lower) g h e = refl

  low_start : start_of x.new_low ≡ start_of x.low
  low_start = ap start_of x.extends.after ∙ low_starts x.extends.lower x.extends.gap _ refl ∙ sym (ap start_of x.extends.before)

  low_frees : (n : List Block) (lost : ℕ) → DropsFirst x.leaf n → IsShorter lost x.leaf n → IsFreed k lost was ((x.before ++ x.new_low ∷ []) ++ n ∷ x.after)
  low_frees n lost d h =
      let b = blocks_of x.before in
      let r = blocks_of x.after in
      let e = x.extends in
      let gap : Block = free_block (record { start = e.gap.key.start; end = edge.to }) in
      let same : held_block k ∷ x.held.upper ≡ d.block ∷ d.upper = sym x.held.is ∙ d.before in
      let upper : x.held.upper ≡ d.upper = cc in
      let join : (g : Block) (ls : List Block) → b ++ ((e.lower ++ g ∷ []) ++ ls) ≡ ((b ++ e.lower) ++ g ∷ []) ++ ls = λ g ls.
      sym (append_assoc b (e.lower ++ g ∷ []) ls) ∙ ap (λ z. z ++ ls) (sym (append_assoc b e.lower (g ∷ []))) in
      let old : blocks_of was ≡ ((b ++ e.lower) ++ e.gap ∷ []) ++ ((held_block k ∷ x.held.upper) ++ r) =
      ap blocks_of x.was ∙ blocks_cut x.before x.low (x.leaf ∷ x.after) ∙ ap (λ z. b ++ (z ++ (x.leaf ++ r))) e.before
      ∙ join e.gap (x.leaf ++ r) ∙ ap (λ z. ((b ++ e.lower) ++ e.gap ∷ []) ++ (z ++ r)) x.held.is in
      let new : blocks_of ((x.before ++ x.new_low ∷ []) ++ n ∷ x.after)
      ≡ ((b ++ e.lower) ++ free_block (record { start = e.gap.key.start; end = end_before k.end x.held.upper }) ∷ []) ++ (left_of x.held.upper ++ r) =
      ap blocks_of (snoc x.before x.new_low (n ∷ x.after)) ∙ blocks_cut x.before x.new_low (n ∷ x.after) ∙ ap (λ z. b ++ (z ++ (n ++ r))) e.after
      ∙ join gap (n ++ r) ∙ ap (λ z. ((b ++ e.lower) ++ gap ∷ []) ++ (z ++ r)) (d.after ∙ ap left_of (sym upper))
      ∙ ap (λ z. ((b ++ e.lower) ++ free_block (record { start = e.gap.key.start; end = z }) ∷ []) ++ (left_of x.held.upper ++ r)) x.held.to in
      let size : length x.new_low ≡ length x.low =
      ap length e.after ∙ length-append e.lower (gap ∷ []) ∙ sym (length-append e.lower (e.gap ∷ [])) ∙ sym (ap length e.before) in
      let have = subst HaveBlocks x.was s.some in
      record {
        frees = subst (λ z. FreesBlock k z (blocks_of ((x.before ++ x.new_low ∷ []) ++ n ∷ x.after))) (sym old)
            (subst (λ z. FreesBlock k (((b ++ e.lower) ++ e.gap ∷ []) ++ ((held_block k ∷ x.held.upper) ++ r)) z) (sym new) (left_edge k (b ++ e.lower) e.gap x.held.upper r x.held.some e.free));
        loss = omega (
          arith,
          ap (λ z. length (blocks_of z)) x.was,
          pair_length x.before x.low x.leaf x.after,
          ap (λ z. length (blocks_of z)) (snoc x.before x.new_low (n ∷ x.after)),
          pair_length x.before x.new_low n x.after,
          size,
          h.loss,
        );
        some = subst HaveBlocks (sym (snoc x.before x.new_low (n ∷ x.after)))
            (pair_have x.before x.low x.leaf x.new_low n x.after have (omega (arith, size, (have_right x.before (x.low ∷ x.leaf ∷ x.after) have).0)) h.some);
      }

  pub drops_low : IsChangeable edge.at DropsFirst (λ l. length l < MIN_BLOCKS) k was now
  drops_low = record {
    before = x.before ++ x.new_low ∷ [];
    leaf = x.leaf;
    after = x.after;
    is = x.is ∙ sym (snoc x.before x.new_low (x.leaf ∷ x.after));
    key = (let h = at_key (x.before ++ x.low ∷ []) x.leaf x.after edge.at (subst AreSpace (sym (snoc x.before x.low (x.leaf ∷ x.after))) low_space) x.at in
        record { low = λ l. omega (arith, x.at); high = h.high });
    ascends = subst (Ascend blocks_entry) (sym x.is)
        (ascend_same x.before x.low x.new_low (x.leaf ∷ x.after) (space_ascends _ low_space) low_start);
    not = λ l.
        (let n = length-append x.before (x.new_low ∷ x.leaf ∷ x.after) in
        let a = subst (AllOf HasEnough) (x.is ∙ sym (snoc x.before x.new_low (x.leaf ∷ x.after))) (facts (omega (arith, ap length x.is, n))) in
        omega (arith, l, (enough_leaf (x.before ++ x.new_low ∷ []) x.leaf x.after a).0));
    frees = low_frees;
  }

-- ---- The gap after the last block was extended over it
weak_low : (m : List Block) (x : Block) (k : Range) (w : List Block) (lo hi : ℕ) (p : NodeState) → Tiles p lo (m ++ x ∷ held_block k ∷ w) hi
    → lo ≤ start_if x.state k.start x
weak_low [] x k w lo hi p t = by_state x.state
  where
    by_state : (v : NodeState) → lo ≤ start_if v k.start x
    by_state Free = omega (arith, t.0)
    by_state Allocated = omega (arith, t.1, t.3.0)
weak_low (y ∷ m) x k w lo hi p t = omega (arith, t.1, weak_low m x k w (y.key.end + 1) hi y.state t.3)

strict_low : (m : List Block) (x : Block) (k : Range) (w : List Block) (lo hi : ℕ) (p : NodeState) → Tiles p lo (m ++ x ∷ held_block k ∷ w) hi
    → 0 < length m → (start_of (m ++ x ∷ held_block k ∷ w) < start_if x.state k.start x)
strict_low [] x k w lo hi p t l = absurd (omega (arith, l))
strict_low (y ∷ m) x k w lo hi p t l = omega (arith, t.0, t.1, weak_low m x k w (y.key.end + 1) hi y.state t.3)

upper_if : (m : List Block) (x : Block) (k : Range) (w : List Block) (lo hi : ℕ) (p : NodeState) → Tiles p lo (m ++ x ∷ held_block k ∷ w) hi
    → (start_if x.state k.start x ≤ k.start) × (k.start ≤ k.end)
upper_if [] x k w lo hi p t = (by_state x.state, omega (arith, t.3.0, t.3.1))
  where
    by_state : (v : NodeState) → start_if v k.start x ≤ k.start
    by_state Free = omega (arith, t.0, t.1, t.3.0)
    by_state Allocated = omega arith
upper_if (y ∷ m) x k w lo hi p t = upper_if m x k w (y.key.end + 1) hi y.state t.3

two_snoc : (xs ys : List Block) (x y z w : Block) → xs ++ x ∷ y ∷ [] ≡ ys ++ z ∷ w ∷ [] → (xs ≡ ys) × (x ≡ z) × (y ≡ w)
two_snoc [] [] x y z w e = let f : x ≡ z = cc in let g : y ≡ w = cc in (refl, f, g)
two_snoc [] (u ∷ ys) x y z w e = absurd (omega (arith, ap length e, length-append ys (z ∷ w ∷ [])))
two_snoc (u ∷ xs) [] x y z w e = absurd (omega (arith, ap length e, length-append xs (x ∷ y ∷ [])))
two_snoc (u ∷ xs) (v ∷ ys) x y z w e =
    let f : u ≡ v = cc in
    let g : xs ++ x ∷ y ∷ [] ≡ ys ++ z ∷ w ∷ [] = cc in
    let r = two_snoc xs ys x y z w g in
    (ap (λ b. b ∷ xs) f ∙ ap (λ bs. v ∷ bs) r.0, r.1, r.2)

module _ (k : Range) (edge : Edge) (was now : List (List Block)) (s : AreSpace was) (x : IsExtendedHigh k edge was now)
    (facts : 2 ≤ length now → AllOf HasEnough now) where
  high_space : AreSpace (x.before ++ x.leaf ∷ x.high ∷ x.after)
  high_space = subst AreSpace x.was s

  high_enough : HasEnough x.leaf
  high_enough =
      let n = length-append x.before (x.leaf ∷ x.new_high ∷ x.after) in
      enough_leaf x.before x.leaf (x.new_high ∷ x.after) (subst (AllOf HasEnough) x.is (facts (omega (arith, ap length x.is, n))))

  high_run : IsRun x.leaf
  high_run = leaf_run x.before x.leaf (x.high ∷ x.after) high_space

  high_tiles : Tiles Allocated high_run.lo (x.held.lower ++ x.held.last ∷ held_block k ∷ []) high_run.hi
  high_tiles = subst (λ z. Tiles Allocated high_run.lo z high_run.hi) x.held.is high_run.tiles

  high_start : start_of x.new_high ≡ edge.to
  high_start = ap start_of x.extends.after

  high_above : start_of x.leaf < edge.to
  high_above =
      let n = ap length x.held.is ∙ length-append x.held.lower (x.held.last ∷ held_block k ∷ []) in
      omega (
        arith,
        x.held.to,
        ap start_of x.held.is,
        strict_low x.held.lower x.held.last k [] high_run.lo high_run.hi Allocated high_tiles (omega (arith, n, high_enough.0)),
      )

  high_below : edge.to ≤ start_of x.high
  high_below =
      let u = upper_if x.held.lower x.held.last k [] high_run.lo high_run.hi Allocated high_tiles in
      omega (arith, x.held.to, u.0, u.1, ap start_of x.extends.before, x.extends.next)

  high_frees : (n : List Block) (lost : ℕ) → DropsLast x.leaf n → IsShorter lost x.leaf n → IsFreed k lost was (x.before ++ n ∷ x.new_high ∷ x.after)
  high_frees n lost d h =
      let b = blocks_of x.before in
      let r = blocks_of x.after in
      let e = x.extends in
      let m = x.held.lower in
      let y = x.held.last in
      let q = two_snoc m d.lower y (held_block k) d.last d.block (sym x.held.is ∙ d.before) in
      let old : blocks_of was ≡ (b ++ (m ++ y ∷ held_block k ∷ [])) ++ e.gap ∷ (e.upper ++ r) =
      ap blocks_of x.was ∙ blocks_cut x.before x.leaf (x.high ∷ x.after) ∙ ap (λ z. b ++ (x.leaf ++ (z ++ r))) e.before
      ∙ sym (append_assoc b x.leaf (e.gap ∷ (e.upper ++ r))) ∙ ap (λ z. (b ++ z) ++ e.gap ∷ (e.upper ++ r)) x.held.is in
      let rest : n ≡ low_of m y = d.after ∙ ap (λ z. low_of z d.last) (sym q.0) ∙ ap (low_of m) (sym q.1) in
      let new : blocks_of (x.before ++ n ∷ x.new_high ∷ x.after)
      ≡ (b ++ low_of m y) ++ free_block (record { start = start_if y.state k.start y; end = e.gap.key.end }) ∷ (e.upper ++ r) =
      blocks_cut x.before n (x.new_high ∷ x.after) ∙ ap (λ z. b ++ (n ++ (z ++ r))) e.after
      ∙ sym (append_assoc b n (free_block (record { start = edge.to; end = e.gap.key.end }) ∷ (e.upper ++ r)))
      ∙ ap (λ z. (b ++ z) ++ free_block (record { start = edge.to; end = e.gap.key.end }) ∷ (e.upper ++ r)) rest
      ∙ ap (λ z. (b ++ low_of m y) ++ free_block (record { start = z; end = e.gap.key.end }) ∷ (e.upper ++ r)) x.held.to in
      let size : length x.new_high ≡ length x.high = ap length e.after ∙ sym (ap length e.before) in
      let have = subst HaveBlocks x.was s.some in
      record {
        frees = subst (λ z. FreesBlock k z (blocks_of (x.before ++ n ∷ x.new_high ∷ x.after))) (sym old)
            (subst (λ z. FreesBlock k ((b ++ (m ++ y ∷ held_block k ∷ [])) ++ e.gap ∷ (e.upper ++ r)) z) (sym new) (right_edge k b m y e.gap (e.upper ++ r) e.free));
        loss = omega (arith, ap (λ z. length (blocks_of z)) x.was, pair_length x.before x.leaf x.high x.after, pair_length x.before n x.new_high x.after, size, h.loss);
        some = pair_have x.before x.leaf x.high n x.new_high x.after have h.some
            (omega (arith, size, (have_right x.before (x.leaf ∷ x.high ∷ x.after) have).1.0));
      }

  pub drops_high : IsChangeable edge.at DropsLast (λ l. length l < MIN_BLOCKS) k was now
  drops_high = record {
    before = x.before;
    leaf = x.leaf;
    after = x.new_high ∷ x.after;
    is = x.is;
    key = record { low = λ l. omega (arith, x.at); high = omega (arith, x.at, high_above, high_start) };
    ascends = subst (Ascend blocks_entry) (sym x.is)
        (ascend_lower x.before x.leaf x.high x.new_high x.after (space_ascends _ high_space) (omega (arith, high_above, high_start)) (omega (arith, high_below, high_start)));
    not = λ l. omega (arith, l, high_enough.0);
    frees = high_frees;
  }

pub drops : (k : Range) (edge : Edge) (was now : List (List Block)) → AreSpace was → ExtendedAt edge.end k edge was now
    → (2 ≤ length now → AllOf HasEnough now) → IsChangeable edge.at (Drops edge.end) (λ l. length l < MIN_BLOCKS) k was now
drops k edge was now s x f = by_end edge.end x
  where
    by_end : (d : End) → ExtendedAt d k edge was now → IsChangeable edge.at (Drops d) (λ l. length l < MIN_BLOCKS) k was now
    by_end First x = drops_low k edge was now s x f
    by_end Last x = drops_high k edge was now s x f

-- ---- No gap is beside the block in the next leaf
held_not_free : (v : NodeState) → v ≡ Free → v ≡ Allocated → ⊥
held_not_free v e f = let h : Free ≡ Allocated = sym e ∙ f in absurd (cc)

held_snoc : (m : List Block) (g : Block) → EndHeld (m ++ g ∷ []) → g.state ≡ Allocated
held_snoc [] g h = h
held_snoc (x ∷ []) g h = h
held_snoc (x ∷ y ∷ m) g h = held_snoc (y ∷ m) g h

module _ (k : Range) (edge : Edge) (was : List (List Block)) (s : AreSpace was) (p : IsEdge k edge was) where
  edge_old : blocks_of was ≡ blocks_of p.before ++ (p.leaf ++ blocks_of p.after)
  edge_old = ap blocks_of p.was ∙ blocks_cut p.before p.leaf p.after

  edge_freed : (n : List Block) (lost : ℕ) → IsShorter lost p.leaf n
      → FreesBlock k (blocks_of p.before ++ (p.leaf ++ blocks_of p.after)) (blocks_of p.before ++ (n ++ blocks_of p.after))
      → IsFreed k lost was (p.before ++ n ∷ p.after)
  edge_freed n lost h f = record {
    frees = subst (λ z. FreesBlock k z (blocks_of (p.before ++ n ∷ p.after))) (sym edge_old)
        (subst (λ z. FreesBlock k (blocks_of p.before ++ (p.leaf ++ blocks_of p.after)) z) (sym (blocks_cut p.before n p.after)) f);
    loss = ap (λ z. length (blocks_of z)) p.was ∙ one_loss p.before p.leaf p.after n lost h.loss;
    some = one_have p.before p.leaf p.after n (subst HaveBlocks p.was s.some) h.some;
  }

  first_frees : (held : IsFirstHeld k edge.to p.leaf) → EndHeld (blocks_of p.before) → (n : List Block) (lost : ℕ) → FreesFirst p.leaf n
      → IsShorter lost p.leaf n → IsFreed k lost was (p.before ++ n ∷ p.after)
  first_frees held none n lost d h =
      let r = blocks_of p.after in
      let same : held_block k ∷ held.upper ≡ held_block d.key ∷ d.upper = sym held.is ∙ d.before in
      let key : k ≡ d.key = ap (λ (z : List Block). (nth z 0).key) same in
      let upper : held.upper ≡ d.upper = cc in
      let now : n ≡ with_free k held.upper = d.after ∙ ap (λ z. with_free z d.upper) (sym key) ∙ ap (with_free k) (sym upper) in
      let frees : (l : List Block) → blocks_of p.before ≡ l → FreesBlock k (l ++ ((held_block k ∷ held.upper) ++ r)) (l ++ (with_free k held.upper ++ r)) = λ l e.
      elim (last_of l) [
        | inl g ↦ subst (λ z. FreesBlock k (z ++ ((held_block k ∷ held.upper) ++ r)) (z ++ (with_free k held.upper ++ r))) (sym g)
            (record { lower = []; upper = held.upper ++ r; before = refl; after = with_free_append k held.upper r held.some })
        | inr g ↦ subst (λ z. FreesBlock k (z ++ ((held_block k ∷ held.upper) ++ r)) (z ++ (with_free k held.upper ++ r))) (sym g.2)
            (after_held k g.0 g.1 held.upper r held.some (held_snoc g.0 g.1 (subst EndHeld (e ∙ g.2) none)))
      ] in
      edge_freed n lost h
      (subst (λ z. FreesBlock k (blocks_of p.before ++ (z ++ r)) (blocks_of p.before ++ (n ++ r))) (sym held.is)
      (subst (λ z. FreesBlock k (blocks_of p.before ++ ((held_block k ∷ held.upper) ++ r)) (blocks_of p.before ++ (z ++ r))) (sym now) (frees (blocks_of p.before) refl)))

  last_frees : (held : IsLastHeld k edge.to p.leaf) → StartHeld (blocks_of p.after) → (n : List Block) (lost : ℕ) → FreesLast p.leaf n
      → IsShorter lost p.leaf n → IsFreed k lost was (p.before ++ n ∷ p.after)
  last_frees held none n lost d h =
      let b = blocks_of p.before in
      let m = held.lower ++ held.last ∷ [] in
      let is : p.leaf ≡ m ++ held_block k ∷ [] = held.is ∙ sym (snoc held.lower held.last (held_block k ∷ [])) in
      let q = one_snoc m d.lower (held_block k) (held_block d.key) (sym is ∙ d.before) in
      let key : k ≡ d.key = ap (λ (z : Block). z.key) q.1 in
      let now : n ≡ freed_between m k [] = d.after ∙ ap (λ z. freed_between d.lower z []) (sym key) ∙ ap (λ z. freed_between z k []) (sym q.0) in
      let some : 0 < length m = omega (arith, length-append held.lower (held.last ∷ [])) in
      let frees : (r : List Block) → StartHeld r → FreesBlock k (b ++ ((m ++ held_block k ∷ []) ++ r)) (b ++ (freed_between m k [] ++ r)) = λ r.
      by_rest b m some r in
      edge_freed n lost h
      (subst (λ z. FreesBlock k (b ++ (z ++ blocks_of p.after)) (b ++ (n ++ blocks_of p.after))) (sym is)
      (subst (λ z. FreesBlock k (b ++ ((m ++ held_block k ∷ []) ++ blocks_of p.after)) (b ++ (z ++ blocks_of p.after))) (sym now) (frees (blocks_of p.after) none)))
    where
      one_snoc : (xs ys : List Block) (x y : Block) → xs ++ x ∷ [] ≡ ys ++ y ∷ [] → (xs ≡ ys) × (x ≡ y)
      one_snoc [] [] x y e = let f : x ≡ y = cc in (refl, f)
      one_snoc [] (v ∷ ys) x y e = absurd (omega (arith, ap length e, length-append ys (y ∷ [])))
      one_snoc (u ∷ xs) [] x y e = absurd (omega (arith, ap length e, length-append xs (x ∷ [])))
      one_snoc (u ∷ xs) (v ∷ ys) x y e =
          let f : u ≡ v = cc in
          let g : xs ++ x ∷ [] ≡ ys ++ y ∷ [] = cc in
          let r = one_snoc xs ys x y g in
          (ap (λ b. b ∷ xs) f ∙ ap (λ bs. v ∷ bs) r.0, r.1)

      by_rest : (b m : List Block) → 0 < length m → (r : List Block) → StartHeld r
          → FreesBlock k (b ++ ((m ++ held_block k ∷ []) ++ r)) (b ++ (freed_between m k [] ++ r))
      by_rest b m l [] h =
          rw (append-nil (m ++ held_block k ∷ []), append-nil (freed_between m k []))
          (record { lower = b ++ m; upper = []; before = sym (append_assoc b m (held_block k ∷ [])); after = sym (freed_under b m [] k l) })
      by_rest b m l (g ∷ r) h = before_held k b m g r l h

pub frees_end : (k : Range) (edge : Edge) (was : List (List Block)) → AreSpace was → IsApart k edge was
    → IsChangeable edge.at (FreesEnd edge.end) (RefusesEnd edge.end) k was was
frees_end k edge was s a = by_end edge.end a.place.here.held a.none
  where
    key : AtKey blocks_entry edge.at a.place.before a.place.leaf a.place.after
    key = at_key a.place.before a.place.leaf a.place.after edge.at (subst AreSpace a.place.was s) a.place.here.at

    by_end : (d : End) → IsHeldAt d k edge.to a.place.leaf → NoGap d a.place.before a.place.after → IsChangeable edge.at (FreesEnd d) (RefusesEnd d) k was was
    by_end First held none = record {
      before = a.place.before;
      leaf = a.place.leaf;
      after = a.place.after;
      is = a.place.was;
      key = key;
      ascends = space_ascends was s;
      not = λ r. (let e = ap (λ (z : List Block). (nth z 0).state) held.is in held_not_free _ r e);
      frees = first_frees k edge was s a.place held none;
    }
    by_end Last held none = record {
      before = a.place.before;
      leaf = a.place.leaf;
      after = a.place.after;
      is = a.place.was;
      key = key;
      ascends = space_ascends was s;
      not = λ r.
          (let m = held.lower ++ held.last ∷ [] in
          let is : a.place.leaf ≡ m ++ held_block k ∷ [] = held.is ∙ sym (snoc held.lower held.last (held_block k ∷ [])) in
          let e = ap (λ (z : List Block). (nth z (length z - 1)).state) is ∙ ap (λ (z : Block). z.state) (last_append m (held_block k ∷ []) (omega arith)) in
          held_not_free _ r e);
      frees = last_frees k edge was s a.place held none;
    }
