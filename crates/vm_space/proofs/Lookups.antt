-- The leaf at an address, and the block at it.
use Rattle.std.proofs.Common.{◌≡◌, ℕ, zero, suc, ◌+◌, ◌-◌, ◌<◌, ◌≤◌, List, [], ◌∷◌, ◌++◌, length, true, false, leb, Some, None, refl, ap, ◌∙◌, sym, subst, arith, length-append, append-nil}
use Rattle.std.proofs.lemmas.Bool.{le-leb, lt-leb, and_right}
use Rattle.std.proofs.lemmas.List.{get_or_append_left, get_or-append_right}
use Rattle.vm_leaf.specs.declared.block.Block.{Block}
use Rattle.vm_ranges.specs.Range.{IsIn, at_address}
use Rattle.vm_ranges.specs.RangeOrder.{covers}
use Rattle.vm_ranges.specs.declared.state.NodeState.{NodeState}
use Rattle.vm_ranges.specs.declared.state.NodeState.TheVariants.{Allocated}
use Rattle.vm_leaf.specs.Blocks.{nth, blank, start_of, end_of, Tiles, IsRun}
use Rattle.vm_leaf.proofs.Tiles.{tiles_part}
use Rattle.vm_space.specs.Lookups.{find_superset, IsLeafAt}
use Rattle.vm_leaf.specs.Entries.{blocks_entry}
use Rattle.vm_tree.specs.Edits.{IsHome}
use Rattle.vm_tree.specs.Found.{IsLeafOf}
use Rattle.vm_space.specs.Leaves.{blocks_of, HaveBlocks}
use Rattle.vm_space.specs.Spaces.{AreSpace}
use Rattle.vm_space.proofs.Lists.{start_append, end_append, end_left, cover_right}
use Rattle.vm_space.proofs.Spaces.{blocks_cut, have_right, some_leaf, before_next}

-- A number that is not positive is 0.
zero_if : (n : ℕ) → (0 < n → ⊥) → n ≡ 0
zero_if zero h = refl
zero_if (suc n) h = absurd (h (omega arith))

no_blocks : (bs : List Block) → length bs ≡ 0 → bs ≡ []
no_blocks [] z = refl
no_blocks (b ∷ bs) z = absurd (omega arith)

-- The end of a cover is at most one below its start.
tiles_order : (p : NodeState) (lo hi : ℕ) (bs : List Block) → Tiles p lo bs hi → lo ≤ hi + 1
tiles_order p lo hi [] t = omega arith
tiles_order p lo hi (b ∷ bs) t = let h = tiles_order b.state (b.key.end + 1) hi bs t.3 in omega arith

-- A cover starts at the start of its first block.
start_is_low : (p : NodeState) (lo hi : ℕ) (bs : List Block) → 0 < length bs → Tiles p lo bs hi → start_of bs ≡ lo
start_is_low p lo hi [] z t = absurd (omega arith)
start_is_low p lo hi (b ∷ bs) z t = t.0

-- ---- The leaf of the address
-- The home of an address among the leaves of a space.
pub home_leaf : (t : ℕ) (ls before : List (List Block)) (leaf : List Block) (after : List (List Block)) → AreSpace ls
    → IsHome blocks_entry t ls before leaf after → IsLeafAt t (blocks_of ls) leaf
home_leaf t ls before leaf after space home =
    let have : HaveBlocks (before ++ leaf ∷ after) = subst HaveBlocks home.was space.some in
    let right = have_right before (leaf ∷ after) have in
    record {
      lower = blocks_of before;
      upper = blocks_of after;
      cut = ap blocks_of home.was ∙ blocks_cut before leaf after;
      some = right.0;
      from = λ l. home.here.low (some_leaf before l);
      upto = λ l.
          (let run = subst IsRun (ap blocks_of home.was ∙ blocks_cut before leaf after) space.run in
          let n = before_next t after right.1 home.here.high l in
          omega (arith, n, seam (blocks_of before) leaf (blocks_of after) run right.0 l));
    }
  where
    seam : (l m r : List Block) → IsRun (l ++ (m ++ r)) → 0 < length m → 0 < length r → start_of r ≡ end_of m + 1
    seam [] m r run n k = end_left m r run n k
    seam (x ∷ l) m r run n k = end_left m r (cover_right (x ∷ l) (m ++ r) run (omega arith) (omega (arith, length-append m r, n))) n k

pub leaf_found : (t : ℕ) (ls : List (List Block)) (leaf : List Block) → AreSpace ls → IsLeafOf blocks_entry t ls leaf → IsLeafAt t (blocks_of ls) leaf
leaf_found t ls leaf space h = subst (IsLeafAt t (blocks_of ls)) h.refused (home_leaf t ls h.before h.leaf h.after space h.home)

-- ---- The block at the address
-- A block covers an address if and only if the address is in it.
covers_it : (b : Block) (x : ℕ) → b.key.start ≤ x → x ≤ b.key.end → covers b.key (at_address x) ≡ true
unfolding covers
covers_it b x h k = rw (le-leb b.key.start x h, le-leb x b.key.end k) refl

covers_not_above : (b : Block) (x : ℕ) → x < b.key.start → covers b.key (at_address x) ≡ false
unfolding covers
covers_not_above b x h = rw (lt-leb b.key.start x h) refl

covers_not_below : (b : Block) (x : ℕ) → b.key.end < x → covers b.key (at_address x) ≡ false
unfolding covers
covers_not_below b x h = rw (lt-leb x b.key.end h) (and_right (leb b.key.start x) false refl)

-- No block covers an address below all blocks, or above all blocks.
none_above : (p : NodeState) (lo hi x : ℕ) (bs : List Block) → Tiles p lo bs hi → x < lo → find_superset (at_address x) bs ≡ None
none_above p lo hi x [] t h = refl
none_above p lo hi x (b ∷ bs) t h = rw (covers_not_above b x (omega (arith, t.0)))
    (none_above b.state (b.key.end + 1) hi x bs t.3 (omega (arith, t.0, t.1)))

none_below : (p : NodeState) (lo hi x : ℕ) (bs : List Block) → Tiles p lo bs hi → hi < x → find_superset (at_address x) bs ≡ None
none_below p lo hi x [] t h = refl
none_below p lo hi x (b ∷ bs) t h =
    let e = tiles_order b.state (b.key.end + 1) hi bs t.3 in
    rw (covers_not_below b x (omega arith)) (none_below b.state (b.key.end + 1) hi x bs t.3 h)

-- The block that contains the address is found.
found : (p : NodeState) (lo hi x i : ℕ) (bs : List Block) → Tiles p lo bs hi → i < length bs → IsIn (nth bs i).key x →
    find_superset (at_address x) bs ≡ Some (nth bs i)
found p lo hi x i [] t l h = absurd (omega arith)
found p lo hi x zero (b ∷ bs) t l h = rw (covers_it b x h.0 h.1) refl
found p lo hi x (suc i) (b ∷ bs) t l h =
    let q = tiles_part b.state (b.key.end + 1) hi bs i t.3 (omega arith) in
    rw (covers_not_below b x (omega (arith, q.from, h.0))) (found b.state (b.key.end + 1) hi x i bs t.3 (omega arith) h)

module _ (bs leaf : List Block) (x : ℕ) (run : IsRun bs) (at : IsLeafAt x bs leaf) where
  -- Without blocks on one side, the leaf is at that end of the list.
  lower_only : length at.lower ≡ 0 → bs ≡ leaf ++ at.upper
  lower_only z = at.cut ∙ ap (λ (v : List Block). v ++ (leaf ++ at.upper)) (no_blocks at.lower z)

  upper_only : length at.upper ≡ 0 → bs ≡ at.lower ++ leaf
  upper_only z = at.cut ∙ ap (λ (v : List Block). at.lower ++ v)
      (ap (λ (v : List Block). leaf ++ v) (no_blocks at.upper z) ∙ append-nil leaf)

  -- No block covers an address below the leaf.
  pub none_before : x < start_of leaf → find_superset (at_address x) bs ≡ None
  none_before h =
      let z : length at.lower ≡ 0 = zero_if (length at.lower) (λ k. omega (arith, at.from k)) in
      let e = ap start_of (lower_only z) ∙ start_append leaf at.upper at.some in
      let q = tiles_part Allocated run.lo run.hi bs 0 run.tiles run.some in
      let k = start_is_low Allocated run.lo run.hi bs run.some run.tiles in
      none_above Allocated run.lo run.hi x bs run.tiles (omega arith)

  -- No block covers an address above the leaf.
  pub none_after : end_of leaf < x → find_superset (at_address x) bs ≡ None
  none_after h =
      let z : length at.upper ≡ 0 = zero_if (length at.upper) (λ k. omega (arith, at.upto k)) in
      let e = ap end_of (upper_only z) ∙ end_append at.lower leaf at.some in
      let q = tiles_part Allocated run.lo run.hi bs (length bs - 1) run.tiles (omega (arith, run.some)) in
      none_below Allocated run.lo run.hi x bs run.tiles (omega (arith, q.last (omega (arith, run.some))))

  -- The block of the leaf that contains the address is found.
  pub block_found : (i : ℕ) → i < length leaf → IsIn (nth leaf i).key x → find_superset (at_address x) bs ≡ Some (nth leaf i)
  block_found i l h =
      let j = length at.lower + i in
      let n = length-append at.lower (leaf ++ at.upper) in
      let m = length-append leaf at.upper in
      let k = ap length at.cut in
      let e : nth bs (length at.lower + i) ≡ nth leaf i =
      ap (λ (v : List Block). nth v (length at.lower + i)) at.cut
      ∙ get_or-append_right at.lower (leaf ++ at.upper) (length at.lower) (length at.lower + i) blank refl (omega arith)
      ∙ ap (nth (leaf ++ at.upper)) (omega arith) ∙ get_or_append_left leaf at.upper blank i l in
      found Allocated run.lo run.hi x (length at.lower + i) bs run.tiles (omega arith) (subst (λ (b : Block). IsIn b.key x) (sym e) h)
      ∙ ap (λ (b : Block). Some b) e

pub ruleset at_address_cases = (none_before, none_after, block_found)
