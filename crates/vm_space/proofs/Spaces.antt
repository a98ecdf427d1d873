-- The leaves of a space, and the leaf of an address.
use Rattle.std.proofs.Common.{◌≡◌, ℕ, ◌+◌, ◌-◌, ◌<◌, ◌≤◌, max, List, [], ◌∷◌, ◌++◌, length, Bool, true, false, if◌then◌else◌, nat_lt, refl, ap, ◌∙◌, sym, subst, arith, append_assoc, length-append}
use Rattle.std.proofs.lemmas.List.{append-nil}
use Rattle.vm_ranges.specs.Range.{Range, MAX}
use Rattle.vm_ranges.specs.declared.state.NodeState.{NodeState}
use Rattle.vm_ranges.specs.declared.state.NodeState.TheVariants.{Allocated}
use Rattle.vm_leaf.specs.declared.block.Block.{Block}
use Rattle.vm_leaf.specs.Block.{free_block, held_block}
use Rattle.vm_leaf.specs.Blocks.{Tiles, longest_gap, nth, start_of, end_of, before_part, after_part, parts, IsRun}
use Rattle.vm_leaf.specs.Entries.{blocks_entry}
use Rattle.vm_leaf.proofs.Tiles.{tiles_order, tiles_part}
use Rattle.vm_tree.specs.Subtree.{AreFrom, Ascend, AllOf, leaves_entry}
use Rattle.vm_tree.specs.Between.{Rise}
use Rattle.vm_tree.specs.Edits.{IsBefore, IsHome}
use Rattle.vm_space.specs.Leaves.{blocks_of, HaveBlocks, IsInLeaf}
use Rattle.vm_space.specs.Spaces.{EndBelow, AreSpace}
use Rattle.vm_space.proofs.Lists.{start_append, end_append, end_left, cut_tiles, cover_left, cover_right, longest_append}
use Rattle.vm_space.proofs.Allocating.{start_tiles}

pub blocks_append : (xs ys : List (List Block)) → blocks_of (xs ++ ys) ≡ blocks_of xs ++ blocks_of ys
blocks_append [] ys = refl
blocks_append (x ∷ xs) ys = ap (λ (z : List Block). x ++ z) (blocks_append xs ys) ∙ sym (append_assoc x (blocks_of xs) (blocks_of ys))

pub have_append : (xs ys : List (List Block)) → HaveBlocks xs → HaveBlocks ys → HaveBlocks (xs ++ ys)
have_append [] ys a b = b
have_append (x ∷ xs) ys a b = (a.0, have_append xs ys a.1 b)

pub have_left : (xs ys : List (List Block)) → HaveBlocks (xs ++ ys) → HaveBlocks xs
have_left [] ys a = tt
have_left (x ∷ xs) ys a = (a.0, have_left xs ys a.1)

pub have_right : (xs ys : List (List Block)) → HaveBlocks (xs ++ ys) → HaveBlocks ys
have_right [] ys a = a
have_right (x ∷ xs) ys a = have_right xs ys a.1

-- ---- The addresses of the leaves ascend
from_weaken : (a b : ℕ) (ls : List (List Block)) → a ≤ b → AreFrom blocks_entry b ls → AreFrom blocks_entry a ls
from_weaken a b [] l h = tt
from_weaken a b (x ∷ ls) l h = (omega (arith, h.0), from_weaken a b ls l h.1)

pub ascend_tiles : (p : NodeState) (lo hi : ℕ) (ls : List (List Block)) → Tiles p lo (blocks_of ls) hi → HaveBlocks ls →
    AreFrom blocks_entry lo ls × Ascend blocks_entry ls
ascend_tiles p lo hi [] t h = (tt, tt)
ascend_tiles p lo hi (x ∷ ls) t h =
    let c = cut_tiles p lo hi x (blocks_of ls) h.0 t in
    let e = (nth x (length x - 1)).key.end in
    let r = ascend_tiles c.1.0 (e + 1) hi ls c.1.1 h.1 in
    let s = start_tiles p lo e x h.0 c.0 in
    let o = tiles_order p lo e x c.0 in (
      (omega (arith, s), from_weaken lo (e + 1) ls o r.0),
      (from_weaken (start_of x) (e + 1) ls (omega (arith, s, o)) r.0, r.1),
    )

pub space_ascends : (ls : List (List Block)) → AreSpace ls → Ascend blocks_entry ls
space_ascends ls h = (ascend_tiles Allocated h.run.lo h.run.hi ls h.run.tiles h.some).1

pub space_some : (ls : List (List Block)) → AreSpace ls → 0 < length ls
space_some [] h = absurd (omega (arith, h.run.some))
space_some (x ∷ ls) h = omega arith

-- ---- The leaf that has an address
-- An address that is not below or above the blocks in the middle of three lists.
pub middle_from : (l m r : List Block) (t : ℕ) → 0 < length m → start_of (l ++ (m ++ r)) ≤ t → (0 < length l → start_of m ≤ t) → start_of m ≤ t
middle_from [] m r t some a low = omega (arith, a, start_append m r some)
middle_from (x ∷ l) m r t some a low = low (omega arith)

run_after : (l m r : List Block) → IsRun (l ++ (m ++ r)) → 0 < length m → IsRun (m ++ r)
run_after [] m r run some = run
run_after (y ∷ l) m r run some = cover_right (y ∷ l) (m ++ r) run (omega arith) (omega (arith, some, length-append m r))

pub middle_run : (l m r : List Block) → IsRun (l ++ (m ++ r)) → 0 < length m → IsRun m
middle_run l m r run some = cover_left m r (run_after l m r run some) some

pub middle_upto : (l m r : List Block) (t : ℕ) → IsRun (l ++ (m ++ r)) → 0 < length m → t ≤ end_of (l ++ (m ++ r)) → (0 < length r → t < start_of r) → t ≤ end_of m
middle_upto l m [] t run some b high =
    let e : end_of (l ++ (m ++ [])) ≡ end_of m = ap (λ (z : List Block). end_of (l ++ z)) (append-nil m) ∙ end_append l m some in
    omega (arith, b)
middle_upto l m (x ∷ r) t run some b high =
    let e = end_left m (x ∷ r) (run_after l m (x ∷ r) run some) some (omega arith) in
    let k = high (omega arith) in
    omega arith

-- The second of three lists of blocks has the address.
in_middle : (l m r : List Block) (t : ℕ) → IsRun (l ++ (m ++ r)) → 0 < length m → start_of (l ++ (m ++ r)) ≤ t → t ≤ end_of (l ++ (m ++ r)) →
    (0 < length l → start_of m ≤ t) → (0 < length r → t < start_of r) → IsInLeaf t m
in_middle l m r t run some a b low high = record { from = middle_from l m r t some a low; upto = middle_upto l m r t run some b high }

-- A leaf is between others.
pub blocks_cut : (before : List (List Block)) (leaf : List Block) (after : List (List Block)) →
    blocks_of (before ++ leaf ∷ after) ≡ blocks_of before ++ (leaf ++ blocks_of after)
blocks_cut before leaf after = blocks_append before (leaf ∷ after)

pub blocks_new : (before leaves after : List (List Block)) →
    blocks_of (before ++ (leaves ++ after)) ≡ blocks_of before ++ (blocks_of leaves ++ blocks_of after)
blocks_new before leaves after = blocks_append before (leaves ++ after) ∙ ap (λ (z : List Block). blocks_of before ++ z) (blocks_append leaves after)

pub some_leaf : (before : List (List Block)) → 0 < length (blocks_of before) → 0 < length before
some_leaf [] h = absurd (omega arith)
some_leaf (x ∷ before) h = omega arith

pub before_next : (t : ℕ) (after : List (List Block)) → HaveBlocks after → IsBefore blocks_entry t after → 0 < length (blocks_of after) → t < start_of (blocks_of after)
before_next t [] a h l = absurd (omega arith)
before_next t (x ∷ after) a h l = omega (arith, h, start_append x (blocks_of after) a.0)

-- The home of an address of the space has the address.
pub home_has : (t : ℕ) (ls before : List (List Block)) (leaf : List Block) (after : List (List Block)) → AreSpace ls
    → start_of (blocks_of ls) ≤ t → t ≤ end_of (blocks_of ls) → IsHome blocks_entry t ls before leaf after → IsInLeaf t leaf
home_has t ls before leaf after space a b home =
    let e : blocks_of ls ≡ blocks_of before ++ (leaf ++ blocks_of after) = ap blocks_of home.was ∙ blocks_cut before leaf after in
    let have : HaveBlocks (before ++ leaf ∷ after) = subst HaveBlocks home.was space.some in
    let right = have_right before (leaf ∷ after) have in
    in_middle (blocks_of before) leaf (blocks_of after) t (subst IsRun e space.run) right.0
    (subst (λ (z : List Block). start_of z ≤ t) e a) (subst (λ (z : List Block). t ≤ end_of z) e b)
    (λ l. home.here.low (some_leaf before l)) (λ l. before_next t after right.1 home.here.high l)

-- ---- Allocated blocks end below MAX
pub below_append : (l r : List Block) → EndBelow l → EndBelow r → EndBelow (l ++ r)
below_append [] r a b = b
below_append (x ∷ l) r a b = (a.0, below_append l r a.1 b)

pub below_left : (l r : List Block) → EndBelow (l ++ r) → EndBelow l
below_left [] r a = tt
below_left (x ∷ l) r a = (a.0, below_left l r a.1)

pub below_right : (l r : List Block) → EndBelow (l ++ r) → EndBelow r
below_right [] r a = a
below_right (x ∷ l) r a = below_right l r a.1

below_free : (k : Range) → EndBelow (free_block k ∷ [])
below_free k = (λ e. absurd (cc), tt)

below_if : (b : Bool) (k : Range) → EndBelow (if b then free_block k ∷ [] else [])
below_if true k = below_free k
below_if false k = tt

pub below_parts : (k r : Range) → r.end < MAX → EndBelow (parts k r)
below_parts k r h =
    below_append (before_part k r) (held_block r ∷ after_part k r) (below_if (nat_lt k.start r.start) (record { start = k.start; end = r.start - 1 }))
    (λ e. h, below_if (nat_lt r.end k.end) (record { start = r.end + 1; end = k.end }))

-- ---- The entry of all leaves
pub longest_of_leaves : (ls : List (List Block)) → (leaves_entry blocks_entry ls).longest ≡ longest_gap (blocks_of ls)
longest_of_leaves [] = refl
longest_of_leaves (x ∷ ls) = ap (max (longest_gap x)) (longest_of_leaves ls) ∙ sym (longest_append x (blocks_of ls))

-- ---- The addresses of the leaves rise
from_above : (x : List Block) (z : ℕ) (ls : List (List Block)) → start_of x < z → AreFrom blocks_entry z ls
    → AllOf (λ y. (blocks_entry x).at < (blocks_entry y).at) ls
from_above x z [] l f = tt
from_above x z (y ∷ ls) l f = (omega (arith, l, f.0), from_above x z ls l f.1)

rise_tiles : (p : NodeState) (lo hi : ℕ) (ls : List (List Block)) → Tiles p lo (blocks_of ls) hi → HaveBlocks ls → Rise blocks_entry ls
rise_tiles p lo hi [] t h = tt
rise_tiles p lo hi (x ∷ ls) t h =
    let c = cut_tiles p lo hi x (blocks_of ls) h.0 t in
    let e = (nth x (length x - 1)).key.end in
    let r = ascend_tiles c.1.0 (e + 1) hi ls c.1.1 h.1 in
    let s = start_tiles p lo e x h.0 c.0 in
    let q = tiles_part p lo e x 0 c.0 h.0 in
    (from_above x (e + 1) ls (omega (arith, q.some, q.upto)) r.0, rise_tiles c.1.0 (e + 1) hi ls c.1.1 h.1)

pub space_rises : (ls : List (List Block)) → AreSpace ls → Rise blocks_entry ls
space_rises ls h = rise_tiles Allocated h.run.lo h.run.hi ls h.run.tiles h.some
