-- The first block of a cursor, and the cursor after it.
use Rattle.std.proofs.Common.{
  ◌≡◌,
  ◌≢◌,
  ℕ,
  ◌+◌,
  ◌-◌,
  ◌≤◌,
  ◌<◌,
  List,
  [],
  ◌∷◌,
  ◌++◌,
  length,
  refl,
  sym,
  ap,
  ◌∙◌,
  subst,
  arith,
  ⊎_elim,
  append_assoc,
  length-append,
}
use Rattle.std.proofs.lemmas.Bool.{cases_lt, lt-ltb, le-ltb}
use Rattle.vm_ranges.specs.Range.{Range}
use Rattle.vm_ranges.specs.declared.state.NodeState.TheVariants.{Allocated}
use Rattle.vm_leaf.specs.declared.block.Block.{Block}
use Rattle.vm_leaf.specs.Block.{free_block, held_block}
use Rattle.vm_leaf.specs.Blocks.{Tiles, IsLeaf, IsRun}
use Rattle.vm_leaf.specs.declared.leaf.TheConstants.{CAPACITY}
use Rattle.vm_space.specs.Building.{remaining_blocks, IsBlockCursor}
use Rattle.vm_leaf.specs.SpaceBlocks.{blocks_between, gap_before}
use Rattle.vm_ranges.specs.Address.{AreInOrder}
use Rattle.vm_space.specs.declared.build.BlockCursor.{BlockCursor}
use Rattle.vm_space.proofs.Lists.{cover_left, cover_leaf}

-- There is a gap before a range only if the range starts later.
no_gap : (lo next : ℕ) → next ≤ lo → gap_before lo next ≡ []
no_gap lo next h = rw (le-ltb lo next h) refl

gap : (lo next : ℕ) → lo < next → gap_before lo next ≡ free_block (record { start = lo; end = next - 1 }) ∷ []
gap lo next h = rw (lt-ltb lo next h) refl

-- If a block is left, the cursor has an address.
pub some_address : (lo hi : ℕ) (rs : List Range) → lo ≤ hi + 1 → AreInOrder lo rs hi → blocks_between lo rs hi ≢ [] → lo ≤ hi
some_address lo hi [] l s n = ⊎_elim (λ (c : hi < lo). absurd (n (no_gap lo (hi + 1) (omega arith)))) (λ (c : lo ≤ hi). c) (cases_lt hi lo)
some_address lo hi (r ∷ rs) l s n = omega (arith, s.0, s.1, s.2)

-- If no range is left, the rest of the space is a gap.
pub last_gap : (lo hi : ℕ) → lo ≤ hi →
    blocks_between lo [] hi ≡ free_block (record { start = lo; end = hi }) ∷ blocks_between (hi + 1) [] hi
last_gap lo hi l =
    let end : hi + 1 - 1 ≡ hi = omega arith in
    gap lo (hi + 1) (omega arith) ∙ ap (λ (v : ℕ). free_block (record { start = lo; end = v }) ∷ []) end
    ∙ ap (λ (v : List Block). free_block (record { start = lo; end = hi }) ∷ v) (sym (no_gap (hi + 1) (hi + 1) (omega arith)))

-- If the next range starts later, a gap is before it.
pub gap_first : (lo hi : ℕ) (r : Range) (rs : List Range) → lo < r.start →
    blocks_between lo (r ∷ rs) hi ≡ free_block (record { start = lo; end = r.start - 1 }) ∷ blocks_between r.start (r ∷ rs) hi
gap_first lo hi r rs l =
    let rest = held_block r ∷ blocks_between (r.end + 1) rs hi in
    ap (λ (v : List Block). v ++ rest) (gap lo r.start l)
    ∙ ap (λ (v : List Block). free_block (record { start = lo; end = r.start - 1 }) ∷ (v ++ rest))
    (sym (no_gap r.start r.start (omega arith)))

-- If the next range starts here, it is the first block.
pub held_first : (lo hi : ℕ) (r : Range) (rs : List Range) → r.start ≤ lo →
    blocks_between lo (r ∷ rs) hi ≡ held_block r ∷ blocks_between (r.end + 1) rs hi
held_first lo hi r rs l = ap (λ (v : List Block). v ++ held_block r ∷ blocks_between (r.end + 1) rs hi) (no_gap lo r.start l)

pub ruleset firsts = (some_address, last_gap, gap_first, held_first)

-- ---- The blocks are in order
-- The blocks of ranges in order cover the space.
pub between_tiles : (lo hi : ℕ) (rs : List Range) → lo ≤ hi + 1 → AreInOrder lo rs hi → Tiles Allocated lo (blocks_between lo rs hi) hi
between_tiles lo hi [] l s =
    ⊎_elim
    (λ (c : lo < hi + 1). rw (lt-ltb lo (hi + 1) c) (refl, omega arith, tt, omega arith))
    (λ (c : hi + 1 ≤ lo). rw (le-ltb lo (hi + 1) c) (omega arith))
    (cases_lt lo (hi + 1))
between_tiles lo hi (r ∷ rs) l s =
    let rest = between_tiles (r.end + 1) hi rs (omega (arith, s.2)) s.4 in
    ⊎_elim
    (λ (c : lo < r.start). rw (lt-ltb lo r.start c) (refl, omega arith, tt, (omega arith, omega (arith, s.1), tt, rest)))
    (λ (c : r.start ≤ lo). rw (le-ltb lo r.start c) (omega (arith, s.0), omega (arith, s.0, s.1), tt, rest))
    (cases_lt lo r.start)

-- ---- A leaf of the next blocks
-- The blocks that a cursor has left are a run.
pub cursor_run : (c : BlockCursor) → IsBlockCursor c → remaining_blocks c ≢ [] → IsRun (remaining_blocks c)
cursor_run c h n =
    let a = some_address c.next c.end c.held.now h.within h.in_order n in
    record {
      lo = c.next;
      hi = c.end;
      some = not_empty (remaining_blocks c) n;
      tiles = between_tiles c.next c.end c.held.now h.within h.in_order;
      range = (a, h.upto, h.not_all);
    }
  where
    not_empty : (bs : List Block) → bs ≢ [] → 0 < length bs
    not_empty [] n = absurd (n refl)
    not_empty (b ∷ bs) n = omega arith

-- If fewer blocks were read than there are, a block is left.
pub some_left : (old xs ys : List Block) (n : ℕ) → old ≡ xs ++ ys → n ≤ length old → length xs < n → ys ≢ []
some_left old xs ys n e l k z =
    let f = ap length e ∙ length-append xs ys in
    let g : length ys ≡ 0 = ap length z in
    absurd (omega arith)

-- The next block moves from the blocks that are left to those that were read.
pub one_more : (old xs ys more : List Block) (b : Block) → old ≡ xs ++ ys → ys ≡ b ∷ more → old ≡ (xs ++ b ∷ []) ++ more
one_more old xs ys more b e f = e ∙ ap (λ (v : List Block). xs ++ v) f ∙ sym (append_assoc xs (b ∷ []) more)

-- Up to CAPACITY blocks that were read are a leaf.
pub leaf_one_more : (old xs ys more : List Block) (b : Block) → IsRun old → old ≡ xs ++ ys → ys ≡ b ∷ more → length xs < CAPACITY →
    IsLeaf (xs ++ b ∷ [])
leaf_one_more old xs ys more b run e f l =
    let n = length-append xs (b ∷ []) in
    let g = one_more old xs ys more b e f in
    cover_leaf (xs ++ b ∷ []) (cover_left (xs ++ b ∷ []) more (subst IsRun g run) (omega arith)) (omega arith)

-- A list of at least one block is not empty.
pub none_of_none : (bs : List Block) (n : ℕ) → n ≤ length bs → 0 < n → bs ≢ []
none_of_none bs n l k z = let g : length bs ≡ 0 = ap length z in absurd (omega arith)

pub ruleset filling = (cursor_run, some_left, one_more, leaf_one_more, none_of_none, length-append)
