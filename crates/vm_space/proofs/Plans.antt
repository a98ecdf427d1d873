-- The plan of the tree of a space.
use Rattle.std.proofs.Common.{◌≡◌, ℕ, zero, suc, ◌+◌, ◌-◌, ◌*◌, ◌/◌, ◌%◌, ◌^◌, ◌<◌, ◌≤◌, min, List, [], ◌∷◌, ◌++◌, length, take, drop, refl, sym, ap, ◌∙◌, subst, arith, inl, inr, length-append, length-take-le, length-drop, append-nil, take-append-drop}
use Rattle.std.proofs.lemmas.Bool.{cases_lt, lt-ltb, le-ltb}
use Rattle.std.proofs.Math.Nat.{mul-le-mul_left, div-add-mod}
use Rattle.vm_ranges.specs.Range.{Range, MAX}
use Rattle.vm_ranges.specs.Address.{AreInOrder}
use Rattle.vm_leaf.specs.declared.block.Block.{Block}
use Rattle.vm_leaf.specs.Block.{held_block}
use Rattle.vm_leaf.specs.Blocks.{IsRun}
use Rattle.vm_leaf.specs.Entries.{HasEnough}
use Rattle.vm_leaf.specs.declared.leaf.TheConstants.{CAPACITY, MIN_BLOCKS}
use Rattle.vm_leaf.specs.SpaceBlocks.{blocks_between, gap_before}
use Rattle.vm_tree.specs.Subtree.{Subtree, AllOf, leaf_of}
use Rattle.vm_tree.specs.Building.{IsBuiltTree as IsBuiltOf}
use Rattle.vm_space.specs.Leaves.{blocks_of, HaveBlocks}
use Rattle.vm_space.specs.Spaces.{AreSpace, EndBelow}
use Rattle.vm_space.specs.Building.{shares, IsBuiltTree}
use Rattle.vm_space.proofs.BlockCursors.{between_tiles}
use Rattle.vm_space.proofs.Spaces.{below_append}

-- A space has a block.
pub some_between : (lo hi : ℕ) (rs : List Range) → lo ≤ hi → 0 < length (blocks_between lo rs hi)
some_between lo hi [] l = rw (lt-ltb lo (hi + 1) (omega arith)) (omega arith)
some_between lo hi (r ∷ rs) l = let n = length-append (gap_before lo r.start) (held_block r ∷ blocks_between (r.end + 1) rs hi) in omega
    arith

module _ (n l e m : ℕ) (some : 0 < n) (few : n < 2 ^ 49) (leaves : l ≡ (n - 1) / CAPACITY + 1) (each : e ≡ n / l) (more : m ≡ n % l) where
  -- The leaves of a plan have all blocks.
  pub count_is : l * e + m ≡ n
  count_is = rw (each, more) (div-add-mod n l)

  -- The leaves have room for all blocks.
  enough : n ≤ CAPACITY * l
  enough = omega arith

  -- With one leaf less, the blocks would not fit.
  pub needed : CAPACITY * l < n + CAPACITY
  needed = omega arith

  -- Not every leaf gets one block more.
  rest : m < l
  rest = omega arith

  -- The leaves have between MIN_BLOCKS and CAPACITY blocks, unless there is only one.
  pub fits : e ≤ CAPACITY
  fits =
      let c = count_is in
      let a = enough in
      elim (cases_lt CAPACITY e) [
        | inl k ↦ (let f : l * (CAPACITY + 1) ≤ l * e = mul-le-mul_left l (omega arith) in absurd (omega arith))
        | inr k ↦ k
      ]

  pub fits_more : 0 < m → e < CAPACITY
  fits_more z =
      let c = count_is in
      let a = enough in
      elim (cases_lt e CAPACITY)
      [ inl k ↦ k | inr k ↦ (let f : l * CAPACITY ≤ l * e = mul-le-mul_left l (omega arith) in absurd (omega arith)) ]

  pub full : 1 < l → MIN_BLOCKS ≤ e
  full z =
      let c = count_is in
      let b = needed in
      let r = rest in
      elim (cases_lt (MIN_BLOCKS - 1) e)
      [ inl k ↦ omega arith | inr k ↦ (let f : l * e ≤ l * (MIN_BLOCKS - 1) = mul-le-mul_left l (omega arith) in absurd (omega arith)) ]

  pub rest_few : m ≤ l
  rest_few = let r = rest in omega arith

pub many : (n : ℕ) → ((n - 1) / CAPACITY + 1 ≡ 1 → ⊥) → 1 < (n - 1) / CAPACITY + 1
many n h = elim (cases_lt 1 ((n - 1) / CAPACITY + 1)) [ inl k ↦ k | inr k ↦ absurd (h (omega arith)) ]

-- ---- The shares of the blocks
length_shares : (n e m : ℕ) (bs : List Block) → length (shares n e m bs) ≡ n
length_shares zero e m bs = refl
length_shares (suc n) e m bs = omega (arith, length_shares n e (m - min m 1) (drop (e + min m 1) bs))

-- Enough blocks are left for the other leaves.
left_enough : (n e m : ℕ) (bs : List Block) → suc n * e + m ≤ length bs → m ≤ suc n
    → (e + min m 1 ≤ length bs) × (n * e + (m - min m 1) ≤ length (drop (e + min m 1) bs)) × (m - min m 1 ≤ n)
left_enough n e m bs h o =
    let d = length-drop (e + min m 1) bs in
    (omega (arith, h), omega (arith, h, d), omega (arith, o))

-- All blocks are in the leaves.
shares_all : (n e m : ℕ) (bs : List Block) → n * e + m ≡ length bs → m ≤ n → blocks_of (shares n e m bs) ≡ bs
shares_all zero e m [] h o = refl
shares_all zero e m (b ∷ bs) h o = absurd (omega (arith, h, o))
shares_all (suc n) e m bs h o =
    let l = left_enough n e m bs (omega (arith, h)) o in
    let d = length-drop (e + min m 1) bs in
    ap (λ z. take (e + min m 1) bs ++ z) (shares_all n e (m - min m 1) (drop (e + min m 1) bs) (omega (arith, h, d, l.0)) l.2)
    ∙ take-append-drop (e + min m 1) bs

shares_enough : (n e m : ℕ) (bs : List Block) → n * e + m ≤ length bs → m ≤ n → MIN_BLOCKS ≤ e → e ≤ CAPACITY → (0 < m → e < CAPACITY)
    → AllOf HasEnough (shares n e m bs)
shares_enough zero e m bs h o f k g = tt
shares_enough (suc n) e m bs h o f k g =
    let l = left_enough n e m bs h o in
    let t = length-take-le (e + min m 1) bs l.0 in
    let room : e + min m 1 ≤ CAPACITY = elim (cases_lt 0 m) [ inl p ↦ omega (arith, g p) | inr p ↦ omega (arith, k, p) ] in
    ((omega (arith, f, t), omega (arith, t, room)), shares_enough n e (m - min m 1) (drop (e + min m 1) bs) l.1 l.2 f k (λ p. g (omega (arith, p))))

have_enough : (ls : List (List Block)) → AllOf HasEnough ls → HaveBlocks ls
have_enough [] a = tt
have_enough (x ∷ ls) a = (omega (arith, a.0.0), have_enough ls a.1)

-- The next leaf has the first blocks.
pub next_share : (n e m : ℕ) (bs leaf rest : List Block) → bs ≡ leaf ++ rest → length leaf ≡ e + min m 1
    → shares (suc n) e m bs ≡ leaf ∷ shares n e (m - min m 1) rest
next_share n e m bs leaf rest c l =
    ap (shares (suc n) e m) c ∙ ap (λ z. take z (leaf ++ rest) ∷ shares n e (m - min m 1) (drop z (leaf ++ rest))) (sym l)
    ∙ ap (λ z. z ∷ shares n e (m - min m 1) (drop (length leaf) (leaf ++ rest))) (take_all leaf rest)
    ∙ ap (λ z. leaf ∷ shares n e (m - min m 1) z) (drop_all leaf rest)
  where
    take_all : (xs ys : List Block) → take (length xs) (xs ++ ys) ≡ xs
    take_all [] ys = refl
    take_all (x ∷ xs) ys = ap (λ z. x ∷ z) (take_all xs ys)

    drop_all : (xs ys : List Block) → drop (length xs) (xs ++ ys) ≡ ys
    drop_all [] ys = refl
    drop_all (x ∷ xs) ys = drop_all xs ys

-- ---- The space
-- No allocated block has the highest address.
below_gap : (lo next : ℕ) → EndBelow (gap_before lo next)
below_gap lo next = elim (cases_lt lo next) [
  | inl l ↦ rw (lt-ltb lo next l) (λ e. absurd (cc), tt)
  | inr l ↦ rw (le-ltb lo next l) tt
]

below_between : (lo hi : ℕ) (rs : List Range) → AreInOrder lo rs hi → EndBelow (blocks_between lo rs hi)
below_between lo hi [] s = below_gap lo (hi + 1)
below_between lo hi (r ∷ rs) s =
    below_append (gap_before lo r.start) (held_block r ∷ blocks_between (r.end + 1) rs hi) (below_gap lo r.start)
    (λ e. s.3, below_between (r.end + 1) hi rs s.4)

pub space_between : (lo hi : ℕ) (rs : List Range) (ls : List (List Block)) → lo ≤ hi → hi ≤ MAX → (lo ≡ 0 → hi < MAX) → AreInOrder lo rs hi
    → HaveBlocks ls → blocks_of ls ≡ blocks_between lo rs hi → AreSpace ls
space_between lo hi rs ls l u z s h e = record {
  run = subst IsRun (sym e)
      (record { lo = lo; hi = hi; some = some_between lo hi rs l; tiles = between_tiles lo hi rs (omega (arith, l)) s; range = (l, u, z) });
  some = h;
  below = subst EndBelow (sym e) (below_between lo hi rs s);
}

-- The tree that is one leaf.
pub one_leaf : (lo hi n : ℕ) (rs : List Range) (leaf rest : List Block) → lo ≤ hi → hi ≤ MAX → (lo ≡ 0 → hi < MAX) → AreInOrder lo rs hi
    → n ≡ length (blocks_between lo rs hi) → blocks_between lo rs hi ≡ leaf ++ rest → length leaf ≡ n → n ≤ CAPACITY
    → IsBuiltTree (blocks_between lo rs hi) (leaf_of leaf)
one_leaf lo hi n rs leaf rest l u z s c cut k f =
    let none : rest ≡ [] = nothing rest (omega (arith, ap length cut, length-append leaf rest, c, k)) in
    let same : leaf ++ [] ≡ blocks_between lo rs hi = ap (λ v. leaf ++ v) (sym none) ∙ sym cut in
    let some = some_between lo hi rs l in
    record {
      blocks = same;
      space = space_between lo hi rs (leaf ∷ []) l u z s (omega (arith, some, c, k), tt) same;
      lowest = record { leaves = omega (arith, ap length same, some); height = λ p. absurd (omega (arith, p)) };
    }
  where
    nothing : (bs : List Block) → length bs ≡ 0 → bs ≡ []
    nothing [] z = refl
    nothing (x ∷ bs) z = absurd (omega (arith, z))

-- The tree over several leaves.
pub many_leaves : (lo hi n l e m : ℕ) (rs : List Range) (new : List (List Block)) (s : Subtree (List Block)) → lo ≤ hi → hi ≤ MAX → (lo ≡ 0 → hi < MAX)
    → AreInOrder lo rs hi → n ≡ length (blocks_between lo rs hi) → l * e + m ≡ n → m ≤ l → MIN_BLOCKS ≤ e → e ≤ CAPACITY → (0 < m → e < CAPACITY) → CAPACITY * l < n + CAPACITY
    → IsBuiltOf HasEnough l (shares l e m (blocks_between lo rs hi)) new s → IsBuiltTree (blocks_between lo rs hi) s
many_leaves lo hi n l e m rs new s a u z o c k f g v w h b =
    let bs = blocks_between lo rs hi in
    let none : new ≡ [] = nothing new (omega (arith, ap length b.cut, length-append s.leaves new, length_shares l e m bs, b.count)) in
    let same : s.leaves ≡ shares l e m bs = sym (append-nil s.leaves) ∙ ap (λ v. s.leaves ++ v) (sym none) ∙ sym b.cut in
    let all : blocks_of s.leaves ≡ bs = ap blocks_of same ∙ shares_all l e m bs (omega (arith, c, k)) f in
    record {
      blocks = all;
      space = space_between lo hi rs s.leaves a u z o (subst HaveBlocks (sym same) (have_enough _ (shares_enough l e m bs (omega (arith, c, k)) f g v w))) all;
      lowest = record { leaves = omega (arith, h, ap length all, c, b.count); height = λ p. omega (arith, b.lowest p, b.count) };
    }
  where
    nothing : (ls : List (List Block)) → length ls ≡ 0 → ls ≡ []
    nothing [] z = refl
    nothing (x ∷ ls) z = absurd (omega (arith, z))

pub there : (l e m : ℕ) (bs : List Block) → l ≤ length (shares l e m bs)
there l e m bs = omega (arith, length_shares l e m bs)

pub all_enough : (l e m n : ℕ) (bs : List Block) → l * e + m ≡ n → n ≡ length bs → m ≤ l → MIN_BLOCKS ≤ e → e ≤ CAPACITY → (0 < m → e < CAPACITY)
    → AllOf HasEnough (shares l e m bs)
all_enough l e m n bs k c o f v w = shares_enough l e m bs (omega (arith, k, c)) o f v w

pub next_fits : (n e m : ℕ) (bs : List Block) → 0 < length (shares n e m bs) → n * e + m ≤ length bs → m ≤ n → e + min m 1 ≤ length bs
next_fits zero e m bs l h o = absurd (omega (arith, l))
next_fits (suc n) e m bs l h o = (left_enough n e m bs h o).0

pub next_is : (n e m : ℕ) (bs leaf rest : List Block) → 0 < length (shares n e m bs) → bs ≡ leaf ++ rest → length leaf ≡ e + min m 1
    → shares n e m bs ≡ leaf ∷ shares (n - 1) e (m - min m 1) rest
next_is zero e m bs leaf rest l c k = absurd (omega (arith, l))
next_is (suc n) e m bs leaf rest l c k =
    let f : suc n - 1 ≡ n = omega arith in rw f (next_share n e m bs leaf rest c k)
