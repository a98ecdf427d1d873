-- The height of a tree by its blocks.
use Rattle.std.proofs.Common.{◌≡◌, ℕ, zero, suc, ◌+◌, ◌*◌, ◌-◌, ◌^◌, ◌<◌, ◌≤◌, List, [], ◌∷◌, length, refl, sym, subst, arith, inl, inr, ap, ⊎_elim, length-append}
use Rattle.std.specs.Prelude.{◌⊎◌}
use Rattle.std.proofs.Math.Nat.{pow-suc, pow-le-pow_right}
use Rattle.std.proofs.lemmas.Bool.{cases_lt}
use Rattle.vm_ranges.specs.Range.{MAX}
use Rattle.vm_ranges.specs.declared.state.NodeState.{NodeState}
use Rattle.vm_ranges.specs.declared.state.NodeState.TheVariants.{Free, Allocated}
use Rattle.vm_leaf.specs.declared.block.Block.{Block}
use Rattle.vm_leaf.specs.Blocks.{Tiles, NotBothFree, IsRun}
use Rattle.vm_leaf.specs.Entries.{HasEnough}
use Rattle.vm_leaf.specs.declared.leaf.TheConstants.{CAPACITY}
use Rattle.vm_tree.specs.Sized.{IsSizedTree}
use Rattle.vm_tree.specs.Subtree.{AllOf}
use Rattle.vm_space.specs.Fibonacci.{fibonacci, fibonacci_pair}
use Rattle.vm_space.specs.Leaves.{blocks_of, HaveBlocks}
use Rattle.vm_space.specs.Shape.{Shape, blocks}
use Rattle.vm_space.specs.Spaces.{AreSpace}
use Rattle.vm_space.specs.Trees.{held_blocks, one_if_held, IsBlockTree}
use Rattle.vm_space.proofs.Spaces.{space_some}

-- ---- The Fibonacci numbers
fib_sum : (n : ℕ) → fibonacci (suc (suc n)) ≡ fibonacci n + fibonacci (suc n)
unfolding fibonacci fibonacci_pair
fib_sum n = refl

fib_low : (fibonacci 1 ≡ 1) × (fibonacci 2 ≡ 1) × (fibonacci 3 ≡ 2) × (fibonacci 4 ≡ 3)
unfolding fibonacci fibonacci_pair
fib_low = (refl, refl, refl, refl)

-- F(j + 3) is at most 2 * 5 ^ j, and F(j + 4) at most 2 * 5 ^ j + 2 and twice F(j + 3).
record IsBelowPower (j : ℕ) : Type 0 where
  three : fibonacci (suc (suc (suc j))) ≤ 2 * 5 ^ j
  four : fibonacci (suc (suc (suc (suc j)))) ≤ 2 * 5 ^ j + 2
  twice : fibonacci (suc (suc (suc (suc j)))) ≤ 2 * fibonacci (suc (suc (suc j)))

below_power : (j : ℕ) → IsBelowPower j
below_power zero =
    let one : 5 ^ 0 ≡ 1 = refl in
    record { three = omega (arith, fib_low); four = omega (arith, fib_low); twice = omega (arith, fib_low) }
below_power (suc j) =
    let h = below_power j in
    let e = fib_sum (suc (suc (suc j))) in
    let p = pow-suc 5 j in
    let some = pow_some j in
    record {
      three = omega (arith, h.three, h.twice);
      four = omega (arith, h.three, h.four);
      twice = omega (arith, fib_sum (suc (suc j)));
    }
  where
    pow_some : (j : ℕ) → 1 ≤ 5 ^ j
    pow_some zero = omega (arith, one)
      where
        one : 5 ^ 0 ≡ 1
        one = refl
    pow_some (suc j) = omega (arith, pow_some j, pow-suc 5 j)

-- ---- The blocks by the held blocks
-- 1 if a block before can be free.
abbrev room : NodeState → ℕ
room Free = 0
room Allocated = 1

held_step : (p s : NodeState) → NotBothFree p s → 1 + room s ≤ 2 * one_if_held s + room p
held_step Free Free h = absurd h
held_step Free Allocated h = omega arith
held_step Allocated Free h = omega arith
held_step Allocated Allocated h = omega arith

-- A cover has at most twice as many blocks as held ones, and one more if a gap can be first.
blocks_by_held : (p : NodeState) (lo hi : ℕ) (bs : List Block) → Tiles p lo bs hi → length bs ≤ 2 * held_blocks bs + room p
blocks_by_held p lo hi [] t = omega arith
blocks_by_held p lo hi (b ∷ bs) t =
    let h = blocks_by_held b.state (b.key.end + 1) hi bs t.3 in
    let m = held_step p b.state t.2 in
    omega arith

-- A run has at most one gap more than held blocks.
pub run_held : (bs : List Block) → IsRun bs → length bs ≤ 2 * held_blocks bs + 1
run_held bs h = blocks_by_held Allocated h.lo h.hi bs h.tiles

-- ---- The leaves by the blocks
leaves_by_blocks : (ls : List (List Block)) → HaveBlocks ls → length ls ≤ length (blocks_of ls)
leaves_by_blocks [] h = omega arith
leaves_by_blocks (x ∷ ls) h = omega (arith, h.0, leaves_by_blocks ls h.1, length-append x (blocks_of ls))

enough_blocks : (ls : List (List Block)) → AllOf HasEnough ls → 12 * length ls ≤ length (blocks_of ls)
enough_blocks [] a = omega arith
enough_blocks (x ∷ ls) a = omega (arith, a.0.0, enough_blocks ls a.1, length-append x (blocks_of ls))

run_length : (p : NodeState) (lo hi : ℕ) (bs : List Block) → Tiles p lo bs hi → lo + length bs ≤ hi + 1
run_length p lo hi [] t = omega (arith, t)
run_length p lo hi (b ∷ bs) t = omega (arith, t.0, t.1, run_length b.state (b.key.end + 1) hi bs t.3)

few_blocks : (bs : List Block) → IsRun bs → length bs ≤ MAX
few_blocks bs run =
    let l = run_length Allocated run.lo run.hi bs run.tiles in
    ⊎_elim
    (λ (p : 0 < run.lo). omega (arith, l, run.range.1))
    (λ (p : run.lo ≤ 0). omega (arith, l, run.range.2 (omega arith)))
    (cases_lt 0 run.lo)

pub few_leaves : (ls : List (List Block)) → AreSpace ls → length ls ≤ MAX
few_leaves ls s = omega (arith, leaves_by_blocks ls s.some, few_blocks (blocks_of ls) s.run)

high_power : 5 ^ 47 ≡ 710542735760100185871124267578125
high_power = refl

-- Each leaf has blocks, and fits.
enough_fit : (ls : List (List Block)) → AllOf HasEnough ls → AllOf (λ bs. (0 < length bs) × (length bs ≤ CAPACITY)) ls
enough_fit [] h = tt
enough_fit (x ∷ ls) h = ((omega (arith, h.0), h.0.1), enough_fit ls h.1)

-- A tree has one leaf, which fits, or its root is a node.
abbrev pub IsLoneOr : Shape → Type 0
IsLoneOr s = ((x : List Block) × ((s.leaves ≡ x ∷ []) × (length x ≤ CAPACITY))) ⊎ (0 < length s.leaves → 2 ≤ s.height)

leaf_sizes : (s : Shape) → (2 ≤ length s.leaves → AllOf HasEnough s.leaves) → (0 < length s.leaves → IsSizedTree s) → HaveBlocks s.leaves → 0 < length s.leaves
    → IsLoneOr s → AllOf (λ bs. (0 < length bs) × (length bs ≤ CAPACITY)) s.leaves
leaf_sizes s enough sized have some (inl one) =
    subst (AllOf (λ bs. (0 < length bs) × (length bs ≤ CAPACITY))) (sym one.1.0) (((subst HaveBlocks one.1.0 have).0, one.1.1), tt)
leaf_sizes s enough sized have some (inr high) =
    let f = (sized some).fewest (high some) in
    let m : 5 ^ 0 ≤ 5 ^ (s.height - 2) = pow-le-pow_right {n = 5} (omega arith) {i = 0} {j = s.height - 2} (omega arith) in
    enough_fit s.leaves (enough (omega (arith, f, m)))

-- The height of a tree is limited by its nodes and by its held blocks.
pub block_tree : (s : Shape) → AreSpace s.leaves → (2 ≤ length s.leaves → AllOf HasEnough s.leaves) → (0 < length s.leaves → IsSizedTree s)
    → IsLoneOr s → IsBlockTree s
block_tree s space enough sized lone = record {
  space = space;
  tree = record { leaves = leaf_sizes s enough sized space.some some lone; full = enough };
  high = z.high;
  height = elim (cases_lt s.height 49) [
    | inl l ↦ l
    | inr l ↦ (
        let f = z.fewest (omega (arith, l)) in
        let m : 5 ^ 47 ≤ 5 ^ (s.height - 2) = pow-le-pow_right {n = 5} (omega arith) {i = 47} {j = s.height - 2} (omega (arith, l)) in
        absurd (omega (arith, f, m, high_power, few_leaves s.leaves space))
        )
  ];
  low = elim (cases_lt s.height 2) [
    | inl p ↦ (
        let one : s.height ≡ 1 = omega (arith, p, z.high) in
        let a : fibonacci (s.height + 2) ≡ 2 = rw one fib_low.2 in
        record {
          fewest = omega (arith, a, some);
          most = z.most;
          few = omega (arith, alone one, by_blocks, r, some);
          low = omega (arith, a, r, by_blocks, some);
          full = λ q. absurd (omega (arith, q, p));
          power = λ q. absurd (omega (arith, q, p));
        }
        )
    | inr p ↦ (
        let b = below_power (s.height - 2) in
        let three : fibonacci (s.height + 1) ≡ fibonacci (suc (suc (suc (s.height - 2)))) = ap fibonacci (omega arith) in
        let four : fibonacci (s.height + 2) ≡ fibonacci (suc (suc (suc (suc (s.height - 2))))) = ap fibonacci (omega arith) in
        let f = z.fewest p in
        let many = several (5 ^ (s.height - 2)) (power_some (s.height - 2)) f in
        let e = enough_blocks s.leaves (enough many) in
        record {
          fewest = omega (arith, b.four, four, f, z.inner p);
          most = z.most;
          few = omega (arith, z.few, e, r, many);
          low = omega (arith, b.three, b.twice, four, f, e, r);
          full = λ q. omega (arith, b.three, three, f, e, r);
          power = λ q. omega (arith, f, e, r);
        }
        )
  ];
}
  where
    some : 0 < length s.leaves
    some = space_some s.leaves space

    z : IsSizedTree s
    z = sized some

    r : length (blocks s) ≤ 2 * held_blocks (blocks s) + 1
    r = run_held (blocks s) space.run

    by_blocks : length s.leaves ≤ length (blocks s)
    by_blocks = leaves_by_blocks s.leaves space.some

    sixteen : 16 ^ 1 ≡ 16
    sixteen = refl

    -- A tree of height 1 is one leaf.
    alone : s.height ≡ 1 → length s.sizes + length s.leaves ≤ 1
    alone one = let m : 15 * (length s.sizes + length s.leaves) + 1 ≤ 16 = omega (arith, z.most, ap (λ h. 16 ^ h) one, sixteen) in omega (arith, m)

    power_some : (j : ℕ) → 1 ≤ 5 ^ j
    power_some zero = omega (arith, one)
      where
        one : 5 ^ 0 ≡ 1
        one = refl
    power_some (suc j) = omega (arith, power_some j, pow-suc 5 j)

    several : (p : ℕ) → 1 ≤ p → 2 * p ≤ length s.leaves → 2 ≤ length s.leaves
    several p l m = omega (arith, l, m)
