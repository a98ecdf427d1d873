-- The blocks of a saved tree, kept as their starts.
use Rattle.std.proofs.Common.{◌≡◌, ℕ, suc, ◌+◌, ◌*◌, ◌^◌, ◌-◌, ◌≤◌, ◌<◌, List, [], ◌∷◌, ◌++◌, length, refl, ap, ◌∙◌, subst, IsTrue, ◌↔◌, ◌==◌, arith, rules}
use Rattle.std.proofs.Math.Nat.{pow-suc}
use Rattle.vm_ranges.specs.Range.{IsRange, MAX}
use Rattle.vm_ranges.specs.declared.state.NodeState.{NodeState}
use Rattle.vm_leaf.specs.declared.block.Block.{Block}
use Rattle.vm_leaf.specs.declared.block.BlockStart.{BlockStart}
use Rattle.vm_leaf.specs.Blocks.{Tiles}
use Rattle.vm_leaf.specs.BlockStarts.{starts_of, last_before, blocks_from, AreRanges}
use Rattle.vm_leaf.specs.TreeHeights.{IsLowestHeight}
use Rattle.vm_leaf.specs.SpaceBlocks.{AreKeysIn}
use Rattle.vm_leaf.proofs.Spaces.BlockStates.{tiles_keys}

-- Consecutive blocks are those with their starts.
pub blocks_again : (p : NodeState) (lo hi : ℕ) (bs : List Block) → Tiles p lo bs hi → blocks_from (starts_of bs) hi ≡ bs
blocks_again p lo hi [] t = refl
blocks_again p lo hi (b ∷ []) t = let e : hi ≡ b.key.end = omega arith in rw e refl
blocks_again p lo hi (b ∷ c ∷ cs) t =
    let e : c.key.start - 1 ≡ b.key.end = omega arith in
    let r = blocks_again b.state (b.key.end + 1) hi (c ∷ cs) t.3 in
    rw (e, r) refl

-- The blocks of a range are ranges.
keys_are_ranges : (lo hi : ℕ) (bs : List Block) → AreKeysIn lo bs hi → hi ≤ MAX → (lo ≡ 0 → hi < MAX) → AreRanges bs
keys_are_ranges lo hi [] k m z = tt
keys_are_ranges lo hi (b ∷ bs) k m z = (
  (k.1, omega arith, λ e. let l : lo ≡ 0 = omega arith in let h = z l in omega arith),
  keys_are_ranges (b.key.end + 1) hi bs k.3 m (λ e. absurd (omega arith)),
)

pub blocks_are_ranges : (p : NodeState) (lo hi : ℕ) (bs : List Block) → Tiles p lo bs hi → IsRange lo hi → AreRanges bs
blocks_are_ranges p lo hi bs t r = keys_are_ranges lo hi bs (tiles_keys p lo hi bs t) r.1 r.2

pub length-blocks_from : (ss : List BlockStart) (hi : ℕ) → length (blocks_from ss hi) ≡ length ss
length-blocks_from [] hi = refl
length-blocks_from (s ∷ ss) hi = let r = length-blocks_from ss hi in omega arith

-- The block with a start is between those with the starts before it and after it.
pub blocks_parted : (xs ys : List BlockStart) (s : BlockStart) (hi : ℕ) →
    blocks_from (xs ++ s ∷ ys) hi ≡ blocks_from xs (s.address - 1)
    ++ record { key = record { start = s.address; end = last_before ys hi }; state = s.state } ∷ blocks_from ys hi
blocks_parted [] ys s hi = refl
blocks_parted (x ∷ []) ys s hi = refl
blocks_parted (x ∷ y ∷ xs) ys s hi = let r = blocks_parted (y ∷ xs) ys s hi in rw r refl

-- The blocks before and after a block of ranges, and the block, are ranges.
pub ranges_parted : (xs ys : List Block) (b : Block) → AreRanges (xs ++ b ∷ ys) →
    AreRanges xs × IsRange b.key.start b.key.end × AreRanges ys
ranges_parted [] ys b r = (tt, r.0, r.1)
ranges_parted (x ∷ xs) ys b r = let p = ranges_parted xs ys b r.1 in ((r.0, p.0), p.1, p.2)

-- The block in the middle, and the blocks before and after it.
pub record IsParted (ss xs ys : List BlockStart) (s : BlockStart) (hi : ℕ) : Type 0 where
  pub parts : blocks_from ss hi ≡ blocks_from xs (s.address - 1)
      ++ record { key = record { start = s.address; end = last_before ys hi }; state = s.state } ∷ blocks_from ys hi
  pub lower : AreRanges (blocks_from xs (s.address - 1))
  pub middle : IsRange s.address (last_before ys hi)
  pub upper : AreRanges (blocks_from ys hi)

pub is_parted : (ss xs ys : List BlockStart) (s : BlockStart) (hi : ℕ) → ss ≡ xs ++ s ∷ ys → AreRanges (blocks_from ss hi) →
    IsParted ss xs ys s hi
is_parted ss xs ys s hi e r =
    let parts = ap (λ v. blocks_from v hi) e ∙ blocks_parted xs ys s hi in
    let ranges = ranges_parted (blocks_from xs (s.address - 1)) (blocks_from ys hi)
    (record { key = record { start = s.address; end = last_before ys hi }; state = s.state }) (subst AreRanges parts r) in
    record { parts = parts; lower = ranges.0; middle = ranges.1; upper = ranges.2 }

-- The height that is written.
pub lowest_height : (n k : ℕ) → 2 ^ k ≤ n → n < 2 * 2 ^ k → IsLowestHeight n (k + 1)
lowest_height n k low high =
    let e : k + 1 ≡ suc k = omega arith in
    let p : 2 ^ (k + 1) ≡ 2 ^ k * 2 = rw e (pow-suc 2 k) in
    (omega arith, omega arith)

pub no_blocks : (ss : List BlockStart) (hi : ℕ) → IsTrue (length ss == 0) ↔ (blocks_from ss hi ≡ [])
no_blocks [] hi = (λ _. refl, λ _. refl)
no_blocks (s ∷ ss) hi = (λ e. absurd (search rules), λ e. absurd (cc))
