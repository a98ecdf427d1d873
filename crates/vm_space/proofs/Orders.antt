-- The order of the blocks of a list.
use Rattle.std.proofs.Common.{◌≡◌, ℕ, zero, suc, ◌+◌, ◌<◌, List, [], ◌∷◌, length, arith, inl, inr}
use Rattle.std.proofs.lemmas.Bool.{cases_lt}
use Rattle.vm_ranges.specs.Range.{IsIn}
use Rattle.vm_ranges.specs.declared.state.NodeState.{NodeState}
use Rattle.vm_ranges.specs.declared.state.NodeState.TheVariants.{Allocated}
use Rattle.vm_leaf.specs.declared.block.Block.{Block}
use Rattle.vm_leaf.specs.Blocks.{Tiles, nth, IsLeaf}
use Rattle.vm_leaf.proofs.Tiles.{tiles_part}

-- Blocks of a cover are in order.
pub order : (p : NodeState) (lo hi : ℕ) (bs : List Block) (i j : ℕ) → Tiles p lo bs hi → i < j → j < length bs →
    (nth bs i).key.end < (nth bs j).key.start
order p lo hi [] i j t l m = absurd (omega arith)
order p lo hi (b ∷ bs) i zero t l m = absurd (omega arith)
order p lo hi (b ∷ bs) zero (suc j) t l m = let q = tiles_part b.state (b.key.end + 1) hi bs j t.3 (omega arith) in omega (arith, q.from)
order p lo hi (b ∷ bs) (suc i) (suc j) t l m = order b.state (b.key.end + 1) hi bs i j t.3 (omega arith) (omega arith)

-- An address is in one block.
pub one_block : (bs : List Block) (i j x : ℕ) → IsLeaf bs → i < length bs → j < length bs → IsIn (nth bs i).key x → IsIn (nth bs j).key x → i ≡ j
one_block bs i j x h l m a b =
    elim (cases_lt i j) [
      | inl k ↦ (let o = order Allocated h.lo h.hi bs i j h.tiles k m in absurd (omega (arith, a.1, b.0)))
      | inr k ↦ elim (cases_lt j i) [
        | inl n ↦ (let o = order Allocated h.lo h.hi bs j i h.tiles n l in absurd (omega (arith, b.1, a.0)))
        | inr n ↦ omega arith
      ]
    ]
