-- A range that fills its block does not split its gap.
use Rattle.std.proofs.Common.{◌≡◌, ℕ, ◌+◌, ◌<◌, ◌≤◌, List, [], ◌∷◌, ◌++◌, sym, subst, arith, inl, inr, ⊎_elim}
use Rattle.std.proofs.lemmas.Bool.{cases_lt}
use Rattle.vm_ranges.specs.Range.{Range}
use Rattle.vm_leaf.specs.declared.block.Block.{Block}
use Rattle.vm_ranges.specs.Address.{SplitsGap}
use Rattle.vm_leaf.specs.Blocks.{Tiles, IsTakenFrom}
use Rattle.vm_leaf.specs.SpaceBlocks.{TilesSpace, held_of, blocks_state}
use Rattle.vm_addresses.proofs.Blocks.BlockOrder.{NeedsSplit}
use Rattle.vm_ranges.specs.declared.state.NodeState.{NodeState}
use Rattle.vm_ranges.specs.declared.state.NodeState.TheVariants.{Free, Allocated}
use Rattle.vm_ranges.proofs.PlainWords.{IsHeldAddress, none_holds}
use Rattle.vm_leaf.proofs.Spaces.Gaps.{InFreeBlock, in_free_block, free_is_clear}
use Rattle.vm_addresses.proofs.Choosing.Places.{above}
use Rattle.vm_addresses.proofs.Placing.TakenRanges.{starts_after, in_block}

-- ---- A range that fills its block has no clear address next to it
-- No free block overlaps another, from below or from above.
not_from_below : (p : NodeState) (lo hi s e : ℕ) (b : Block) (xs ys : List Block) → Tiles p lo (xs ++ b ∷ ys) hi →
    InFreeBlock (xs ++ b ∷ ys) s e → s < b.key.start → b.key.start ≤ e → ⊥
not_from_below p lo hi s e b [] ys t f l m =
    ⊎_elim
    (λ (h : (b.state ≡ Free) × (b.key.start ≤ s) × (e ≤ b.key.end)). omega (arith, h.1))
    (λ (h : InFreeBlock ys s e). let i = above b.state (b.key.end + 1) hi s e ys t.3 (omega arith) h in omega (arith, t.0, t.1))
    f
not_from_below p lo hi s e b (x ∷ xs) ys t f l m =
    ⊎_elim
    (λ (h : (x.state ≡ Free) × (x.key.start ≤ s) × (e ≤ x.key.end)). let i = starts_after x.state (x.key.end + 1) hi b xs ys t.3 in omega
    (arith, h.2))
    (λ (h : InFreeBlock (xs ++ b ∷ ys) s e). not_from_below x.state (x.key.end + 1) hi s e b xs ys t.3 h l m)
    f

not_from_above : (p : NodeState) (lo hi s e : ℕ) (b : Block) (xs ys : List Block) → Tiles p lo (xs ++ b ∷ ys) hi → b.key.start ≤ b.key.end →
    InFreeBlock (xs ++ b ∷ ys) s e → s ≤ b.key.end → b.key.end < e → ⊥
not_from_above p lo hi s e b [] ys t o f l m =
    ⊎_elim
    (λ (h : (b.state ≡ Free) × (b.key.start ≤ s) × (e ≤ b.key.end)). omega (arith, h.2))
    (λ (h : InFreeBlock ys s e). let i = above b.state (b.key.end + 1) hi s e ys t.3 (omega arith) h in omega arith)
    f
not_from_above p lo hi s e b (x ∷ xs) ys t o f l m =
    ⊎_elim
    (λ (h : (x.state ≡ Free) × (x.key.start ≤ s) × (e ≤ x.key.end)). let i = starts_after x.state (x.key.end + 1) hi b xs ys t.3 in omega
    (arith, h.2))
    (λ (h : InFreeBlock (xs ++ b ∷ ys) s e). not_from_above x.state (x.key.end + 1) hi s e b xs ys t.3 o h l m)
    f

-- Two clear neighbours lie in one free block.
clear_pair : (sp : Range) (bs : List Block) (x : ℕ) → TilesSpace sp bs → sp.start ≤ x → x + 1 ≤ sp.end → ¬ IsHeldAddress (held_of bs) x →
    ¬ IsHeldAddress (held_of bs) (x + 1) → InFreeBlock bs x (x + 1)
unfolding TilesSpace
clear_pair sp bs x t l m c d =
    in_free_block Allocated sp.start sp.end x (x + 1) bs t l (omega arith)
    (λ y i j.
    ⊎_elim
    (λ (k : x < y). let e : y ≡ x + 1 = omega arith in rw e (m, d))
    (λ (k : y ≤ x). let e : y ≡ x = omega arith in rw e (omega arith, c))
    (cases_lt x y))

pub needs_split : (sp : Range) (bs xs ys : List Block) (b : Block) (r : Range) → TilesSpace sp bs → bs ≡ xs ++ b ∷ ys → b.state ≡ Free →
    IsTakenFrom b.key r → SplitsGap (blocks_state sp bs) r → NeedsSplit b.key r
unfolding TilesSpace SplitsGap clear_pair
needs_split sp bs xs ys b r t e f w h =
    let x = h.0 in
    let clear = h.1 in
    let tiles : Tiles Allocated sp.start (xs ++ b ∷ ys) sp.end = subst (λ (v : List Block). Tiles Allocated sp.start v sp.end) e t in
    let own : (y : ℕ) → b.key.start ≤ y → y ≤ b.key.end → (sp.start ≤ y) × (y ≤ sp.end) × ¬ IsHeldAddress (held_of bs) y =
    λ y l m. free_is_clear Allocated sp.start sp.end y y y bs t
    (subst (λ (v : List Block). InFreeBlock v y y) (sym e) (in_block xs ys b y y f l m)) (omega arith) (omega arith) in
    let some = w.some in
    let free : ¬ IsHeldAddress (held_of bs) x = none_holds (held_of bs) x clear.1 in
    ⊎_elim
    (λ (q : x + 1 ≡ r.start).
    ⊎_elim
    (λ (l : b.key.start < r.start). inl l)
    (λ (l : r.start ≤ b.key.start).
    let same : b.key.start ≡ x + 1 = omega (arith, w.from) in
    let c = own (x + 1) (omega arith) (omega (arith, w.upto)) in
    let pair : InFreeBlock (xs ++ b ∷ ys) x (x + 1) = subst (λ (v : List Block). InFreeBlock v x (x + 1)) e
    (clear_pair sp bs x t clear.0.0 c.1 free c.2) in
    absurd (not_from_below Allocated sp.start sp.end x (x + 1) b xs ys tiles pair (omega arith) (omega arith)))
    (cases_lt b.key.start r.start))
    (λ (q : x ≡ r.end + 1).
    ⊎_elim
    (λ (l : r.end < b.key.end). inr l)
    (λ (l : b.key.end ≤ r.end).
    let y = b.key.end in
    let same : x ≡ y + 1 = omega (arith, w.upto) in
    let c = own y (omega (arith, w.from, w.upto)) (omega arith) in
    let pair : InFreeBlock (xs ++ b ∷ ys) y (y + 1) = subst (λ (v : List Block). InFreeBlock v y (y + 1)) e
    (clear_pair sp bs y t c.0 (omega (arith, clear.0.1)) c.2 (subst (λ (v : ℕ). ¬ IsHeldAddress (held_of bs) v) same free)) in
    absurd (not_from_above Allocated sp.start sp.end y (y + 1) b xs ys tiles (omega (arith, w.from, w.upto)) pair (omega arith)
    (omega arith)))
    (cases_lt r.end b.key.end))
    h.2
