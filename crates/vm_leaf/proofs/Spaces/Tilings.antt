-- The blocks that tile a space are the blocks of the state that they represent.
use Rattle.std.proofs.Common.{◌≡◌, ℕ, ◌+◌, ◌-◌, ◌≤◌, ◌<◌, cond, true, false, ltb, List, [], ◌∷◌, ◌++◌, refl, sym, ap, ◌∙◌, arith, ⊎_elim}
use Rattle.std.proofs.lemmas.Bool.{lt-ltb, le-ltb}
use Rattle.std.proofs.lemmas.List.{append-nil}
use Rattle.vm_ranges.specs.Range.{Range}
use Rattle.vm_leaf.specs.declared.block.Block.{Block}
use Rattle.vm_leaf.specs.Block.{free_block}
use Rattle.vm_ranges.specs.Address.{AddressState}
use Rattle.vm_leaf.specs.Blocks.{Tiles}
use Rattle.vm_leaf.specs.SpaceBlocks.{TilesSpace, held_of, blocks_of, blocks_between, gap_before}
use Rattle.vm_ranges.specs.declared.state.NodeState.{NodeState}
use Rattle.vm_ranges.specs.declared.state.NodeState.TheVariants.{Free, Allocated}
use Rattle.vm_leaf.proofs.Spaces.Gaps.{state_cases, not_both}
use Rattle.vm_leaf.proofs.Spaces.OneList.{same_block, held_of-free, held_of-held}
use Rattle.vm_ranges.proofs.RangeCalls.{same_range}

no_gap : (lo next : ℕ) → lo ≡ next → gap_before lo next ≡ []
no_gap lo next h = rw (le-ltb lo next (omega arith)) refl

pub gap : (lo next : ℕ) → lo < next → gap_before lo next ≡ free_block (record { start = lo; end = next - 1 }) ∷ []
gap lo next h = rw (lt-ltb lo next h) refl

-- A free block is the gap at its position.
gap_is_free : (s : ℕ) (b : Block) → b.state ≡ Free → b.key.start ≡ s → s ≤ b.key.end → gap_before s (b.key.end + 1) ≡ b ∷ []
gap_is_free s b free start some =
    let key : record { start = s; end = b.key.end + 1 - 1 } ≡ b.key = same_range _ b.key (sym start) (omega arith) in
    gap s (b.key.end + 1) (omega arith) ∙ ap (λ (x : Block). x ∷ [])
    (same_block (free_block (record { start = s; end = b.key.end + 1 - 1 })) b key (sym free))

-- The blocks from s to hi, for a tiling that starts at lo: the gap from s to lo, and then the tiling. If s < lo, a free
-- block is before the tiling.
tiled : (p : NodeState) (s lo hi : ℕ) (bs : List Block) → Tiles p lo bs hi → s ≤ lo → (p ≡ Allocated → s ≡ lo) →
    blocks_between s (held_of bs) hi ≡ gap_before s lo ++ bs
tiled p s lo hi [] t l e = rw (append-nil (gap_before s lo)) (ap (gap_before s) (sym t))
tiled p s lo hi (b ∷ bs) t l e =
    ⊎_elim
    (λ (free : b.state ≡ Free).
    let here : s ≡ lo = ⊎_elim (λ (x : p ≡ Free). absurd (not_both p b.state x free t.2)) e (state_cases p) in
    let rest = tiled b.state s (b.key.end + 1) hi bs t.3 (omega (arith, t.1)) (λ held. absurd (cc)) in
    ap (λ (v : List _). blocks_between s v hi) (held_of-free b bs free)
    ∙ rest
    ∙ ap (λ (v : List Block). v ++ bs) (gap_is_free s b free (t.0 ∙ sym here) (omega (arith, t.1)))
    ∙ ap (λ (v : List Block). v ++ b ∷ bs) (sym (no_gap s lo here)))
    (λ (held : b.state ≡ Allocated).
    let rest = tiled b.state (b.key.end + 1) (b.key.end + 1) hi bs t.3 (omega arith) (λ _. refl) in
    let same : record { key = b.key; state = Allocated } ≡ b = same_block _ b refl (sym held) in
    ap (λ (v : List _). blocks_between s v hi) (held_of-held b bs held)
    ∙ ap (λ (v : ℕ). gap_before s v ++ record { key = b.key; state = Allocated } ∷ blocks_between (b.key.end + 1) (held_of bs) hi) t.0
    ∙ ap (λ (v : List Block). gap_before s lo ++ record { key = b.key; state = Allocated } ∷ v)
    (rest ∙ ap (λ (v : List Block). v ++ bs) (no_gap (b.key.end + 1) (b.key.end + 1) refl))
    ∙ ap (λ (v : Block). gap_before s lo ++ v ∷ bs) same)
    (state_cases b.state)

-- The blocks of the state that a tiling has are its blocks.
pub tiling_blocks : (space : Range) (bs : List Block) → TilesSpace space bs → blocks_of (record { space = space; held = held_of bs }) ≡ bs
unfolding TilesSpace blocks_of
tiling_blocks space bs t =
    tiled Allocated space.start space.start space.end bs t (omega arith) (λ _. refl)
    ∙ ap (λ (v : List Block). v ++ bs) (no_gap space.start space.start refl)

-- A gap has no held range.
held_of-gap : (lo next : ℕ) (bs : List Block) → held_of (gap_before lo next ++ bs) ≡ held_of bs
held_of-gap lo next bs = elim (ltb lo next) as
    (λ v. held_of (cond v (free_block (record { start = lo; end = next - 1 }) ∷ []) [] ++ bs) ≡ held_of bs) [ true ↦ refl | false ↦ refl ]

held_of-blocks_between : (lo hi : ℕ) (rs : List Range) → held_of (blocks_between lo rs hi) ≡ rs
held_of-blocks_between lo hi [] = elim (ltb lo (hi + 1)) as
    (λ v. held_of (cond v (free_block (record { start = lo; end = hi + 1 - 1 }) ∷ []) []) ≡ []) [ true ↦ refl | false ↦ refl ]
held_of-blocks_between lo hi (r ∷ rs) =
    held_of-gap lo r.start (record { key = r; state = Allocated } ∷ blocks_between (r.end + 1) rs hi)
    ∙ ap (λ (v : List Range). r ∷ v) (held_of-blocks_between (r.end + 1) hi rs)

-- The held blocks of a state are its held ranges.
pub held_of-blocks_of : (state : AddressState) → held_of (blocks_of state) ≡ state.held
unfolding blocks_of
held_of-blocks_of state = held_of-blocks_between state.space.start state.space.end state.held
