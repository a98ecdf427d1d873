-- A state has exactly one list of blocks.
use Rattle.std.proofs.Common.{◌≡◌, ℕ, ◌+◌, ◌*◌, ◌≤◌, List, [], ◌∷◌, ◌++◌, length, ap, ◌∙◌, arith, ⊎_elim}
use Rattle.vm_ranges.specs.Range.{Range}
use Rattle.vm_leaf.specs.declared.block.Block.{Block}
use Rattle.vm_ranges.specs.Address.{AddressState}
use Rattle.vm_leaf.specs.Blocks.{Tiles}
use Rattle.vm_leaf.specs.SpaceBlocks.{range_if_held, held_of, IsBlocksOf}
use Rattle.vm_ranges.specs.declared.state.NodeState.{NodeState}
use Rattle.vm_ranges.specs.declared.state.NodeState.TheVariants.{Free, Allocated}
use Rattle.vm_leaf.proofs.Spaces.Gaps.{state_cases, not_both}

pub held_of-free : (b : Block) (bs : List Block) → b.state ≡ Free → held_of (b ∷ bs) ≡ held_of bs
held_of-free b bs e = ap (λ (s : NodeState). range_if_held s b.key ++ held_of bs) e

pub held_of-held : (b : Block) (bs : List Block) → b.state ≡ Allocated → held_of (b ∷ bs) ≡ b.key ∷ held_of bs
held_of-held b bs e = ap (λ (s : NodeState). range_if_held s b.key ++ held_of bs) e

pub same_block : (x y : Block) → x.key ≡ y.key → x.state ≡ y.state → x ≡ y
same_block x y p q =
    let f : Range → NodeState → Block = λ k s. record { key = k; state = s } in
    let g : f x.key x.state ≡ f y.key x.state = ap (λ v. f v x.state) p in
    g ∙ ap (λ v. f y.key v) q

few : (p : NodeState) (lo hi : ℕ) (bs : List Block) → Tiles p lo bs hi →
    (length bs ≤ 2 * length (held_of bs) + 1) × (p ≡ Free → length bs ≤ 2 * length (held_of bs))
few p lo hi [] t = (omega arith, λ e. omega arith)
few p lo hi (b ∷ bs) t =
    let i = few b.state (b.key.end + 1) hi bs t.3 in
    ⊎_elim
    (λ (e : b.state ≡ Free).
    let g : length (held_of (b ∷ bs)) ≡ length (held_of bs) = ap length (held_of-free b bs e) in
    let r = i.1 e in
    (omega arith, λ f. absurd (not_both p b.state f e t.2)))
    (λ (e : b.state ≡ Allocated).
    let g : length (held_of (b ∷ bs)) ≡ length (held_of bs) + 1 = ap length (held_of-held b bs e) ∙ omega arith in
    let r = i.0 in
    (omega arith, λ f. omega arith))
    (state_cases b.state)

-- A state with k held ranges has at most 2k + 1 blocks.
pub few_blocks : (state : AddressState) (bs : List Block) → IsBlocksOf state bs → length bs ≤ 2 * length state.held + 1
few_blocks state bs h = let i = few Allocated state.space.start state.space.end bs h.tiles in omega (arith, i.0, ap length h.held)
