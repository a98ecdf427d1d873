-- The held blocks of a tree, and the number of all blocks.
use Rattle.std.proofs.Common.{◌≡◌, ◌+◌, List, [], ◌∷◌, ◌++◌, length, refl, sym, ap, ◌∙◌, arith, append_assoc, ⊎_elim}
use Rattle.std.proofs.lemmas.List.{append-nil}
use Rattle.vm_ranges.specs.Range.{Range}
use Rattle.vm_leaf.specs.declared.block.Block.{Block}
use Rattle.vm_addresses.specs.Queries.{free_of}
use Rattle.vm_leaf.specs.SpaceBlocks.{range_if_held, held_of}
use Rattle.vm_ranges.specs.declared.state.NodeState.TheVariants.{Free, Allocated}
use Rattle.vm_leaf.proofs.Spaces.Gaps.{state_cases}
use Rattle.vm_leaf.proofs.Spaces.OneList.{held_of-free, held_of-held}
use Rattle.vm_addresses.proofs.Walking.GapsInTrees.{free_of-free, free_of-held}

-- ---- Their number
pub held_of-append : (xs ys : List Block) → held_of (xs ++ ys) ≡ held_of xs ++ held_of ys
held_of-append [] ys = refl
held_of-append (b ∷ bs) ys =
    ap (λ (v : List Range). range_if_held b.state b.key ++ v) (held_of-append bs ys)
    ∙ sym (append_assoc (range_if_held b.state b.key) (held_of bs) (held_of ys))

-- The last block comes last.
pub held_of-last_free : (bs : List Block) (b : Block) → b.state ≡ Free → held_of (bs ++ b ∷ []) ≡ held_of bs
held_of-last_free bs b e = held_of-append bs (b ∷ []) ∙ ap (λ (v : List Range). held_of bs ++ v) (held_of-free b [] e)
    ∙ append-nil (held_of bs)

pub held_of-last_held : (bs : List Block) (b : Block) → b.state ≡ Allocated → held_of (bs ++ b ∷ []) ≡ held_of bs ++ b.key ∷ []
held_of-last_held bs b e = held_of-append bs (b ∷ []) ∙ ap (λ (v : List Range). held_of bs ++ v) (held_of-held b [] e)

-- Each block is held or free.
pub all_blocks : (bs : List Block) → length (held_of bs) + length (free_of bs) ≡ length bs
all_blocks [] = refl
all_blocks (b ∷ bs) =
    let rest = all_blocks bs in
    ⊎_elim
    (λ (e : b.state ≡ Free). omega (arith, rest, ap length (held_of-free b bs e), ap length (free_of-free b bs e)))
    (λ (e : b.state ≡ Allocated). omega (arith, rest, ap length (held_of-held b bs e), ap length (free_of-held b bs e)))
    (state_cases b.state)
