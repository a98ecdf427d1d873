-- The free blocks of a tree: their ranges, their number, the longest one, and the number of their addresses.
use Rattle.std.proofs.Common.{◌≡◌, ℕ, ◌+◌, ◌<◌, ◌≤◌, max, List, [], ◌∷◌, ◌++◌, refl, sym, ap, ◌∙◌, arith, append_assoc, ⊎_elim}
use Rattle.std.proofs.lemmas.Bool.{cases_lt}
use Rattle.std.proofs.lemmas.List.{append-nil}
use Rattle.vm_ranges.specs.Range.{Range, MAX, address_count}
use Rattle.vm_leaf.specs.declared.block.Block.{Block}
use Rattle.vm_leaf.specs.Block.{free_length}
use Rattle.vm_leaf.specs.Blocks.{Tiles, longest_gap}
use Rattle.vm_leaf.specs.SpaceBlocks.{TilesSpace}
use Rattle.vm_space.specs.Shape.{Shape, blocks}
use Rattle.vm_addresses.specs.Allocator.{space_of, state_of, IsSpaceTree}
use Rattle.vm_addresses.specs.Queries.{range_if_free, free_of, gaps_of, longest_of, count_of}
use Rattle.vm_ranges.specs.declared.state.NodeState.{NodeState}
use Rattle.vm_ranges.specs.declared.state.NodeState.TheVariants.{Free, Allocated}
use Rattle.vm_addresses.proofs.Trees.Spaces.{tree_blocks}

pub free_of-free : (b : Block) (bs : List Block) → b.state ≡ Free → free_of (b ∷ bs) ≡ b.key ∷ free_of bs
free_of-free b bs e = ap (λ (s : NodeState). range_if_free s b.key ++ free_of bs) e

pub free_of-held : (b : Block) (bs : List Block) → b.state ≡ Allocated → free_of (b ∷ bs) ≡ free_of bs
free_of-held b bs e = ap (λ (s : NodeState). range_if_free s b.key ++ free_of bs) e

free_of-append : (xs ys : List Block) → free_of (xs ++ ys) ≡ free_of xs ++ free_of ys
free_of-append [] ys = refl
free_of-append (b ∷ bs) ys =
    ap (λ (v : List Range). range_if_free b.state b.key ++ v) (free_of-append bs ys)
    ∙ sym (append_assoc (range_if_free b.state b.key) (free_of bs) (free_of ys))

pub free_of-last_held : (bs : List Block) (b : Block) → b.state ≡ Allocated → free_of (bs ++ b ∷ []) ≡ free_of bs
free_of-last_held bs b e = free_of-append bs (b ∷ []) ∙ ap (λ (v : List Range). free_of bs ++ v) (free_of-held b [] e)
    ∙ append-nil (free_of bs)

pub free_of-last_free : (bs : List Block) (b : Block) → b.state ≡ Free → free_of (bs ++ b ∷ []) ≡ free_of bs ++ b.key ∷ []
free_of-last_free bs b e = free_of-append bs (b ∷ []) ∙ ap (λ (v : List Range). free_of bs ++ v) (free_of-free b [] e)

-- ---- Their number

-- ---- The number of their addresses

own_count : (s : NodeState) (k : Range) (rs : List Range) →
    count_of (range_if_free s k ++ rs) ≡ free_length (record { key = k; state = s }) + count_of rs
own_count Free k rs = refl
own_count Allocated k rs = omega arith

own_few : (s : NodeState) (k : Range) → free_length (record { key = k; state = s }) ≤ address_count k
own_few Free k = omega arith
own_few Allocated k = omega arith

-- A tiling has no more free addresses than addresses.
pub clear_within : (p : NodeState) (lo hi : ℕ) (bs : List Block) → Tiles p lo bs hi → count_of (free_of bs) + lo ≤ hi + 1
clear_within p lo hi [] t = omega arith
clear_within p lo hi (b ∷ bs) t =
    omega (arith, clear_within b.state (b.key.end + 1) hi bs t.3, own_count b.state b.key (free_of bs), own_few b.state b.key, t.0, t.1)

-- ---- The longest one

own_longest : (s : NodeState) (k : Range) (rs : List Range) →
    longest_of (range_if_free s k ++ rs) ≡ max (free_length (record { key = k; state = s })) (longest_of rs)
own_longest Free k rs = refl
own_longest Allocated k rs = omega arith

longest_gap_is : (bs : List Block) → longest_gap bs ≡ longest_of (free_of bs)
longest_gap_is [] = refl
longest_gap_is (b ∷ bs) = omega (arith, longest_gap_is bs, own_longest b.state b.key (free_of bs))

-- ---- The gaps of a tree are its free blocks
pub gaps_in_tree : (s : Shape) → IsSpaceTree s → free_of (blocks s) ≡ gaps_of (state_of s)
gaps_in_tree s h = ap free_of (sym (tree_blocks s h))

pub longest_in_tree : (s : Shape) → IsSpaceTree s → longest_gap (blocks s) ≡ longest_of (gaps_of (state_of s))
longest_in_tree s h = longest_gap_is (blocks s) ∙ ap longest_of (gaps_in_tree s h)

pub clear_in_tree : (s : Shape) → IsSpaceTree s → count_of (free_of (blocks s)) ≤ MAX
unfolding TilesSpace
clear_in_tree s h =
    let sp = space_of (blocks s) in
    let few = clear_within Allocated sp.start sp.end (blocks s) h.tiling.tiles in
    ⊎_elim
    (λ (p : 0 < sp.start). omega (arith, few, h.space.1))
    (λ (p : sp.start ≤ 0). let last = h.space.2 (omega arith) in omega arith)
    (cases_lt 0 sp.start)

pub ruleset gaps_in_trees = (gaps_in_tree, longest_in_tree, clear_in_tree)
