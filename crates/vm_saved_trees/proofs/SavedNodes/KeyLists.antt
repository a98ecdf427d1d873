-- Lists of blocks that are cut at a block: keys in order, tilings and held keys.
use Rattle.std.proofs.Common.{◌≡◌, ℕ, ◌+◌, ◌≤◌, ◌<◌, List, [], ◌∷◌, ◌++◌, length, refl, sym, ap, ◌∙◌, arith}
use Rattle.std.proofs.lemmas.List.{append_assoc}
use Rattle.vm_ranges.specs.Range.{Range}
use Rattle.vm_leaf.specs.declared.block.Block.{Block}
use Rattle.vm_leaf.specs.Blocks.{Tiles}
use Rattle.vm_leaf.specs.SpaceBlocks.{range_if_held, held_of, AreKeysIn, AreBelowMax}
use Rattle.vm_ranges.specs.declared.state.NodeState.{NodeState}
use Rattle.vm_ranges.specs.declared.state.NodeState.TheVariants.{Free, Allocated}

-- ---- Keys in order

pub keys_within : (lo lo2 hi hi2 : ℕ) (bs : List Block) → lo2 ≤ lo → hi ≤ hi2 → AreKeysIn lo bs hi → AreKeysIn lo2 bs hi2
keys_within lo lo2 hi hi2 [] l h k = tt
keys_within lo lo2 hi hi2 (b ∷ bs) l h k =
    (omega (arith, k.0), k.1, omega (arith, k.2), keys_within (b.key.end + 1) (b.key.end + 1) hi hi2 bs (omega arith) h k.3)

pub keys_from : (lo lo2 hi : ℕ) (b : Block) (bs : List Block) → lo2 ≤ b.key.start → AreKeysIn lo (b ∷ bs) hi → AreKeysIn lo2 (b ∷ bs) hi
keys_from lo lo2 hi b bs l k = (l, k.1, k.2, k.3)

pub keys_join : (lo hi : ℕ) (xs : List Block) (x : Block) (ys : List Block) → AreKeysIn lo (xs ++ x ∷ []) hi →
    AreKeysIn (x.key.end + 1) ys hi → AreKeysIn lo (xs ++ x ∷ ys) hi
keys_join lo hi [] x ys k r = (k.0, k.1, k.2, r)
keys_join lo hi (y ∷ xs) x ys k r = (k.0, k.1, k.2, keys_join (y.key.end + 1) hi xs x ys k.3 r)

pub keys_left : (lo hi : ℕ) (xs ys : List Block) → AreKeysIn lo (xs ++ ys) hi → AreKeysIn lo xs hi
keys_left lo hi [] ys k = tt
keys_left lo hi (x ∷ xs) ys k = (k.0, k.1, k.2, keys_left (x.key.end + 1) hi xs ys k.3)

pub keys_right : (lo hi : ℕ) (xs ys : List Block) → AreKeysIn lo (xs ++ ys) hi → AreKeysIn lo ys hi
keys_right lo hi [] ys k = k
keys_right lo hi (x ∷ xs) ys k =
    keys_within (x.key.end + 1) lo hi hi ys (omega (arith, k.0, k.1)) (omega arith) (keys_right (x.key.end + 1) hi xs ys k.3)

-- The block y begins past the end of the block x before it.
pub keys_next : (lo hi : ℕ) (xs : List Block) (x y : Block) (ys : List Block) → AreKeysIn lo (xs ++ x ∷ y ∷ ys) hi → x.key.end < y.key.start
keys_next lo hi [] x y ys k = omega (arith, k.3.0)
keys_next lo hi (z ∷ xs) x y ys k = keys_next (z.key.end + 1) hi xs x y ys k.3

-- The last block ends the keys.
pub last_above : (lo hi : ℕ) (xs : List Block) (x : Block) → AreKeysIn lo (xs ++ x ∷ []) hi →
    (lo ≤ x.key.start) × (x.key.start ≤ x.key.end) × (x.key.end ≤ hi)
last_above lo hi [] x k = (k.0, k.1, k.2)
last_above lo hi (y ∷ xs) x k = let i = last_above (y.key.end + 1) hi xs x k.3 in (omega (arith, i.0, k.0, k.1), i.1, i.2)

pub keys_to : (lo hi hi2 : ℕ) (xs : List Block) (x : Block) → x.key.end ≤ hi2 → AreKeysIn lo (xs ++ x ∷ []) hi →
    AreKeysIn lo (xs ++ x ∷ []) hi2
keys_to lo hi hi2 [] x l k = (k.0, k.1, l, tt)
keys_to lo hi hi2 (y ∷ xs) x l k =
    let i = last_above (y.key.end + 1) hi xs x k.3 in
    (k.0, k.1, omega (arith, i.0, i.1), keys_to (y.key.end + 1) hi hi2 xs x l k.3)

-- ---- Tilings

pub tiles_join : (p : NodeState) (lo hi : ℕ) (xs : List Block) (x : Block) (ys : List Block) (end : ℕ) → Tiles p lo (xs ++ x ∷ []) end →
    Tiles x.state (x.key.end + 1) ys hi → Tiles p lo (xs ++ x ∷ ys) hi
tiles_join p lo hi [] x ys end t r = (t.0, t.1, t.2, r)
tiles_join p lo hi (y ∷ xs) x ys end t r = (t.0, t.1, t.2, tiles_join y.state (y.key.end + 1) hi xs x ys end t.3 r)

pub tiles_cut : (p : NodeState) (lo hi : ℕ) (xs : List Block) (x : Block) (ys : List Block) → Tiles p lo (xs ++ x ∷ ys) hi →
    Tiles p lo (xs ++ x ∷ []) x.key.end × Tiles x.state (x.key.end + 1) ys hi
tiles_cut p lo hi [] x ys t = ((t.0, t.1, t.2, refl), t.3)
tiles_cut p lo hi (y ∷ xs) x ys t = let i = tiles_cut y.state (y.key.end + 1) hi xs x ys t.3 in ((t.0, t.1, t.2, i.0), i.1)

-- ---- Held keys

pub held_node : (xs : List Block) (b : Block) (ys : List Block) →
    held_of (xs ++ b ∷ ys) ≡ held_of xs ++ (range_if_held b.state b.key ++ held_of ys)
held_node [] b ys = refl
held_node (x ∷ xs) b ys =
    ap (λ (v : List Range). range_if_held x.state x.key ++ v) (held_node xs b ys)
    ∙ sym (append_assoc (range_if_held x.state x.key) (held_of xs) (range_if_held b.state b.key ++ held_of ys))

pub below_both : (xs ys : List Range) → AreBelowMax xs → AreBelowMax ys → AreBelowMax (xs ++ ys)
below_both [] ys p q = q
below_both (x ∷ xs) ys p q = (p.0, below_both xs ys p.1 q)

pub below_left : (xs ys : List Range) → AreBelowMax (xs ++ ys) → AreBelowMax xs
below_left [] ys p = tt
below_left (x ∷ xs) ys p = (p.0, below_left xs ys p.1)

pub below_right : (xs ys : List Range) → AreBelowMax (xs ++ ys) → AreBelowMax ys
below_right [] ys p = p
below_right (x ∷ xs) ys p = below_right xs ys p.1

if_held_few : (s : NodeState) (k : Range) (rs : List Range) → length (range_if_held s k ++ rs) ≤ length rs + 1
if_held_few Free k rs = omega arith
if_held_few Allocated k rs = omega arith

-- At most all blocks are held.
pub held_few : (bs : List Block) → length (held_of bs) ≤ length bs
held_few [] = omega arith
held_few (b ∷ bs) = let i = held_few bs in let f = if_held_few b.state b.key (held_of bs) in omega arith
