-- A range split off a free block, and the parts next to it.
use Rattle.std.proofs.Common.{◌≡◌, ℕ, ◌+◌, ◌-◌, ◌<◌, ◌≤◌, List, [], ◌∷◌, ◌++◌, true, false, cond, ltb, refl, sym, ap, ◌∙◌, arith, ⊎_elim, subst, inl, inr}
use Rattle.std.proofs.lemmas.Bool.{cases_lt, lt-ltb, le-ltb}
use Rattle.vm_ranges.specs.Range.{Range, MAX}
use Rattle.vm_leaf.specs.declared.block.Block.{Block}
use Rattle.vm_ranges.specs.Address.{AddressState, with_range, holding, SplitsGap}
use Rattle.vm_leaf.specs.Blocks.{NotBothFree, Tiles, after_part, parts, IsTakenFrom}
use Rattle.vm_leaf.specs.SpaceBlocks.{held_of, IsBlocksOf, blocks_state, TilesSpace, AreBelowMax}
use Rattle.vm_addresses.proofs.Blocks.BlockOrder.{NeedsSplit}
use Rattle.vm_ranges.specs.declared.state.NodeState.{NodeState}
use Rattle.vm_ranges.specs.declared.state.NodeState.TheVariants.{Free, Allocated}
use Rattle.vm_leaf.proofs.Spaces.Gaps.{state_cases, InFreeBlock, free_is_clear}
use Rattle.vm_leaf.proofs.Spaces.OneList.{held_of-free, held_of-held}
use Rattle.vm_ranges.proofs.PlainWords.{all_miss}

before_held : (p : NodeState) (lo hi : ℕ) (bs : List Block) → Tiles p lo bs hi → Tiles Allocated lo bs hi
before_held p lo hi [] t = t
before_held p lo hi (b ∷ bs) t = (t.0, t.1, tt, t.3)

held_next : (p : NodeState) → NotBothFree p Allocated
held_next Free = tt
held_next Allocated = tt

-- The range and the free part after it, before more blocks.
tiles_after : (p : NodeState) (lo hi : ℕ) (k r : Range) (ys : List Block) → r.start ≡ lo → IsTakenFrom k r → Tiles Free (k.end + 1) ys hi →
    Tiles p lo (record { key = r; state = Allocated } ∷ after_part k r ++ ys) hi
tiles_after p lo hi k r ys s w t = (
  s,
  omega (arith, w.some),
  held_next p,
  ⊎_elim
      (λ (l : r.end < k.end). let e = lt-ltb r.end k.end l in rw e (refl, omega arith, tt, t))
      (λ (l : k.end ≤ r.end). let e = le-ltb r.end k.end l in let same : k.end
      ≡ r.end = omega (arith, w.upto) in rw e (before_held Free (r.end + 1) hi ys (subst (λ (v : ℕ). Tiles Free (v + 1) ys hi) same t)))
      (cases_lt r.end k.end),
)

tiles_parts : (p : NodeState) (lo hi : ℕ) (k r : Range) (ys : List Block) → NotBothFree p Free → k.start ≡ lo → IsTakenFrom k r →
    Tiles Free (k.end + 1) ys hi → Tiles p lo (parts k r ++ ys) hi
tiles_parts p lo hi k r ys q s w t =
    ⊎_elim
    (λ (l : k.start < r.start). let e = lt-ltb k.start r.start l in
    rw e (s, omega arith, q, tiles_after Free (r.start - 1 + 1) hi k r ys (omega arith) w t))
    (λ (l : r.start ≤ k.start). let e = le-ltb k.start r.start l in rw e (tiles_after p lo hi k r ys (omega (arith, w.from)) w t))
    (cases_lt k.start r.start)

-- The blocks are still a tiling.
pub tiles_split : (p : NodeState) (lo hi : ℕ) (r : Range) (b : Block) (xs ys : List Block) → b.state ≡ Free → IsTakenFrom b.key r →
    Tiles p lo (xs ++ b ∷ ys) hi → Tiles p lo (xs ++ (parts b.key r ++ ys)) hi
tiles_split p lo hi r b [] ys f w t =
    tiles_parts p lo hi b.key r ys (subst (λ (s : NodeState). NotBothFree p s) f t.2) t.0 w
    (subst (λ (s : NodeState). Tiles s (b.key.end + 1) ys hi) f t.3)
tiles_split p lo hi r b (x ∷ xs) ys f w t = (t.0, t.1, t.2, tiles_split x.state (x.key.end + 1) hi r b xs ys f w t.3)

held_after : (k r : Range) (ys : List Block) → held_of (after_part k r ++ ys) ≡ held_of ys
held_after k r ys = elim (ltb r.end k.end) as
    (λ v. held_of (cond v (record { key = record { start = r.end + 1; end = k.end }; state = Free } ∷ []) [] ++ ys) ≡ held_of ys)
    [ true ↦ refl | false ↦ refl ]

held_parts : (k r : Range) (ys : List Block) → held_of (parts k r ++ ys) ≡ r ∷ held_of ys
held_parts k r ys =
    elim (ltb k.start r.start) as (λ v. held_of
    ((cond v (record { key = record { start = k.start; end = r.start - 1 }; state = Free } ∷ []) [] ++ record { key = r; state = Allocated }
    ∷ after_part k r) ++ ys) ≡ r ∷ held_of ys) [
      | true ↦ ap (λ (v : List Range). r ∷ v) (held_after k r ys)
      | false ↦ ap (λ (v : List Range). r ∷ v) (held_after k r ys)
    ]

with_first : (p : NodeState) (lo hi : ℕ) (r : Range) (ys : List Block) → Tiles p lo ys hi → r.start < lo →
    with_range r (held_of ys) ≡ r ∷ held_of ys
with_first p lo hi r [] t l = refl
with_first p lo hi r (y ∷ ys) t l =
    ⊎_elim
    (λ (e : y.state ≡ Free). rw (held_of-free y ys e) (with_first y.state (y.key.end + 1) hi r ys t.3 (omega (arith, t.1))))
    (λ (e : y.state ≡ Allocated). let less = lt-ltb r.start y.key.start (omega (arith, t.0)) in rw (held_of-held y ys e, less) refl)
    (state_cases y.state)

pub starts_after : (p : NodeState) (lo hi : ℕ) (b : Block) (xs ys : List Block) → Tiles p lo (xs ++ b ∷ ys) hi → lo ≤ b.key.start
starts_after p lo hi b [] ys t = omega (arith, t.0)
starts_after p lo hi b (x ∷ xs) ys t = let i = starts_after x.state (x.key.end + 1) hi b xs ys t.3 in omega (arith, i, t.1)

-- Exactly that range is held in addition.
held_after_split : (p : NodeState) (lo hi : ℕ) (r : Range) (b : Block) (xs ys : List Block) → b.state ≡ Free → IsTakenFrom b.key r →
    Tiles p lo (xs ++ b ∷ ys) hi → held_of (xs ++ (parts b.key r ++ ys)) ≡ with_range r (held_of (xs ++ b ∷ ys))
held_after_split p lo hi r b [] ys f w t =
    held_parts b.key r ys ∙ sym (ap (with_range r) (held_of-free b ys f) ∙ with_first b.state (b.key.end + 1) hi r ys t.3
    (omega (arith, w.some, w.upto)))
held_after_split p lo hi r b (x ∷ xs) ys f w t =
    let i = held_after_split x.state (x.key.end + 1) hi r b xs ys f w t.3 in
    let after = starts_after x.state (x.key.end + 1) hi b xs ys t.3 in
    ⊎_elim
    (λ (e : x.state ≡ Free). held_of-free x (xs ++ (parts b.key r ++ ys)) e ∙ i ∙ sym (ap (with_range r) (held_of-free x (xs ++ b ∷ ys) e)))
    (λ (e : x.state ≡ Allocated).
    let less = le-ltb r.start x.key.start (omega (arith, w.from, t.0, t.1)) in
    held_of-held x (xs ++ (parts b.key r ++ ys)) e ∙ ap (λ (v : List Range). x.key ∷ v) i
    ∙ sym (ap (with_range r) (held_of-held x (xs ++ b ∷ ys) e) ∙ rw less refl))
    (state_cases x.state)

pub blocks_split : (state : AddressState) (bs xs ys : List Block) (b : Block) (r : Range) → IsBlocksOf state bs → bs ≡ xs ++ b ∷ ys →
    b.state ≡ Free → IsTakenFrom b.key r → IsBlocksOf (holding r state) (xs ++ (parts b.key r ++ ys))
blocks_split state bs xs ys b r h e f w =
    let t : Tiles Allocated state.space.start (xs ++ b ∷ ys) state.space.end = subst
    (λ (v : List Block). Tiles Allocated state.space.start v state.space.end) e h.tiles in
    record {
      tiles = tiles_split Allocated state.space.start state.space.end r b xs ys f w t;
      held = held_after_split Allocated state.space.start state.space.end r b xs ys f w t ∙ ap (with_range r) (ap held_of (sym e) ∙ h.held);
    }

pub in_block : (xs ys : List Block) (b : Block) (s e : ℕ) → b.state ≡ Free → b.key.start ≤ s → e ≤ b.key.end →
    InFreeBlock (xs ++ b ∷ ys) s e
in_block [] ys b s e f l m = inl (f, l, m)
in_block (x ∷ xs) ys b s e f l m = inr (in_block xs ys b s e f l m)

pub leaves_clear : (sp : Range) (bs xs ys : List Block) (b : Block) (r : Range) → TilesSpace sp bs → bs ≡ xs ++ b ∷ ys → b.state ≡ Free →
    IsTakenFrom b.key r → NeedsSplit b.key r → SplitsGap (blocks_state sp bs) r
unfolding SplitsGap TilesSpace
leaves_clear sp bs xs ys b r t e f w h =
    ⊎_elim
    (λ (l : b.key.start < r.start).
    let x = r.start - 1 in
    let i : InFreeBlock bs x x = subst (λ (v : List Block). InFreeBlock v x x) (sym e)
    (in_block xs ys b x x f (omega arith) (omega (arith, w.some, w.upto))) in
    let c = free_is_clear Allocated sp.start sp.end x x x bs t i (omega arith) (omega arith) in
    (x, ((c.0, c.1), all_miss (held_of bs) x c.2), inl (omega arith)))
    (λ (l : r.end < b.key.end).
    let x = r.end + 1 in
    let i : InFreeBlock bs x x = subst (λ (v : List Block). InFreeBlock v x x) (sym e)
    (in_block xs ys b x x f (omega (arith, w.some, w.from)) (omega arith)) in
    let c = free_is_clear Allocated sp.start sp.end x x x bs t i (omega arith) (omega arith) in
    (x, ((c.0, c.1), all_miss (held_of bs) x c.2), inr refl))
    h

pub as_blocks : (sp : Range) (bs : List Block) → TilesSpace sp bs → IsBlocksOf (blocks_state sp bs) bs
unfolding TilesSpace
as_blocks sp bs t = record { tiles = t; held = refl }

pub below_with : (r : Range) (hs : List Range) → r.end < MAX → AreBelowMax hs → AreBelowMax (with_range r hs)
below_with r [] l h = (l, tt)
below_with r (x ∷ xs) l h = elim (ltb r.start x.start) as (λ v. AreBelowMax (cond v (r ∷ x ∷ xs) (x ∷ with_range r xs)))
    [ true ↦ (l, h) | false ↦ (h.0, below_with r xs l h.1) ]
