-- The first fit of the blocks is the lowest place, and the last fit is the highest.
use Rattle.std.proofs.Common.{◌≡◌, ℕ, ◌+◌, ◌-◌, ◌%◌, ◌<◌, ◌≤◌, List, [], ◌∷◌, ◌++◌, sym, arith, inl, inr, ⊎_elim, subst}
use Rattle.std.specs.List.{All}
use Rattle.std.proofs.lemmas.List.Elements.{All-head, All-tail}
use Rattle.vm_ranges.specs.Range.{Range}
use Rattle.vm_leaf.specs.declared.block.Block.{Block}
use Rattle.vm_ranges.specs.Address.{AddressState, IsPlace}
use Rattle.vm_leaf.specs.Blocks.{Tiles}
use Rattle.vm_leaf.specs.SpaceBlocks.{IsBlocksOf}
use Rattle.vm_leaf.specs.Fit.{IsFit, HasNoFit, IsHighestFit}
use Rattle.vm_ranges.proofs.PlainWords.{IsHeldAddress, all_miss, none_holds}
use Rattle.vm_ranges.specs.declared.state.NodeState.{NodeState}
use Rattle.vm_ranges.specs.declared.state.NodeState.TheVariants.{Free, Allocated}
use Rattle.vm_leaf.proofs.Spaces.Gaps.{InFreeBlock, in_free_block, free_is_clear}

pub place_in_block : (state : AddressState) (bs : List Block) (n a t : ℕ) → IsBlocksOf state bs → 0 < n → IsPlace n a state t →
    InFreeBlock bs t (t + n - 1)
unfolding IsPlace
place_in_block state bs n a t h z p =
    let first = p.1 t (omega arith) (omega arith) in
    in_free_block Allocated state.space.start state.space.end t (t + n - 1) bs h.tiles first.0.0 (omega arith)
    (λ x l o. let c = p.1 x l (omega arith) in
    (c.0.1, λ k. none_holds state.held x c.1 (subst (λ (hs : List Range). IsHeldAddress hs x) h.held k)))

pub block_place : (state : AddressState) (bs : List Block) (n a t : ℕ) → IsBlocksOf state bs → 0 < n → t % a ≡ 0 →
    InFreeBlock bs t (t + n - 1) → IsPlace n a state t
unfolding IsPlace
block_place state bs n a t h z d f = (
  d,
  λ x l o.
      let c = free_is_clear Allocated state.space.start state.space.end t (t + n - 1) x bs h.tiles f l (omega arith) in
      ((c.0, c.1), all_miss state.held x (λ k. c.2 (subst (λ (hs : List Range). IsHeldAddress hs x) (sym h.held) k))),
)

pub place_divides : (state : AddressState) (n a t : ℕ) → IsPlace n a state t → t % a ≡ 0
unfolding IsPlace
place_divides state n a t p = p.0

pub fit_within : (xs ys : List Block) (b : Block) (n a t : ℕ) → 0 < n → IsFit n a b t → InFreeBlock (xs ++ b ∷ ys) t (t + n - 1)
fit_within [] ys b n a t z f = inl (f.0, f.2, omega (arith, f.3))
fit_within (x ∷ xs) ys b n a t z f = inr (fit_within xs ys b n a t z f)

fit_here : (b : Block) (n a t : ℕ) → 0 < n → t % a ≡ 0 → (b.state ≡ Free) × (b.key.start ≤ t) × (t + n - 1 ≤ b.key.end) → IsFit n a b t
fit_here b n a t z d f = (f.0, d, f.1, omega (arith, f.2))

pub above : (p : NodeState) (lo hi s e : ℕ) (bs : List Block) → Tiles p lo bs hi → s ≤ e → InFreeBlock bs s e → lo ≤ s
above p lo hi s e bs t l f = (free_is_clear p lo hi s e s bs t f (omega arith) l).0

not_above : (p : NodeState) (lo hi n a t u : ℕ) (xs ys : List Block) (b : Block) → Tiles p lo (xs ++ b ∷ ys) hi → All (HasNoFit n a) ys →
    IsHighestFit n a b t → 0 < n → u % a ≡ 0 → InFreeBlock (xs ++ b ∷ ys) u (u + n - 1) → u ≤ t
unfolding HasNoFit IsHighestFit
not_above p lo hi n a t u [] ys b h nf l z d f =
    ⊎_elim
    (λ (i : (b.state ≡ Free) × (b.key.start ≤ u) × (u + n - 1 ≤ b.key.end)). l.1 u (fit_here b n a u z d i))
    (λ (i : InFreeBlock ys u (u + n - 1)). absurd (none_in ys nf i))
    f
  where
    none_in : (ys : List Block) → All (HasNoFit n a) ys → InFreeBlock ys u (u + n - 1) → ⊥
    none_in [] nf i = i
    none_in (y ∷ ys) nf i =
        ⊎_elim (λ j. All-head (HasNoFit n a) y ys nf u (fit_here y n a u z d j)) (λ j. none_in ys (All-tail (HasNoFit n a) y ys nf) j) i
not_above p lo hi n a t u (x ∷ xs) ys b h nf l z d f =
    ⊎_elim
    (λ (i : (x.state ≡ Free) × (x.key.start ≤ u) × (u + n - 1 ≤ x.key.end)).
    let g = above x.state (x.key.end + 1) hi t (t + n - 1) (xs ++ b ∷ ys) h.3 (omega arith) (fit_within xs ys b n a t z l.0) in
    omega (arith, g, i.2))
    (λ (i : InFreeBlock (xs ++ b ∷ ys) u (u + n - 1)). not_above x.state (x.key.end + 1) hi n a t u xs ys b h.3 nf l z d i)
    f

none_at : (bs : List Block) (n a u : ℕ) → All (HasNoFit n a) bs → 0 < n → u % a ≡ 0 → InFreeBlock bs u (u + n - 1) → ⊥
unfolding HasNoFit
none_at [] n a u nf z d i = i
none_at (b ∷ bs) n a u nf z d i =
    ⊎_elim (λ j. All-head (HasNoFit n a) b bs nf u (fit_here b n a u z d j)) (λ j. none_at bs n a u (All-tail (HasNoFit n a) b bs nf) z d j)
    i

-- If no block has a fit, there is no place.
pub no_place : (state : AddressState) (bs : List Block) (n a : ℕ) → IsBlocksOf state bs → 0 < n → All (HasNoFit n a) bs → (s : ℕ) →
    ¬ IsPlace n a state s
no_place state bs n a h z nf s p = none_at bs n a s nf z (place_divides state n a s p) (place_in_block state bs n a s h z p)
