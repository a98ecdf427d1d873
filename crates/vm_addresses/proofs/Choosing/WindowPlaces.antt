-- The first fit of the blocks within a window is the lowest place in the window, and the last fit is the highest.
use Rattle.std.proofs.Common.{◌≡◌, ℕ, ◌+◌, ◌-◌, ◌%◌, ◌<◌, ◌≤◌, Some, List, [], ◌∷◌, ◌++◌, sym, arith, ⊎_elim, subst}
use Rattle.std.specs.List.{All}
use Rattle.std.proofs.lemmas.List.Elements.{All-head, All-tail}
use Rattle.vm_ranges.specs.Range.{Range}
use Rattle.vm_ranges.specs.Windows.{within}
use Rattle.vm_leaf.specs.Windows.{cut_to}
use Rattle.vm_leaf.specs.declared.block.Block.{Block}
use Rattle.vm_ranges.specs.Address.{AddressState, IsPlace, IsLowestPlace, IsHighestPlace}
use Rattle.vm_leaf.specs.Blocks.{Tiles}
use Rattle.vm_leaf.specs.SpaceBlocks.{IsBlocksOf}
use Rattle.vm_leaf.specs.Fit.{IsFit, HasNoFit, IsLowestFit, IsHighestFit}
use Rattle.vm_space.specs.Allocation.{HasNoFitIn}
use Rattle.vm_ranges.specs.declared.state.NodeState.{NodeState}
use Rattle.vm_ranges.specs.declared.state.NodeState.TheVariants.{Free, Allocated}
use Rattle.vm_leaf.proofs.Spaces.Gaps.{InFreeBlock}
use Rattle.vm_addresses.proofs.Choosing.Places.{place_in_block, block_place, place_divides, fit_within, above}
use Rattle.vm_addresses.proofs.Results.Once.{place_anywhere}

-- The n addresses that start at u lie in the window.
abbrev pub LiesIn : Range → ℕ → ℕ → Type 0
LiesIn w n u = (w.start ≤ u) × (u + n ≤ w.end + 1)

-- A place in the window is a place that lies in it.
module _ (w : Range) (n a : ℕ) (state : AddressState) (z : 0 < n) where
  pub lies_in : (t : ℕ) → IsPlace n a (within (Some w) state) t → LiesIn w n t
  unfolding IsPlace
  lies_in t p =
      let first = (p.1 t (omega arith) (omega arith)).0 in
      let last = (p.1 (t + n - 1) (omega arith) (omega arith)).0 in
      (omega (arith, first.0), omega (arith, last.1))

  pub place_lying : (t : ℕ) → LiesIn w n t → IsPlace n a state t → IsPlace n a (within (Some w) state) t
  unfolding IsPlace
  place_lying t i p = (p.0, λ x l m. let c = p.1 x l m in ((omega (arith, c.0.0, i.0), omega (arith, c.0.1, i.1)), c.1))

-- ---- The fits of the parts of blocks
module _ (w : Range) (n a : ℕ) (z : 0 < n) where
  part_fit : (b : Block) (t : ℕ) → IsFit n a (cut_to w b) t → IsFit n a b t × LiesIn w n t
  part_fit b t f = ((f.0, f.1, omega (arith, f.2), omega (arith, f.3)), (omega (arith, f.2), omega (arith, f.3)))

  fit_here_in : (b : Block) (u : ℕ) → u % a ≡ 0 → LiesIn w n u → (b.state ≡ Free) × (b.key.start ≤ u) × (u + n - 1 ≤ b.key.end) →
      IsFit n a (cut_to w b) u
  fit_here_in b u d i f = (f.0, d, omega (arith, f.1, i.0), omega (arith, f.2, i.1))

  none_at_in : (bs : List Block) (u : ℕ) → All (HasNoFitIn w n a) bs → u % a ≡ 0 → LiesIn w n u → InFreeBlock bs u (u + n - 1) → ⊥
  unfolding HasNoFit HasNoFitIn
  none_at_in [] u nf d i f = f
  none_at_in (b ∷ bs) u nf d i f =
      ⊎_elim (λ j. All-head (HasNoFitIn w n a) b bs nf u (fit_here_in b u d i j))
      (λ j. none_at_in bs u (All-tail (HasNoFitIn w n a) b bs nf) d i j) f

  not_below_in : (p : NodeState) (lo hi t u : ℕ) (xs ys : List Block) (b : Block) → Tiles p lo (xs ++ b ∷ ys) hi →
      All (HasNoFitIn w n a) xs → IsLowestFit n a (cut_to w b) t → u % a ≡ 0 → LiesIn w n u → InFreeBlock (xs ++ b ∷ ys) u (u + n - 1) →
      t ≤ u
  unfolding HasNoFit HasNoFitIn IsLowestFit
  not_below_in p lo hi t u [] ys b h nf l d i f =
      ⊎_elim
      (λ (j : (b.state ≡ Free) × (b.key.start ≤ u) × (u + n - 1 ≤ b.key.end)). l.1 u (fit_here_in b u d i j))
      (λ (j : InFreeBlock ys u (u + n - 1)). let g = above b.state (b.key.end + 1) hi u (u + n - 1) ys h.3 (omega arith) j in omega
      (arith, g, l.0.3))
      f
  not_below_in p lo hi t u (x ∷ xs) ys b h nf l d i f =
      ⊎_elim
      (λ (j : (x.state ≡ Free) × (x.key.start ≤ u) × (u + n - 1 ≤ x.key.end)). absurd
      (All-head (HasNoFitIn w n a) x xs nf u (fit_here_in x u d i j)))
      (λ (j : InFreeBlock (xs ++ b ∷ ys) u (u + n - 1)). not_below_in x.state (x.key.end + 1) hi t u xs ys b h.3
      (All-tail (HasNoFitIn w n a) x xs nf) l d i j)
      f

  not_above_in : (p : NodeState) (lo hi t u : ℕ) (xs ys : List Block) (b : Block) → Tiles p lo (xs ++ b ∷ ys) hi →
      All (HasNoFitIn w n a) ys → IsHighestFit n a (cut_to w b) t → u % a ≡ 0 → LiesIn w n u → InFreeBlock (xs ++ b ∷ ys) u (u + n - 1) →
      u ≤ t
  unfolding HasNoFit HasNoFitIn IsHighestFit
  not_above_in p lo hi t u [] ys b h nf l d i f =
      ⊎_elim
      (λ (j : (b.state ≡ Free) × (b.key.start ≤ u) × (u + n - 1 ≤ b.key.end)). l.1 u (fit_here_in b u d i j))
      (λ (j : InFreeBlock ys u (u + n - 1)). absurd (none_at_in ys u nf d i j))
      f
  not_above_in p lo hi t u (x ∷ xs) ys b h nf l d i f =
      ⊎_elim
      (λ (j : (x.state ≡ Free) × (x.key.start ≤ u) × (u + n - 1 ≤ x.key.end)).
      let g = above x.state (x.key.end + 1) hi t (t + n - 1) (xs ++ b ∷ ys) h.3 (omega arith)
      (fit_within xs ys b n a t z (part_fit b t l.0).0) in
      omega (arith, g, j.2))
      (λ (j : InFreeBlock (xs ++ b ∷ ys) u (u + n - 1)). not_above_in x.state (x.key.end + 1) hi t u xs ys b h.3 nf l d i j)
      f

-- ---- The places of a state within a window
module _ (w : Range) (n a : ℕ) (state : AddressState) (bs : List Block) (h : IsBlocksOf state bs) (z : 0 < n) where
  -- If no block has a fit within the window, there is no place in it.
  pub no_place_in : All (HasNoFitIn w n a) bs → (s : ℕ) → ¬ IsPlace n a (within (Some w) state) s
  no_place_in nf s p =
      let q = place_anywhere (Some w) n a s state p in
      none_at_in w n a z bs s nf (place_divides state n a s q) (lies_in w n a state z s p) (place_in_block state bs n a s h z q)

  -- A fit within the window is a place in it.
  fit_place : (xs ys : List Block) (b : Block) (t : ℕ) → bs ≡ xs ++ b ∷ ys → IsFit n a (cut_to w b) t →
      IsPlace n a (within (Some w) state) t
  fit_place xs ys b t e f =
      let p = part_fit w n a z b t f in
      place_lying w n a state z t p.1
      (block_place state bs n a t h z f.1
      (subst (λ (v : List Block). InFreeBlock v t (t + n - 1)) (sym e) (fit_within xs ys b n a t z p.0)))

  -- A place in the window lies in a free block of the cut list.
  at_cut : (xs ys : List Block) (b : Block) (u : ℕ) → bs ≡ xs ++ b ∷ ys → IsPlace n a (within (Some w) state) u →
      InFreeBlock (xs ++ b ∷ ys) u (u + n - 1)
  at_cut xs ys b u e p = subst (λ (v : List Block). InFreeBlock v u (u + n - 1)) e
      (place_in_block state bs n a u h z (place_anywhere (Some w) n a u state p))

  cut_tiles : (xs ys : List Block) (b : Block) → bs ≡ xs ++ b ∷ ys → Tiles Allocated state.space.start (xs ++ b ∷ ys) state.space.end
  cut_tiles xs ys b e = subst (λ (v : List Block). Tiles Allocated state.space.start v state.space.end) e h.tiles

  -- The lowest fit of the first block that has a fit within the window is the lowest place in it.
  pub lowest_place_in : (xs ys : List Block) (b : Block) (t : ℕ) → bs ≡ xs ++ b ∷ ys → All (HasNoFitIn w n a) xs →
      IsLowestFit n a (cut_to w b) t → IsLowestPlace n a (within (Some w) state) t
  unfolding IsLowestPlace IsLowestFit
  lowest_place_in xs ys b t e nf l = (
    fit_place xs ys b t e l.0,
    λ u p.
        not_below_in w n a z Allocated state.space.start state.space.end t u xs ys b (cut_tiles xs ys b e) nf l
        (place_divides (within (Some w) state) n a u p) (lies_in w n a state z u p) (at_cut xs ys b u e p),
  )

  -- The highest fit of the last block that has a fit within the window is the highest place in it.
  pub highest_place_in : (xs ys : List Block) (b : Block) (t : ℕ) → bs ≡ xs ++ b ∷ ys → All (HasNoFitIn w n a) ys →
      IsHighestFit n a (cut_to w b) t → IsHighestPlace n a (within (Some w) state) t
  unfolding IsHighestPlace IsHighestFit
  highest_place_in xs ys b t e nf l = (
    fit_place xs ys b t e l.0,
    λ u p.
        not_above_in w n a z Allocated state.space.start state.space.end t u xs ys b (cut_tiles xs ys b e) nf l
        (place_divides (within (Some w) state) n a u p) (lies_in w n a state z u p) (at_cut xs ys b u e p),
  )
