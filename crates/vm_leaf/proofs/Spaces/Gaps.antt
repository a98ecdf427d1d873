-- A run of clear addresses lies in one free block.
use Rattle.std.proofs.Common.{◌≡◌, ℕ, ◌+◌, ◌<◌, ◌≤◌, List, [], ◌∷◌, ◌++◌, refl, sym, ◌∙◌, arith, inl, inr, ◌⊎◌, ⊎_elim}
use Rattle.std.proofs.lemmas.Bool.{cases_lt}
use Rattle.vm_ranges.specs.Range.{Range, IsIn}
use Rattle.vm_leaf.specs.declared.block.Block.{Block}
use Rattle.vm_leaf.specs.Blocks.{NotBothFree, Tiles}
use Rattle.vm_leaf.specs.SpaceBlocks.{range_if_held, held_of}
use Rattle.vm_ranges.proofs.PlainWords.{IsHeldAddress}
use Rattle.vm_ranges.specs.declared.state.NodeState.{NodeState}
use Rattle.vm_ranges.specs.declared.state.NodeState.TheVariants.{Free, Allocated}

pub state_cases : (st : NodeState) → (st ≡ Free) ⊎ (st ≡ Allocated)
state_cases Free = inl refl
state_cases Allocated = inr refl

pub not_both : (p q : NodeState) → p ≡ Free → q ≡ Free → NotBothFree p q → ⊥
not_both Free Free e f h = h
not_both Free Allocated e f h = cc
not_both Allocated q e f h = cc

-- ---- Held addresses, block by block
held_cases : (st : NodeState) (k : Range) (hs : List Range) (x : ℕ) → IsHeldAddress (range_if_held st k ++ hs) x →
    ((st ≡ Allocated) × IsIn k x) ⊎ IsHeldAddress hs x
held_cases Free k hs x h = inr h
held_cases Allocated k hs x h = ⊎_elim (λ l. inl (refl, l)) (λ r. inr r) h

held_here : (st : NodeState) (k : Range) (hs : List Range) (x : ℕ) → st ≡ Allocated → IsIn k x → IsHeldAddress (range_if_held st k ++ hs) x
held_here Free k hs x e h = absurd (cc)
held_here Allocated k hs x e h = inl h

held_later : (st : NodeState) (k : Range) (hs : List Range) (x : ℕ) → IsHeldAddress hs x → IsHeldAddress (range_if_held st k ++ hs) x
held_later Free k hs x h = h
held_later Allocated k hs x h = inr h

pub tiles_end : (p : NodeState) (lo hi : ℕ) (bs : List Block) → Tiles p lo bs hi → lo ≤ hi + 1
tiles_end p lo hi [] t = omega arith
tiles_end p lo hi (b ∷ bs) t = omega (arith, tiles_end b.state (b.key.end + 1) hi bs t.3, t.1)

pub held_within : (p : NodeState) (lo hi x : ℕ) (bs : List Block) → Tiles p lo bs hi → IsHeldAddress (held_of bs) x → (lo ≤ x) × (x ≤ hi)
held_within p lo hi x [] t h = absurd h
held_within p lo hi x (b ∷ bs) t h =
    ⊎_elim
    (λ (l : (b.state ≡ Allocated) × IsIn b.key x).
    (omega (arith, l.1, t.0), omega (arith, l.1, tiles_end b.state (b.key.end + 1) hi bs t.3)))
    (λ (r : IsHeldAddress (held_of bs) x). let i = held_within b.state (b.key.end + 1) hi x bs t.3 r in (omega (arith, i.0, t.1), i.1))
    (held_cases b.state b.key (held_of bs) x h)

-- A free block of the list contains all addresses from s to e.
abbrev pub InFreeBlock : List Block → ℕ → ℕ → Type 0
InFreeBlock [] s e = ⊥
InFreeBlock (b ∷ bs) s e = ((b.state ≡ Free) × (b.key.start ≤ s) × (e ≤ b.key.end)) ⊎ InFreeBlock bs s e

-- The address after a free block is held, if it is in the space.
pub next_held : (p : NodeState) (y hi : ℕ) (bs : List Block) → p ≡ Free → Tiles p y bs hi → y ≤ hi → IsHeldAddress (held_of bs) y
next_held p y hi [] f t l = absurd (omega arith)
next_held p y hi (b ∷ bs) f t l =
    ⊎_elim
    (λ (e : b.state ≡ Free). absurd (not_both p b.state f e t.2))
    (λ (e : b.state ≡ Allocated). held_here b.state b.key (held_of bs) y e (omega (arith, t.0), t.1))
    (state_cases b.state)

-- A run of clear addresses lies in one free block.
pub in_free_block : (p : NodeState) (lo hi s e : ℕ) (bs : List Block) → Tiles p lo bs hi → lo ≤ s → s ≤ e →
    ((x : ℕ) → s ≤ x → x ≤ e → (x ≤ hi) × ¬ IsHeldAddress (held_of bs) x) → InFreeBlock bs s e
in_free_block p lo hi s e [] t l o f = let g : s ≤ hi = (f s (omega arith) o).0 in absurd (omega arith)
in_free_block p lo hi s e (b ∷ bs) t l o f =
    ⊎_elim
    (λ (h : b.key.end < s). inr (in_free_block b.state (b.key.end + 1) hi s e bs t.3 (omega arith) o
    (λ x i j. let g = f x i j in (g.0, λ k. g.1 (held_later b.state b.key (held_of bs) x k)))))
    (λ (h : s ≤ b.key.end).
    ⊎_elim
    (λ (q : b.state ≡ Free).
    ⊎_elim
    (λ (i : b.key.end < e).
    let g = f (b.key.end + 1) (omega arith) (omega arith) in
    absurd (g.1 (held_later b.state b.key (held_of bs) (b.key.end + 1) (next_held b.state (b.key.end + 1) hi bs q t.3 g.0))))
    (λ (i : e ≤ b.key.end). inl (q, omega (arith, t.0), i))
    (cases_lt b.key.end e))
    (λ (q : b.state ≡ Allocated).
    let g = f s (omega arith) o in
    absurd (g.1 (held_here b.state b.key (held_of bs) s q (omega (arith, t.0), h))))
    (state_cases b.state))
    (cases_lt b.key.end s)

-- The addresses of a free block are clear.
pub free_is_clear : (p : NodeState) (lo hi s e x : ℕ) (bs : List Block) → Tiles p lo bs hi → InFreeBlock bs s e → s ≤ x → x ≤ e →
    (lo ≤ x) × (x ≤ hi) × ¬ IsHeldAddress (held_of bs) x
free_is_clear p lo hi s e x [] t h l o = absurd h
free_is_clear p lo hi s e x (b ∷ bs) t h l o =
    ⊎_elim
    (λ (f : (b.state ≡ Free) × (b.key.start ≤ s) × (e ≤ b.key.end)).
    let past = tiles_end b.state (b.key.end + 1) hi bs t.3 in (
      omega (arith, t.0, f.1),
      omega (arith, f.2),
      λ k.
          ⊎_elim
          (λ (a : (b.state ≡ Allocated) × IsIn b.key x). let u : Free ≡ Allocated = sym f.0 ∙ a.0 in cc)
          (λ (r : IsHeldAddress (held_of bs) x). let w = held_within b.state (b.key.end + 1) hi x bs t.3 r in omega (arith, w.0, f.2))
          (held_cases b.state b.key (held_of bs) x k),
    ))
    (λ (r : InFreeBlock bs s e).
    let i = free_is_clear b.state (b.key.end + 1) hi s e x bs t.3 r l o in (
      omega (arith, i.0, t.1),
      i.1,
      λ k.
          ⊎_elim
          (λ (a : (b.state ≡ Allocated) × IsIn b.key x). omega (arith, a.1.1, i.0))
          (λ (r : IsHeldAddress (held_of bs) x). i.2 r)
          (held_cases b.state b.key (held_of bs) x k),
    ))
    h
