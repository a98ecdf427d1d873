-- A freed range, joined with its clear neighbours.
use Rattle.std.proofs.Common.{◌≡◌, ℕ, ◌+◌, ◌<◌, ◌≤◌, List, [], ◌∷◌, ◌++◌, refl, sym, ap, ◌∙◌, arith, inl, inr, ◌⊎◌, ⊎_elim, subst, eq-eqb}
use Rattle.std.proofs.lemmas.Bool.{ne_eqb}
use Rattle.vm_ranges.specs.Range.{Range}
use Rattle.vm_leaf.specs.declared.block.Block.{Block}
use Rattle.vm_ranges.specs.Address.{AddressState, without_range, releasing}
use Rattle.vm_leaf.specs.Blocks.{NotBothFree, Tiles, join_if, with_free}
use Rattle.vm_leaf.specs.SpaceBlocks.{range_if_held, held_of, IsBlocksOf}
use Rattle.vm_ranges.proofs.PlainWords.{IsHeld}
use Rattle.vm_ranges.specs.declared.state.NodeState.{NodeState}
use Rattle.vm_ranges.specs.declared.state.NodeState.TheVariants.{Free, Allocated}
use Rattle.vm_leaf.proofs.Spaces.Gaps.{state_cases}
use Rattle.vm_leaf.proofs.Spaces.OneList.{held_of-free, held_of-held}
use Rattle.vm_addresses.proofs.Placing.TakenRanges.{starts_after}

-- The last block is not free. If the list is empty, the state before it is not Free.
abbrev pub EndsHeld : NodeState → List Block → Type 0
EndsHeld before [] = NotBothFree before Free
EndsHeld before (b ∷ bs) = EndsHeld b.state bs

-- The block is held and has this range.
unfoldable pub IsHeldBlock : Range → Block → Type 0
IsHeldBlock r b = (b.key ≡ r) × (b.state ≡ Allocated)

tiles_join : (p st : NodeState) (lo hi : ℕ) (k : Range) (b : Block) (bs : List Block) → b.state ≡ st → NotBothFree p Free → k.start ≡ lo →
    lo ≤ k.end → b.key.start ≡ k.end + 1 → k.end + 1 ≤ b.key.end → Tiles b.state (b.key.end + 1) bs hi → Tiles p lo (join_if st k b bs) hi
tiles_join p Free lo hi k b bs e q s l n m t = (s, omega arith, q, subst (λ (v : NodeState). Tiles v (b.key.end + 1) bs hi) e t)
tiles_join p Allocated lo hi k b bs e q s l n m t = (s, l, q, (n, m, subst (λ (v : NodeState). NotBothFree Free v) (sym e) tt, t))

-- A free block before a tiling that follows it.
tiles_with_free : (p q : NodeState) (lo hi : ℕ) (k : Range) (ys : List Block) → NotBothFree p Free → k.start ≡ lo → lo ≤ k.end →
    Tiles q (k.end + 1) ys hi → Tiles p lo (with_free k ys) hi
tiles_with_free p q lo hi k [] f s l t = (s, l, f, t)
tiles_with_free p q lo hi k (y ∷ ys) f s l t = tiles_join p y.state lo hi k y ys refl f s l t.0 t.1 t.3

held_join : (st : NodeState) (k : Range) (b : Block) (bs : List Block) → b.state ≡ st → held_of (join_if st k b bs) ≡ held_of (b ∷ bs)
held_join Free k b bs e = sym (held_of-free b bs e)
held_join Allocated k b bs e = refl

held_with_free : (k : Range) (ys : List Block) → held_of (with_free k ys) ≡ held_of ys
held_with_free k [] = refl
held_with_free k (y ∷ ys) = held_join y.state k y ys refl

-- Removing the range of a held first block removes the first held range.
without_first : (b : Block) (ys : List Block) → b.state ≡ Allocated → without_range b.key (held_of (b ∷ ys)) ≡ held_of ys
without_first b ys e = let same = eq-eqb b.key.start b.key.start refl in ap (without_range b.key) (held_of-held b ys e) ∙ rw same refl

-- Removing a range passes over the blocks below it.
without_later : (k : Range) (x : Block) (zs : List Block) (hs : List Range) → x.key.start < k.start → hs ≡ held_of zs →
    without_range k (held_of (x ∷ zs)) ≡ range_if_held x.state x.key ++ without_range k hs
without_later k x zs hs l e =
    ⊎_elim
    (λ (f : x.state ≡ Free). ap (without_range k) (held_of-free x zs f ∙ sym e)
    ∙ sym (ap (λ (s : NodeState). range_if_held s x.key ++ without_range k hs) f))
    (λ (f : x.state ≡ Allocated).
    let differ = ne_eqb k.start x.key.start (λ i. omega arith) in
    ap (without_range k) (held_of-held x zs f ∙ ap (λ (v : List Range). x.key ∷ v) (sym e))
    ∙ rw differ (sym (ap (λ (s : NodeState). range_if_held s x.key ++ without_range k hs) f)))
    (state_cases x.state)

-- A held block that does not follow a free block becomes free.
tiles_freed : (p : NodeState) (lo hi : ℕ) (b : Block) (xs ys : List Block) → EndsHeld p xs → b.state ≡ Allocated →
    Tiles p lo (xs ++ b ∷ ys) hi → Tiles p lo (xs ++ with_free b.key ys) hi
tiles_freed p lo hi b [] ys g e t = tiles_with_free p b.state lo hi b.key ys g t.0 t.1 t.3
tiles_freed p lo hi b (x ∷ xs) ys g e t = (t.0, t.1, t.2, tiles_freed x.state (x.key.end + 1) hi b xs ys g e t.3)

-- A held block that follows a free block is joined with it.
tiles_freed_before : (p : NodeState) (lo hi : ℕ) (f b : Block) (xs ys : List Block) → f.state ≡ Free → b.state ≡ Allocated →
    Tiles p lo (xs ++ f ∷ b ∷ ys) hi → Tiles p lo (xs ++ with_free (record { start = f.key.start; end = b.key.end }) ys) hi
tiles_freed_before p lo hi f b [] ys g e t =
    tiles_with_free p b.state lo hi (record { start = f.key.start; end = b.key.end }) ys (subst (λ (v : NodeState). NotBothFree p v) g t.2)
    t.0 (omega (arith, t.1, t.3.1)) t.3.3
tiles_freed_before p lo hi f b (x ∷ xs) ys g e t = (t.0, t.1, t.2, tiles_freed_before x.state (x.key.end + 1) hi f b xs ys g e t.3)

held_freed : (p : NodeState) (lo hi : ℕ) (k : Range) (b : Block) (xs ys : List Block) → b.state ≡ Allocated → Tiles p lo (xs ++ b ∷ ys) hi →
    held_of (xs ++ with_free k ys) ≡ without_range b.key (held_of (xs ++ b ∷ ys))
held_freed p lo hi k b [] ys e t = held_with_free k ys ∙ sym (without_first b ys e)
held_freed p lo hi k b (x ∷ xs) ys e t =
    let after = starts_after x.state (x.key.end + 1) hi b xs ys t.3 in
    let i = held_freed x.state (x.key.end + 1) hi k b xs ys e t.3 in
    ap (λ (v : List Range). range_if_held x.state x.key ++ v) i
    ∙ sym (without_later b.key x (xs ++ b ∷ ys) (held_of (xs ++ b ∷ ys)) (omega (arith, t.0, t.1)) refl)

held_freed_before : (p : NodeState) (lo hi : ℕ) (k : Range) (f b : Block) (xs ys : List Block) → f.state ≡ Free → b.state ≡ Allocated →
    Tiles p lo (xs ++ f ∷ b ∷ ys) hi → held_of (xs ++ with_free k ys) ≡ without_range b.key (held_of (xs ++ f ∷ b ∷ ys))
held_freed_before p lo hi k f b [] ys g e t = held_with_free k ys
    ∙ sym (ap (without_range b.key) (held_of-free f (b ∷ ys) g) ∙ without_first b ys e)
held_freed_before p lo hi k f b (x ∷ xs) ys g e t =
    let i = held_freed_before x.state (x.key.end + 1) hi k f b xs ys g e t.3 in
    let after = starts_after x.state (x.key.end + 1) hi f xs (b ∷ ys) t.3 in
    let gap : f.key.start < b.key.start = follows x.state (x.key.end + 1) hi f b xs ys t.3 in
    ap (λ (v : List Range). range_if_held x.state x.key ++ v) i
    ∙ sym (without_later b.key x (xs ++ f ∷ b ∷ ys) (held_of (xs ++ f ∷ b ∷ ys)) (omega (arith, t.0, t.1)) refl)
  where
    follows : (p : NodeState) (lo hi : ℕ) (f b : Block) (xs ys : List Block) → Tiles p lo (xs ++ f ∷ b ∷ ys) hi → f.key.start < b.key.start
    follows p lo hi f b [] ys t = omega (arith, t.0, t.1, t.3.0)
    follows p lo hi f b (x ∷ xs) ys t = follows x.state (x.key.end + 1) hi f b xs ys t.3

-- A held range that does not follow a free block is freed.
pub blocks_freed : (state : AddressState) (bs xs ys : List Block) (b : Block) → IsBlocksOf state bs → bs ≡ xs ++ b ∷ ys →
    b.state ≡ Allocated → EndsHeld Allocated xs → IsBlocksOf (releasing b.key state) (xs ++ with_free b.key ys)
blocks_freed state bs xs ys b h e g q =
    let t : Tiles Allocated state.space.start (xs ++ b ∷ ys) state.space.end = subst
    (λ (v : List Block). Tiles Allocated state.space.start v state.space.end) e h.tiles in
    record {
      tiles = tiles_freed Allocated state.space.start state.space.end b xs ys q g t;
      held = held_freed Allocated state.space.start state.space.end b.key b xs ys g t
          ∙ ap (without_range b.key) (ap held_of (sym e) ∙ h.held);
    }

-- A held range that follows a free block is freed.
pub blocks_freed_before : (state : AddressState) (bs xs ys : List Block) (f b : Block) → IsBlocksOf state bs → bs ≡ xs ++ f ∷ b ∷ ys →
    f.state ≡ Free → b.state ≡ Allocated →
    IsBlocksOf (releasing b.key state) (xs ++ with_free (record { start = f.key.start; end = b.key.end }) ys)
blocks_freed_before state bs xs ys f b h e i g =
    let t : Tiles Allocated state.space.start (xs ++ f ∷ b ∷ ys) state.space.end = subst
    (λ (v : List Block). Tiles Allocated state.space.start v state.space.end) e h.tiles in
    record {
      tiles = tiles_freed_before Allocated state.space.start state.space.end f b xs ys i g t;
      held = held_freed_before Allocated state.space.start state.space.end (record { start = f.key.start; end = b.key.end }) f b xs ys i g t
          ∙ ap (without_range b.key) (ap held_of (sym e) ∙ h.held);
    }

pub held_or_later : (r : Range) (b : Block) (bs : List Block) → IsHeld (held_of (b ∷ bs)) r → IsHeldBlock r b ⊎ IsHeld (held_of bs) r
unfolding IsHeldBlock
held_or_later r b bs h =
    ⊎_elim
    (λ (e : b.state ≡ Free). inr (subst (λ (v : List Range). IsHeld v r) (held_of-free b bs e) h))
    (λ (e : b.state ≡ Allocated).
    let g : IsHeld (b.key ∷ held_of bs) r = subst (λ (v : List Range). IsHeld v r) (held_of-held b bs e) h in
    ⊎_elim (λ (i : b.key ≡ r). inl (i, e)) (λ (i : IsHeld (held_of bs) r). inr i) g)
    (state_cases b.state)

-- The range of a held block is held.
pub is_held : (r : Range) (b : Block) (xs ys : List Block) → IsHeldBlock r b → IsHeld (held_of (xs ++ b ∷ ys)) r
unfolding IsHeldBlock
is_held r b [] ys s = subst (λ (v : List Range). IsHeld v r) (sym (held_of-held b ys s.1)) (inl s.0)
is_held r b (x ∷ xs) ys s =
    ⊎_elim
    (λ (e : x.state ≡ Free). subst (λ (v : List Range). IsHeld v r) (sym (held_of-free x (xs ++ b ∷ ys) e)) (is_held r b xs ys s))
    (λ (e : x.state ≡ Allocated). subst (λ (v : List Range). IsHeld v r) (sym (held_of-held x (xs ++ b ∷ ys) e))
    (inr (is_held r b xs ys s)))
    (state_cases x.state)
