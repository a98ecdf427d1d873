-- The free blocks of a tiling: each is a longest range of addresses that are not held.
use Rattle.std.proofs.Common.{◌≡◌, ℕ, ◌+◌, ◌<◌, ◌≤◌, ◌⊎◌, List, [], ◌∷◌, refl, sym, ap, ◌∙◌, arith, inl, inr, ⊎_elim, subst}
use Rattle.std.proofs.lemmas.Bool.{cases_lt}
use Rattle.vm_ranges.specs.Range.{Range, IsIn, address_count}
use Rattle.vm_leaf.specs.declared.block.Block.{Block}
use Rattle.vm_leaf.specs.Blocks.{Tiles}
use Rattle.vm_leaf.specs.SpaceBlocks.{held_of}
use Rattle.vm_addresses.specs.Queries.{free_of, longest_of, common_count, longest_part, count_of}
use Rattle.vm_ranges.specs.declared.state.NodeState.{NodeState}
use Rattle.vm_ranges.specs.declared.state.NodeState.TheVariants.{Free, Allocated}
use Rattle.vm_ranges.proofs.PlainWords.{IsHeldAddress, IsHeld}
use Rattle.vm_leaf.proofs.Spaces.Gaps.{state_cases, not_both, tiles_end, InFreeBlock, next_held}
use Rattle.vm_leaf.proofs.Spaces.OneList.{held_of-free, held_of-held}
use Rattle.vm_addresses.proofs.Walking.GapsInTrees.{free_of-free, free_of-held}

-- ---- One block in front of a list
module _ (b : Block) (bs : List Block) where
  -- A range of the free blocks is the first block or one of the others.
  free_cases : (g : Range) → IsHeld (free_of (b ∷ bs)) g → ((b.state ≡ Free) × (b.key ≡ g)) ⊎ IsHeld (free_of bs) g
  free_cases g h =
      ⊎_elim
      (λ (e : b.state ≡ Free).
      let k : IsHeld (b.key ∷ free_of bs) g = subst (λ (v : List Range). IsHeld v g) (free_of-free b bs e) h in
      ⊎_elim (λ (i : b.key ≡ g). inl (e, i)) (λ (i : IsHeld (free_of bs) g). inr i) k)
      (λ (e : b.state ≡ Allocated). inr (subst (λ (v : List Range). IsHeld v g) (free_of-held b bs e) h))
      (state_cases b.state)

  free_first : b.state ≡ Free → IsHeld (free_of (b ∷ bs)) b.key
  free_first e = subst (λ (v : List Range). IsHeld v b.key) (sym (free_of-free b bs e)) (inl refl)

  free_later : (g : Range) → IsHeld (free_of bs) g → IsHeld (free_of (b ∷ bs)) g
  free_later g h =
      ⊎_elim
      (λ (e : b.state ≡ Free). subst (λ (v : List Range). IsHeld v g) (sym (free_of-free b bs e)) (inr h))
      (λ (e : b.state ≡ Allocated). subst (λ (v : List Range). IsHeld v g) (sym (free_of-held b bs e)) h)
      (state_cases b.state)

  held_later : (x : ℕ) → IsHeldAddress (held_of bs) x → IsHeldAddress (held_of (b ∷ bs)) x
  held_later x h =
      ⊎_elim
      (λ (e : b.state ≡ Free). subst (λ (v : List Range). IsHeldAddress v x) (sym (held_of-free b bs e)) h)
      (λ (e : b.state ≡ Allocated). subst (λ (v : List Range). IsHeldAddress v x) (sym (held_of-held b bs e)) (inr h))
      (state_cases b.state)

  held_first : (x : ℕ) → b.state ≡ Allocated → IsIn b.key x → IsHeldAddress (held_of (b ∷ bs)) x
  held_first x e i = subst (λ (v : List Range). IsHeldAddress v x) (sym (held_of-held b bs e)) (inl i)

-- ---- A free block of a tiling
pub free_lies : (p : NodeState) (lo hi : ℕ) (bs : List Block) (g : Range) → Tiles p lo bs hi → IsHeld (free_of bs) g →
    (lo ≤ g.start) × (g.start ≤ g.end) × (g.end ≤ hi)
free_lies p lo hi [] g t h = absurd h
free_lies p lo hi (b ∷ bs) g t h =
    let end = tiles_end b.state (b.key.end + 1) hi bs t.3 in
    ⊎_elim
    (λ (k : (b.state ≡ Free) × (b.key ≡ g)). subst (λ (v : Range). (lo ≤ v.start) × (v.start ≤ v.end) × (v.end ≤ hi)) k.1
    (omega (arith, t.0), omega (arith, t.0, t.1), omega arith))
    (λ (k : IsHeld (free_of bs) g). let i = free_lies b.state (b.key.end + 1) hi bs g t.3 k in (omega (arith, t.1, i.0), i.1, i.2))
    (free_cases b bs g h)

-- Two free blocks with a common address are equal.
pub one_free : (p : NodeState) (lo hi x : ℕ) (bs : List Block) (g q : Range) → Tiles p lo bs hi → IsHeld (free_of bs) g →
    IsHeld (free_of bs) q → IsIn g x → IsIn q x → g ≡ q
one_free p lo hi x [] g q t h k i j = absurd h
one_free p lo hi x (b ∷ bs) g q t h k i j =
    let above : (r : Range) → IsHeld (free_of bs) r →
    b.key.end < r.start = λ r m. let l = free_lies b.state (b.key.end + 1) hi bs r t.3 m in omega (arith, l.0) in
    ⊎_elim
    (λ (e : (b.state ≡ Free) × (b.key ≡ g)).
    ⊎_elim
    (λ (f : (b.state ≡ Free) × (b.key ≡ q)). sym e.1 ∙ f.1)
    (λ (f : IsHeld (free_of bs) q). absurd (omega (arith, above q f, ap (λ (v : Range). v.end) e.1, i.1, j.0)))
    (free_cases b bs q k))
    (λ (e : IsHeld (free_of bs) g).
    ⊎_elim
    (λ (f : (b.state ≡ Free) × (b.key ≡ q)). absurd (omega (arith, above g e, ap (λ (v : Range). v.end) f.1, i.0, j.1)))
    (λ (f : IsHeld (free_of bs) q). one_free b.state (b.key.end + 1) hi x bs g q t.3 e f i j)
    (free_cases b bs q k))
    (free_cases b bs g h)

pub in_free : (bs : List Block) (g : Range) → IsHeld (free_of bs) g → InFreeBlock bs g.start g.end
in_free [] g h = absurd h
in_free (b ∷ bs) g h =
    ⊎_elim
    (λ (k : (b.state ≡ Free) × (b.key ≡ g)). inl
    (k.0, omega (arith, ap (λ (v : Range). v.start) k.1), omega (arith, ap (λ (v : Range). v.end) k.1)))
    (λ (k : IsHeld (free_of bs) g). inr (in_free bs g k))
    (free_cases b bs g h)

-- A free block contains the addresses from s to e.
abbrev pub FreeOver : List Block → ℕ → ℕ → Type 0
FreeOver bs s e = (g : Range) × IsHeld (free_of bs) g × (g.start ≤ s) × (e ≤ g.end)

pub free_over : (bs : List Block) (s e : ℕ) → InFreeBlock bs s e → FreeOver bs s e
free_over [] s e h = absurd h
free_over (b ∷ bs) s e h =
    ⊎_elim
    (λ (k : (b.state ≡ Free) × (b.key.start ≤ s) × (e ≤ b.key.end)). (b.key, free_first b bs k.0, k.1, k.2))
    (λ (k : InFreeBlock bs s e). let i = free_over bs s e k in (i.0, free_later b bs i.0 i.1, i.2, i.3))
    h

-- The address after a free block is held, if it is in the space.
pub held_after : (p : NodeState) (lo hi : ℕ) (bs : List Block) (g : Range) → Tiles p lo bs hi → IsHeld (free_of bs) g → g.end + 1 ≤ hi →
    IsHeldAddress (held_of bs) (g.end + 1)
held_after p lo hi [] g t h l = absurd h
held_after p lo hi (b ∷ bs) g t h l =
    ⊎_elim
    (λ (k : (b.state ≡ Free) × (b.key ≡ g)).
    let e : b.key.end + 1 ≡ g.end + 1 = ap (λ (v : Range). v.end + 1) k.1 in
    subst (λ (v : ℕ). IsHeldAddress (held_of (b ∷ bs)) v) e
    (held_later b bs (b.key.end + 1) (next_held b.state (b.key.end + 1) hi bs k.0 t.3 (omega (arith, e)))))
    (λ (k : IsHeld (free_of bs) g). held_later b bs (g.end + 1) (held_after b.state (b.key.end + 1) hi bs g t.3 k l))
    (free_cases b bs g h)

-- After a free block the next free block does not start at once.
apart : (p : NodeState) (lo hi : ℕ) (bs : List Block) (g : Range) → p ≡ Free → Tiles p lo bs hi → IsHeld (free_of bs) g → lo < g.start
apart p lo hi [] g f t h = absurd h
apart p lo hi (b ∷ bs) g f t h =
    ⊎_elim
    (λ (k : (b.state ≡ Free) × (b.key ≡ g)). absurd (not_both p b.state f k.0 t.2))
    (λ (k : IsHeld (free_of bs) g). let i = free_lies b.state (b.key.end + 1) hi bs g t.3 k in omega (arith, i.0, t.1))
    (free_cases b bs g h)

-- The address before a free block is held, if it is in the space.
pub held_before : (p : NodeState) (lo hi x : ℕ) (bs : List Block) (g : Range) → Tiles p lo bs hi → IsHeld (free_of bs) g → x + 1 ≡ g.start →
    lo ≤ x → IsHeldAddress (held_of bs) x
held_before p lo hi x [] g t h e l = absurd h
held_before p lo hi x (b ∷ bs) g t h e l =
    ⊎_elim
    (λ (k : (b.state ≡ Free) × (b.key ≡ g)). absurd (omega (arith, t.0, ap (λ (v : Range). v.start) k.1)))
    (λ (k : IsHeld (free_of bs) g).
    let i = free_lies b.state (b.key.end + 1) hi bs g t.3 k in
    ⊎_elim
    (λ (m : b.key.end < x). held_later b bs x (held_before b.state (b.key.end + 1) hi x bs g t.3 k e (omega arith)))
    (λ (m : x ≤ b.key.end).
    ⊎_elim
    (λ (f : b.state ≡ Free). absurd (omega (arith, apart b.state (b.key.end + 1) hi bs g f t.3 k)))
    (λ (f : b.state ≡ Allocated). held_first b bs x f (omega (arith, t.0), m))
    (state_cases b.state))
    (cases_lt b.key.end x))
    (free_cases b bs g h)

-- Each address of the space is held or in a free block.
pub held_or_free : (p : NodeState) (lo hi x : ℕ) (bs : List Block) → Tiles p lo bs hi → lo ≤ x → x ≤ hi →
    IsHeldAddress (held_of bs) x ⊎ FreeOver bs x x
held_or_free p lo hi x [] t l m = absurd (omega arith)
held_or_free p lo hi x (b ∷ bs) t l m =
    ⊎_elim
    (λ (k : b.key.end < x).
    ⊎_elim
    (λ (i : IsHeldAddress (held_of bs) x). inl (held_later b bs x i))
    (λ (i : FreeOver bs x x). inr (i.0, free_later b bs i.0 i.1, i.2, i.3))
    (held_or_free b.state (b.key.end + 1) hi x bs t.3 (omega arith) m))
    (λ (k : x ≤ b.key.end).
    ⊎_elim
    (λ (f : b.state ≡ Free). inr (b.key, free_first b bs f, omega (arith, t.0), k))
    (λ (f : b.state ≡ Allocated). inl (held_first b bs x f (omega (arith, t.0), k)))
    (state_cases b.state))
    (cases_lt b.key.end x)

-- ---- Their lengths
pub longest_over : (rs : List Range) (r : Range) → IsHeld rs r → address_count r ≤ longest_of rs
longest_over [] r h = absurd h
longest_over (q ∷ rs) r h =
    ⊎_elim
    (λ (e : q ≡ r). let k : address_count q ≡ address_count r = ap address_count e in omega (arith, k))
    (λ (e : IsHeld rs r). omega (arith, longest_over rs r e))
    h

pub one_is_longest : (rs : List Range) (n : ℕ) → 0 < n → n ≤ longest_of rs → (r : Range) × IsHeld rs r × (n ≤ address_count r)
one_is_longest [] n p l = absurd (omega arith)
one_is_longest (q ∷ rs) n p l =
    ⊎_elim
    (λ (k : address_count q < n). let i = one_is_longest rs n p (omega arith) in (i.0, inr i.1, i.2))
    (λ (k : n ≤ address_count q). (q, inl refl, k))
    (cases_lt (address_count q) n)

-- ---- The longest part in a window
pub longest_part_over : (w : Range) (rs : List Range) (r : Range) → IsHeld rs r → common_count w r ≤ longest_part w rs
longest_part_over w [] r h = absurd h
longest_part_over w (q ∷ rs) r h =
    ⊎_elim
    (λ (e : q ≡ r). let k : common_count w q ≡ common_count w r = ap (common_count w) e in omega (arith, k))
    (λ (e : IsHeld rs r). omega (arith, longest_part_over w rs r e))
    h

pub one_has_longest_part : (w : Range) (rs : List Range) (n : ℕ) → 0 < n → n ≤ longest_part w rs →
    (r : Range) × IsHeld rs r × (n ≤ common_count w r)
one_has_longest_part w [] n p l = absurd (omega arith)
one_has_longest_part w (q ∷ rs) n p l =
    ⊎_elim
    (λ (k : common_count w q < n). let i = one_has_longest_part w rs n p (omega arith) in (i.0, inr i.1, i.2))
    (λ (k : n ≤ common_count w q). (q, inl refl, k))
    (cases_lt (common_count w q) n)

-- The held and the free addresses are all addresses of the space.
pub all_counted : (p : NodeState) (lo hi : ℕ) (bs : List Block) → Tiles p lo bs hi →
    count_of (free_of bs) + count_of (held_of bs) + lo ≡ hi + 1
all_counted p lo hi [] t = omega arith
all_counted p lo hi (b ∷ bs) t =
    let rest = all_counted b.state (b.key.end + 1) hi bs t.3 in
    ⊎_elim
    (λ (e : b.state ≡ Free). omega (arith, rest, ap count_of (free_of-free b bs e), ap count_of (held_of-free b bs e), t.0, t.1))
    (λ (e : b.state ≡ Allocated). omega (arith, rest, ap count_of (free_of-held b bs e), ap count_of (held_of-held b bs e), t.0, t.1))
    (state_cases b.state)
