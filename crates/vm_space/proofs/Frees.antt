-- Blocks that are freed.
use Rattle.std.proofs.Common.{◌≡◌, ℕ, zero, suc, ◌+◌, ◌-◌, ◌<◌, ◌≤◌, List, [], ◌∷◌, ◌++◌, length, take, drop, refl, ap, ◌∙◌, sym, subst, arith, length-take-le, length-drop}
use Rattle.vm_ranges.specs.Range.{Range}
use Rattle.vm_ranges.specs.declared.state.NodeState.{NodeState}
use Rattle.vm_ranges.specs.declared.state.NodeState.TheVariants.{Free, Allocated}
use Rattle.vm_leaf.specs.declared.block.Block.{Block}
use Rattle.vm_leaf.specs.Block.{held_block}
use Rattle.vm_leaf.specs.Blocks.{Tiles, NotBothFree, nth, start_of, freed_between, freed_on, freed_at, with_free, join_if, IsRun}
use Rattle.vm_space.specs.Frees.{FreesBlock, FreesIn}
use Rattle.std.specs.Prelude.{◌⊎◌}
use Rattle.std.proofs.Common.{inl, inr}
use Rattle.vm_space.proofs.Lists.{cut_at}

-- A free block in a list that has blocks before it.
pub freed_under : (l m us : List Block) (k : Range) → 0 < length m → freed_between (l ++ m) k us ≡ l ++ freed_between m k us
freed_under [] m us k h = refl
freed_under (x ∷ []) [] us k h = absurd (omega arith)
freed_under (x ∷ []) (y ∷ m) us k h = refl
freed_under (x ∷ z ∷ l) m us k h = ap (λ (b : List Block). x ∷ b) (freed_under (z ∷ l) m us k h)

-- Blocks behind a freed block stay behind it.
join_if_append : (s : NodeState) (k : Range) (b : Block) (us r : List Block) → join_if s k b us ++ r ≡ join_if s k b (us ++ r)
join_if_append Free k b us r = refl
join_if_append Allocated k b us r = refl

pub with_free_append : (k : Range) (us r : List Block) → 0 < length us → with_free k us ++ r ≡ with_free k (us ++ r)
with_free_append k [] r h = absurd (omega arith)
with_free_append k (b ∷ us) r h = join_if_append b.state k b us r

freed_on_append : (s : NodeState) (x : Block) (k : Range) (us r : List Block) → 0 < length us →
    freed_on s x k us ++ r ≡ freed_on s x k (us ++ r)
freed_on_append Free x k us r h = with_free_append (record { start = x.key.start; end = k.end }) us r h
freed_on_append Allocated x k us r h = ap (λ (b : List Block). x ∷ b) (with_free_append k us r h)

-- A free block in a list that has blocks after it.
pub freed_over : (m us r : List Block) (k : Range) → 0 < length us → freed_between m k us ++ r ≡ freed_between m k (us ++ r)
freed_over [] us r k h = with_free_append k us r h
freed_over (x ∷ []) us r k h = freed_on_append x.state x k us r h
freed_over (x ∷ y ∷ m) us r k h = ap (λ (b : List Block). x ∷ b) (freed_over (y ∷ m) us r k h)

-- Joining takes at most the next block away.
length-join_if : (s : NodeState) (k : Range) (b : Block) (us : List Block) → length us + 1 ≤ length (join_if s k b us)
length-join_if Free k b us = omega arith
length-join_if Allocated k b us = omega arith

pub length-with_free : (k : Range) (us : List Block) → (length us ≤ length (with_free k us)) × (1 ≤ length (with_free k us))
length-with_free k [] = (omega arith, omega arith)
length-with_free k (b ∷ us) = let h = length-join_if b.state k b us in (omega arith, omega arith)

length-freed_on : (s : NodeState) (x : Block) (k : Range) (us : List Block) →
    (length us ≤ length (freed_on s x k us)) × (1 ≤ length (freed_on s x k us))
length-freed_on Free x k us = length-with_free (record { start = x.key.start; end = k.end }) us
length-freed_on Allocated x k us = let h = length-with_free k us in (omega (arith, h.0), omega (arith, h.1))

-- A freed block takes at most its two neighbours away.
pub length-freed : (m : List Block) (k : Range) (us : List Block)
    → (length m + length us ≤ length (freed_between m k us) + 1) × (length m ≤ length (freed_between m k us))
    × (length us ≤ length (freed_between m k us))
length-freed [] k us = let h = length-with_free k us in (omega (arith, h.0), omega arith, h.0)
length-freed (x ∷ []) k us = let h = length-freed_on x.state x k us in (omega (arith, h.0), omega (arith, h.1), h.0)
length-freed (x ∷ y ∷ m) k us = let h = length-freed (y ∷ m) k us in (omega (arith, h.0), omega (arith, h.1), omega (arith, h.2))

-- A freed block that is joined with the next one starts at the same address.
start_join : (s : NodeState) (k : Range) (b : Block) (us : List Block) → start_of (join_if s k b us) ≡ k.start
start_join Free k b us = refl
start_join Allocated k b us = refl

start_freed_on : (s : NodeState) (x : Block) (k : Range) (us : List Block) → x.state ≡ s → start_of (freed_on s x k us) ≡ x.key.start
start_freed_on Allocated x k us e = refl
start_freed_on Free x k [] e = refl
start_freed_on Free x k (b ∷ us) e = start_join b.state (record { start = x.key.start; end = k.end }) b us

pub start_free : (k : Range) (us : List Block) → start_of (with_free k us) ≡ k.start
start_free k [] = refl
start_free k (b ∷ us) = start_join b.state k b us

-- A list with a freed block starts at the same address.
pub start_freed : (m : List Block) (k : Range) (us : List Block) → 0 < length m → start_of (freed_between m k us) ≡ start_of m
start_freed [] k us h = absurd (omega arith)
start_freed (x ∷ []) k us h = start_freed_on x.state x k us refl
start_freed (x ∷ y ∷ m) k us h = refl

-- A leaf starts at the same address after a block was freed that is not its first, or its only one.
pub freed_start : (bs : List Block) (i : ℕ) → i < length bs → ((0 < i) × (i + 1 < length bs)) ⊎ (length bs ≡ 1) → start_of (freed_at i bs) ≡ start_of bs
freed_start bs i l (inl h) = start_freed (take i bs) (nth bs i).key (drop (i + 1) bs) (omega (arith, length-take-le i bs, l, h.0)) ∙ start_taken i bs h.0
  where
    start_taken : (i : ℕ) (bs : List Block) → 0 < i → start_of (take i bs) ≡ start_of bs
    start_taken zero bs h = absurd (omega arith)
    start_taken (suc i) [] h = refl
    start_taken (suc i) (b ∷ bs) h = refl
freed_start [] i l (inr h) = absurd (omega (arith, h))
freed_start (b ∷ []) zero l (inr h) = start_free b.key []
freed_start (b ∷ []) (suc i) l (inr h) = absurd (omega (arith, l))
freed_start (b ∷ c ∷ bs) i l (inr h) = absurd (omega (arith, h))

-- The cover after a block is freed.
tiles_join : (s : NodeState) (hi a z : ℕ) (b : Block) (us : List Block) → b.state ≡ s → a ≤ z → Tiles Allocated (z + 1) (b ∷ us) hi
    → Tiles Allocated a (join_if s (record { start = a; end = z }) b us) hi
tiles_join Free hi a z b us e l t = (refl, omega (arith, t.0, t.1), tt, subst (λ (s : NodeState). Tiles s (b.key.end + 1) us hi) e t.3)
tiles_join Allocated hi a z b us e l t = (refl, l, tt, (t.0, t.1, subst (NotBothFree Free) (sym e) tt, t.3))

-- A freed block joined with the block after it covers both.
tiles_free : (hi a z : ℕ) (us : List Block) → a ≤ z → Tiles Allocated (z + 1) us hi →
    Tiles Allocated a (with_free (record { start = a; end = z }) us) hi
tiles_free hi a z [] l t = (refl, l, tt, t)
tiles_free hi a z (b ∷ us) l t = tiles_join b.state hi a z b us refl l t

-- A cover that begins with a gap can follow any block that is not free.
from_held : (p : NodeState) (lo hi : ℕ) (k : Range) (us : List Block) → NotBothFree p Free → Tiles Allocated lo (with_free k us) hi →
    Tiles p lo (with_free k us) hi
from_held Allocated lo hi k us n t = t
from_held Free lo hi k us n t = absurd n

-- A freed block joined with the block before it covers both.
tiles_on : (s p : NodeState) (lo hi : ℕ) (x : Block) (k : Range) (us : List Block) → x.state ≡ s → Tiles p lo (x ∷ held_block k ∷ us) hi →
    Tiles p lo (freed_on s x k us) hi
tiles_on Allocated p lo hi x k us e t = (
  t.0,
  t.1,
  t.2,
  subst (λ (s : NodeState). Tiles s (x.key.end + 1) (with_free k us) hi) (sym e)
      (subst (λ (v : ℕ). Tiles Allocated v (with_free k us) hi) t.3.0 (tiles_free hi k.start k.end us (omega (arith, t.3.0, t.3.1)) t.3.3)),
)
tiles_on Free p lo hi x k us e t =
    let f = tiles_free hi x.key.start k.end us (omega (arith, t.0, t.1, t.3.0, t.3.1)) t.3.3 in
    subst (λ (v : ℕ). Tiles p v (with_free (record { start = x.key.start; end = k.end }) us) hi) t.0
    (from_held p x.key.start hi (record { start = x.key.start; end = k.end }) us (subst (NotBothFree p) e t.2) f)

-- The blocks cover the same addresses after one of them is freed.
pub tiles_freed : (p : NodeState) (lo hi : ℕ) (m : List Block) (k : Range) (us : List Block) → 0 < length m →
    Tiles p lo (m ++ held_block k ∷ us) hi → Tiles p lo (freed_between m k us) hi
tiles_freed p lo hi [] k us h t = absurd (omega arith)
tiles_freed p lo hi (x ∷ []) k us h t = tiles_on x.state p lo hi x k us refl t
tiles_freed p lo hi (x ∷ y ∷ m) k us h t = (t.0, t.1, t.2, tiles_freed x.state (x.key.end + 1) hi (y ∷ m) k us (omega arith) t.3)

-- A run in which a block is freed is a run.
pub cover_freed : (m : List Block) (k : Range) (us : List Block) → IsRun (m ++ held_block k ∷ us) → IsRun (freed_between m k us)
cover_freed [] k us h =
    let n = length-with_free k us in
    record {
      lo = h.lo;
      hi = h.hi;
      some = omega (arith, n.1);
      tiles = subst (λ (v : ℕ). Tiles Allocated v (with_free k us) h.hi) h.tiles.0
          (tiles_free h.hi k.start k.end us (omega (arith, h.tiles.0, h.tiles.1)) h.tiles.3);
      range = h.range;
    }
cover_freed (x ∷ m) k us h =
    let n = length-freed (x ∷ m) k us in
    record {
      lo = h.lo;
      hi = h.hi;
      some = omega (arith, n.1);
      tiles = tiles_freed Allocated h.lo h.hi (x ∷ m) k us (omega arith) h.tiles;
      range = h.range;
    }

-- Joining adds at most the freed block and its neighbour.
length-joined : (s : NodeState) (k : Range) (b : Block) (us : List Block) → length (join_if s k b us) ≤ length us + 2
length-joined Free k b us = omega arith
length-joined Allocated k b us = omega arith

length-with_upto : (k : Range) (us : List Block) → length (with_free k us) ≤ length us + 1
length-with_upto k [] = omega arith
length-with_upto k (b ∷ us) = let h = length-joined b.state k b us in omega arith

length-on_upto : (s : NodeState) (x : Block) (k : Range) (us : List Block) → length (freed_on s x k us) ≤ length us + 2
length-on_upto Free x k us = let h = length-with_upto (record { start = x.key.start; end = k.end }) us in omega arith
length-on_upto Allocated x k us = let h = length-with_upto k us in omega arith

-- A freed block adds no block.
pub length-freed_upto : (m : List Block) (k : Range) (us : List Block) → length (freed_between m k us) ≤ length m + length us + 1
length-freed_upto [] k us = let h = length-with_upto k us in omega arith
length-freed_upto (x ∷ []) k us = let h = length-on_upto x.state x k us in omega arith
length-freed_upto (x ∷ y ∷ m) k us = let h = length-freed_upto (y ∷ m) k us in omega arith

-- A held block is that of its range.
held_is : (b : Block) → b.state ≡ Allocated → b ≡ held_block b.key
held_is b h = ap (λ (s : NodeState). record { key = b.key; state = s }) h

-- The block at an index of a leaf is freed.
module _ (old new : List Block) (i : ℕ) (within : i < length old) (e : new ≡ freed_at i old) where
  -- A list has no more blocks after one of them is freed.
  pub freed_fewer : length new ≤ length old
  freed_fewer =
      let h = length-freed_upto (take i old) (nth old i).key (drop (i + 1) old) in
      let a = length-take-le i old (omega arith) in
      let z = length-drop (i + 1) old in
      omega (arith, ap length e)

  -- The held block at an index is freed.
  pub freed_here : (k : Range) → nth old i ≡ held_block k → FreesBlock k old new
  freed_here k g = record {
    lower = take i old;
    upper = drop (i + 1) old;
    before = cut_at old i within ∙ ap (λ (x : Block). take i old ++ x ∷ drop (i + 1) old) g;
    after = e ∙ ap (λ (x : Block). freed_between (take i old) x.key (drop (i + 1) old)) g;
  }

  pub frees_in : (k : Range) → nth old i ≡ held_block k → ((0 < i) × (i + 1 < length old)) ⊎ (length old ≡ 1)
      → (m n : ℕ) → m ≡ length old → n ≡ length new → 0 < length new → FreesIn k (m - n) old new
  unfolding freed_here
  frees_in k g h m n a o some = record {
    frees = freed_here k g;
    inner = elim h [
      | inl d ↦ inl (omega (arith, d.0, length-take-le i old (omega arith)), omega (arith, d.1, length-drop (i + 1) old))
      | inr d ↦ inr d
    ];
    loss = omega (arith, freed_fewer);
    some = some;
  }

-- A block that is not free is held.
pub not_free : (s : NodeState) → (s ≡ Free → ⊥) → s ≡ Allocated
not_free Free h = absurd (h refl)
not_free Allocated h = refl

-- The block is the held one of this range.
pub is_held : (b x : Block) (k : Range) → b ≡ x → b.key.start ≡ k.start → b.key.end ≡ k.end → b.state ≡ Allocated → x ≡ held_block k
is_held b x k q s z h =
    sym q ∙ held_is b h ∙ ap (λ (v : ℕ). held_block (record { start = v; end = b.key.end })) s
    ∙ ap (λ (v : ℕ). held_block (record { start = k.start; end = v })) z
