-- A block at an end of a leaf is extended.
use Rattle.std.proofs.Common.{◌≡◌, ℕ, ◌-◌, ◌<◌, ◌≤◌, List, [], ◌∷◌, ◌++◌, length, take, drop, refl, ap, ◌∙◌, sym, arith, append_assoc, length-take-le}
use Rattle.std.proofs.lemmas.List.{get_or-take}
use Rattle.vm_ranges.specs.declared.state.NodeState.{NodeState}
use Rattle.vm_ranges.specs.declared.state.NodeState.TheVariants.{Free, Allocated}
use Rattle.vm_leaf.specs.declared.block.Block.{Block}
use Rattle.vm_leaf.specs.Blocks.{nth, blank, start_of, end_of, IsLeaf}
use Rattle.vm_leaf.proofs.Tiles.{leaf_part}
use Rattle.vm_leaf.specs.Block.{held_block}
use Rattle.vm_space.specs.Edges.{DropsFirst, DropsLast, IsFirstHeld, IsLastHeld, end_if, start_if, rest_if, low_if}
use Rattle.vm_space.proofs.Lists.{cut_last}

-- The blocks at both ends of a leaf are in order.
pub last_order : (bs : List Block) → IsLeaf bs → (start_of bs ≤ (nth bs (length bs - 1)).key.start) × ((nth bs (length bs - 1)).key.start ≤ end_of bs)
last_order bs h =
    let p = leaf_part bs 0 h h.some in
    let q = leaf_part bs (length bs - 1) h (omega (arith, h.some)) in
    (first_is bs h, q.some)
  where
    first_is : (bs : List Block) (h : IsLeaf bs) → start_of bs ≤ (nth bs (length bs - 1)).key.start
    first_is [] h = absurd (omega (arith, h.some))
    first_is (b ∷ bs) h = let q = leaf_part (b ∷ bs) (length (b ∷ bs) - 1) h (omega arith) in omega (arith, q.from, h.tiles.0)

pub first_order : (bs : List Block) (h : IsLeaf bs) → (start_of bs ≤ (nth bs 0).key.end) × ((nth bs 0).key.end ≤ end_of bs) × (end_of bs ≤ h.hi)
first_order bs h =
    let p = leaf_part bs 0 h h.some in
    let q = leaf_part bs (length bs - 1) h (omega (arith, h.some)) in
    (p.some, omega (arith, p.upto, q.last (omega (arith, h.some))), q.upto)

-- ---- Blocks that are dropped
pub dropped_one : (old mid : List Block) → 2 < length old → mid ≡ drop 1 old → (nth mid 0).state ≡ Allocated → DropsFirst old mid
dropped_one [] mid l e s = absurd (omega (arith, l))
dropped_one (x ∷ []) mid l e s = absurd (omega (arith, l))
dropped_one (x ∷ u ∷ us) mid l e s =
    let a : u.state ≡ Allocated = ap (λ (z : List Block). (nth z 0).state) (sym e) ∙ s in
    record { block = x; upper = u ∷ us; before = refl; after = e ∙ sym (ap (λ (t : NodeState). rest_if t u us) a) }

pub dropped_two : (old mid new : List Block) → 2 < length old → mid ≡ drop 1 old → (nth mid 0).state ≡ Free → new ≡ drop 1 mid → DropsFirst old new
dropped_two [] mid new l e s d = absurd (omega (arith, l))
dropped_two (x ∷ []) mid new l e s d = absurd (omega (arith, l))
dropped_two (x ∷ u ∷ us) mid new l e s d =
    let a : u.state ≡ Free = ap (λ (z : List Block). (nth z 0).state) (sym e) ∙ s in
    record { block = x; upper = u ∷ us; before = refl; after = d ∙ ap (drop 1) e ∙ sym (ap (λ (t : NodeState). rest_if t u us) a) }

-- A list without its last block, whose last block was taken away before.
module _ (old mid : List Block) (l : 2 < length old) (e : mid ≡ take (length old - 1) old) where
  abbrev last : Block
  last = nth mid (length mid - 1)

  long : length mid ≡ length old - 1
  long = ap length e ∙ length-take-le (length old - 1) old (omega arith)

  both : old ≡ take (length mid - 1) mid ++ last ∷ nth old (length old - 1) ∷ []
  both =
      cut_last old (omega (arith, l)) ∙ ap (λ z. z ++ nth old (length old - 1) ∷ []) (sym e ∙ cut_last mid (omega (arith, long, l)))
      ∙ append_assoc (take (length mid - 1) mid) (last ∷ []) (nth old (length old - 1) ∷ [])

  pub dropped_last : (nth mid (length mid - 1)).state ≡ Allocated → DropsLast old mid
  dropped_last s = record {
    lower = take (length mid - 1) mid;
    last = last;
    block = nth old (length old - 1);
    before = both;
    after = cut_last mid (omega (arith, long, l)) ∙ sym (ap (λ (t : NodeState). low_if t (take (length mid - 1) mid) last) s);
  }

  pub dropped_lasts : (new : List Block) → (nth mid (length mid - 1)).state ≡ Free → new ≡ take (length mid - 1) mid → DropsLast old new
  dropped_lasts new s d = record {
    lower = take (length mid - 1) mid;
    last = last;
    block = nth old (length old - 1);
    before = both;
    after = d ∙ sym (ap (λ (t : NodeState). low_if t (take (length mid - 1) mid) last) s);
  }

-- ---- A held block at an end
held_is : (b : Block) → b.state ≡ Allocated → b ≡ held_block b.key
held_is b h = ap (λ (s : NodeState). record { key = b.key; state = s }) h

pub first_held : (bs : List Block) (t : ℕ) → 1 < length bs → (nth bs 0).state ≡ Allocated → t ≡ end_if (nth bs 1).state (nth bs 0).key.end (nth bs 1)
    → IsFirstHeld (nth bs 0).key t bs
first_held [] t l s e = absurd (omega (arith, l))
first_held (x ∷ []) t l s e = absurd (omega (arith, l))
first_held (x ∷ u ∷ us) t l s e = record { upper = u ∷ us; is = ap (λ (b : Block). b ∷ u ∷ us) (held_is x s); some = omega arith; to = e }

pub last_held : (bs : List Block) (t : ℕ) → 1 < length bs → (nth bs (length bs - 1)).state ≡ Allocated
    → t ≡ start_if (nth bs (length bs - 1 - 1)).state (nth bs (length bs - 1)).key.start (nth bs (length bs - 1 - 1))
    → IsLastHeld (nth bs (length bs - 1)).key t bs
last_held bs t l s e = record { lower = take (length mid - 1) mid; last = nth bs (length bs - 1 - 1); is = whole; to = e }
  where
    mid : List Block
    mid = take (length bs - 1) bs

    long : length mid ≡ length bs - 1
    long = length-take-le (length bs - 1) bs (omega arith)

    end_is : nth mid (length mid - 1) ≡ nth bs (length bs - 1 - 1)
    end_is = ap (λ n. nth mid (n - 1)) long ∙ get_or-take (length bs - 1) bs (length bs - 1 - 1) blank (omega (arith, l))

    whole : bs ≡ take (length mid - 1) mid ++ nth bs (length bs - 1 - 1) ∷ held_block (nth bs (length bs - 1)).key ∷ []
    whole =
        cut_last bs (omega (arith, l)) ∙ ap (λ z. z ++ nth bs (length bs - 1) ∷ []) (cut_last mid (omega (arith, long, l)))
        ∙ append_assoc (take (length mid - 1) mid) (nth mid (length mid - 1) ∷ []) (nth bs (length bs - 1) ∷ [])
        ∙ ap (λ (b : Block). take (length mid - 1) mid ++ b ∷ nth bs (length bs - 1) ∷ []) end_is
        ∙ ap (λ (b : Block). take (length mid - 1) mid ++ nth bs (length bs - 1 - 1) ∷ b ∷ []) (held_is (nth bs (length bs - 1)) s)
