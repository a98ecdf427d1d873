-- A held block at an end of its leaf, and the leaf beside it.
use Rattle.std.specs.Prelude.{◌⊎◌}
use Rattle.std.proofs.Common.{◌≡◌, ℕ, suc, ◌+◌, ◌-◌, ◌<◌, ◌≤◌, List, [], ◌∷◌, ◌++◌, length, refl, ap, ◌∙◌, sym, subst, arith, inl, inr, append_assoc, length-append}
use Rattle.std.proofs.lemmas.List.{append-nil}
use Rattle.vm_ranges.specs.Range.{Range, MAX}
use Rattle.vm_ranges.specs.declared.state.NodeState.{NodeState}
use Rattle.vm_ranges.specs.declared.state.NodeState.TheVariants.{Free, Allocated}
use Rattle.vm_leaf.specs.declared.block.Block.{Block}
use Rattle.vm_leaf.specs.Block.{held_block}
use Rattle.vm_leaf.specs.Blocks.{Tiles, nth, start_of, end_of, IsRun}
use Rattle.vm_leaf.specs.Entries.{blocks_entry}
use Rattle.vm_leaf.proofs.Tiles.{tiles_part, tiles_order}
use Rattle.vm_tree.specs.declared.entries.Entry.{Entry}
use Rattle.vm_tree.specs.Subtree.{AreFrom, Ascend}
use Rattle.vm_tree.specs.Edits.{IsBefore, AtKey, IsRefused, IsEdited}
use Rattle.vm_tree.specs.Shrinks.{Any}
use Rattle.vm_space.specs.Leaves.{blocks_of, HaveBlocks}
use Rattle.vm_space.specs.Spaces.{EndBelow, AreSpace}
use Rattle.vm_space.specs.Edges.{BecomesOne, ExtendsLast, ExtendsFirst, RefusesExtension, IsFirstHeld, IsLastHeld, IsHeldAt, IsEdge, IsApart, NoGap, EndHeld, StartHeld, IsExtendedLow, IsExtendedHigh, ExtendedAt, end_before, end_if, start_if}
use Rattle.vm_space.specs.declared.edge.Edge.{Edge}
use Rattle.vm_tree.specs.declared.end.End.TheVariants.{First, Last}
use Rattle.vm_space.proofs.Lists.{cut_tiles, start_append, end_append, end_left, cover_left, cover_right, cut_at, cut_last}
use Rattle.vm_space.proofs.Spaces.{blocks_append, blocks_cut, below_left, below_right, have_right, space_ascends}
use Rattle.vm_space.proofs.Frees.{not_free}

-- ---- The leaf of a key is one
module _ {X : Type 0} (en : X → Entry) (key : ℕ) where
  from_one : (z : ℕ) (b : List X) (l : X) (a : List X) → AreFrom en z (b ++ l ∷ a) → z ≤ (en l).at
  from_one z [] l a f = f.0
  from_one z (x ∷ b) l a f = from_one z b l a f.1

  not_after : (xs b : List X) (l : X) (a : List X) → Ascend en xs → xs ≡ b ++ l ∷ a → IsBefore en key xs → (en l).at ≤ key → ⊥
  not_after [] b l a s e h m = absurd (omega (arith, ap length e, length-append b (l ∷ a)))
  not_after (x ∷ xs) [] l a s e h m = let f : x ≡ l = cc in omega (arith, h, m, ap (λ z. (en z).at) f)
  not_after (x ∷ xs) (y ∷ b) l a s e h m =
      let f : xs ≡ b ++ l ∷ a = cc in
      omega (arith, h, m, from_one (en x).at b l a (subst (AreFrom en (en x).at) f s.0))

  pub one_place : (b : List X) (l : X) (a c : List X) (m : X) (d : List X) → Ascend en (b ++ l ∷ a) → b ++ l ∷ a ≡ c ++ m ∷ d → AtKey en key b l a
      → AtKey en key c m d → (b ≡ c) × (l ≡ m) × (a ≡ d)
  one_place [] l a [] m d s e p q = let f : l ≡ m = cc in let g : a ≡ d = cc in (refl, f, g)
  one_place [] l a (y ∷ c) m d s e p q = let f : a ≡ c ++ m ∷ d = cc in absurd (not_after a c m d s.1 f p.high (q.low (omega arith)))
  one_place (x ∷ b) l a [] m d s e p q =
      let f : b ++ l ∷ a ≡ d = cc in
      absurd (not_after d b l a (subst (Ascend en) f s.1) (sym f) q.high (p.low (omega arith)))
  one_place (x ∷ b) l a (y ∷ c) m d s e p q =
      let f : x ≡ y = cc in
      let g : b ++ l ∷ a ≡ c ++ m ∷ d = cc in
      let r = one_place b l a c m d s.1 g (record { low = λ h. p.low (omega arith); high = p.high }) (record { low = λ h. q.low (omega arith); high = q.high }) in
      (ap (λ z. z ∷ b) f ∙ ap (λ z. y ∷ z) r.0, r.1, r.2)

-- The last item of a list.
pub last_of : {A : Type 0} (xs : List A) → (xs ≡ []) ⊎ ((ys : List A) × (y : A) × (xs ≡ ys ++ y ∷ []))
last_of [] = inl refl
last_of (x ∷ xs) = elim (last_of xs) [
  | inl e ↦ inr ([], x, ap (λ z. x ∷ z) e)
  | inr r ↦ inr (x ∷ r.0, r.1, ap (λ z. x ∷ z) r.2)
]

-- ---- Leaves next to each other
run_right : (l r : List Block) → IsRun (l ++ r) → 0 < length r → IsRun r
run_right [] r h n = h
run_right (x ∷ l) r h n = cover_right (x ∷ l) r h (omega arith) n

run_order : (bs : List Block) → IsRun bs → start_of bs ≤ end_of bs
run_order bs h =
    let q = tiles_part Allocated h.lo h.hi bs (length bs - 1) h.tiles (omega (arith, h.some)) in
    omega (arith, first bs h.lo h.hi h.tiles h.some, q.from, q.some)
  where
    first : (bs : List Block) (lo hi : ℕ) → Tiles Allocated lo bs hi → 0 < length bs → start_of bs ≡ lo
    first [] lo hi t l = absurd (omega arith)
    first (b ∷ bs) lo hi t l = t.0

-- A leaf in a space, and the leaves after it.
module _ (b : List (List Block)) (x : List Block) (a : List (List Block)) (s : AreSpace (b ++ x ∷ a)) where
  pub have_from : HaveBlocks (x ∷ a)
  have_from = have_right b (x ∷ a) s.some

  run_from : IsRun (x ++ blocks_of a)
  run_from = run_right (blocks_of b) (x ++ blocks_of a) (subst IsRun (blocks_cut b x a) s.run) (omega (arith, length-append x (blocks_of a), have_from.0))

  pub leaf_run : IsRun x
  leaf_run = cover_left x (blocks_of a) run_from have_from.0

  pub leaf_order : start_of x ≤ end_of x
  leaf_order = run_order x leaf_run

pub next_start : (b : List (List Block)) (x y : List Block) (a : List (List Block)) → AreSpace (b ++ x ∷ y ∷ a) → start_of y ≡ end_of x + 1
next_start b x y a s =
    let h = have_from b x (y ∷ a) s in
    let n = length-append y (blocks_of a) in
    omega (arith, end_left x (y ++ blocks_of a) (run_from b x (y ∷ a) s) h.0 (omega (arith, n, h.1.0)), start_append y (blocks_of a) h.1.0)

pub snoc : {A : Type 0} (b : List A) (x : A) (a : List A) → (b ++ x ∷ []) ++ a ≡ b ++ x ∷ a
snoc b x a = append_assoc b (x ∷ []) a

-- ---- The block at an end
first_start : (k : Range) (t : ℕ) (bs : List Block) → IsFirstHeld k t bs → start_of bs ≡ k.start
first_start k t bs h = ap start_of h.is

last_end : (k : Range) (t : ℕ) (bs : List Block) → IsLastHeld k t bs → end_of bs ≡ k.end
last_end k t bs h =
    ap end_of (h.is ∙ sym (snoc h.lower h.last (held_block k ∷ []))) ∙ end_append (h.lower ++ h.last ∷ []) (held_block k ∷ []) (omega arith)

-- A gap that a held block becomes with the blocks after it ends in the cover.
end_upto : (p : NodeState) (lo hi : ℕ) (k : Range) (us : List Block) → Tiles p lo (held_block k ∷ us) hi → end_before k.end us ≤ hi
end_upto p lo hi k [] t = omega (arith, t.3)
end_upto p lo hi k (u ∷ us) t = by_state u.state refl
  where
    by_state : (v : NodeState) → u.state ≡ v → end_if v k.end u ≤ hi
    by_state Free e = omega (arith, tiles_order u.state (u.key.end + 1) hi us t.3.3)
    by_state Allocated e = omega (arith, t.3.0, t.3.1, tiles_order u.state (u.key.end + 1) hi us t.3.3)

-- The last block of a run that does not end with a gap beside z.
end_held : (bs : List Block) → (nth bs (length bs - 1)).state ≡ Allocated → EndHeld bs
end_held [] h = tt
end_held (b ∷ []) h = h
end_held (b ∷ c ∷ bs) h =
    let e : suc (suc (length bs)) - 1 ≡ suc (suc (length bs) - 1) = omega arith in
    end_held (c ∷ bs) (rw e at h)

end_append_held : (l r : List Block) → 0 < length r → EndHeld r → EndHeld (l ++ r)
end_append_held [] r n h = h
end_append_held (x ∷ []) [] n h = absurd (omega (arith, n))
end_append_held (x ∷ []) (y ∷ r) n h = h
end_append_held (x ∷ y ∷ l) r n h = end_append_held (y ∷ l) r n h

start_held : (bs : List Block) → (nth bs 0).state ≡ Allocated → StartHeld bs
start_held [] h = tt
start_held (b ∷ bs) h = h

start_append_held : (l r : List Block) → 0 < length l → StartHeld l → StartHeld (l ++ r)
start_append_held [] r n h = absurd (omega (arith, n))
start_append_held (x ∷ l) r n h = h

-- ---- Blocks in a cover
begins : (bs : List Block) (lo hi : ℕ) (p : NodeState) → Tiles p lo bs hi → 0 < length bs → start_of bs ≡ lo
begins [] lo hi p t l = absurd (omega arith)
begins (b ∷ bs) lo hi p t l = t.0

starts_from : (l m r : List Block) (lo hi : ℕ) (p : NodeState) → Tiles p lo (l ++ (m ++ r)) hi → 0 < length m → lo ≤ start_of m
starts_from [] [] r lo hi p y n = absurd (omega (arith, n))
starts_from [] (m ∷ ms) r lo hi p y n = omega (arith, y.0)
starts_from (x ∷ l) m r lo hi p y n = omega (arith, y.1, starts_from l m r (x.key.end + 1) hi x.state y.3 n)

ends_upto : (l m r : List Block) (lo hi : ℕ) (p : NodeState) → Tiles p lo (l ++ (m ++ r)) hi → 0 < length m → end_of m ≤ hi
ends_upto [] m r lo hi p y n =
    let c = cut_tiles p lo hi m r n y in
    let o = tiles_order c.1.0 (end_of m + 1) hi r c.1.1 in
    omega (arith, o)
ends_upto (x ∷ l) m r lo hi p y n = ends_upto l m r (x.key.end + 1) hi x.state y.3 n

-- The end of the gap that a held block becomes with the blocks after it.
end_within : (l : List Block) (k : Range) (us w : List Block) (lo hi : ℕ) (p : NodeState) → Tiles p lo (l ++ (held_block k ∷ (us ++ w))) hi
    → 0 < length us → end_before k.end us ≤ hi
end_within [] k [] w lo hi p y n = absurd (omega (arith, n))
end_within [] k (u ∷ us) w lo hi p y n = end_upto p lo hi k (u ∷ us ++ w) y
end_within (z ∷ l) k us w lo hi p y n = end_within l k us w (z.key.end + 1) hi z.state y.3 n

-- The start of the gap that a held block becomes with the block before it.
start_two : (v p : NodeState) (lo hi : ℕ) (x : Block) (k : Range) (w : List Block) → Tiles p lo (x ∷ held_block k ∷ w) hi → x.state ≡ v
    → lo ≤ start_if v k.start x
start_two Free p lo hi x k w t e = omega (arith, t.0)
start_two Allocated p lo hi x k w t e = omega (arith, t.1, t.3.0)

low_within : (l m : List Block) (x : Block) (k : Range) (w : List Block) (lo hi : ℕ) (p : NodeState)
    → Tiles p lo ((l ++ (m ++ x ∷ held_block k ∷ [])) ++ w) hi → lo ≤ start_if x.state k.start x
low_within [] [] x k w lo hi p t = start_two x.state p lo hi x k w t refl
low_within [] (y ∷ m) x k w lo hi p t = omega (arith, t.1, low_within [] m x k w (y.key.end + 1) hi y.state t.3)
low_within (y ∷ l) m x k w lo hi p t = omega (arith, t.1, low_within l m x k w (y.key.end + 1) hi y.state t.3)

-- ---- The block is the first one of its leaf
module _ (k : Range) (t : ℕ) (leaf : List Block) (held : IsFirstHeld k t leaf) where
  -- It lies behind a leaf.
  module _ (b : List (List Block)) (x : List Block) (a : List (List Block)) (s : AreSpace (b ++ x ∷ leaf ∷ a)) where
    low_next : end_of x + 1 ≡ k.start
    low_next = omega (arith, next_start b x leaf a s, first_start k t leaf held)

    low_key : AtKey blocks_entry (k.start - 1) b x (leaf ∷ a)
    low_key = record {
      low = λ h. omega (arith, low_next, leaf_order b x (leaf ∷ a) s);
      high = omega (arith, low_next, first_start k t leaf held);
    }

    -- No gap is there if it could not be extended.
    low_held : RefusesExtension First k.start t x → EndHeld (blocks_of (b ++ x ∷ []))
    low_held (inl n) =
        let h = have_from b x (leaf ∷ a) s in
        let e : blocks_of (b ++ x ∷ []) ≡ blocks_of b ++ x = blocks_append b (x ∷ []) ∙ ap (λ (z : List Block). blocks_of b ++ z) (append-nil x) in
        let held : (nth x (length x - 1)).state ≡ Allocated =
        not_free _ (λ f. n _ (record { lower = _; gap = nth x (length x - 1); before = cut_last x h.0; free = f; next = low_next; after = refl })) in
        subst EndHeld (sym e) (end_append_held (blocks_of b) x h.0 (end_held x held))
    low_held (inr q) = absurd (omega (arith, r.range.2 zero_low, max_high))
      where
        r : IsRun (blocks_of b ++ (x ++ (leaf ++ blocks_of a)))
        r = subst IsRun (blocks_cut b x (leaf ∷ a)) s.run

        c : blocks_of b ++ (x ++ (leaf ++ blocks_of a)) ≡ (blocks_of b ++ x) ++ (held_block k ∷ (held.upper ++ blocks_of a))
        c = sym (append_assoc (blocks_of b) x (leaf ++ blocks_of a)) ∙ ap (λ z. (blocks_of b ++ x) ++ (z ++ blocks_of a)) held.is

        zero_low : r.lo ≡ 0
        zero_low = omega (arith, q.0, starts_from (blocks_of b) x (leaf ++ blocks_of a) r.lo r.hi Allocated r.tiles (have_from b x (leaf ∷ a) s).0)

        max_high : MAX ≤ r.hi
        max_high =
            omega (
              arith,
              q.1,
              held.to,
              end_within (blocks_of b ++ x) k held.upper (blocks_of a) r.lo r.hi Allocated
                  (subst (λ z. Tiles Allocated r.lo z r.hi) c r.tiles) held.some,
            )

  -- It is the first one of all.
  module _ (a : List (List Block)) (s : AreSpace (leaf ∷ a)) (low : 0 < k.start) where
    alone_key : AtKey blocks_entry (k.start - 1) [] leaf a
    alone_key = record { low = λ h. absurd (omega (arith, h)); high = after a s }
      where
        after : (a : List (List Block)) → AreSpace (leaf ∷ a) → IsBefore blocks_entry (k.start - 1) a
        after [] s = tt
        after (y ∷ a) s = omega (arith, next_start [] leaf y a s, leaf_order [] leaf (y ∷ a) s, first_start k t leaf held)

    alone_not : (n : List Block) → ExtendsLast k.start t leaf n → ⊥
    alone_not n x = omega (arith, x.next, ap end_of x.before, end_append x.lower (x.gap ∷ []) (omega arith), leaf_order [] leaf a s, first_start k t leaf held)

module _ (k : Range) (edge : Edge) (e : edge.end ≡ First) (old : List (List Block)) (s : AreSpace old) (place : IsEdge k edge old) where
  first_held : IsFirstHeld k edge.to place.leaf
  first_held = subst (λ d. IsHeldAt d k edge.to place.leaf) e place.here.held

  first_space : AreSpace (place.before ++ place.leaf ∷ place.after)
  first_space = subst AreSpace place.was s

  -- The gap was extended.
  pub extended_low : (new : List (List Block)) → 0 < k.start
      → IsEdited blocks_entry Any (k.start - 1) (λ l ls. BecomesOne (ExtendsLast k.start edge.to) l ls) old new → ExtendedAt edge.end k edge old new
  extended_low new low d = subst (λ z. ExtendedAt z k edge old new) (sym e) (by_before place.before refl)
    where
      ascend : Ascend blocks_entry (place.before ++ place.leaf ∷ place.after)
      ascend = space_ascends _ first_space

      same : place.before ++ place.leaf ∷ place.after ≡ d.before ++ d.leaf ∷ d.after
      same = sym place.was ∙ d.home.was

      by_before : (b : List (List Block)) → place.before ≡ b → IsExtendedLow k edge old new
      by_before b f = elim (last_of b) [
        | inl g ↦ (
            let h = f ∙ g in
            let q = subst (λ z. AtKey blocks_entry (k.start - 1) z place.leaf place.after) (sym h)
            (alone_key k edge.to place.leaf first_held place.after (subst (λ z. AreSpace (z ++ place.leaf ∷ place.after)) h first_space) low) in
            let o = one_place blocks_entry (k.start - 1) place.before place.leaf place.after d.before d.leaf d.after ascend same q d.home.here in
            absurd (alone_not k edge.to place.leaf first_held place.after (subst (λ z. AreSpace (z ++ place.leaf ∷ place.after)) h first_space) low d.edit.0
            (subst (λ z. ExtendsLast k.start edge.to z d.edit.0) (sym o.1) d.edit.1.1))
            )
        | inr g ↦ (
            let c = g.0 in
            let x = g.1 in
            let h : place.before ++ place.leaf ∷ place.after ≡ c ++ x ∷ place.leaf ∷ place.after =
            ap (λ z. z ++ place.leaf ∷ place.after) (f ∙ g.2) ∙ snoc c x (place.leaf ∷ place.after) in
            let v = subst AreSpace h first_space in
            let o = one_place blocks_entry (k.start - 1) c x (place.leaf ∷ place.after) d.before d.leaf d.after (space_ascends _ v) (sym h ∙ same)
            (low_key k edge.to place.leaf first_held c x place.after v) d.home.here in
            record {
              before = c;
              low = x;
              new_low = d.edit.0;
              leaf = place.leaf;
              after = place.after;
              was = place.was ∙ h;
              is = d.is ∙ ap (λ z. d.before ++ (z ++ d.after)) d.edit.1.0 ∙ ap (λ z. z ++ d.edit.0 ∷ d.after) (sym o.0) ∙ ap (λ z. c ++ d.edit.0 ∷ z) (sym o.2);
              extends = subst (λ z. ExtendsLast k.start edge.to z d.edit.0) (sym o.1) d.edit.1.1;
              held = first_held;
              at = place.here.at;
            }
            )
      ]

  -- No gap is there.
  pub apart_low : 0 < k.start → IsRefused blocks_entry (k.start - 1) (λ l. RefusesExtension First k.start edge.to l) old → IsApart k edge old
  apart_low low d = record { place = place; none = subst (λ z. NoGap z place.before place.after) (sym e) (by_before place.before refl) }
    where
      by_before : (b : List (List Block)) → place.before ≡ b → EndHeld (blocks_of place.before)
      by_before b f = elim (last_of b) [
        | inl g ↦ subst (λ z. EndHeld (blocks_of z)) (sym (f ∙ g)) tt
        | inr g ↦ (
            let c = g.0 in
            let x = g.1 in
            let h : place.before ++ place.leaf ∷ place.after ≡ c ++ x ∷ place.leaf ∷ place.after =
            ap (λ z. z ++ place.leaf ∷ place.after) (f ∙ g.2) ∙ snoc c x (place.leaf ∷ place.after) in
            let v = subst AreSpace h first_space in
            let o = one_place blocks_entry (k.start - 1) c x (place.leaf ∷ place.after) d.before d.leaf d.after (space_ascends _ v) (sym h ∙ (sym place.was ∙ d.home.was))
            (low_key k edge.to place.leaf first_held c x place.after v) d.home.here in
            subst (λ z. EndHeld (blocks_of z)) (sym (f ∙ g.2))
            (low_held k edge.to place.leaf first_held c x place.after v (subst (λ z. RefusesExtension First k.start edge.to z) (sym o.1) d.refused))
            )
      ]

  -- No address is below the block.
  pub apart_at_zero : k.start ≡ 0 → IsApart k edge old
  apart_at_zero z = record { place = place; none = subst (λ d. NoGap d place.before place.after) (sym e) (by_before place.before refl) }
    where
      by_before : (b : List (List Block)) → place.before ≡ b → EndHeld (blocks_of place.before)
      by_before b f = elim (last_of b) [
        | inl g ↦ subst (λ z. EndHeld (blocks_of z)) (sym (f ∙ g)) tt
        | inr g ↦ (
            let h : place.before ++ place.leaf ∷ place.after ≡ g.0 ++ g.1 ∷ place.leaf ∷ place.after =
            ap (λ z. z ++ place.leaf ∷ place.after) (f ∙ g.2) ∙ snoc g.0 g.1 (place.leaf ∷ place.after) in
            absurd (omega (arith, z, low_next k edge.to place.leaf first_held g.0 g.1 place.after (subst AreSpace h first_space)))
            )
      ]

-- ---- The block is the last one of its leaf
module _ (k : Range) (t : ℕ) (leaf : List Block) (held : IsLastHeld k t leaf) where
  -- It lies before a leaf.
  module _ (b : List (List Block)) (y : List Block) (a : List (List Block)) (s : AreSpace (b ++ leaf ∷ y ∷ a)) where
    high_next : start_of y ≡ k.end + 1
    high_next = omega (arith, next_start b leaf y a s, last_end k t leaf held)

    high_space : AreSpace ((b ++ leaf ∷ []) ++ y ∷ a)
    high_space = subst AreSpace (sym (snoc b leaf (y ∷ a))) s

    high_key : AtKey blocks_entry (k.end + 1) (b ++ leaf ∷ []) y a
    high_key = record { low = λ h. omega (arith, high_next); high = after a high_space }
      where
        after : (a : List (List Block)) → AreSpace ((b ++ leaf ∷ []) ++ y ∷ a) → IsBefore blocks_entry (k.end + 1) a
        after [] s = tt
        after (z ∷ a) s =
            omega (arith, high_next, next_start (b ++ leaf ∷ []) y z a s, leaf_order (b ++ leaf ∷ []) y (z ∷ a) s)

    high_held : RefusesExtension Last k.end t y → StartHeld (blocks_of (y ∷ a))
    high_held (inl n) =
        let h = have_from (b ++ leaf ∷ []) y a high_space in
        let held : (nth y 0).state ≡ Allocated =
        not_free _ (λ f. n _ (record { gap = nth y 0; upper = _; before = cut_at y 0 h.0; free = f; next = omega (arith, high_next); after = refl })) in
        start_append_held y (blocks_of a) h.0 (start_held y held)
    high_held (inr q) = absurd (omega (arith, c.range.2 zero_low, max_high))
      where
        r : IsRun (blocks_of b ++ (leaf ++ blocks_of (y ∷ a)))
        r = subst IsRun (blocks_cut b leaf (y ∷ a)) s.run

        c : IsRun ((blocks_of b ++ leaf) ++ (y ++ blocks_of a))
        c = subst IsRun (sym (append_assoc (blocks_of b) leaf (y ++ blocks_of a))) r

        max_high : MAX ≤ c.hi
        max_high = omega (arith, q.1, ends_upto (blocks_of b ++ leaf) y (blocks_of a) c.lo c.hi Allocated c.tiles (have_from (b ++ leaf ∷ []) y a high_space).0)

        zero_low : c.lo ≡ 0
        zero_low = omega (
          arith,
          q.0,
          held.to,
          low_within (blocks_of b) held.lower held.last k (y ++ blocks_of a) c.lo c.hi Allocated
              (subst (λ (z : List Block). Tiles Allocated c.lo ((blocks_of b ++ z) ++ (y ++ blocks_of a)) c.hi) held.is c.tiles),
        )

  -- It is the last one of all.
  module _ (b : List (List Block)) (s : AreSpace (b ++ leaf ∷ [])) where
    end_key : AtKey blocks_entry (k.end + 1) b leaf []
    end_key = record { low = λ h. omega (arith, leaf_order b leaf [] s, last_end k t leaf held); high = tt }

    end_not : (n : List Block) → ExtendsFirst k.end t leaf n → ⊥
    end_not n x = omega (arith, x.next, ap start_of x.before, leaf_order b leaf [] s, last_end k t leaf held)

module _ (k : Range) (edge : Edge) (e : edge.end ≡ Last) (old : List (List Block)) (s : AreSpace old) (place : IsEdge k edge old) where
  last_held : IsLastHeld k edge.to place.leaf
  last_held = subst (λ d. IsHeldAt d k edge.to place.leaf) e place.here.held

  last_space : AreSpace (place.before ++ place.leaf ∷ place.after)
  last_space = subst AreSpace place.was s

  -- The gap was extended.
  pub extended_high : (new : List (List Block))
      → IsEdited blocks_entry Any (k.end + 1) (λ l ls. BecomesOne (ExtendsFirst k.end edge.to) l ls) old new → ExtendedAt edge.end k edge old new
  extended_high new d = subst (λ z. ExtendedAt z k edge old new) (sym e) (by_after place.after refl)
    where
      by_after : (a : List (List Block)) → place.after ≡ a → IsExtendedHigh k edge old new
      by_after [] f =
          let v = subst (λ z. AreSpace (place.before ++ place.leaf ∷ z)) f last_space in
          let o = one_place blocks_entry (k.end + 1) place.before place.leaf [] d.before d.leaf d.after (space_ascends _ v)
          (ap (λ z. place.before ++ place.leaf ∷ z) (sym f) ∙ sym place.was ∙ d.home.was) (end_key k edge.to place.leaf last_held place.before v) d.home.here in
          absurd (end_not k edge.to place.leaf last_held place.before v d.edit.0 (subst (λ z. ExtendsFirst k.end edge.to z d.edit.0) (sym o.1) d.edit.1.1))
      by_after (y ∷ a) f =
          let v = subst (λ z. AreSpace (place.before ++ place.leaf ∷ z)) f last_space in
          let w = high_space k edge.to place.leaf last_held place.before y a v in
          let h : old ≡ place.before ++ place.leaf ∷ y ∷ a = place.was ∙ ap (λ z. place.before ++ place.leaf ∷ z) f in
          let o = one_place blocks_entry (k.end + 1) (place.before ++ place.leaf ∷ []) y a d.before d.leaf d.after (space_ascends _ w)
          (snoc place.before place.leaf (y ∷ a) ∙ sym h ∙ d.home.was) (high_key k edge.to place.leaf last_held place.before y a v) d.home.here in
          record {
            before = place.before;
            leaf = place.leaf;
            high = y;
            new_high = d.edit.0;
            after = a;
            was = h;
            is = d.is ∙ ap (λ z. d.before ++ (z ++ d.after)) d.edit.1.0 ∙ ap (λ z. z ++ d.edit.0 ∷ d.after) (sym o.0)
                ∙ ap (λ z. (place.before ++ place.leaf ∷ []) ++ d.edit.0 ∷ z) (sym o.2) ∙ snoc place.before place.leaf (d.edit.0 ∷ a);
            extends = subst (λ z. ExtendsFirst k.end edge.to z d.edit.0) (sym o.1) d.edit.1.1;
            held = last_held;
            at = place.here.at;
          }

  -- No gap is there.
  pub apart_high : IsRefused blocks_entry (k.end + 1) (λ l. RefusesExtension Last k.end edge.to l) old → IsApart k edge old
  apart_high d = record { place = place; none = subst (λ z. NoGap z place.before place.after) (sym e) (by_after place.after refl) }
    where
      by_after : (a : List (List Block)) → place.after ≡ a → StartHeld (blocks_of place.after)
      by_after [] f = subst (λ z. StartHeld (blocks_of z)) (sym f) tt
      by_after (y ∷ a) f =
          let v = subst (λ z. AreSpace (place.before ++ place.leaf ∷ z)) f last_space in
          let w = high_space k edge.to place.leaf last_held place.before y a v in
          let h : old ≡ place.before ++ place.leaf ∷ y ∷ a = place.was ∙ ap (λ z. place.before ++ place.leaf ∷ z) f in
          let o = one_place blocks_entry (k.end + 1) (place.before ++ place.leaf ∷ []) y a d.before d.leaf d.after (space_ascends _ w)
          (snoc place.before place.leaf (y ∷ a) ∙ sym h ∙ d.home.was) (high_key k edge.to place.leaf last_held place.before y a v) d.home.here in
          subst (λ z. StartHeld (blocks_of z)) (sym f)
          (high_held k edge.to place.leaf last_held place.before y a v (subst (λ z. RefusesExtension Last k.end edge.to z) (sym o.1) d.refused))

-- ---- The addresses of an edge
module _ (k : Range) (edge : Edge) (old : List (List Block)) (s : AreSpace old) (place : IsEdge k edge old) where
  edge_space : AreSpace (place.before ++ place.leaf ∷ place.after)
  edge_space = subst AreSpace place.was s

  edge_run : IsRun place.leaf
  edge_run = leaf_run place.before place.leaf place.after edge_space

  -- The block of the first address reaches outward.
  pub first_outward : edge.end ≡ First → k.start ≤ edge.to
  first_outward e =
      let h = first_held k edge e old s place in
      let t = subst (λ z. Tiles Allocated edge_run.lo z edge_run.hi) h.is edge_run.tiles in
      omega (arith, h.to, past h.upper h.some t)
    where
      past : (us : List Block) → 0 < length us → Tiles Allocated edge_run.lo (held_block k ∷ us) edge_run.hi → k.start ≤ end_before k.end us
      past [] n t = absurd (omega (arith, n))
      past (u ∷ us) n t = by_state u.state
        where
          by_state : (v : NodeState) → k.start ≤ end_if v k.end u
          by_state Free = omega (arith, t.0, t.1, t.3.0, t.3.1)
          by_state Allocated = omega (arith, t.0, t.1)

  pub last_outward : edge.end ≡ Last → edge.to ≤ k.end
  last_outward e =
      let h = last_held k edge e old s place in
      let t = subst (λ z. Tiles Allocated edge_run.lo z edge_run.hi) h.is edge_run.tiles in
      omega (arith, h.to, past h.lower edge_run.lo Allocated t)
    where
      past : (m : List Block) (lo : ℕ) (p : NodeState) → Tiles p lo (m ++ (last_held k edge e old s place).last ∷ held_block k ∷ []) edge_run.hi
          → start_if (last_held k edge e old s place).last.state k.start (last_held k edge e old s place).last ≤ k.end
      past [] lo p t = by_state (last_held k edge e old s place).last.state
        where
          by_state : (v : NodeState) → start_if v k.start (last_held k edge e old s place).last ≤ k.end
          by_state Free = omega (arith, t.0, t.1, t.3.0, t.3.1)
          by_state Allocated = omega (arith, t.3.0, t.3.1)
      past (y ∷ m) lo p t = past m (y.key.end + 1) y.state t.3

  -- The block ends below the highest address.
  pub last_below : edge.end ≡ Last → k.end < MAX
  last_below e =
      let h = last_held k edge e old s place in
      let b : EndBelow (blocks_of place.before ++ (place.leaf ++ blocks_of place.after)) = subst EndBelow (blocks_cut place.before place.leaf place.after) edge_space.below in
      let c = below_left place.leaf (blocks_of place.after) (below_right (blocks_of place.before) (place.leaf ++ blocks_of place.after) b) in
      (below_right h.lower (h.last ∷ held_block k ∷ []) (subst EndBelow h.is c)).1.0 refl
