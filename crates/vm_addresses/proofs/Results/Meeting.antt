-- The held ranges and the gaps that meet a window.
use Rattle.std.proofs.Common.{◌≡◌, ◌↔◌, ℕ, ◌≤◌, true, false, cond, leb, List, [], ◌∷◌, refl, sym, ap, ◌∙◌, arith, inl, inr, ⊎_elim, subst}
use Rattle.std.proofs.lemmas.Bool.{and_parts, leb-true, le-leb, false_from_ne_true}
use Rattle.std.specs.List.{Contains}
use Rattle.vm_ranges.specs.Range.{Range, IsIn, Overlaps, Covers}
use Rattle.vm_ranges.proofs.RangeCalls.{meet}
use Rattle.vm_ranges.specs.Address.{AddressState, IsAddressState}
use Rattle.vm_space.specs.Walks.{meets}
use Rattle.vm_addresses.specs.Queries.{gaps_of, meeting}
use Rattle.vm_leaf.specs.SpaceBlocks.{blocks_of}
use Rattle.vm_addresses.specs.Facts.{ListsOverlaps, IsClearIfNoneMeets}
use Rattle.vm_ranges.specs.declared.state.NodeState.TheVariants.{Allocated}
use Rattle.vm_addresses.proofs.Results.HeldAndGaps.{held_range, tiles, gap_clear, clear_gap}
use Rattle.vm_addresses.proofs.Blocks.GapLists.{free_lies}
use Rattle.vm_addresses.proofs.Blocks.HeldSets.{held_lies}
use Rattle.vm_ranges.proofs.PlainWords.{IsHeldAddress, IsHeld, contains_held, held_contains, all_miss, none_holds, held_address}

-- ---- The test of two ranges
meets_if : (w r : Range) (x : ℕ) → IsIn w x → IsIn r x → meets w r ≡ true
meets_if w r x i j = rw (le-leb w.start r.end (omega (arith, i.0, j.1)), le-leb r.start w.end (omega (arith, i.1, j.0))) refl

overlaps_if : (w r : Range) → w.start ≤ w.end → r.start ≤ r.end → meets w r ≡ true → Overlaps w r
overlaps_if w r p q e =
    let t = and_parts (leb w.start r.end) (leb r.start w.end) e in
    meet w r p q (leb-true w.start r.end t.0) (leb-true r.start w.end t.1)

-- ---- The ranges of a list
module _ (w : Range) where
  listed : (rs : List Range) (r : Range) → IsHeld rs r → meets w r ≡ true → IsHeld (meeting w rs) r
  listed [] r h e = h
  listed (q ∷ rs) r (inl s) e = rw (ap (meets w) s ∙ e) (inl s)
  listed (q ∷ rs) r (inr k) e =
      elim (meets w q) as (λ v. IsHeld (cond v (q ∷ meeting w rs) (meeting w rs)) r) [
        | true ↦ inr (listed rs r k e)
        | false ↦ listed rs r k e
      ]

  is_listed : (rs : List Range) (r : Range) → IsHeld (meeting w rs) r → IsHeld rs r × (meets w r ≡ true)
  is_listed [] r h = absurd h
  is_listed (q ∷ rs) r h =
      elim (meets w q) as (λ v. meets w q ≡ v → IsHeld (cond v (q ∷ meeting w rs) (meeting w rs)) r → IsHeld (q ∷ rs) r ×
      (meets w r ≡ true)) [
        | true ↦ λ m k.
            ⊎_elim
            (λ (s : q ≡ r). (inl s, ap (meets w) (sym s) ∙ m))
            (λ (s : IsHeld (meeting w rs) r). let i = is_listed rs r s in (inr i.0, i.1))
            k
        | false ↦ λ m k. let i = is_listed rs r k in (inr i.0, i.1)
      ] refl h

  none_meets : (rs : List Range) → ((r : Range) → IsHeld rs r → ¬ (meets w r ≡ true)) → meeting w rs ≡ []
  none_meets [] n = refl
  none_meets (q ∷ rs) n = rw (false_from_ne_true (meets w q) (n q (inl refl))) (none_meets rs (λ r h. n r (inr h)))

  -- The ranges of a list that overlap the window are listed.
  lists : (rs : List Range) → w.start ≤ w.end → ((r : Range) → IsHeld rs r → r.start ≤ r.end) → (r : Range) →
      Contains (meeting w rs) r ↔ (Contains rs r × Overlaps w r)
  unfolding Overlaps
  lists rs p some r = (
    λ c. let i = is_listed rs r (held_contains (meeting w rs) r c) in (contains_held rs r i.0, overlaps_if w r p (some r i.0) i.1),
    λ c. contains_held (meeting w rs) r (listed rs r (held_contains rs r c.0) (meets_if w r c.1.0 c.1.1 c.1.2)),
  )

  -- No address of the window is in a range if and only if no range is listed.
  missed_if : (rs : List Range) → meeting w rs ≡ [] → (x : ℕ) → IsIn w x → ¬ IsHeldAddress rs x
  missed_if rs e x i h =
      let f = held_range rs x h in
      subst (λ (v : List Range). IsHeld v f.0) e (listed rs f.0 f.1 (meets_if w f.0 x i f.2))

  if_missed : (rs : List Range) → w.start ≤ w.end → ((r : Range) → IsHeld rs r → r.start ≤ r.end) →
      ((x : ℕ) → IsIn w x → ¬ IsHeldAddress rs x) → meeting w rs ≡ []
  unfolding Overlaps
  if_missed rs p some n =
      none_meets rs (λ r h m. let o = overlaps_if w r p (some r h) m in n o.0 o.1 (held_address rs r o.0 h o.2))

-- ---- A valid state
module _ (state : AddressState) (w : Range) (valid : IsAddressState state) (p : w.start ≤ w.end) where
  held_some : (r : Range) → IsHeld state.held r → r.start ≤ r.end
  held_some r h = (held_lies state.space.start state.space.end state.held r valid.in_order h).1

  gap_some : (g : Range) → IsHeld (gaps_of state) g → g.start ≤ g.end
  gap_some g h = (free_lies Allocated state.space.start state.space.end (blocks_of state) g (tiles state valid) h).1

  overlaps : ListsOverlaps state w
  overlaps = record { held = lists w state.held p held_some; gaps = lists w (gaps_of state) p gap_some }

  clear_or_held : Covers state.space w → IsClearIfNoneMeets state w
  unfolding Covers
  clear_or_held in_space = record {
    clear = (
      λ c. if_missed w state.held p held_some (λ x i. none_holds state.held x (c x i.0 (omega (arith, i.1))).1),
      λ e x l u.
          let i : IsIn w x = (l, omega arith) in
          (in_space x i, all_miss state.held x (missed_if w state.held e x i)),
    );
    held = (
      λ n. if_missed w (gaps_of state) p gap_some
          (λ x i h. let f = held_range (gaps_of state) x h in n x i (gap_clear state valid f.0 x f.1 f.2)),
      λ e x i c. missed_if w (gaps_of state) e x i (clear_gap state valid x c),
    );
  }

pub meeting_is_overlap : (state : AddressState) (window : Range) → IsAddressState state → window.start ≤ window.end → ListsOverlaps state window
meeting_is_overlap state w valid p = overlaps state w valid p

pub clear_if_none_meets : (state : AddressState) (window : Range) →
    IsAddressState state → window.start ≤ window.end → Covers state.space window → IsClearIfNoneMeets state window
clear_if_none_meets state w valid p in_space = clear_or_held state w valid p in_space
