-- The held ranges and the gaps of a valid state.
use Rattle.std.proofs.Common.{◌≡◌, ◌↔◌, ℕ, ◌+◌, ◌-◌, ◌<◌, ◌≤◌, ◌⊎◌, max, List, [], ◌∷◌, Option, Some, None, refl, sym, ap, arith, inl, inr, ⊎_elim, subst, Contains}
use Rattle.std.proofs.lemmas.Bool.{cases_lt}
use Rattle.vm_ranges.specs.Range.{Range, IsIn, IsInNone, address_count}
use Rattle.vm_ranges.proofs.RangeCalls.{same_range}
use Rattle.vm_ranges.specs.Address.{AddressState, IsAddressState, IsClear, IsPlace}
use Rattle.vm_leaf.specs.Blocks.{Tiles}
use Rattle.vm_leaf.specs.SpaceBlocks.{held_of, blocks_of}
use Rattle.vm_ranges.specs.Windows.{within}
use Rattle.vm_addresses.specs.Queries.{gaps_of, longest_of, longest_part, longest_in, count_of, IsRangeAt, IsHeldAt, IsGapAt}
use Rattle.vm_addresses.specs.Facts.{IsInOne, AgreesWithLists, AgreesWithGaps, IsGap, IsInBlocks}
use Rattle.vm_ranges.specs.declared.state.NodeState.TheVariants.{Allocated}
use Rattle.vm_ranges.proofs.PlainWords.{IsHeldAddress, IsHeld, contains_held, held_contains, all_miss, none_holds, held_address}
use Rattle.vm_leaf.proofs.Spaces.Gaps.{in_free_block, free_is_clear}
use Rattle.vm_addresses.proofs.Blocks.HeldSets.{held_lies, one_held}
use Rattle.vm_addresses.proofs.Blocks.GapLists.{
  FreeOver,
  free_lies,
  one_free,
  in_free,
  free_over,
  held_after,
  held_before,
  held_or_free,
  longest_over,
  one_is_longest,
  longest_part_over,
  one_has_longest_part,
  all_counted,
}
use Rattle.vm_leaf.proofs.Spaces.Tilings.{held_of-blocks_of}
use Rattle.vm_space.proofs.BlockCursors.{between_tiles}

-- A held address is in a held range.
pub held_range : (rs : List Range) (x : ℕ) → IsHeldAddress rs x → (r : Range) × IsHeld rs r × IsIn r x
held_range [] x h = absurd h
held_range (r ∷ rs) x (inl i) = (r, inl refl, i)
held_range (r ∷ rs) x (inr i) = let k = held_range rs x i in (k.0, inr k.1, k.2)

module _ (state : AddressState) (valid : IsAddressState state) where
  abbrev lo : ℕ
  lo = state.space.start

  abbrev hi : ℕ
  hi = state.space.end

  pub tiles : Tiles Allocated lo (blocks_of state) hi
  unfolding blocks_of
  tiles = between_tiles lo hi state.held (omega (arith, valid.space.0)) valid.in_order

  -- An address is held in the state if and only if a held block contains it.
  block_held : (x : ℕ) → IsHeldAddress state.held x → IsHeldAddress (held_of (blocks_of state)) x
  block_held x h = subst (λ (v : List Range). IsHeldAddress v x) (sym (held_of-blocks_of state)) h

  state_held : (x : ℕ) → IsHeldAddress (held_of (blocks_of state)) x → IsHeldAddress state.held x
  state_held x h = subst (λ (v : List Range). IsHeldAddress v x) (held_of-blocks_of state) h

  -- ---- A gap
  free_not_held : (g : Range) (x : ℕ) → IsHeld (gaps_of state) g → IsIn g x → ¬ IsHeldAddress state.held x
  free_not_held g x h i k =
      (free_is_clear Allocated lo hi g.start g.end x (blocks_of state) tiles (in_free (blocks_of state) g h) i.0 i.1).2 (block_held x k)

  pub gap_clear : (g : Range) (x : ℕ) → IsHeld (gaps_of state) g → IsIn g x → IsClear state x
  gap_clear g x h i =
      let l = free_lies Allocated lo hi (blocks_of state) g tiles h in
      ((omega (arith, l.0, i.0), omega (arith, l.2, i.1)), all_miss state.held x (free_not_held g x h i))

  clear_not_held : (x : ℕ) → IsClear state x → ¬ IsHeldAddress state.held x
  clear_not_held x c = none_holds state.held x c.1

  is_gap : (g : Range) → IsHeld (gaps_of state) g → IsGap state g
  is_gap g h =
      let l = free_lies Allocated lo hi (blocks_of state) g tiles h in
      record {
        some = l.1;
        clear = λ x i. gap_clear g x h i;
        before = λ x e c. clear_not_held x c (state_held x (held_before Allocated lo hi x (blocks_of state) g tiles h e c.0.0));
        after = λ c. clear_not_held (g.end + 1) c (state_held (g.end + 1) (held_after Allocated lo hi (blocks_of state) g tiles h c.0.1));
      }

  -- Clear addresses lie in one gap.
  in_gap : (s e : ℕ) → s ≤ e → ((x : ℕ) → s ≤ x → x ≤ e → IsClear state x) → FreeOver (blocks_of state) s e
  in_gap s e l clear =
      free_over (blocks_of state) s e
      (in_free_block Allocated lo hi s e (blocks_of state) tiles (clear s (omega arith) l).0.0 l
      (λ x i j. let c = clear x i j in (c.0.1, λ k. clear_not_held x c (state_held x k))))

  -- A clear address is in a gap.
  pub clear_gap : (x : ℕ) → IsClear state x → IsHeldAddress (gaps_of state) x
  clear_gap x c =
      let f = in_gap x x (omega arith) (λ y i j. let e : x ≡ y = omega arith in subst (IsClear state) e c) in
      held_address (gaps_of state) f.0 x f.1 (f.2, f.3)

  gap_listed : (g : Range) → IsGap state g → IsHeld (gaps_of state) g
  gap_listed g is =
      let over = in_gap g.start g.end is.some (λ x i j. is.clear x (i, j)) in
      let r = over.0 in
      let l = free_lies Allocated lo hi (blocks_of state) r tiles over.1 in
      let start : r.start ≡ g.start =
      ⊎_elim
      (λ (k : r.start < g.start). absurd
      (is.before (g.start - 1) (omega arith) (gap_clear r (g.start - 1) over.1 (omega arith, omega (arith, over.3, is.some)))))
      (λ (k : g.start ≤ r.start). omega (arith, over.2))
      (cases_lt r.start g.start) in
      let end : r.end ≡ g.end =
      ⊎_elim
      (λ (k : g.end < r.end). absurd (is.after (gap_clear r (g.end + 1) over.1 (omega (arith, over.2, is.some), omega arith))))
      (λ (k : r.end ≤ g.end). omega (arith, over.3))
      (cases_lt g.end r.end) in
      subst (IsHeld (gaps_of state)) (same_range r g start end) over.1

  -- ---- Each address
  in_one_held : (x : ℕ) → IsHeldAddress state.held x → IsInOne state.held x
  in_one_held x h =
      let f = held_range state.held x h in
      record {
        range = f.0;
        listed = contains_held state.held f.0 f.1;
        inside = f.2;
        only = λ r c i. one_held lo hi x state.held r f.0 valid.in_order (held_contains state.held r c) f.1 i f.2;
      }

  in_one_gap : (x : ℕ) → FreeOver (blocks_of state) x x → IsInOne (gaps_of state) x
  in_one_gap x f = record {
    range = f.0;
    listed = contains_held (gaps_of state) f.0 f.1;
    inside = (f.2, f.3);
    only = λ r c i. one_free Allocated lo hi x (blocks_of state) r f.0 tiles (held_contains (gaps_of state) r c) f.1 i (f.2, f.3);
  }

  in_no_gap : (x : ℕ) → IsHeldAddress state.held x → IsInNone (gaps_of state) x
  in_no_gap x h = all_miss (gaps_of state) x (λ k. let f = held_range (gaps_of state) x k in free_not_held f.0 x f.1 f.2 h)

  in_one : (x : ℕ) → IsIn state.space x →
      (IsInOne state.held x × IsInNone (gaps_of state) x) ⊎ (IsInOne (gaps_of state) x × IsInNone state.held x)
  in_one x i =
      ⊎_elim
      (λ (h : IsHeldAddress (held_of (blocks_of state)) x). inl (in_one_held x (state_held x h), in_no_gap x (state_held x h)))
      (λ (h : FreeOver (blocks_of state) x x). inr (in_one_gap x h, all_miss state.held x (free_not_held h.0 x h.1 (h.2, h.3))))
      (held_or_free Allocated lo hi x (blocks_of state) tiles i.0 i.1)

  agrees : (x : ℕ) (answer : Option Range) → IsRangeAt state.held x answer → AgreesWithLists state x answer
  agrees x None h = record {
    held = λ r c i. absurd (none_holds state.held x h (held_address state.held r x (held_contains state.held r c) i));
    gap = λ g c i. refl;
    outside = λ o. refl;
  }
  agrees x (Some q) h =
      let k = held_contains state.held q h.0 in
      let l = held_lies lo hi state.held q valid.in_order k in
      record {
        held = λ r c i. ap Some (one_held lo hi x state.held q r valid.in_order k (held_contains state.held r c) h.1 i);
        gap = λ g c i. absurd (free_not_held g x (held_contains (gaps_of state) g c) i (held_address state.held q x k h.1));
        outside = λ o. absurd (o (omega (arith, l.0, h.1.0), omega (arith, l.2, h.1.1)));
      }

  gap_agrees : (x : ℕ) (answer : Option Range) → IsRangeAt (gaps_of state) x answer → AgreesWithGaps state x answer
  gap_agrees x None h = record {
    gap = λ g c i. absurd (none_holds (gaps_of state) x h (held_address (gaps_of state) g x (held_contains (gaps_of state) g c) i));
    held = λ r c i. refl;
    outside = λ o. refl;
  }
  gap_agrees x (Some q) h =
      let k = held_contains (gaps_of state) q h.0 in
      let l = free_lies Allocated lo hi (blocks_of state) q tiles k in
      record {
        gap = λ g c i. ap Some (one_free Allocated lo hi x (blocks_of state) q g tiles k (held_contains (gaps_of state) g c) h.1 i);
        held = λ r c i. absurd (free_not_held q x k h.1 (held_address state.held r x (held_contains state.held r c) i));
        outside = λ o. absurd (o (omega (arith, l.0, h.1.0), omega (arith, l.2, h.1.1)));
      }

  -- ---- The longest gap
  place_fits : (n s : ℕ) → 0 < n → IsPlace n 1 state s → n ≤ longest_of (gaps_of state)
  unfolding IsPlace
  place_fits n s p h =
      let over = in_gap s (s + n - 1) (omega arith) (λ x i j. h.1 x i (omega arith)) in
      omega (arith, longest_over (gaps_of state) over.0 over.1, over.2, over.3)

  fits_place : (n : ℕ) → 0 < n → n ≤ longest_of (gaps_of state) → (s : ℕ) × IsPlace n 1 state s
  unfolding IsPlace
  fits_place n p l =
      let f = one_is_longest (gaps_of state) n p l in
      let lies = free_lies Allocated lo hi (blocks_of state) f.0 tiles f.1 in
      (f.0.start, (omega arith, λ x i j. gap_clear f.0 x f.1 (i, omega (arith, f.2, lies.1))))

  -- ---- The longest part of a gap in a window
  place_fits_part : (w : Range) (n s : ℕ) → 0 < n → IsPlace n 1 (within (Some w) state) s → n ≤ longest_part w (gaps_of state)
  unfolding IsPlace
  place_fits_part w n s p h =
      let over = in_gap s (s + n - 1) (omega arith)
      (λ x i j. let c = h.1 x i (omega arith) in ((omega (arith, c.0.0), omega (arith, c.0.1)), c.1)) in
      let first = (h.1 s (omega arith) (omega arith)).0 in
      let last = (h.1 (s + n - 1) (omega arith) (omega arith)).0 in
      omega (arith, longest_part_over w (gaps_of state) over.0 over.1, over.2, over.3, first.0, last.1)

  part_fits_place : (w : Range) (n : ℕ) → 0 < n → n ≤ longest_part w (gaps_of state) → (s : ℕ) × IsPlace n 1 (within (Some w) state) s
  unfolding IsPlace
  part_fits_place w n p l =
      let f = one_has_longest_part w (gaps_of state) n p l in (
        max w.start f.0.start,
        (
          omega arith,
          λ x i j.
              let c = gap_clear f.0 x f.1 (omega (arith, i), omega (arith, j, f.2)) in
              ((omega (arith, i, c.0.0), omega (arith, j, f.2, c.0.1)), c.1),
        ),
      )

  fits_in : (window : Option Range) (n : ℕ) → 0 < n →
      ((s : ℕ) × IsPlace n 1 (within window state) s) ↔ (n ≤ longest_in window (gaps_of state))
  fits_in None n p = (λ h. place_fits n h.0 p h.1, λ l. fits_place n p l)
  fits_in (Some w) n p = (λ h. place_fits_part w n h.0 p h.1, λ l. part_fits_place w n p l)

  none_if_zero : longest_of (gaps_of state) ≡ 0 → (x : ℕ) → ¬ IsClear state x
  none_if_zero z x c =
      let over = in_gap x x (omega arith) (λ y i j. let e : x ≡ y = omega arith in subst (IsClear state) e c) in
      omega (arith, longest_over (gaps_of state) over.0 over.1)

  zero_if_none : ((x : ℕ) → ¬ IsClear state x) → longest_of (gaps_of state) ≡ 0
  zero_if_none none =
      ⊎_elim
      (λ (k : 0 < longest_of (gaps_of state)).
      let f = one_is_longest (gaps_of state) 1 (omega arith) (omega arith) in
      let lies = free_lies Allocated lo hi (blocks_of state) f.0 tiles f.1 in
      absurd (none f.0.start (gap_clear f.0 f.0.start f.1 (omega arith, lies.1))))
      (λ (k : longest_of (gaps_of state) ≤ 0). omega arith)
      (cases_lt 0 (longest_of (gaps_of state)))

  add_up : count_of (gaps_of state) + count_of state.held ≡ address_count state.space
  add_up =
      let all = all_counted Allocated lo hi (blocks_of state) tiles in
      let held : count_of (held_of (blocks_of state)) ≡ count_of state.held = ap count_of (held_of-blocks_of state) in
      omega (arith, all, held, valid.space.0)

pub each_in_one : (state : AddressState) (x : ℕ) → IsAddressState state → IsIn state.space x →
    (IsInOne state.held x × IsInNone (gaps_of state) x) ⊎ (IsInOne (gaps_of state) x × IsInNone state.held x)
each_in_one state x valid i = in_one state valid x i

pub held_at_agrees : (state : AddressState) (x : ℕ) (answer : Option Range) →
    IsAddressState state → IsHeldAt state x answer → AgreesWithLists state x answer
held_at_agrees state x answer valid h = agrees state valid x answer h

pub gap_at_agrees : (state : AddressState) (x : ℕ) (answer : Option Range) →
    IsAddressState state → IsGapAt state x answer → AgreesWithGaps state x answer
gap_at_agrees state x answer valid h = gap_agrees state valid x answer h

pub ruleset one_range = (each_in_one, held_at_agrees, gap_at_agrees)

pub gaps_are_longest : (state : AddressState) (g : Range) → IsAddressState state → Contains (gaps_of state) g ↔ IsGap state g
gaps_are_longest state g valid = (
  λ c. is_gap state valid g (held_contains (gaps_of state) g c),
  λ is. contains_held (gaps_of state) g (gap_listed state valid g is),
)

pub held_and_gaps_are_blocks : (state : AddressState) → IsAddressState state → IsInBlocks state
held_and_gaps_are_blocks state valid = record { tiles = tiles state valid; held = held_of-blocks_of state; gaps = refl }

pub longest_is_zero : (state : AddressState) → IsAddressState state →
    (longest_of (gaps_of state) ≡ 0) ↔ ((x : ℕ) → ¬ IsClear state x)
longest_is_zero state valid = (none_if_zero state valid, zero_if_none state valid)

pub longest_fits : (state : AddressState) (window : Option Range) (n : ℕ) → IsAddressState state → 0 < n →
    ((s : ℕ) × IsPlace n 1 (within window state) s) ↔ (n ≤ longest_in window (gaps_of state))
longest_fits state window n valid p = fits_in state valid window n p

pub counts_add_up : (state : AddressState) → IsAddressState state →
    count_of (gaps_of state) + count_of state.held ≡ address_count state.space
counts_add_up state valid = add_up state valid

pub ruleset counts = (counts_add_up)
