-- The places after a held range is freed: those in the gap that it leaves, and those beside this gap, which were places before.
use Rattle.std.proofs.Common.{◌≡◌, ℕ, ◌+◌, ◌-◌, ◌%◌, ◌<◌, ◌≤◌, ◌⊎◌, arith, refl, ap, inl, inr, ⊎_elim, subst, Option, Some, None, Result, Ok, Err}
use Rattle.std.specs.List.{Contains}
use Rattle.std.proofs.lemmas.Bool.{cases_lt}
use Rattle.vm_ranges.specs.Range.{Range, IsIn, span}
use Rattle.vm_ranges.specs.declared.error.Error.{Error}
use Rattle.vm_leaf.specs.Block.{free_block}
use Rattle.vm_leaf.specs.Fit.{IsFit}
use Rattle.vm_ranges.specs.Address.{AddressState, IsAddressState, IsClear, AreClear, IsPlace, SplitsGap, holding, releasing}
use Rattle.vm_ranges.specs.Answer.{AllocatesAt}
use Rattle.vm_addresses.specs.Checks.Moving.{IsLeftGap}
use Rattle.vm_ranges.specs.Windows.{part_in, within}
use Rattle.vm_addresses.proofs.Moving.LeftGaps.{still_clear, clear_or_freed, held_below}

-- ---- Windows
-- The n addresses that start at t lie in the window.
abbrev pub LieIn : Option Range → ℕ → ℕ → Type 0
LieIn None n t = Unit {0}
LieIn (Some v) n t = (v.start ≤ t) × (t + n ≤ v.end + 1)

-- A place in a window is a place whose addresses lie in the window.
pub place_parts : (w : Option Range) (n a t : ℕ) (s : AddressState) → 0 < n → IsPlace n a (within w s) t →
    (t % a ≡ 0) × AreClear n s t × LieIn w n t
unfolding IsPlace
place_parts None n a t s z p = (p.0, p.1, tt)
place_parts (Some v) n a t s z p =
    let first = p.1 t (omega arith) (omega (arith, z)) in
    let last = p.1 (t + n - 1) (omega (arith, z)) (omega (arith, z)) in (
      p.0,
      λ x low high. let c = p.1 x low high in ((omega (arith, c.0.0), omega (arith, c.0.1)), c.1),
      (omega (arith, first.0.0), omega (arith, last.0.1, z)),
    )

pub place_within : (w : Option Range) (n a t : ℕ) (s : AddressState) → t % a ≡ 0 → AreClear n s t → LieIn w n t → IsPlace n a (within w s) t
unfolding IsPlace
place_within None n a t s d c l = (d, c)
place_within (Some v) n a t s d c l = (
  d,
  λ x low high. let k = c x low high in ((omega (arith, k.0.0, l.0, low), omega (arith, k.0.1, l.1, high)), k.1),
)

-- A fit in the part of a gap in a window is a fit in the gap whose addresses lie in the window.
pub fit_parts : (w : Option Range) (gap : Range) (n a t : ℕ) → IsFit n a (free_block (part_in w gap)) t →
    (t % a ≡ 0) × ((gap.start ≤ t) × (t + n ≤ gap.end + 1)) × LieIn w n t
fit_parts None gap n a t f = (f.1, (f.2, f.3), tt)
fit_parts (Some v) gap n a t f = (f.1, (omega (arith, f.2), omega (arith, f.3)), (omega (arith, f.2), omega (arith, f.3)))

pub fit_within : (w : Option Range) (gap : Range) (n a t : ℕ) → t % a ≡ 0 → (gap.start ≤ t) × (t + n ≤ gap.end + 1) → LieIn w n t →
    IsFit n a (free_block (part_in w gap)) t
fit_within None gap n a t d i l = (refl, d, i.0, i.1)
fit_within (Some v) gap n a t d i l = (refl, d, omega (arith, i.0, l.0), omega (arith, i.1, l.1))

-- ---- The gap that a held range leaves
-- The n addresses that start at t are beside the gap.
abbrev pub AreBeside : Range → ℕ → ℕ → Type 0
AreBeside gap n t = (t + n ≤ gap.start) ⊎ (gap.end < t)

-- The state after the result for a range that is allocated after the range r is freed.
abbrev pub released_then : AddressState → Range → Result Range Error → AddressState
released_then old r (Ok q) = holding q (releasing r old)
released_then old r (Err e) = releasing r old

module _ (old : AddressState) (r gap : Range) (valid : IsAddressState old) (held : Contains old.held r) (left : IsLeftGap old r gap) where
  some : gap.start ≤ gap.end
  some = let l = held_below old r valid held in omega (arith, l.0, left.from, left.upto)

  -- Clear addresses with one of the gap are all in the gap.
  all_in_gap : (n t y : ℕ) → AreClear n (releasing r old) t → t ≤ y → y < t + n → IsIn gap y → (gap.start ≤ t) × (t + n ≤ gap.end + 1)
  all_in_gap n t y clear from upto inside = (
    ⊎_elim
        (λ (l : t < gap.start). absurd (left.before (gap.start - 1) (omega (arith, l))
        (clear (gap.start - 1) (omega (arith, l)) (omega (arith, l, inside.0, upto)))))
        (λ (l : gap.start ≤ t). l)
        (cases_lt t gap.start),
    ⊎_elim
        (λ (l : gap.end + 1 < t + n). absurd (left.after (clear (gap.end + 1) (omega (arith, from, inside.1)) l)))
        (λ (l : t + n ≤ gap.end + 1). l)
        (cases_lt (gap.end + 1) (t + n)),
  )

  -- Clear addresses beside the gap were clear.
  beside_clear : (n t : ℕ) → AreClear n (releasing r old) t → AreBeside gap n t → AreClear n old t
  beside_clear n t clear apart x low high =
      ⊎_elim
      (λ (i : IsIn r x). absurd (⊎_elim (λ (l : t + n ≤ gap.start). omega (arith, l, high, left.from, i.0))
      (λ (l : gap.end < t). omega (arith, l, low, left.upto, i.1)) apart))
      (λ (c : IsClear old x). c)
      (clear_or_freed old r x valid held (clear x low high))

  -- Clear addresses are in the gap or beside it.
  in_gap_or_beside : (n t : ℕ) → 0 < n → AreClear n (releasing r old) t →
      ((gap.start ≤ t) × (t + n ≤ gap.end + 1)) ⊎ (AreClear n old t × AreBeside gap n t)
  in_gap_or_beside n t pos clear =
      ⊎_elim
      (λ (l : gap.start < t + n).
      ⊎_elim
      (λ (m : gap.end < t). inr (beside_clear n t clear (inr m), inr m))
      (λ (m : t ≤ gap.end).
      ⊎_elim
      (λ (k : t < gap.start). inl (all_in_gap n t gap.start clear (omega (arith, k)) l (omega arith, some)))
      (λ (k : gap.start ≤ t). inl (all_in_gap n t t clear (omega arith) (omega (arith, pos)) (k, m)))
      (cases_lt t gap.start))
      (cases_lt gap.end t))
      (λ (l : t + n ≤ gap.start). inr (beside_clear n t clear (inl l), inl l))
      (cases_lt gap.start (t + n))

  -- A place after the range is freed is a fit in the gap, or was a place and is beside the gap.
  pub fit_or_place : (w : Option Range) (n a t : ℕ) → 0 < n → IsPlace n a (within w (releasing r old)) t →
      IsFit n a (free_block (part_in w gap)) t ⊎ (IsPlace n a (within w old) t × AreBeside gap n t)
  fit_or_place w n a t z p =
      let k = place_parts w n a t (releasing r old) z p in
      ⊎_elim
      (λ i. inl (fit_within w gap n a t k.0 i k.2))
      (λ b. inr (place_within w n a t old k.0 b.0 k.2, b.1))
      (in_gap_or_beside n t z k.1)

  -- A fit in the gap is a place after the range is freed, and so is each place.
  pub fit_place : (w : Option Range) (n a t : ℕ) → IsFit n a (free_block (part_in w gap)) t → IsPlace n a (within w (releasing r old)) t
  fit_place w n a t f =
      let k = fit_parts w gap n a t f in
      place_within w n a t (releasing r old) k.0
      (λ x low high. left.clear x (omega (arith, k.1.0, low), omega (arith, k.1.1, high))) k.2

  pub still_place : (w : Option Range) (n a t : ℕ) → 0 < n → IsPlace n a (within w old) t → IsPlace n a (within w (releasing r old)) t
  still_place w n a t z p =
      let k = place_parts w n a t old z p in
      place_within w n a t (releasing r old) k.0 (λ x low high. still_clear old r x (k.1 x low high)) k.2

  -- A range beside the gap splits its gap after the range r is freed if and only if it did before.
  still_splits : (q : Range) → SplitsGap old q → SplitsGap (releasing r old) q
  unfolding SplitsGap
  still_splits q s = (s.0, still_clear old r s.0 s.1, s.2)

  beside_splits : (n t : ℕ) → 0 < n → AreClear n old t → AreBeside gap n t → SplitsGap (releasing r old) (span t n) → SplitsGap old (span t n)
  unfolding SplitsGap
  beside_splits n t z clear apart s =
      let first = still_clear old r t (clear t (omega arith) (omega (arith, z))) in
      let last = still_clear old r (t + n - 1) (clear (t + n - 1) (omega (arith, z)) (omega (arith, z))) in
      ⊎_elim
      (λ (i : IsIn r s.0). absurd (⊎_elim
      (λ (l : t + n ≤ gap.start). ⊎_elim
      (λ (e : s.0 + 1 ≡ t). omega (arith, e, l, i.0, left.from))
      (λ (e : s.0 ≡ t + n - 1 + 1). left.before (t + n - 1) (omega (arith, e, l, i.0, left.from, z, i.1, left.upto, some_first e l i)) last)
      s.2)
      (λ (l : gap.end < t). ⊎_elim
      (λ (e : s.0 + 1 ≡ t). left.after (subst (λ (v : ℕ). IsClear (releasing r old) v) (omega (arith, e, l, i.1, left.upto)) first))
      (λ (e : s.0 ≡ t + n - 1 + 1). omega (arith, e, l, i.1, left.upto))
      s.2)
      apart))
      (λ (c : IsClear old s.0). (s.0, c, s.2))
      (clear_or_freed old r s.0 valid held s.1)
    where
      some_first : s.0 ≡ t + n - 1 + 1 → t + n ≤ gap.start → IsIn r s.0 → gap.start ≤ s.0
      some_first e l i = omega (arith, i.0, left.from)

  -- The result for a range beside the gap is that after the range r is freed.
  pub beside_allocates : (counted n t : ℕ) (answer : Result Range Error) (new : AddressState) → 0 < n → AreClear n old t → AreBeside gap n t →
      AllocatesAt counted old (span t n) answer new → AllocatesAt counted (releasing r old) (span t n) answer (released_then old r answer)
  unfolding AllocatesAt
  beside_allocates counted n t answer new z clear apart h =
      let q = span t n in
      let taken : answer ≡ Ok q → (answer ≡ Ok q) × (released_then old r answer ≡ holding q (releasing r old)) = λ e.
      (e, ap (λ (v : Result Range Error). released_then old r v) e) in
      let refused : (e : Error) → answer ≡ Err e → (answer ≡ Err e) × (released_then old r answer ≡ releasing r old) = λ x e.
      (e, ap (λ (v : Result Range Error). released_then old r v) e) in
      ⊎_elim
      (λ k. inl (λ s. k.0 (beside_splits n t z clear apart s), taken k.1.0))
      (λ k. inr (
        still_splits q k.0,
        ⊎_elim
            (λ l. inl (l.0, refused _ l.1.0))
            (λ l. inr (l.0, ⊎_elim (λ m. inl (taken m.0)) (λ m. inr (refused _ m.0)) l.1))
            k.1,
      ))
      h
