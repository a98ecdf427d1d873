-- A range of clear addresses fills its gap if and only if it is the gap.
use Rattle.std.proofs.Common.{◌≡◌, ◌≢◌, ℕ, ◌+◌, ◌-◌, ◌<◌, ◌≤◌, arith, inl, inr, ⊎_elim, subst, sym, Some, None, Bool, true, false, nat_eq, refl, ap, ◌∙◌}
use Rattle.std.specs.Prelude.{◌&&◌}
use Rattle.std.proofs.lemmas.Bool.{cases_lt, and_parts, eqb-true, eq-eqb, false_from_ne_true}
use Rattle.vm_ranges.specs.Range.{Range, IsIn}
use Rattle.vm_ranges.specs.Address.{AddressState, IsAddressState, IsClear, SplitsGap}
use Rattle.vm_ranges.proofs.PlainWords.{none_holds}
use Rattle.vm_ranges.proofs.RangeCalls.{same_range}
use Rattle.vm_addresses.specs.Queries.{IsGapAt, gaps_of}
use Rattle.vm_addresses.proofs.Results.HeldAndGaps.{gaps_are_longest, clear_gap}

-- The test of two ranges.
same_if : (g r : Range) → (nat_eq g.start r.start && nat_eq g.end r.end) ≡ true → g ≡ r
same_if g r e = let t = and_parts (nat_eq g.start r.start) (nat_eq g.end r.end) e in
    same_range g r (eqb-true g.start r.start t.0) (eqb-true g.end r.end t.1)

other_if : (g r : Range) → (nat_eq g.start r.start && nat_eq g.end r.end) ≡ false → g ≢ r
other_if g r f e =
    let t : (nat_eq g.start r.start && nat_eq g.end r.end) ≡ true =
    rw (eq-eqb g.start r.start (ap (λ (v : Range). v.start) e), eq-eqb g.end r.end (ap (λ (v : Range). v.end) e)) refl in
    cc (t, f)

module _ (state : AddressState) (valid : IsAddressState state) (r : Range) (clear : (x : ℕ) → IsIn r x → IsClear state x) (some : r.start ≤ r.end) where
  gap_fills : (g : Range) → IsGapAt state r.start (Some g) → g ≡ r → ¬ SplitsGap state r
  unfolding SplitsGap
  gap_fills g at e s =
      let gap = (gaps_are_longest state g valid).0 at.0 in
      ⊎_elim
      (λ (k : s.0 + 1 ≡ r.start). gap.before s.0 (subst (λ (v : Range). s.0 + 1 ≡ v.start) (sym e) k) s.1)
      (λ (k : s.0 ≡ r.end + 1). gap.after (subst (λ (v : Range). IsClear state (v.end + 1)) (sym e) (subst (IsClear state) k s.1)))
      s.2

  other_splits : (g : Range) → IsGapAt state r.start (Some g) → g ≢ r → SplitsGap state r
  unfolding SplitsGap
  other_splits g at n =
      let gap = (gaps_are_longest state g valid).0 at.0 in
      ⊎_elim
      (λ (l : g.start < r.start). (r.start - 1, gap.clear (r.start - 1) (omega (arith, l), omega (arith, at.1.1)), inl (omega (arith, l))))
      (λ (l : r.start ≤ g.start).
      ⊎_elim
      (λ (m : r.end < g.end). (r.end + 1, gap.clear (r.end + 1) (omega (arith, at.1.0, some), omega (arith, m)), inr (omega arith)))
      (λ (m : g.end ≤ r.end).
      ⊎_elim
      (λ (k : g.end < r.end). absurd (gap.after (clear (g.end + 1) (omega (arith, at.1.1), omega (arith, k)))))
      (λ (k : r.end ≤ g.end). absurd (n (same_range g r (omega (arith, l, at.1.0)) (omega (arith, m, k)))))
      (cases_lt g.end r.end))
      (cases_lt r.end g.end))
      (cases_lt g.start r.start)

  pub fills_if : (g : Range) (same : Bool) → IsGapAt state r.start (Some g) → same ≡ (nat_eq g.start r.start && nat_eq g.end r.end) →
      SplitsGap state r → same ≡ false
  fills_if g same at t s = false_from_ne_true same (λ e. gap_fills g at (same_if g r (sym t ∙ e)) s)

  pub splits_if : (g : Range) (same : Bool) → IsGapAt state r.start (Some g) → same ≡ (nat_eq g.start r.start && nat_eq g.end r.end) →
      same ≡ false → SplitsGap state r
  splits_if g same at t e = other_splits g at (other_if g r (sym t ∙ e))

  pub no_gap : IsGapAt state r.start None → SplitsGap state r
  no_gap none = absurd (none_holds (gaps_of state) r.start none (clear_gap state valid r.start (clear r.start (omega arith, some))))

pub ruleset filling = (fills_if, splits_if, no_gap)
