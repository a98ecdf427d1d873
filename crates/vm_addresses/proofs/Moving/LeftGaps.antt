-- The gap that a held range leaves when it is freed.
use Rattle.std.proofs.Common.{◌≡◌, ℕ, ◌+◌, ◌-◌, ◌<◌, ◌≤◌, ◌⊎◌, arith, sym, inl, inr, ⊎_elim, subst, Some, None}
use Rattle.std.specs.List.{Contains}
use Rattle.std.proofs.lemmas.Bool.{cases_lt}
use Rattle.vm_ranges.specs.Range.{Range, MAX, IsRange, IsIn}
use Rattle.vm_ranges.proofs.Decisions.{decided_in}
use Rattle.vm_addresses.specs.Queries.{gaps_of, IsGapAt}
use Rattle.vm_addresses.specs.Facts.{IsGap}
use Rattle.vm_addresses.specs.Checks.Moving.{IsLeftStart, IsLeftEnd, IsLeftGap}
use Rattle.vm_ranges.specs.Address.{AddressState, IsAddressState, IsClear, releasing, without_range}
use Rattle.vm_ranges.proofs.PlainWords.{IsHeld, held_contains, all_miss, none_holds, held_address}
use Rattle.vm_addresses.proofs.Blocks.HeldChanges.{held_without, others_held}
use Rattle.vm_addresses.proofs.Blocks.HeldSets.{held_lies}
use Rattle.vm_addresses.proofs.Results.HeldAndGaps.{each_in_one, gaps_are_longest}
use Rattle.vm_addresses.proofs.Callers.{range_of, released_clear}

-- A clear address stays clear.
pub still_clear : (old : AddressState) (r : Range) (x : ℕ) → IsClear old x → IsClear (releasing r old) x
still_clear old r x c = (
  c.0,
  all_miss (without_range r old.held) x (λ k.
      let p = range_of (without_range r old.held) x k in
      none_holds old.held x c.1 (held_address old.held p.0 x (held_without r p.0 old.held p.1) p.2)),
)

-- An address that is clear after the range is freed was clear, or is in the range.
pub clear_or_freed : (old : AddressState) (r : Range) (x : ℕ) → IsAddressState old → Contains old.held r → IsClear (releasing r old) x →
    IsIn r x ⊎ IsClear old x
clear_or_freed old r x valid held c =
    ⊎_elim
    (λ (i : IsIn r x). inl i)
    (λ (n : ¬ IsIn r x). inr (
      c.0,
      all_miss old.held x (λ k.
          let p = range_of old.held x k in
          let apart : ¬ (r ≡ p.0) = λ e. n (subst (λ (v : Range). IsIn v x) (sym e) p.2) in
          let kept : IsHeld (without_range r old.held) p.0 = others_held old.space.start old.space.end r p.0 old.held valid.in_order
          (held_contains old.held r held) p.1 apart in
          none_holds (without_range r old.held) x c.1 (held_address (without_range r old.held) p.0 x kept p.2)),
    ))
    (decided_in r x)

-- A held range has an address, and ends below MAX.
pub held_below : (old : AddressState) (r : Range) → IsAddressState old → Contains old.held r → (r.start ≤ r.end) × (r.end < MAX)
held_below old r valid c =
    let l = held_lies old.space.start old.space.end old.held r valid.in_order (held_contains old.held r c) in (l.1, l.3)

-- ---- The ends of the gap
-- An address in no gap is not clear.
no_gap : (old : AddressState) (x : ℕ) → IsAddressState old → IsGapAt old x None → ¬ IsClear old x
no_gap old x valid none c =
    ⊎_elim
    (λ k. none_holds old.held x c.1
    (held_address old.held k.0.range x (held_contains old.held k.0.range k.0.listed) k.0.inside))
    (λ k. none_holds (gaps_of old) x none (held_address (gaps_of old) k.0.range x (held_contains (gaps_of old) k.0.range k.0.listed) k.0.inside))
    (each_in_one old x valid c.0)

-- An address beside a held range that was not clear is not clear after the range is freed.
stays_taken : (old : AddressState) (r : Range) (x : ℕ) → IsAddressState old → Contains old.held r → ¬ IsIn r x → ¬ IsClear old x →
    ¬ IsClear (releasing r old) x
stays_taken old r x valid c out n k = ⊎_elim out n (clear_or_freed old r x valid c k)

-- The gap starts at 0 if the range does.
pub start_at_zero : (old : AddressState) (r : Range) → r.start ≡ 0 → IsLeftStart old r 0
start_at_zero old r z = record
    { upto = omega arith; clear = λ x from below. absurd (omega (arith, below, z)); before = λ x e. absurd (omega (arith, e)) }

-- The gap starts with the range if no gap is before it.
pub start_without : (old : AddressState) (r : Range) → IsAddressState old → Contains old.held r → 0 < r.start →
    IsGapAt old (r.start - 1) None → IsLeftStart old r r.start
start_without old r valid c some none = record {
  upto = omega arith;
  clear = λ x from below. absurd (omega (arith, from, below));
  before = λ x e.
      let at : r.start - 1 ≡ x = omega (arith, e) in
      stays_taken old r x valid c (λ i. omega (arith, i.0, e)) (subst (λ (v : ℕ). ¬ IsClear old v) at (no_gap old (r.start - 1) valid none));
}

-- The gap starts with the gap before the range.
pub start_with : (old : AddressState) (r g : Range) → IsAddressState old → Contains old.held r → 0 < r.start →
    IsGapAt old (r.start - 1) (Some g) → IsLeftStart old r g.start
start_with old r g valid c some at =
    let gap : IsGap old g = (gaps_are_longest old g valid).0 at.0 in
    let inside = at.1 in
    record {
      upto = omega (arith, inside.0);
      clear = λ x from below. gap.clear x (from, omega (arith, below, inside.1));
      before = λ x e. stays_taken old r x valid c (λ i. omega (arith, i.0, e, inside.0, some)) (gap.before x e);
    }

-- The gap ends with the range if no gap is after it.
pub end_without : (old : AddressState) (r : Range) → IsAddressState old → Contains old.held r → IsGapAt old (r.end + 1) None →
    IsLeftEnd old r r.end
end_without old r valid c none = record {
  from = omega arith;
  clear = λ x above upto. absurd (omega (arith, above, upto));
  after = stays_taken old r (r.end + 1) valid c (λ i. omega (arith, i.1)) (no_gap old (r.end + 1) valid none);
}

-- The gap ends with the gap after the range.
pub end_with : (old : AddressState) (r g : Range) → IsAddressState old → Contains old.held r → IsGapAt old (r.end + 1) (Some g) →
    IsLeftEnd old r g.end
end_with old r g valid c at =
    let gap : IsGap old g = (gaps_are_longest old g valid).0 at.0 in
    let inside = at.1 in
    record {
      from = omega (arith, inside.1);
      clear = λ x above upto. gap.clear x (omega (arith, above, inside.0), upto);
      after = stays_taken old r (g.end + 1) valid c (λ i. omega (arith, i.1, inside.1)) gap.after;
    }

pub ruleset left = (start_at_zero, start_without, start_with, end_without, end_with, held_below)

-- ---- Both ends
-- Both ends make the gap.
pub left_gap : (old : AddressState) (r : Range) (s e : ℕ) → IsAddressState old → Contains old.held r → IsLeftStart old r s →
    IsLeftEnd old r e → IsLeftGap old r (record { start = s; end = e })
left_gap old r s e valid c a b = record {
  from = a.upto;
  upto = b.from;
  clear = λ x i.
      ⊎_elim
      (λ (l : x < r.start). still_clear old r x (a.clear x i.0 l))
      (λ (l : r.start ≤ x).
      ⊎_elim
      (λ (m : r.end < x). still_clear old r x (b.clear x m i.1))
      (λ (m : x ≤ r.end). released_clear old r valid (held_contains old.held r c) x l (omega (arith, l, m)))
      (cases_lt r.end x))
      (cases_lt x r.start);
  before = a.before;
  after = b.after;
}

-- Both ends are those of a range, because the gap lies in the space.
pub left_range : (old : AddressState) (r : Range) (s e : ℕ) → IsAddressState old → Contains old.held r → IsLeftStart old r s →
    IsLeftEnd old r e → IsRange s e
left_range old r s e valid c a b =
    let g = left_gap old r s e valid c a b in
    let some = held_below old r valid c in
    let first = g.clear s (omega arith, omega (arith, a.upto, some.0, b.from)) in
    let last = g.clear e (omega (arith, a.upto, some.0, b.from), omega arith) in
    let space = valid.space in
    omega (arith, a.upto, some.0, b.from, first.0.0, last.0.1, space)
