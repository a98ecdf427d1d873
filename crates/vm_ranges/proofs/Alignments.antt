-- Rounding by a mask gives the highest and the lowest multiple.
use Rattle.std.proofs.Common.{◌≡◌, ℕ, ◌+◌, ◌-◌, ◌^◌, ◌<◌, ◌≤◌, true, false, refl, arith, inl, inr, bit_and, Result, Ok, Err, ⊎_elim}
use Rattle.std.specs.Int.{is_power_of_two}
use Rattle.vm_ranges.specs.Range.{MAX}
use Rattle.vm_ranges.specs.Alignment.{AlignsDown, AlignsUp, IsHighestMultiple}
use Rattle.vm_ranges.specs.declared.error.Error.{Error}
use Rattle.vm_ranges.specs.declared.error.Error.TheVariants.{InvalidAlignment, Overflow}
use Rattle.vm_ranges.proofs.Power.{alignment_if_true, no_alignment_if_false, alignment_pos, masked, highest_multiple, lowest_multiple}

-- Rounding down by a number that is no power of two returns InvalidAlignment.
pub down_refused : (x a : ℕ) → is_power_of_two a ≡ false → AlignsDown x a (Err InvalidAlignment)
unfolding AlignsDown
down_refused x a e = inl (no_alignment_if_false a e, refl)

-- Rounding down clears the bits below the alignment.
pub down_given : (x a : ℕ) → x < 2 ^ 64 → a < 2 ^ 64 → is_power_of_two a ≡ true →
    AlignsDown x a (Ok (bit_and x (18446744073709551615 - (a - 1))))
unfolding AlignsDown
down_given x a p q e =
    let h = alignment_if_true a q e in
    let g : IsHighestMultiple a x (bit_and x (18446744073709551615 - (a - 1))) =
    rw (masked x a p h) (highest_multiple a x (alignment_pos a h)) in
    inr (h, (_, refl, g))

-- Rounding up by 0 returns InvalidAlignment.
pub up_zero : (x a : ℕ) → a ≡ 0 → AlignsUp x a (Err InvalidAlignment)
unfolding AlignsUp
up_zero x a e = inl (e, refl)

-- Rounding up returns Overflow if x + (a - 1) is past MAX.
pub up_over : (x a : ℕ) → 0 < a → MAX < x + (a - 1) → AlignsUp x a (Err Overflow)
unfolding AlignsUp
up_over x a z p = inr (λ e. omega arith, inl (omega arith, refl))

-- Rounding x + (a - 1) down rounds x up.
pub up_given : (x a : ℕ) (answer : Result ℕ Error) → 0 < a → x + (a - 1) ≤ MAX → AlignsDown (x + (a - 1)) a answer → AlignsUp x a answer
unfolding AlignsUp AlignsDown
up_given x a answer z p h =
    inr (
      λ e. omega arith,
      inr (
        λ k. omega arith,
        ⊎_elim (λ l. inl l) (λ r. inr (r.0, (r.1.0, r.1.1, lowest_multiple a x r.1.0 z r.1.2)))
            h,
      ),
    )

pub ruleset aligns = (down_refused, down_given, up_zero, up_over, up_given)
