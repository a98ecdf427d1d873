-- The result for the range at the chosen place.
use Rattle.std.proofs.Common.{◌≡◌, ℕ, ◌<◌, ◌≤◌, arith, inl, inr, refl, length, Ok, Err, Bool, true, false}
use Rattle.vm_ranges.specs.Range.{Range, MAX}
use Rattle.vm_ranges.specs.Address.{AddressState, SplitsGap}
use Rattle.vm_ranges.specs.Answer.{SPLIT_LIMIT_MIN_HELD, AllocatesAt}
use Rattle.vm_ranges.specs.declared.error.Error.TheVariants.{Overflow}
use Rattle.vm_addresses.specs.Checks.Peeking.{Settles}

pub at_max : (state : AddressState) (r : Range) → r.end ≡ MAX → Settles state r (Err Overflow)
unfolding Settles
at_max state r e = (λ k. cc k, inl (e, refl))

pub too_many : (state : AddressState) (r : Range) (n : ℕ) → ¬ (r.end ≡ MAX) → SplitsGap state r → n ≡ length state.held → SPLIT_LIMIT_MIN_HELD ≤ n →
    Settles state r (Err Overflow)
unfolding AllocatesAt Settles
too_many state r n below splits e many = (λ k. cc k, inr (below, inr (splits, inl (omega (arith, many, e), (refl, refl)))))

pub fills : (state : AddressState) (r : Range) (same : Bool) → ¬ (r.end ≡ MAX) → (SplitsGap state r → same ≡ false) → same ≡ true → Settles state r (Ok r)
unfolding AllocatesAt Settles
fills state r same below f e = (λ k. cc k, inr (below, inl ((λ s. let x = f s in cc (x, e)), (refl, refl))))

pub splits_few : (state : AddressState) (r : Range) (n : ℕ) → ¬ (r.end ≡ MAX) → SplitsGap state r → n ≡ length state.held → n < SPLIT_LIMIT_MIN_HELD →
    Settles state r (Ok r)
unfolding AllocatesAt Settles
splits_few state r n below splits e few =
    (λ k. cc k, inr (below, inr (splits, inr ((λ many. omega (arith, many, e, few)), inl (refl, refl)))))

pub ruleset settling = (at_max, too_many, fills, splits_few)
