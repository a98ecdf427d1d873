-- The result of an ExactMatch request with a window, from that of the same request without a window.
use Rattle.std.proofs.Common.{◌≡◌, ℕ, ◌+◌, ◌<◌, ◌≤◌, Some, sym, arith, inl, inr, ⊎_elim, subst, Result, Err}
use Rattle.vm_ranges.specs.Range.{Range, IsIn}
use Rattle.vm_ranges.specs.Request.{Request}
use Rattle.vm_ranges.specs.Windows.{within}
use Rattle.vm_ranges.specs.Address.{AddressState, AreClear, IsPlace}
use Rattle.vm_ranges.specs.Answer.{IsChosen, ByStart, ByExactPolicy, ByPlace, AllocatesAt, Grants}
use Rattle.vm_ranges.specs.declared.error.Error.{Error}
use Rattle.vm_ranges.specs.declared.constraint.AllocPolicy.TheVariants.{ExactMatch}
use Rattle.vm_addresses.proofs.Results.Once.{clear_anywhere, place_anywhere}
use Rattle.vm_addresses.proofs.Results.Requests.{request_in}
use Rattle.vm_addresses.proofs.Choosing.ExactStart.{named}

-- The request for n addresses at the start t in the window w.
abbrev named_in : Range → ℕ → ℕ → ℕ → Request
named_in w n a t = request_in (Some w) n a (ExactMatch t)

-- ---- A start in the window, whose range lies in the window if it is clear
module _ (w : Range) (n a t : ℕ) (old : AddressState) (z : 0 < n) (i : IsIn w t) (upto : AreClear n old t → t + n ≤ w.end + 1) where
  clear_in : AreClear n old t → AreClear n (within (Some w) old) t
  clear_in c x l m = let k = c x l m in ((omega (arith, k.0.0, i.0), omega (arith, k.0.1, upto c)), k.1)

  place_in : IsPlace n a old t → IsPlace n a (within (Some w) old) t
  unfolding IsPlace
  place_in p = (p.0, clear_in p.1)

  narrow_place : (counted : ℕ) (new : AddressState) (answer : Result Range Error) →
      ByPlace (named n a t) old (λ e. (answer ≡ Err e) × (new ≡ old)) (λ r. AllocatesAt counted old r answer new) →
      ByPlace (named_in w n a t) old (λ e. (answer ≡ Err e) × (new ≡ old)) (λ r. AllocatesAt counted old r answer new)
  unfolding ByPlace IsChosen
  narrow_place counted new answer h =
      ⊎_elim
      (λ u. inl (λ s p. u.0 s (place_anywhere (Some w) n a s old p), u.1))
      (λ u. inr (u.0, (u.1.0, subst (IsPlace n a (within (Some w) old)) (sym u.1.0) (place_in (subst (IsPlace n a old) u.1.0 u.1.1))), u.2))
      h

  pub narrow_grants : (counted : ℕ) (new : AddressState) (answer : Result Range Error) → Grants counted old (named n a t) answer new →
      Grants counted old (named_in w n a t) answer new
  unfolding Grants ByExactPolicy ByStart
  narrow_grants counted new answer h =
      ⊎_elim (λ l. inl l) (λ r. inr (
        r.0,
        ⊎_elim (λ l. inl (λ j. l.0 (omega (arith, j.0), omega (arith, j.1)), l.1)) (λ r. inr (
          (omega (arith, i.0, r.0.0), omega (arith, i.1, r.0.1)),
          ⊎_elim (λ l. inl l) (λ r. inr (
            r.0,
            ⊎_elim (λ l. inl l) (λ r. inr (
              r.0,
              ⊎_elim (λ l. inl (λ c. l.0 (λ x m o. clear_anywhere (Some w) old x (c x m o)), l.1)) (λ r. inr (
                clear_in r.0,
                ⊎_elim (λ l. inl l) (λ r. inr (r.0, narrow_place _ new answer r.1)) r.1,
              )) r.1,
            )) r.1,
          )) r.1,
        )) r.1,
      )) h
