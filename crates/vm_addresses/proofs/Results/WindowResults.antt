-- Requests with a window beside the same requests without a window.
use Rattle.std.proofs.Common.{◌≡◌, ℕ, ◌+◌, ◌-◌, ◌<◌, ◌≤◌, ◌⊎◌, Option, Some, None, refl, sym, ap, arith, inr, ⊎_elim, subst, Result, Ok, Err, length, ◌↔◌}
use Rattle.vm_ranges.specs.Cases.{IfElse}
use Rattle.vm_ranges.specs.Range.{Range, MAX, Covers, span}
use Rattle.vm_ranges.specs.Request.{Request, ByConstraint}
use Rattle.vm_ranges.specs.Windows.{common, within}
use Rattle.vm_ranges.specs.Address.{AddressState, IsPlace, IsLowestPlace, IsHighestPlace}
use Rattle.vm_ranges.specs.Answer.{IsChosen, ByStart, ByExactPolicy, ByPlace, AllocatesAt, Grants, Allocates}
use Rattle.vm_addresses.specs.Facts.{in_window, anywhere}
use Rattle.vm_ranges.specs.declared.error.Error.{Error}
use Rattle.vm_ranges.specs.declared.error.Error.TheVariants.{Overflow, ResourceNotAvailable}
use Rattle.vm_ranges.specs.declared.constraint.AllocPolicy.{AllocPolicy}
use Rattle.vm_ranges.specs.declared.constraint.AllocPolicy.TheVariants.{FirstMatch, LastMatch, ExactMatch}
use Rattle.vm_ranges.proofs.Requests.{constraint_map}
use Rattle.vm_ranges.proofs.RangeCalls.{same_range}
use Rattle.vm_addresses.proofs.Results.Once.{place_anywhere}
use Rattle.vm_addresses.proofs.Results.Outcomes.{given_is}
use Rattle.vm_addresses.proofs.Results.Requests.{request_in}
use Rattle.vm_addresses.proofs.Choosing.WindowPlaces.{LiesIn, place_lying}
use Rattle.vm_addresses.proofs.Choosing.ExactWindows.{narrow_grants}
use Rattle.vm_addresses.proofs.Callers.{given, lies_in_window}

pub inside : (old new : AddressState) (request : Request) (window r : Range) →
    Allocates old (in_window window request) (Ok r) new → Covers window r
inside old new request w r h = lies_in_window old new (in_window w request) w r refl h

-- ---- A window that contains the space
same_space : (w : Range) (old : AddressState) → w.start ≤ old.space.start → old.space.end ≤ w.end → within (Some w) old ≡ old
same_space w old p q =
    ap (λ (v : Range). record old { space = v }) (same_range (common w old.space) old.space (omega (arith, p)) (omega (arith, q)))

-- The result of a request that sees the state as the view.
module _ (counted : ℕ) (old new : AddressState) (answer : Result Range Error) (n a : ℕ) where
  abbrev AsChosen : (AddressState → ℕ → Type 0) → AddressState → Type 0
  AsChosen chosen view =
      (((s : ℕ) → ¬ IsPlace n a view s) × ((answer ≡ Err ResourceNotAvailable) × (new ≡ old)))
      ⊎ ((s : ℕ) × chosen view s × IfElse (s + n - 1 ≡ MAX) ((answer ≡ Err Overflow) × (new ≡ old)) (AllocatesAt counted old (span s n) answer new))

  same_view : (policy : AllocPolicy) (u v : Option Range) → within u old ≡ within v old → Grants counted old (request_in u n a policy) answer new →
      Grants counted old (request_in v n a policy) answer new
  unfolding Grants ByExactPolicy ByPlace IsChosen
  same_view FirstMatch u v e h = subst (AsChosen (λ view s. IsLowestPlace n a view s)) e h
  same_view LastMatch u v e h = subst (AsChosen (λ view s. IsHighestPlace n a view s)) e h
  same_view (ExactMatch t) u v e h =
      subst (λ (view : AddressState). ByStart t n view (λ x. (answer ≡ Err x) × (new ≡ old))
      (AsChosen (λ view s. (s ≡ t) × IsPlace n a view s) view)) e h

-- A request with another window, by its results if it is valid.
other_window : (old new : AddressState) (answer : Result Range Error) (request : Request) (u v : Option Range)
    → (Grants (length old.held) old (request_in u request.size request.align request.policy) answer new →
    Grants (length old.held) old (request_in v request.size request.align request.policy) answer new)
    → Allocates old (request_in u request.size request.align request.policy) answer new →
    Allocates old (request_in v request.size request.align request.policy) answer new
unfolding Allocates ByConstraint
other_window old new answer request u v f h =
    let refused : Error → Type 0 = λ e. (answer ≡ Err e) × (new ≡ old) in
    constraint_map (request_in u request.size request.align request.policy) refused refused _ _ (λ e k. k) f h

pub whole_window : (old new : AddressState) (request : Request) (window : Range) (answer : Result Range Error) →
    window.start ≤ old.space.start → old.space.end ≤ window.end →
    Allocates old (in_window window request) answer new ↔ Allocates old (anywhere request) answer new
whole_window old new request w answer p q =
    let e = same_space w old p q in (
      other_window old new answer request (Some w) None
          (same_view (length old.held) old new answer request.size request.align request.policy (Some w) None e),
      other_window old new answer request None (Some w)
          (same_view (length old.held) old new answer request.size request.align request.policy None (Some w) (sym e)),
    )

-- ---- A range that lies in the window
pub covered : (w : Range) (n s : ℕ) → 0 < n → Covers w (span s n) → LiesIn w n s
unfolding Covers
covered w n s z c =
    let first = c s (omega arith, omega arith) in
    let last = c (s + n - 1) (omega arith, omega arith) in
    (first.0, omega (arith, last.1))

module _ (w : Range) (n a : ℕ) (old new : AddressState) (r : Range) (z : 0 < n) (c : Covers w r) where
  lies : (s : ℕ) → r ≡ span s n → LiesIn w n s
  lies s e = covered w n s z (subst (Covers w) e c)

  kept_place : (counted : ℕ) (policy : AllocPolicy) →
      ((s : ℕ) → LiesIn w n s → IsChosen (request_in None n a policy) old s → IsChosen (request_in (Some w) n a policy) old s)
      → ByPlace (request_in None n a policy) old (λ e. (Ok r ≡ Err e) × (new ≡ old)) (λ p. AllocatesAt counted old p (Ok r) new) →
      ByPlace (request_in (Some w) n a policy) old (λ e. (Ok r ≡ Err e) × (new ≡ old)) (λ p. AllocatesAt counted old p (Ok r) new)
  unfolding ByPlace
  kept_place counted policy f h =
      ⊎_elim
      (λ l. absurd (cc (l.1.0)))
      (λ k.
      ⊎_elim
      (λ o. absurd (cc (o.1.0)))
      (λ o. inr (k.0, f k.0 (lies k.0 (given_is _ old (span k.0 n) r new o.1)) k.1, inr o))
      k.2)
      h

  kept : (counted : ℕ) (policy : AllocPolicy) → IsChosen (request_in None n a policy) old r.start → r ≡ span r.start n →
      Grants counted old (request_in None n a policy) (Ok r) new → Grants counted old (request_in (Some w) n a policy) (Ok r) new
  unfolding Grants ByExactPolicy IsChosen IsLowestPlace IsHighestPlace
  kept counted FirstMatch chosen long h = kept_place _ FirstMatch
      (λ s i l. (place_lying w n a old z s i l.0, λ t p. l.1 t (place_anywhere (Some w) n a t old p))) h
  kept counted LastMatch chosen long h = kept_place _ LastMatch
      (λ s i l. (place_lying w n a old z s i l.0, λ t p. l.1 t (place_anywhere (Some w) n a t old p))) h
  kept counted (ExactMatch t) chosen long h =
      let i = lies r.start long in
      narrow_grants w n a t old z (omega (arith, i.0, chosen.0), omega (arith, i.1, chosen.0)) (λ clear. omega (arith, i.1, chosen.0)) _ new
      (Ok r) h

pub kept_in_window : (old new : AddressState) (request : Request) (window r : Range) →
    Allocates old (anywhere request) (Ok r) new → Covers window r → Allocates old (in_window window request) (Ok r) new
kept_in_window old new request w r h c =
    let g = given old new (anywhere request) r h in
    other_window old new (Ok r) request None (Some w)
    (λ k. kept w request.size request.align old new r g.some c _ request.policy g.chosen g.long k) h

pub ruleset windows = (inside, whole_window, kept_in_window)
