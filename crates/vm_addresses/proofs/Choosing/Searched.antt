-- The results of requests with the policy FirstMatch or LastMatch.
use Rattle.std.proofs.Common.{Option, ◌≡◌, ℕ, ◌+◌, ◌-◌, ◌<◌, refl, arith, inl, inr, ◌⊎◌, ⊎_elim, subst, Result, Err}
use Rattle.vm_ranges.specs.Range.{Range, MAX, span}
use Rattle.vm_ranges.specs.Request.{Request}
use Rattle.vm_ranges.specs.declared.error.Error.TheVariants.{Overflow, ResourceNotAvailable}
use Rattle.vm_ranges.specs.declared.error.Error.{Error}
use Rattle.vm_ranges.specs.declared.constraint.AllocPolicy.{AllocPolicy}
use Rattle.vm_ranges.specs.declared.constraint.AllocPolicy.TheVariants.{FirstMatch, LastMatch, ExactMatch}
use Rattle.vm_ranges.specs.Address.{AddressState, IsPlace, IsLowestPlace, IsHighestPlace}
use Rattle.vm_ranges.specs.Answer.{IsChosen, ByExactPolicy, ByPlace, AllocatesAt, Grants}
use Rattle.vm_ranges.specs.Windows.{within}
use Rattle.vm_addresses.proofs.Results.Requests.{request_in, with_policy}

-- ---- Requests with the policy FirstMatch or LastMatch
abbrev pub IsNotExact : AllocPolicy → Type 0
IsNotExact policy = (policy ≡ FirstMatch) ⊎ (policy ≡ LastMatch)

-- Their result depends only on the places.
grants_by : (counted : ℕ) (policy : AllocPolicy) (w : Option Range) (n a : ℕ) (old new : AddressState) (answer : Result Range Error) → IsNotExact policy →
    ByPlace (request_in w n a policy) old (λ e. (answer ≡ Err e) × (new ≡ old)) (λ r. AllocatesAt counted old r answer new) →
    Grants counted old (request_in w n a policy) answer new
unfolding Grants ByExactPolicy
grants_by counted FirstMatch w n a old new answer p h = h
grants_by counted LastMatch w n a old new answer p h = h
grants_by counted (ExactMatch t) w n a old new answer p h = absurd (⊎_elim (λ e. cc e) (λ e. cc e) p)

-- A request with a known policy.
module _ (request : Request) (old : AddressState) (searched : IsNotExact request.policy) where
  places_grant : (counted : ℕ) (new : AddressState) (answer : Result Range Error) →
      ByPlace request old (λ e. (answer ≡ Err e) × (new ≡ old)) (λ r. AllocatesAt counted old r answer new) → Grants counted old request answer new
  places_grant counted new answer = grants_by _ request.policy request.window request.size request.align old new answer searched

  pub none_grants : (counted : ℕ) → ((s : ℕ) → ¬ IsPlace request.size request.align (within request.window old) s) →
      Grants counted old request (Err ResourceNotAvailable) old
  unfolding ByPlace
  none_grants counted none = places_grant _ old (Err ResourceNotAvailable) (inl (none, (refl, refl)))

  pub chosen_grants : (counted : ℕ) (t : ℕ) (new : AddressState) (answer : Result Range Error) → IsChosen request old t → t + request.size - 1 < MAX →
      AllocatesAt counted old (span t request.size) answer new → Grants counted old request answer new
  unfolding ByPlace
  chosen_grants counted t new answer c l h = places_grant _ new answer (inr (t, c, inr (λ e. omega arith, h)))

  pub over_grants : (counted : ℕ) (t : ℕ) → IsChosen request old t → t + request.size - 1 ≡ MAX → Grants counted old request (Err Overflow) old
  unfolding ByPlace
  over_grants counted t c e = places_grant _ old (Err Overflow) (inr (t, c, inl (e, (refl, refl))))

-- ---- The chosen place
pub lowest_chosen : (request : Request) (t : ℕ) (state : AddressState) → request.policy ≡ FirstMatch →
    IsLowestPlace request.size request.align (within request.window state) t → IsChosen request state t
unfolding IsChosen
lowest_chosen request t state e l = subst (λ (v : Request). IsChosen v state t) (with_policy request FirstMatch e) l

pub highest_chosen : (request : Request) (t : ℕ) (state : AddressState) → request.policy ≡ LastMatch →
    IsHighestPlace request.size request.align (within request.window state) t → IsChosen request state t
unfolding IsChosen
highest_chosen request t state e l = subst (λ (v : Request). IsChosen v state t) (with_policy request LastMatch e) l
