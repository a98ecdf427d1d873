-- A request fails, or the range at the chosen place is allocated.
use Rattle.std.proofs.Common.{◌≡◌, ℕ, ◌+◌, ◌-◌, arith, inl, inr, ◌⊎◌, ⊎_elim, Option, Result, Ok, Err, length}
use Rattle.vm_ranges.specs.Range.{Range, MAX, span}
use Rattle.vm_ranges.specs.Address.{AddressState, holding}
use Rattle.vm_ranges.specs.Request.{Request, IsRequest, ByConstraint}
use Rattle.vm_ranges.specs.Windows.{within}
use Rattle.vm_addresses.proofs.Results.Requests.{request_in}
use Rattle.vm_ranges.specs.Answer.{IsChosen, ByStart, ByExactPolicy, ByPlace, AllocatesAt, Grants, AllocatesOf, Allocates}
use Rattle.vm_ranges.specs.declared.error.Error.{Error}
use Rattle.vm_ranges.specs.declared.error.Error.TheVariants.{Overflow, ResourceNotAvailable, OutOfMemory}
use Rattle.vm_ranges.specs.declared.constraint.AllocPolicy.{AllocPolicy}
use Rattle.vm_ranges.specs.declared.constraint.AllocPolicy.TheVariants.{FirstMatch, LastMatch, ExactMatch}

-- The result is an error, and nothing changes.
abbrev pub IsRefused : AddressState → Result Range Error → AddressState → Type 0
IsRefused old answer new = (e : Error) × (answer ≡ Err e) × (new ≡ old)

-- The range r is allocated.
abbrev pub IsGiven : AddressState → Range → Result Range Error → AddressState → Type 0
IsGiven old r answer new = (answer ≡ Ok r) × (new ≡ holding r old)

pub given_or_refused : (counted : ℕ) (old : AddressState) (r : Range) (answer : Result Range Error) (new : AddressState) → AllocatesAt counted old r answer new →
    IsGiven old r answer new ⊎ IsRefused old answer new
unfolding AllocatesAt
given_or_refused counted old r answer new (inl fills) = inl fills.1
given_or_refused counted old r answer new (inr (splits, inl many)) = inr (Overflow, many.1.0, many.1.1)
given_or_refused counted old r answer new (inr (splits, inr (few, inl given))) = inl given
given_or_refused counted old r answer new (inr (splits, inr (few, inr memory))) = inr (OutOfMemory, memory.0, memory.1)

pub given_is : (counted : ℕ) (old : AddressState) (r p : Range) (new : AddressState) → AllocatesAt counted old r (Ok p) new → p ≡ r
given_is counted old r p new h = ⊎_elim (λ l. cc (l.0)) (λ k. absurd (cc (k.1))) (given_or_refused _ old r (Ok p) new h)

-- The range at the chosen place is allocated, and does not end at MAX.
abbrev pub IsTaken : ℕ → Request → AddressState → Result Range Error → AddressState → Type 0
IsTaken counted request old answer new =
    (s : ℕ) × IsChosen request old s × ¬ (s + request.size - 1 ≡ MAX) × AllocatesAt counted old (span s request.size) answer new

-- A result, with the state after it.
module _ (old new : AddressState) (answer : Result Range Error) where
  -- A test before the rest: an error, or the outcome of the rest.
  or_rest : (C D Q G : Type 0) (e : Error) → (D → Q → IsRefused old answer new ⊎ G) → (C × ((answer ≡ Err e) × (new ≡ old))) ⊎ (D × Q) →
      IsRefused old answer new ⊎ G
  or_rest C D Q G e f h = ⊎_elim (λ l. inl (e, l.1.0, l.1.1)) (λ r. f r.0 r.1) h

  place_outcome : (counted : ℕ) (request : Request) → ByPlace request old (λ e. (answer ≡ Err e) × (new ≡ old)) (λ r. AllocatesAt counted old r answer new) →
      IsRefused old answer new ⊎ IsTaken counted request old answer new
  unfolding ByPlace
  place_outcome counted request h =
      ⊎_elim
      (λ l. inl (ResourceNotAvailable, l.1.0, l.1.1))
      (λ r. or_rest _ _ _ (IsTaken counted request old answer new) Overflow (λ d t. inr (r.0, r.1, d, t)) r.2)
      h

  start_outcome : (t n : ℕ) (view : AddressState) (P G : Type 0) → (P → IsRefused old answer new ⊎ G) →
      ByStart t n view (λ e. (answer ≡ Err e) × (new ≡ old)) P → IsRefused old answer new ⊎ G
  unfolding ByStart
  start_outcome t n view P G rest h =
      or_rest _ _ _ G _
      (λ d. or_rest _ _ _ G _
      (λ d. or_rest _ _ _ G _
      (λ d. or_rest _ _ _ G _
      (λ d. or_rest _ _ _ G _
      (λ d. or_rest _ _ _ G _
      (λ d. rest)))))) h

  outcome_by : (counted : ℕ) (policy : AllocPolicy) (w : Option Range) (n a : ℕ) → Grants counted old (request_in w n a policy) answer new →
      IsRefused old answer new ⊎ IsTaken counted (request_in w n a policy) old answer new
  unfolding Grants ByExactPolicy
  outcome_by counted FirstMatch w n a h = place_outcome _ (request_in w n a FirstMatch) h
  outcome_by counted LastMatch w n a h = place_outcome _ (request_in w n a LastMatch) h
  outcome_by counted (ExactMatch t) w n a h =
      let request = request_in w n a (ExactMatch t) in start_outcome t n (within w old) _ (IsTaken counted request old answer new)
      (place_outcome _ request) h

  pub grants_outcome : (counted : ℕ) (request : Request) → Grants counted old request answer new → IsRefused old answer new ⊎ IsTaken counted request old answer new
  grants_outcome counted request = outcome_by _ request.policy request.window request.size request.align

  pub outcome_of : (counted : ℕ) (request : Request) → AllocatesOf counted old request answer new →
      IsRefused old answer new ⊎ (IsRequest request × IsTaken counted request old answer new)
  unfolding ByConstraint
  outcome_of counted request h =
      let G : Type 0 = IsRequest request × IsTaken counted request old answer new in
      or_rest _ _ _ G _
      (λ some. or_rest _ _ _ G _
      (λ aligned. or_rest _ _ _ G _
      (λ start q.
      ⊎_elim
      (λ l. inl l)
      (λ t. inr (record { some = omega (arith, some); aligned = aligned; start = start }, t))
      (grants_outcome counted request q)))) h

  pub allocates_outcome : (request : Request) → Allocates old request answer new →
      IsRefused old answer new ⊎ (IsRequest request × IsTaken (length old.held) request old answer new)
  unfolding Allocates
  allocates_outcome request h = outcome_of (length old.held) request h
