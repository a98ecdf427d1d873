-- The result of a request with the policy ExactMatch.
use Rattle.std.proofs.Common.{◌≡◌, ◌≢◌, ◌↔◌, ℕ, ◌+◌, ◌-◌, ◌<◌, ◌≤◌, arith, inl, inr, ⊎_elim, refl, sym, ap, subst, length, Option, Some, None, is_some, Bool, true, false, Result, Ok, Err}
use Rattle.std.specs.List.{Contains}
use Rattle.vm_ranges.specs.Range.{Range, MAX, IsIn, span}
use Rattle.vm_ranges.specs.Request.{Request, IsRequest}
use Rattle.vm_ranges.specs.Address.{AddressState, IsClear, IsPlace}
use Rattle.vm_ranges.specs.Answer.{IsChosen, ByStart, ByExactPolicy, ByPlace, AllocatesAt, Grants}
use Rattle.vm_ranges.specs.Windows.{within, part_in}
use Rattle.vm_ranges.specs.Making.{MakesSpan}
use Rattle.vm_ranges.specs.declared.error.Error.{Error}
use Rattle.vm_ranges.specs.declared.error.Error.TheVariants.{Overflow, ResourceNotAvailable, InvalidStateTransition, OutOfMemory}
use Rattle.vm_ranges.specs.declared.state.NodeState.TheVariants.{Allocated}
use Rattle.vm_ranges.specs.declared.constraint.AllocPolicy.TheVariants.{ExactMatch}
use Rattle.vm_addresses.specs.Peeks.{Peeks, state_after}
use Rattle.vm_addresses.specs.Checks.Peeking.{Settles}
use Rattle.vm_addresses.specs.Conflicts.{ConflictDecides}
use Rattle.vm_addresses.specs.declared.address_allocator.conflicts.Conflict.{Conflict}
use Rattle.vm_addresses.proofs.Choosing.ExactStart.{aligned_if}
use Rattle.vm_addresses.proofs.Results.Once.{clear_anywhere}
use Rattle.vm_addresses.proofs.Results.Requests.{request_in, with_policy, request_allocates}

-- An error before the place is looked at, or the result of the place.
abbrev Starts : AddressState → Request → ℕ → Result Range Error → Type 0
Starts state request t answer =
    let new : AddressState = state_after answer state in
    ByStart t request.size (within request.window state) (λ e. (answer ≡ Err e) × (new ≡ state))
    (ByPlace (request_in request.window request.size request.align (ExactMatch t)) state (λ e. (answer ≡ Err e) × (new ≡ state))
    (λ r. AllocatesAt (length state.held) state r answer new))

module _ (state : AddressState) (request : Request) (t : ℕ) (valid : IsRequest request) (policy : request.policy ≡ ExactMatch t) where
  peeked : (answer : Result Range Error) → answer ≢ Err OutOfMemory → Starts state request t answer → Peeks state request answer
  unfolding Peeks Grants ByExactPolicy
  peeked answer n h = (
    n,
    request_allocates request state (state_after answer state) answer valid
        (subst (λ (v : Request). Grants (length state.held) state v answer (state_after answer state)) (with_policy request (ExactMatch t) policy) h),
  )

  pub at_max : t ≡ MAX → Peeks state request (Err Overflow)
  unfolding ByStart
  at_max e = peeked (Err Overflow) (λ k. cc k) (inl (e, (refl, refl)))

  outside : (low high : ℕ) → t ≢ MAX → part_in request.window state.space ≡ record { start = low; end = high } → (IsIn (record { start = low; end = high }) t → ⊥) →
      Peeks state request (Err ResourceNotAvailable)
  unfolding ByStart
  outside low high m e out = peeked (Err ResourceNotAvailable) (λ k. cc k)
      (inr (m, inl ((λ i. out (subst (λ (v : Range). IsIn v t) e i)), (refl, refl))))

  pub below : (low high : ℕ) → t ≢ MAX → part_in request.window state.space ≡ record { start = low; end = high } → t < low →
      Peeks state request (Err ResourceNotAvailable)
  below low high m e l = outside low high m e (λ i. omega (arith, i.0, l))

  pub above : (low high : ℕ) → t ≢ MAX → part_in request.window state.space ≡ record { start = low; end = high } → high < t →
      Peeks state request (Err ResourceNotAvailable)
  above low high m e l = outside low high m e (λ i. omega (arith, i.1, l))

  module _ (low high : ℕ) (m : t ≢ MAX) (e : part_in request.window state.space ≡ record { start = low; end = high }) (from : low ≤ t) (upto : t ≤ high) where
    inside : IsIn (part_in request.window state.space) t
    inside = subst (λ (v : Range). IsIn v t) (sym e) (from, upto)

    pub over : MAX < t + request.size - 1 → Peeks state request (Err Overflow)
    unfolding ByStart
    over o = peeked (Err Overflow) (λ k. cc k) (inr (m, inr (inside, inl (o, (refl, refl)))))

    module _ (q : Range) (is : q ≡ span t request.size) (below : t + request.size - 1 ≤ MAX) where
      pub taken : Contains state.held q → Peeks state request (Err (InvalidStateTransition q Allocated))
      unfolding ByStart
      taken c = rw is (peeked (Err (InvalidStateTransition (span t request.size) Allocated)) (λ k. cc k)
          (inr (m, inr (inside, inr ((λ o. omega (arith, o, below)), inl (subst (Contains state.held) is c, (refl, refl)))))))

      module _ (other : Contains state.held q → ⊥) where
        free_range : Contains state.held (span t request.size) → ⊥
        free_range c = other (subst (Contains state.held) (sym is) c)

        pub not_clear : (IsPlace request.size request.align (within request.window state) t → ⊥) → Peeks state request (Err ResourceNotAvailable)
        unfolding ByStart IsPlace
        not_clear none = peeked (Err ResourceNotAvailable) (λ k. cc k)
            (inr (
              m,
              inr (
                inside,
                inr (
                  (λ o. omega (arith, o, below)),
                  inr (
                    free_range,
                    inl ((λ c. none (aligned_if request.align t request.policy policy valid.start, c)), (refl, refl)),
                  ),
                ),
              ),
            ))

        pub settled_exact : (answer : Result Range Error) → IsPlace request.size request.align (within request.window state) t →
            Settles state q answer → Peeks state request answer
        unfolding ByStart ByPlace IsChosen IsPlace Settles
        settled_exact answer place s =
            let end : q.end ≡ t + request.size - 1 = ap (λ (v : Range). v.end) is in
            peeked answer s.0 (inr (
              m,
              inr (
                inside,
                inr (
                  (λ o. omega (arith, o, below)),
                  inr (
                    free_range,
                    inr (
                      place.1,
                      ⊎_elim
                          (λ l. inl (omega (arith, end, l.0), rw l.1 (refl, refl)))
                          (λ r. inr (
                            (λ k. r.0 (omega (arith, end, k))),
                            inr (
                              t,
                              (refl, place),
                              inr (
                                (λ k. r.0 (omega (arith, end, k))),
                                subst (λ (v : Range). AllocatesAt (length state.held) state v answer (state_after answer state)) is r.1,
                              ),
                            ),
                          ))
                          s.1,
                    ),
                  ),
                ),
              ),
            ))

-- The part of the space in the window, by the results of calls.
pub part_is : (w v : Option Range) (sp sq r : Range) → v ≡ w → sq ≡ sp → part_in v sq ≡ r → part_in w sp ≡ r
part_is w v sp sq r e f h = subst (λ (x : Option Range). part_in x sp ≡ r) e (subst (λ (x : Range). part_in v x ≡ r) f h)

-- The range of a length.
pub span_failed : (t n : ℕ) (e : Error) → 0 < n → MakesSpan t n (Err e) → MAX < t + n - 1
span_failed t n e z h =
    ⊎_elim (λ l. absurd (omega (arith, l.0, z))) (λ r. ⊎_elim (λ l. l.0) (λ k. absurd (cc (k.1))) r.1) h

pub span_made : (t n : ℕ) (q : Range) → MakesSpan t n (Ok q) → (q ≡ span t n) × (t + n - 1 ≤ MAX)
span_made t n q h =
    ⊎_elim (λ l. absurd (cc (l.1))) (λ r. ⊎_elim (λ l. absurd (cc (l.1))) (λ k. (cc (k.1), omega (arith, k.0))) r.1) h

-- The test of a conflict.
pub some_if : (o : Option Conflict) (b : Bool) → b ≡ is_some o → b ≡ true → o ≢ None
some_if None b e t n = cc (e, t)
some_if (Some x) b e t n = cc n

pub none_if : (o : Option Conflict) (b : Bool) → b ≡ is_some o → b ≡ false → o ≡ None
none_if None b e f = refl
none_if (Some x) b e f = absurd (cc (e, f))

-- A conflict decides about the place.
pub free_place : (state : AddressState) (request : Request) (t : ℕ) (answer : Option Conflict) → request.policy ≡ ExactMatch t →
    ConflictDecides state request answer → answer ≡ None → IsPlace request.size request.align (within request.window state) t
unfolding ConflictDecides
free_place state request t answer policy d n =
    let k : (answer ≡ None) ↔ IsPlace request.size request.align (within request.window state) t = rw policy at d in k.0 n

pub in_the_way : (state : AddressState) (request : Request) (t : ℕ) (answer : Option Conflict) → request.policy ≡ ExactMatch t →
    ConflictDecides state request answer → answer ≢ None → ¬ IsPlace request.size request.align (within request.window state) t
unfolding ConflictDecides
in_the_way state request t answer policy d n p =
    let k : (answer ≡ None) ↔ IsPlace request.size request.align (within request.window state) t = rw policy at d in n (k.1 p)

-- A place without a conflict has clear addresses.
pub place_clear : (state : AddressState) (request : Request) (t x : ℕ) (q : Range) → 0 < request.size → q ≡ span t request.size →
    IsPlace request.size request.align (within request.window state) t → IsIn q x → IsClear state x
unfolding IsPlace
place_clear state request t x q z is p i =
    let start : q.start ≡ t = ap (λ (v : Range). v.start) is in
    let end : q.end ≡ t + request.size - 1 = ap (λ (v : Range). v.end) is in
    clear_anywhere request.window state x (p.1 x (omega (arith, start, i.0)) (omega (arith, end, i.1, z)))

pub ruleset exact = (at_max, below, above, over, taken, not_clear, settled_exact)
