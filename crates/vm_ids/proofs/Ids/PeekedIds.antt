-- The id that a request would allocate.
use Rattle.std.proofs.Common.{◌≡◌, ℕ, ◌<◌, ◌≤◌, ◌⊎◌, ◌↔◌, refl, sym, ap, ◌∙◌, arith, inl, inr, ⊎_elim, Result, Ok, Err, IfOk}
use Rattle.vm_ids.specs.Ids.{IdState, IsOfRange, IsHeld, IsNotHeld, IsLowestNotHeld, ByLowestNotHeld, AllocatesId, PeeksId, holding_id, releasing_id}
use Rattle.vm_ids.specs.IdRequests.{Peeks, HoldsId, AllocatesPeeked, AllocatesExactId, IsLowestNotHeldIn, IsNoneNotHeldIn}
use Rattle.vm_ids.specs.Facts.{AllocatesFor}
use Rattle.vm_ids.specs.declared.id_request.IdRequest.{IdRequest}
use Rattle.vm_ids.specs.declared.id_request.IdRequest.TheVariants.{Lowest, LowestIn, Exact}
use Rattle.vm_ranges.specs.declared.error.Error.{Error}
use Rattle.vm_ranges.specs.declared.error.Error.TheVariants.{InvalidRange, OutOfRange, ResourceNotAvailable, OutOfMemory}
use Rattle.vm_ids.proofs.Ids.IdSets.{tests}
use Rattle.vm_ids.proofs.Ids.IdResults.{by_same_lowest}

module _ (state : IdState) where
  -- ---- The cases
  pub peeks_lowest : (answer : Result ℕ Error) → PeeksId state answer → Peeks state Lowest answer
  unfolding Peeks
  peeks_lowest answer p = p

  module _ (first last : ℕ) where
    pub peeks_invalid : last < first → Peeks state (LowestIn first last) (Err (InvalidRange first last))
    unfolding Peeks
    peeks_invalid l = inl (l, refl)

    pub peeks_none : first ≤ last → IsNoneNotHeldIn first last state → Peeks state (LowestIn first last) (Err ResourceNotAvailable)
    unfolding Peeks
    peeks_none l none = inr (λ h. omega arith, inl (none, refl))

    pub peeks_found : (i : ℕ) → first ≤ last → IsLowestNotHeldIn first last state i → Peeks state (LowestIn first last) (Ok i)
    unfolding Peeks
    peeks_found i l f = inr (λ h. omega arith, inr (i, f, refl))

  module _ (id : ℕ) where
    pub peeks_outside : ¬ IsOfRange state id → Peeks state (Exact id) (Err (OutOfRange id))
    unfolding Peeks
    peeks_outside n = inl (n, refl)

    pub peeks_held : IsOfRange state id → IsHeld state id → Peeks state (Exact id) (Err ResourceNotAvailable)
    unfolding Peeks
    peeks_held o h = inr (o, inl (h, refl))

    pub peeks_free : IsOfRange state id → ¬ IsHeld state id → Peeks state (Exact id) (Ok id)
    unfolding Peeks
    peeks_free o n = inr (o, inr (n, refl))

  -- An id that is returned is in the range and not held.
  pub peeked_not_held : (request : IdRequest) (answer : Result ℕ Error) → Peeks state request answer → IfOk answer (λ i. IsNotHeld state i)
  unfolding Peeks PeeksId ByLowestNotHeld IsLowestNotHeld IsLowestNotHeldIn
  peeked_not_held Lowest answer p = grind arith
  peeked_not_held (LowestIn first last) answer p = grind arith
  peeked_not_held (Exact id) answer p = grind arith

pub ruleset in_window = (peeks_invalid, peeks_none, peeks_found)

pub ruleset given = (peeks_outside, peeks_held, peeks_free)

pub ruleset peeks = (peeks_lowest, peeked_not_held)

-- The id of a request for the lowest one is the lowest that is not held.
pub lowest_peeked : (state : IdState) (id : ℕ) → Peeks state Lowest (Ok id) → IsLowestNotHeld state id
unfolding Peeks PeeksId ByLowestNotHeld
lowest_peeked state id p = grind arith

-- An id that is in the range and not held is allocated, unless memory runs out.
pub allocated_or_memory : (old new : IdState) (id : ℕ) (e : Error) → IsNotHeld old id → AllocatesExactId old id (Err e) new → e ≡ OutOfMemory
unfolding AllocatesPeeked Peeks HoldsId
allocated_or_memory old new id e n h = grind arith

-- ---- One result
one_lowest_in : (state : IdState) (first last i j : ℕ) → IsLowestNotHeldIn first last state i → IsLowestNotHeldIn first last state j → i ≡ j
unfolding IsLowestNotHeldIn
one_lowest_in state first last i j a b = let up = a.1 j b.0 in let down = b.1 i a.0 in omega (arith, up, down)

-- A request has one result.
pub peeks_once : (state : IdState) (request : IdRequest) (answer other : Result ℕ Error) → Peeks state request answer →
    Peeks state request other → answer ≡ other
unfolding Peeks PeeksId IsNoneNotHeldIn IsLowestNotHeldIn
peeks_once state Lowest answer other a b =
    by_same_lowest state _ _ _ _ (answer ≡ other) a b (λ i x y. x ∙ sym y) (λ e x y. x ∙ sym y)
peeks_once state (LowestIn first last) answer other (inl a) (inl b) = a.1 ∙ sym b.1
peeks_once state (LowestIn first last) answer other (inl a) (inr b) = absurd (b.0 a.0)
peeks_once state (LowestIn first last) answer other (inr a) (inl b) = absurd (a.0 b.0)
peeks_once state (LowestIn first last) answer other (inr (l, inl a)) (inr (m, inl b)) = a.1 ∙ sym b.1
peeks_once state (LowestIn first last) answer other (inr (l, inl a)) (inr (m, inr b)) = absurd (a.0 b.0 b.1.0)
peeks_once state (LowestIn first last) answer other (inr (l, inr a)) (inr (m, inl b)) = absurd (b.0 a.0 a.1.0)
peeks_once state (LowestIn first last) answer other (inr (l, inr a)) (inr (m, inr b)) =
    a.2 ∙ ap (λ (i : ℕ). Ok i) (one_lowest_in state first last a.0 b.0 a.1 b.1) ∙ sym b.2
peeks_once state (Exact id) answer other a b = grind arith

-- The result of the call is the one that was peeked, unless memory runs out.
peeked_or_memory : (old new : IdState) (request : IdRequest) (answer : Result ℕ Error) → AllocatesPeeked old request answer new →
    Peeks old request answer ⊎ (answer ≡ Err OutOfMemory)
unfolding AllocatesPeeked HoldsId
peeked_or_memory old new request answer (inl (i, p, inl h)) = inl (rw h.0 p)
peeked_or_memory old new request answer (inl (i, p, inr h)) = inr h.1
peeked_or_memory old new request answer (inr (e, p, is, same)) = inl (rw is p)

as_peeked : (old new : IdState) (request : IdRequest) (answer : Result ℕ Error) → AllocatesFor old request answer new →
    Peeks old request answer ⊎ (answer ≡ Err OutOfMemory)
unfolding Peeks PeeksId AllocatesId ByLowestNotHeld
as_peeked old new Lowest answer a = grind arith
as_peeked old new (LowestIn first last) answer a = peeked_or_memory old new (LowestIn first last) answer a
as_peeked old new (Exact id) answer a = peeked_or_memory old new (Exact id) answer a

pub peeked_is_allocated : (old new : IdState) (request : IdRequest) (peeked answer : Result ℕ Error) → Peeks old request peeked →
    AllocatesFor old request answer new → (answer ≡ peeked) ⊎ (answer ≡ Err OutOfMemory)
peeked_is_allocated old new request peeked answer p a =
    ⊎_elim (λ same. inl (peeks_once old request answer peeked same p)) (λ memory. inr memory) (as_peeked old new request answer a)

pub ruleset predicts = (peeked_is_allocated)

-- ---- An id that was allocated and freed
module _ (state : IdState) (id : ℕ) (free : IsNotHeld state id) where
  -- The same ids are held as before.
  same_held : (q : ℕ) → IsHeld (releasing_id id (holding_id id state)) q ↔ IsHeld state q
  same_held q = (λ h. grind (arith, tests, free, h), λ h. grind (arith, tests, free, h))

  same_free : (q : ℕ) → IsNotHeld (releasing_id id (holding_id id state)) q ↔ IsNotHeld state q
  same_free q = (λ h. (h.0, λ k. h.1 ((same_held q).1 k)), λ h. (h.0, λ k. h.1 ((same_held q).0 k)))

  -- The same request returns it again.
  same_peeked : (request : IdRequest) → Peeks state request (Ok id) → Peeks (releasing_id id (holding_id id state)) request (Ok id)
  unfolding Peeks PeeksId ByLowestNotHeld IsLowestNotHeld IsLowestNotHeldIn
  same_peeked Lowest p = let l = lowest_peeked state id p in inl (id, ((same_free id).1 l.0, λ j n. l.1 j ((same_free j).0 n)), refl)
  same_peeked (LowestIn first last) (inl (l, e)) = absurd (cc e)
  same_peeked (LowestIn first last) (inr (l, inl (none, e))) = absurd (cc e)
  same_peeked (LowestIn first last) (inr (l, inr (i, ((a, b, n), low), e))) =
      inr (l, inr (i, ((a, b, (same_free i).1 n), λ j (c, d, m). low j (c, d, (same_free j).0 m)), e))
  same_peeked (Exact i) (inl (o, e)) = absurd (cc e)
  same_peeked (Exact i) (inr (o, inl (h, e))) = absurd (cc e)
  same_peeked (Exact i) (inr (o, inr (n, e))) = inr (o, inr (λ k. n ((same_held i).0 k), e))

pub peeked_again : (state : IdState) (request : IdRequest) (id : ℕ) → Peeks state request (Ok id) →
    Peeks (releasing_id id (holding_id id state)) request (Ok id)
peeked_again state request id p = same_peeked state id (peeked_not_held state request (Ok id) p) request p
