-- Requests and their constraints.
use Rattle.std.proofs.Common.{◌≡◌, ℕ, ◌^◌, ◌<◌, true, false, refl, arith, inl, inr, Ok, Err, ⊎_elim}
use Rattle.std.specs.Int.{is_power_of_two}
use Rattle.vm_ranges.specs.Request.{Request, request_for, IsRequest, IsStartAligned, ByConstraint, MakesConstraint}
use Rattle.vm_ranges.specs.declared.error.Error.{Error}
use Rattle.vm_ranges.specs.declared.error.Error.TheVariants.{InvalidSize, InvalidAlignment, UnalignedAddress}
use Rattle.vm_ranges.specs.declared.constraint.AllocPolicy.{AllocPolicy}
use Rattle.vm_ranges.proofs.Power.{alignment_if_true, no_alignment_if_false}

-- A request for 0 addresses is InvalidSize.
pub constrains_size : (request : Request) → request.size ≡ 0 → MakesConstraint request (Err (InvalidSize 0))
unfolding MakesConstraint ByConstraint
constrains_size request e = inl (e, refl)

-- A request whose alignment is no power of two is InvalidAlignment.
pub constrains_alignment : (request : Request) → 0 < request.size → is_power_of_two request.align ≡ false →
    MakesConstraint request (Err InvalidAlignment)
unfolding MakesConstraint ByConstraint
constrains_alignment request z e = inr (λ e. omega arith, inl (no_alignment_if_false request.align e, refl))

-- A request for an exact start that is not aligned is UnalignedAddress.
pub constrains_start : (request : Request) → 0 < request.size → request.align < 2 ^ 64 → is_power_of_two request.align ≡ true →
    ¬ IsStartAligned request.align request.policy → MakesConstraint request (Err UnalignedAddress)
unfolding MakesConstraint ByConstraint
constrains_start request z l e u = inr (λ e. omega arith, inr (alignment_if_true request.align l e, inl (u, refl)))

-- Every other request makes its constraint.
pub constrains_given : (request : Request) → 0 < request.size → request.align < 2 ^ 64 → is_power_of_two request.align ≡ true →
    IsStartAligned request.align request.policy → MakesConstraint request (Ok request)
unfolding MakesConstraint ByConstraint
constrains_given request z l e u = inr (λ e. omega arith, inr (alignment_if_true request.align l e, inr (u, refl)))

-- A request that passes each test is valid.
pub is_valid_request : (size align : ℕ) (policy : AllocPolicy) → 0 < size → align < 2 ^ 64 → is_power_of_two align ≡ true →
    IsStartAligned align policy → IsRequest (request_for size align policy)
is_valid_request size align policy z l e u = record { some = z; aligned = alignment_if_true align l e; start = u }

pub ruleset constrains = (constrains_size, constrains_alignment, constrains_start, constrains_given, is_valid_request)

-- The constraint that is made has the fields of the request, and the request is valid.
pub constraint_made : (request k : Request) → MakesConstraint request (Ok k) → (k ≡ request) × IsRequest request
unfolding MakesConstraint ByConstraint
constraint_made request k (inl z) = absurd (cc (z.1))
constraint_made request k (inr (some, inl z)) = absurd (cc (z.1))
constraint_made request k (inr (some, inr (aligned, inl z))) = absurd (cc (z.1))
constraint_made request k (inr (some, inr (aligned, inr (start, made)))) =
    (cc (made), record { some = omega (arith, some); aligned = aligned; start = start })

-- A fact that follows from the fact of each case of a request.
pub constraint_map : (request : Request) (P Q : Error → Type 0) (R S : Type 0) → ((e : Error) → P e → Q e) → (R → S) →
    ByConstraint request P R → ByConstraint request Q S
unfolding ByConstraint
constraint_map request P Q R S f g h =
    ⊎_elim (λ l. inl (l.0, f _ l.1)) (λ r. inr (
      r.0,
      ⊎_elim (λ l. inl (l.0, f _ l.1)) (λ r. inr (
        r.0,
        ⊎_elim (λ l. inl (l.0, f _ l.1)) (λ r. inr (r.0, g r.1)) r.1,
      )) r.1,
    )) h
