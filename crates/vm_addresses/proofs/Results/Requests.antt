-- From the constraint of a request to its result.
use Rattle.std.proofs.Common.{◌≡◌, ℕ, Option, refl, sym, ap, arith, inr, Result, Ok, Err, subst, length}
use Rattle.vm_ranges.specs.Range.{Range}
use Rattle.vm_ranges.specs.Request.{Request, IsRequest, ByConstraint, MakesConstraint}
use Rattle.vm_ranges.specs.declared.error.Error.{Error}
use Rattle.vm_ranges.specs.declared.constraint.AllocPolicy.{AllocPolicy}
use Rattle.vm_ranges.proofs.Requests.{constraint_made, constraint_map}
use Rattle.vm_ranges.specs.Address.{AddressState}
use Rattle.vm_ranges.specs.Answer.{Grants, AllocatesOf, Allocates}

-- The request with its policy and its window written out.
abbrev pub request_in : Option Range → ℕ → ℕ → AllocPolicy → Request
request_in window size align policy = record { size = size; align = align; policy = policy; window = window }

pub with_policy : (request : Request) (policy : AllocPolicy) → request.policy ≡ policy →
    request_in request.window request.size request.align policy ≡ request
with_policy request policy e = ap (request_in request.window request.size request.align) (sym e)

-- A request that makes no constraint fails with the same error.
pub allocates_refused : (old : AddressState) (request : Request) (x : Error) → MakesConstraint request (Err x) →
    Allocates old request (Err x) old
unfolding MakesConstraint Allocates
allocates_refused old request x h =
    let made : Result Request Error = Err x in
    let answer : Result Range Error = Err x in
    constraint_map request (λ e. made ≡ Err e) (λ e. (answer ≡ Err e) × (old ≡ old)) (made ≡ Ok request) (Grants (length old.held) old request (Err x) old)
    (λ e k. let same : x ≡ e = cc in (ap (λ (v : Error). Err v) same, refl)) (λ k. absurd (cc)) h

-- The result of a valid request.
pub allocates_of : (counted : ℕ) (request : Request) (old new : AddressState) (answer : Result Range Error) → IsRequest request →
    Grants counted old request answer new → AllocatesOf counted old request answer new
unfolding ByConstraint
allocates_of counted request old new answer v g = inr (λ e. omega (arith, e, v.some), inr (v.aligned, inr (v.start, g)))

-- The result of a valid request is that of `allocate`.
pub request_allocates : (request : Request) (old new : AddressState) (answer : Result Range Error) → IsRequest request →
    Grants (length old.held) old request answer new → Allocates old request answer new
unfolding Allocates
request_allocates request old new answer v g = allocates_of (length old.held) request old new answer v g

-- A fact of the constraint that a request makes is a fact of the request.
pub for_request : (request made : Request) (P : Request → Type 0) → MakesConstraint request (Ok made) → P made → P request
for_request request made P m p = subst P (constraint_made request made m).0 p

pub allocates_made : (old new : AddressState) (request made : Request) (answer : Result Range Error) →
    MakesConstraint request (Ok made) → Allocates old made answer new → Allocates old request answer new
allocates_made old new request made answer m h = for_request request made (λ v. Allocates old v answer new) m h

pub ruleset allocating = (allocates_refused, allocates_made)
