-- A call has one result and one next state, unless memory runs out.
use Rattle.std.proofs.Common.{◌≡◌, ℕ, ◌+◌, ◌-◌, sym, ◌∙◌, arith, inl, inr, ⊎_elim, subst, Option, Some, None, Result, Ok, Err}
use Rattle.vm_ranges.specs.Cases.{IfElse, Unless}
use Rattle.vm_ranges.specs.Range.{Range, MAX, span}
use Rattle.vm_ranges.specs.Address.{AddressState, IsClear, IsPlace, IsLowestPlace, IsHighestPlace, holding}
use Rattle.vm_ranges.specs.Request.{Request, ByConstraint}
use Rattle.vm_ranges.specs.Windows.{within}
use Rattle.vm_addresses.proofs.Results.Requests.{request_in}
use Rattle.vm_ranges.specs.Answer.{IsChosen, ByStart, ByExactPolicy, ByPlace, AllocatesAt, Grants, Allocates, Frees}
use Rattle.vm_addresses.specs.Facts.{AgreeUnlessMemory}
use Rattle.vm_ranges.specs.declared.error.Error.{Error}
use Rattle.vm_ranges.specs.declared.error.Error.TheVariants.{Overflow, ResourceNotAvailable}
use Rattle.vm_ranges.specs.declared.constraint.AllocPolicy.{AllocPolicy}
use Rattle.vm_ranges.specs.declared.constraint.AllocPolicy.TheVariants.{FirstMatch, LastMatch, ExactMatch}
use Rattle.vm_ranges.proofs.TwoFacts.{if_same, unless_same}

-- A request has at most one chosen place.
chosen_by : (policy : AllocPolicy) (w : Option Range) (n a s t : ℕ) (state : AddressState) → IsChosen (request_in w n a policy) state s →
    IsChosen (request_in w n a policy) state t → s ≡ t
unfolding IsChosen IsLowestPlace IsHighestPlace
chosen_by FirstMatch w n a s t state p q = omega (arith, p.1 t q.0, q.1 s p.0)
chosen_by LastMatch w n a s t state p q = omega (arith, p.1 t q.0, q.1 s p.0)
chosen_by (ExactMatch u) w n a s t state p q = p.0 ∙ sym q.0

pub chosen_once : (request : Request) (s t : ℕ) (state : AddressState) → IsChosen request state s → IsChosen request state t → s ≡ t
chosen_once request s t state = chosen_by request.policy request.window request.size request.align s t state

-- The chosen place is a place in the window.
place_by : (policy : AllocPolicy) (w : Option Range) (n a s : ℕ) (state : AddressState) → IsChosen (request_in w n a policy) state s →
    IsPlace n a (within w state) s
unfolding IsChosen IsLowestPlace IsHighestPlace
place_by FirstMatch w n a s state p = p.0
place_by LastMatch w n a s state p = p.0
place_by (ExactMatch u) w n a s state p = p.1

pub place_in_window : (request : Request) (s : ℕ) (state : AddressState) → IsChosen request state s →
    IsPlace request.size request.align (within request.window state) s
place_in_window request s state = place_by request.policy request.window request.size request.align s state

-- An address that is clear in the window is clear, and a place in the window is a place.
pub clear_anywhere : (w : Option Range) (state : AddressState) (x : ℕ) → IsClear (within w state) x → IsClear state x
clear_anywhere None state x c = c
clear_anywhere (Some w) state x c = ((omega (arith, c.0.0), omega (arith, c.0.1)), c.1)

pub place_anywhere : (w : Option Range) (n a s : ℕ) (state : AddressState) → IsPlace n a (within w state) s → IsPlace n a state s
unfolding IsPlace
place_anywhere w n a s state p = (p.0, λ x l m. clear_anywhere w state x (p.1 x l m))

pub chosen_place : (request : Request) (s : ℕ) (state : AddressState) → IsChosen request state s →
    IsPlace request.size request.align state s
chosen_place request s state c = place_anywhere request.window request.size request.align s state (place_in_window request s state c)

-- Combines two facts that depend on the same condition.
both : (c P Q S T R : Type 0) → (P → S → R) → (Q → T → R) → IfElse c P Q → IfElse c S T → R
both c P Q S T R f g h k = if_same c P Q S T h k f g

both_unless : (c P Q S T R : Type 0) → (P → S → R) → (Q → T → R) → Unless c P Q → Unless c S T → R
both_unless c P Q S T R f g h k = unless_same c P Q S T h k f g

abbrev Refused : AddressState → Result Range Error → AddressState → Error → Type 0
Refused old answer new e = (answer ≡ Err e) × (new ≡ old)

-- Two results of one request, with the states after them.
module _ (old new later : AddressState) (answer other : Result Range Error) where
  abbrev Agree : Type 0
  Agree = AgreeUnlessMemory answer new other later

  refused_once : (e : Error) → Refused old answer new e → Refused old other later e → Agree
  refused_once e p q = inl (p.0 ∙ sym q.0, p.1 ∙ sym q.1)

  given_once : (r : Range) → (answer ≡ Ok r) × (new ≡ holding r old) → (other ≡ Ok r) × (later ≡ holding r old) → Agree
  given_once r a b = inl (a.0 ∙ sym b.0, a.1 ∙ sym b.1)

  takes_once : (counted : ℕ) (r : Range) → AllocatesAt counted old r answer new → AllocatesAt counted old r other later → Agree
  unfolding AllocatesAt
  takes_once counted r p q =
      both_unless _ _ _ _ _ Agree (given_once r)
      (both _ _ _ _ _ Agree (refused_once Overflow)
      (λ a b. ⊎_elim (λ g. ⊎_elim (given_once r g) (λ m. inr (inr m.0)) b) (λ m. inr (inl m.0)) a)) p q

  place_once : (counted : ℕ) (request : Request) → ByPlace request old (Refused old answer new) (λ r. AllocatesAt counted old r answer new) →
      ByPlace request old (Refused old other later) (λ r. AllocatesAt counted old r other later) → Agree
  unfolding ByPlace
  place_once counted request p q =
      let n = request.size in
      ⊎_elim
      (λ u. ⊎_elim (λ v. refused_once ResourceNotAvailable u.1 v.1) (λ v. absurd (u.0 v.0 (place_in_window request v.0 old v.1))) q)
      (λ u. ⊎_elim (λ v. absurd (v.0 u.0 (place_in_window request u.0 old u.1)))
      (λ v.
      let e : v.0 ≡ u.0 = chosen_once request v.0 u.0 old v.1 u.1 in
      let w : IfElse (u.0 + n - 1 ≡ MAX) (Refused old other later Overflow) (AllocatesAt counted old (span u.0 n) other later) = subst
      (λ (s : ℕ). IfElse (s + n - 1 ≡ MAX) (Refused old other later Overflow) (AllocatesAt counted old (span s n) other later)) e v.2 in
      both (u.0 + n - 1 ≡ MAX) (Refused old answer new Overflow) (AllocatesAt counted old (span u.0 n) answer new)
      (Refused old other later Overflow) (AllocatesAt counted old (span u.0 n) other later) Agree
      (refused_once Overflow) (takes_once _ (span u.0 n)) u.2 w)
      q)
      p

  start_once : (t n : ℕ) (view : AddressState) (P Q : Type 0) → (P → Q → Agree) → ByStart t n view (Refused old answer new) P →
      ByStart t n view (Refused old other later) Q → Agree
  unfolding ByStart
  start_once t n view P Q rest =
      both _ _ _ _ _ Agree (refused_once _)
      (both_unless _ _ _ _ _ Agree (refused_once _)
      (both _ _ _ _ _ Agree (refused_once _)
      (both _ _ _ _ _ Agree (refused_once _)
      (both_unless _ _ _ _ _ Agree (refused_once _)
      (both _ _ _ _ _ Agree (refused_once _) rest)))))

  grants_by : (counted : ℕ) (policy : AllocPolicy) (w : Option Range) (n a : ℕ) → Grants counted old (request_in w n a policy) answer new →
      Grants counted old (request_in w n a policy) other later → Agree
  unfolding Grants ByExactPolicy
  grants_by counted FirstMatch w n a p q = place_once _ (request_in w n a FirstMatch) p q
  grants_by counted LastMatch w n a p q = place_once _ (request_in w n a LastMatch) p q
  grants_by counted (ExactMatch t) w n a p q = start_once t n (within w old) _ _ (place_once _ (request_in w n a (ExactMatch t))) p q

  request_once : (request : Request) → Allocates old request answer new → Allocates old request other later → Agree
  unfolding Allocates ByConstraint
  request_once request p q =
      both _ _ _ _ _ Agree (refused_once _)
      (both_unless _ _ _ _ _ Agree (refused_once _)
      (both_unless _ _ _ _ _ Agree (refused_once _) (grants_by _ request.policy request.window request.size request.align))) p q

pub allocates_once : (old new later : AddressState) (request : Request) (answer other : Result Range Error) →
    Allocates old request answer new → Allocates old request other later →
    AgreeUnlessMemory answer new other later
allocates_once old new later request answer other = request_once old new later answer other request

pub frees_once : (old new later : AddressState) (r : Range) (answer other : Result (Unit {0}) Error) →
    Frees old r answer new → Frees old r other later → (answer ≡ other) × (new ≡ later)
unfolding Frees
frees_once old new later r answer other p q =
    both _ _ _ _ _ ((answer ≡ other) × (new ≡ later)) (λ u v. (u.0 ∙ sym v.0, u.1 ∙ sym v.1)) (λ u v. (u.0 ∙ sym v.0, u.1 ∙ sym v.1)) p q
