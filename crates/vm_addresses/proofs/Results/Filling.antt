-- An allocation that fills its gap succeeds, and so does freeing a held range.
use Rattle.std.proofs.Common.{◌≡◌, ℕ, ◌+◌, ◌-◌, ◌<◌, ◌≤◌, arith, refl, inl, ⊎_elim, subst, Option, Result, Err, IsOk, length}
use Rattle.std.specs.List.{Contains}
use Rattle.vm_ranges.specs.Cases.{IfElse, Unless}
use Rattle.vm_ranges.specs.Range.{Range, MAX, IsIn, span}
use Rattle.vm_ranges.specs.Address.{AddressState, AreClear, IsPlace}
use Rattle.vm_ranges.specs.Request.{Request, IsRequest, ByConstraint, MakesConstraint}
use Rattle.vm_ranges.specs.Windows.{within}
use Rattle.vm_addresses.proofs.Results.Requests.{request_in}
use Rattle.vm_ranges.specs.Answer.{IsChosen, ByStart, ByExactPolicy, ByPlace, AllocatesAt, Grants, Allocates, FillsGap, Frees}
use Rattle.vm_ranges.specs.declared.error.Error.{Error}
use Rattle.vm_ranges.specs.declared.error.Error.TheVariants.{Overflow}
use Rattle.vm_ranges.specs.declared.constraint.AllocPolicy.{AllocPolicy}
use Rattle.vm_ranges.specs.declared.constraint.AllocPolicy.TheVariants.{FirstMatch, LastMatch, ExactMatch}
use Rattle.vm_ranges.proofs.PlainWords.{held_contains, none_holds, held_address}
use Rattle.vm_addresses.proofs.Results.Once.{chosen_once, place_in_window}

-- The branch of a case distinction that remains if its condition is false, and if it is true.
pub otherwise : (c P Q : Type 0) → ¬ c → IfElse c P Q → Q
otherwise c P Q n h = ⊎_elim (λ l. absurd (n l.0)) (λ r. r.1) h

pub given : (c P Q : Type 0) → c → Unless c P Q → Q
given c P Q y h = ⊎_elim (λ l. absurd (l.0 y)) (λ r. r.1) h

-- The first branch of a case distinction if its condition is true, and if it is false.
pub faulty : {G : Type 0} (C P Q : Type 0) → C → (P → G) → IfElse C P Q → G
faulty C P Q y f h = ⊎_elim (λ l. f l.1) (λ r. absurd (r.0 y)) h

pub lacking : {G : Type 0} (C P Q : Type 0) → ¬ C → (P → G) → Unless C P Q → G
lacking C P Q n f h = ⊎_elim (λ l. f l.1) (λ r. absurd (n r.0)) h

exact_start : (w : Option Range) (n a s t : ℕ) (state : AddressState) → IsChosen (request_in w n a (ExactMatch t)) state s → s ≡ t
unfolding IsChosen
exact_start w n a s t state c = c.0

place_clear : (n a t : ℕ) (state : AddressState) → IsPlace n a state t → AreClear n state t
unfolding IsPlace
place_clear n a t state p = p.1

-- If the addresses that start at t are clear, no range that starts at t is held.
pub clear_not_held : (n t : ℕ) (state : AddressState) → 0 < n → AreClear n state t → ¬ Contains state.held (span t n)
clear_not_held n t state z c h =
    none_holds state.held t (c t (omega arith) (omega arith)).1
    (held_address state.held (span t n) t (held_contains state.held (span t n) h) (omega arith, omega arith))

-- The range at s is allocated, or Overflow if it ends at MAX.
abbrev pub TakesBelowMax : ℕ → AddressState → ℕ → ℕ → Result Range Error → AddressState → Type 0
TakesBelowMax counted old n s answer new = IfElse (s + n - 1 ≡ MAX) ((answer ≡ Err Overflow) × (new ≡ old)) (AllocatesAt counted old (span s n) answer new)

-- The result of a request whose chosen place is s.
module _ (s : ℕ) (old new : AddressState) (answer : Result Range Error) where
  by_place : (counted : ℕ) (request : Request) → IsChosen request old s →
      ByPlace request old (λ e. (answer ≡ Err e) × (new ≡ old)) (λ r. AllocatesAt counted old r answer new) →
      TakesBelowMax counted old request.size s answer new
  unfolding ByPlace
  by_place counted request c h =
      ⊎_elim
      (λ u. absurd (u.0 s (place_in_window request s old c)))
      (λ u. subst (λ (v : ℕ). TakesBelowMax counted old request.size v answer new) (chosen_once request u.0 s old u.1 c) u.2)
      h

  -- A clear start passes every test except possibly the last.
  start_chosen : (counted : ℕ) (t n : ℕ) (view : AddressState) (P : Type 0) → 0 < n → t + n - 1 ≤ MAX → s ≡ t → AreClear n view t →
      (P → TakesBelowMax counted old n s answer new) → ByStart t n view (λ e. (answer ≡ Err e) × (new ≡ old)) P → TakesBelowMax counted old n s answer new
  unfolding ByStart
  start_chosen counted t n view P z m e clear rest h =
      let inside : IsIn view.space t = (clear t (omega arith) (omega arith)).0 in
      ⊎_elim
      (λ k. inl (omega (arith, k.0), k.1))
      (λ k. ⊎_elim
      (λ l. inl (omega (arith, l.0), l.1))
      (λ l. rest l.1)
      (given _ _ _ clear (otherwise _ _ _ (clear_not_held n t view z clear) (otherwise _ _ _ (λ o. omega arith) (given _ _ _ inside k.1)))))
      h

  pub chosen_by : (counted : ℕ) (policy : AllocPolicy) (w : Option Range) (n a : ℕ) → 0 < n → s + n - 1 ≤ MAX → IsChosen (request_in w n a policy) old s →
      Grants counted old (request_in w n a policy) answer new → TakesBelowMax counted old n s answer new
  unfolding Grants ByExactPolicy
  chosen_by counted FirstMatch w n a z m c h = by_place _ (request_in w n a FirstMatch) c h
  chosen_by counted LastMatch w n a z m c h = by_place _ (request_in w n a LastMatch) c h
  chosen_by counted (ExactMatch t) w n a z m c h =
      let request = request_in w n a (ExactMatch t) in
      let e : s ≡ t = exact_start w n a s t old c in
      let clear : AreClear n (within w old) t = subst (AreClear n (within w old)) e
      (place_clear n a s (within w old) (place_in_window request s old c)) in
      start_chosen _ t n (within w old) _ z (omega arith) e clear (by_place _ request c) h

-- The result of a valid request is that of `Grants`.
pub request_grants : (request : Request) (old new : AddressState) (answer : Result Range Error) → IsRequest request →
    Allocates old request answer new → Grants (length old.held) old request answer new
unfolding Allocates ByConstraint
request_grants request old new answer r h = given _ _ _ r.start
    (given _ _ _ r.aligned (otherwise _ _ _ (λ k. let z = r.some in omega arith) h))

-- The chosen place of a valid request is allocated, or Overflow if its range ends at MAX.
pub allocates_chosen : (request : Request) (s : ℕ) (old new : AddressState) (answer : Result Range Error) → IsRequest request →
    s + request.size - 1 ≤ MAX → IsChosen request old s → Allocates old request answer new → TakesBelowMax (length old.held) old request.size s answer new
allocates_chosen request s old new answer r m c h = chosen_by s old new answer _ request.policy request.window request.size request.align
    r.some m c (request_grants request old new answer r h)

-- A valid request makes a constraint.
pub no_constraint_fault : (request : Request) (e : Error) → MakesConstraint request (Err e) → IsRequest request → ⊥
unfolding MakesConstraint ByConstraint
no_constraint_fault request e h r =
    let bad = given _ _ _ r.start (given _ _ _ r.aligned (otherwise _ _ _ (λ k. let z = r.some in omega arith) h)) in cc

pub allocates_filling : (old new : AddressState) (request : Request) (s : ℕ) (answer : Result Range Error) →
    Allocates old request answer new → FillsGap old request s → IsOk answer
unfolding AllocatesAt
allocates_filling old new request s answer h f =
    let m : s + request.size - 1 < MAX = f.below in
    ⊎_elim (λ k. rw k.1.0 refl) (λ k. absurd (f.fills k.0))
    (otherwise _ _ _ (λ k. omega arith) (allocates_chosen request s old new answer f.valid (omega arith) f.chosen h))

pub frees_held : (old new : AddressState) (r : Range) (answer : Result (Unit {0}) Error) → Frees old r answer new → Contains old.held r →
    IsOk answer
unfolding Frees
frees_held old new r answer h c =
    ⊎_elim (λ l. rw l.1.0 refl) (λ l. absurd (l.0 c)) h

pub ruleset succeeding = (allocates_filling, frees_held)
