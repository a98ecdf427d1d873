-- The results of the calls of a history.
use Rattle.std.proofs.Common.{◌≡◌, ◌≢◌, ℕ, ◌+◌, ◌-◌, ◌<◌, arith, sym, ap, ◌∙◌, ◌⊎◌, inl, inr, ⊎_elim, subst, Option, Result, Ok, Err, length}
use Rattle.std.proofs.lemmas.Bool.{cases_eq}
use Rattle.vm_ranges.specs.Range.{Range, MAX, IsIn, span}
use Rattle.vm_ranges.specs.Address.{AddressState, IsPlace, IsLowestPlace, IsHighestPlace, IsAddressState}
use Rattle.vm_ranges.specs.Windows.{within}
use Rattle.vm_addresses.proofs.Results.Requests.{request_in}
use Rattle.vm_ranges.specs.Request.{Request, ByPolicy, IsRequest, ByConstraint, MakesConstraint}
use Rattle.vm_ranges.specs.Answer.{IsChosen, ByStart, ByExactPolicy, ByPlace, AllocatesAt, Grants, Allocates, Frees}
use Rattle.vm_ranges.specs.Histories.{ErrorsChangeNothing}
use Rattle.vm_ranges.proofs.Clones.{cloning_keeps}
use Rattle.vm_addresses.specs.Histories.AddressHistories.{Allocate, AllocateAll, Free, MoveTo, Clone, IsCallFrom}
use Rattle.vm_laws.specs.HistoryLaws.{FirstIsLowest, LastIsHighest, ExactIsAtItsStart, FailsInOrder, IsAnswered, PlacesAnswer}
use Rattle.vm_ranges.specs.declared.error.Error.{Error}
use Rattle.vm_ranges.specs.declared.error.Error.TheVariants.{Overflow, ResourceNotAvailable}
use Rattle.vm_ranges.specs.declared.constraint.AllocPolicy.{AllocPolicy}
use Rattle.vm_ranges.specs.declared.constraint.AllocPolicy.TheVariants.{FirstMatch, LastMatch, ExactMatch}
use Rattle.vm_ranges.proofs.TwoFacts.{if_same, unless_same}
use Rattle.vm_ranges.proofs.PlainWords.{held_contains}
use Rattle.vm_addresses.proofs.Blocks.HeldSets.{held_lies}
use Rattle.vm_addresses.proofs.Results.Once.{place_in_window}
use Rattle.vm_addresses.proofs.Results.Filling.{otherwise, given, faulty, lacking, clear_not_held, request_grants, allocates_chosen}
use Rattle.vm_addresses.proofs.Results.Outcomes.{given_or_refused, given_is, allocates_outcome}
use Rattle.vm_laws.proofs.AddressProofs.AlongHistories.{reached_state}
use Rattle.vm_addresses.proofs.Histories.MoveSteps.{move_error_keeps}

-- ---- An allocated range starts at the chosen place
allocated_chosen : (request : Request) (old new : AddressState) (r : Range) → Allocates old request (Ok r) new →
    IsChosen request old r.start × (r ≡ span r.start request.size)
allocated_chosen request old new r h =
    ⊎_elim
    (λ l. absurd (cc (l.1)))
    (λ k.
    let s = k.1.0 in
    let e : r ≡ span s request.size = given_is _ old (span s request.size) r new k.1.3 in
    let start : s ≡ r.start = ap (λ (v : Range). v.start) (sym e) in
    (subst (IsChosen request old) start k.1.1, e ∙ ap (λ (s : ℕ). span s request.size) start))
    (allocates_outcome old new (Ok r) request h)

-- The chosen place by the policy of the request.
abbrev ChosenBy : AllocPolicy → Request → AddressState → ℕ → Type 0
ChosenBy policy request old s =
    ByPolicy policy
    (IsLowestPlace request.size request.align (within request.window old) s)
    (IsHighestPlace request.size request.align (within request.window old) s)
    (λ start. (s ≡ start) × IsPlace request.size request.align (within request.window old) s)

chosen_by : (request : Request) (old : AddressState) (s : ℕ) (policy : AllocPolicy) → request.policy ≡ policy → IsChosen request old s →
    ChosenBy policy request old s
unfolding IsChosen
chosen_by request old s policy p c = subst (λ (v : AllocPolicy). ChosenBy v request old s) p c

pub first_is_lowest : FirstIsLowest
first_is_lowest old new request r p h =
    let g = allocated_chosen request old.state new r h in (chosen_by request old.state r.start FirstMatch p g.0, g.1)

pub last_is_highest : LastIsHighest
last_is_highest old new request r p h =
    let g = allocated_chosen request old.state new r h in (chosen_by request old.state r.start LastMatch p g.0, g.1)

pub exact_is_named : ExactIsAtItsStart
exact_is_named old new request start r p h =
    let g = allocated_chosen request old.state new r h in
    let c = chosen_by request old.state r.start (ExactMatch start) p g.0 in
    (subst (IsPlace request.size request.align (within request.window old.state)) c.0 c.1, g.1 ∙ ap (λ (s : ℕ). span s request.size) c.0)

-- ---- The places decide the result of each request
-- An invalid request returns the error of its constraint.
invalid : (request : Request) (old new : AddressState) (answer : Result Range Error) (e : Error) → Allocates old request answer new →
    MakesConstraint request (Err e) → answer ≡ Err e
unfolding MakesConstraint Allocates ByConstraint
invalid request old new answer e h m =
    if_same _ _ _ _ _ m h (same _)
    (λ m h. unless_same _ _ _ _ _ m h (same _)
    (λ m h. unless_same _ _ _ _ _ m h (same _) (λ m h. absurd (cc m))))
  where
    made : Result Request Error
    made = Err e

    same : (x : Error) → made ≡ Err x → (answer ≡ Err x) × (new ≡ old) → answer ≡ Err e
    same x m h = let s : x ≡ e = cc in h.0 ∙ ap (λ (v : Error). Err v) s

-- The result of a valid request, and the next state.
module _ (request : Request) (old new : AddressState) (answer : Result Range Error) (sense : IsRequest request)
    (h : Allocates old request answer new) where
  chosen_taken : (s : ℕ) → IsChosen request old s → s + request.size - 1 < MAX → AllocatesAt (length old.held) old (span s request.size) answer new
  chosen_taken s c l = otherwise _ _ _ (λ k. omega arith) (allocates_chosen request s old new answer sense (omega arith) c h)

  chosen_at_max : (s : ℕ) → IsChosen request old s → s + request.size - 1 ≡ MAX → answer ≡ Err Overflow
  chosen_at_max s c e = ⊎_elim (λ k. k.1.0) (λ k. absurd (k.0 e)) (allocates_chosen request s old new answer sense (omega arith) c h)

none_by_place : (counted : ℕ) (request : Request) (old new : AddressState) (answer : Result Range Error) →
    ((s : ℕ) → ¬ IsPlace request.size request.align (within request.window old) s) →
    ByPlace request old (λ e. (answer ≡ Err e) × (new ≡ old)) (λ r. AllocatesAt counted old r answer new) → answer ≡ Err ResourceNotAvailable
unfolding ByPlace
none_by_place counted request old new answer none h = ⊎_elim (λ l. l.1.0) (λ k. absurd (none k.0 (place_in_window request k.0 old k.1))) h

none_grants : (counted : ℕ) (policy : AllocPolicy) (w : Option Range) (n a : ℕ) (old new : AddressState) (answer : Result Range Error) →
    (policy ≡ FirstMatch) ⊎ (policy ≡ LastMatch) → ((s : ℕ) → ¬ IsPlace n a (within w old) s) →
    Grants counted old (request_in w n a policy) answer new → answer ≡ Err ResourceNotAvailable
unfolding Grants ByExactPolicy
none_grants counted FirstMatch w n a old new answer p none h = none_by_place _ (request_in w n a FirstMatch) old new answer none h
none_grants counted LastMatch w n a old new answer p none h = none_by_place _ (request_in w n a LastMatch) old new answer none h
none_grants counted (ExactMatch t) w n a old new answer p none h = ⊎_elim (λ e. absurd (cc e)) (λ e. absurd (cc e)) p

-- If there is a place, an error is due to memory, the limit of splits or the end of the range.
taken_not_lacking : (counted : ℕ) (old new : AddressState) (r : Range) (answer : Result Range Error) → AllocatesAt counted old r answer new →
    answer ≢ Err ResourceNotAvailable
unfolding AllocatesAt
taken_not_lacking counted old new r answer (inl k) e = cc (k.1.0, e)
taken_not_lacking counted old new r answer (inr (s, inl k)) e = cc (k.1.0, e)
taken_not_lacking counted old new r answer (inr (s, inr (few, inl k))) e = cc (k.0, e)
taken_not_lacking counted old new r answer (inr (s, inr (few, inr k))) e = cc (k.0, e)

some_by_place : (counted : ℕ) (request : Request) (old new : AddressState) (answer : Result Range Error) (s : ℕ) →
    IsPlace request.size request.align (within request.window old) s →
    ByPlace request old (λ e. (answer ≡ Err e) × (new ≡ old)) (λ r. AllocatesAt counted old r answer new) → answer ≢ Err ResourceNotAvailable
unfolding ByPlace
some_by_place counted request old new answer s place h e =
    ⊎_elim
    (λ l. absurd (l.0 s place))
    (λ k. ⊎_elim (λ o. cc (o.1.0, e)) (λ o. taken_not_lacking _ old new (span k.0 request.size) answer o.1 e) k.2)
    h

some_grants : (counted : ℕ) (policy : AllocPolicy) (w : Option Range) (n a : ℕ) (old new : AddressState) (answer : Result Range Error) →
    (policy ≡ FirstMatch) ⊎ (policy ≡ LastMatch) → (s : ℕ) → IsPlace n a (within w old) s →
    Grants counted old (request_in w n a policy) answer new → answer ≢ Err ResourceNotAvailable
unfolding Grants ByExactPolicy
some_grants counted FirstMatch w n a old new answer p s place h = some_by_place _ (request_in w n a FirstMatch) old new answer s place h
some_grants counted LastMatch w n a old new answer p s place h = some_by_place _ (request_in w n a LastMatch) old new answer s place h
some_grants counted (ExactMatch t) w n a old new answer p s place h = ⊎_elim (λ e. absurd (cc e)) (λ e. absurd (cc e)) p

-- The errors of an exact request for the n addresses starting at t, in order.
exact_errors : (w : Option Range) (old new : AddressState) (answer : Result Range Error) (t n : ℕ) (Rest : Type 0) → IsAddressState old →
    0 < n → ByStart t n (within w old) (λ e. (answer ≡ Err e) × (new ≡ old)) Rest → FailsInOrder (within w old) t n answer
unfolding ByStart
exact_errors w old new answer t n Rest state some h =
    record {
      start_is_max = λ is. faulty _ _ _ is (λ p. p.0) h;
      start_is_outside = λ below outside. lacking _ _ _ outside (λ p. p.0) (otherwise _ _ _ below h);
      passes_max = λ below inside over. faulty _ _ _ over (λ p. p.0) (given _ _ _ inside (otherwise _ _ _ below h));
      is_held = λ inside held.
          let lies = held_lies old.space.start old.space.end old.held (span t n) state.in_order (held_contains old.held (span t n) held) in
          faulty _ _ _ held (λ p. p.0) (otherwise _ _ _ (λ over. omega (arith, lies.3))
          (given _ _ _ inside (otherwise _ _ _ (λ is. omega (arith, lies.1, lies.3)) h)));
      is_not_clear = λ below inside fits free unclear.
          lacking _ _ _ unclear (λ p. p.0)
          (otherwise _ _ _ free (otherwise _ _ _ (λ over. omega arith) (given _ _ _ inside (otherwise _ _ _ below h))));
      ends_at_max = λ clear ends.
          let inside : IsIn (within w old).space t = (clear t (omega arith) (omega arith)).0 in
          ⊎_elim
          (λ (is : t ≡ MAX). faulty _ _ _ is (λ p. p.0) h)
          (λ (below : t ≡ MAX → ⊥).
          faulty _ _ _ ends (λ p. p.0) (given _ _ _ clear
          (otherwise _ _ _ (clear_not_held n t (within w old) some clear)
          (otherwise _ _ _ (λ over. omega arith) (given _ _ _ inside (otherwise _ _ _ below h))))))
          (cases_eq t MAX);
    }

exact_grants : (counted : ℕ) (policy : AllocPolicy) (w : Option Range) (n a t : ℕ) (old new : AddressState) (answer : Result Range Error) →
    IsAddressState old → 0 < n → policy ≡ ExactMatch t → Grants counted old (request_in w n a policy) answer new →
    FailsInOrder (within w old) t n answer
unfolding Grants ByExactPolicy
exact_grants counted policy w n a t old new answer state some p h =
    let g : Grants counted old (request_in w n a (ExactMatch t)) answer new = subst
    (λ (v : AllocPolicy). Grants counted old (request_in w n a v) answer new) p h in
    exact_errors w old new answer t n _ state some g

pub answered : (request : Request) (old new : AddressState) (answer : Result Range Error) → IsAddressState old →
    Allocates old request answer new → IsAnswered old request answer new
answered request old new answer state h =
    record {
      invalid = λ e m. invalid request old new answer e h m;
      valid = λ sense.
          let grants = request_grants request old new answer sense h in
          record {
            taken = chosen_taken request old new answer sense h;
            at_max = chosen_at_max request old new answer sense h;
            no_place = λ p none. none_grants _ request.policy request.window request.size request.align old new answer p none grants;
            only_there = λ p s place. some_grants _ request.policy request.window request.size request.align old new answer p s place grants;
            named = λ t p. exact_grants _ request.policy request.window request.size request.align t old new answer state sense.some p grants;
          };
      given = λ r e. allocated_chosen request old new r (subst (λ (v : Result Range Error). Allocates old request v new) e h);
    }

pub places_answer : PlacesAnswer
places_answer old new request answer h = answered request old.state new answer (reached_state old) h

-- ---- An error changes nothing
takes_refused : (counted : ℕ) (old new : AddressState) (r : Range) (e : Error) → AllocatesAt counted old r (Err e) new → new ≡ old
takes_refused counted old new r e h = ⊎_elim (λ l. absurd (cc (l.0))) (λ k. k.2) (given_or_refused _ old r (Err e) new h)

allocation_refused : (request : Request) (old new : AddressState) (e : Error) → Allocates old request (Err e) new → new ≡ old
allocation_refused request old new e h =
    ⊎_elim (λ l. l.2) (λ k. takes_refused _ old new (span k.1.0 request.size) e k.1.3) (allocates_outcome old new (Err e) request h)

release_refused : (old new : AddressState) (r : Range) (e : Error) → Frees old r (Err e) new → new ≡ old
unfolding Frees
release_refused old new r e h = ⊎_elim (λ l. absurd (cc (l.1.0))) (λ k. k.1.1) h

pub errors_change_nothing : ErrorsChangeNothing IsCallFrom
errors_change_nothing old new (Allocate request) e h = allocation_refused request old new e h
errors_change_nothing old new (AllocateAll requests) e h = h.0
errors_change_nothing old new (Free r) e h = release_refused old new r e h
errors_change_nothing old new (MoveTo r request) e h = move_error_keeps old new r request e h
errors_change_nothing old new Clone e h = cloning_keeps old new (Err e) h.0 h.1
