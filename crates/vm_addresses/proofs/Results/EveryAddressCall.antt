-- Every call has a result, so every list of calls has a history.
use Rattle.std.proofs.Common.{
  ◌≡◌,
  ◌≢◌,
  ℕ,
  ◌+◌,
  ◌-◌,
  ◌<◌,
  ◌≤◌,
  ◌⊎◌,
  List,
  [],
  ◌∷◌,
  length,
  refl,
  ap,
  arith,
  subst,
  inl,
  inr,
  ⊎_elim,
  Option,
  Some,
  None,
  MatchOption,
  Result,
  Ok,
  Err,
}
use Rattle.std.proofs.lemmas.Bool.{cases_eq}
use Rattle.std.specs.List.{Contains}
use Rattle.vm_ranges.specs.Cases.{IfElse, Unless}
use Rattle.vm_ranges.specs.Range.{Range, MAX, IsRange, span}
use Rattle.vm_ranges.specs.Address.{AddressState, AreClear, IsPlace, IsLowestPlace, IsHighestPlace, holding, releasing}
use Rattle.vm_ranges.specs.Request.{Request, IsStartAligned, ByConstraint}
use Rattle.vm_ranges.specs.Windows.{within}
use Rattle.vm_addresses.proofs.Results.Requests.{request_in}
use Rattle.vm_addresses.proofs.Results.AddressResults.{outcome}
use Rattle.vm_addresses.proofs.Results.Outcomes.{IsGiven}
use Rattle.vm_ranges.specs.Answer.{SPLIT_LIMIT_MIN_HELD, IsChosen, ByStart, ByExactPolicy, ByPlace, AllocatesAt, Grants, Allocates, Frees, Makes}
use Rattle.vm_ranges.specs.Histories.{EveryCallIsAnswered, EveryListHasHistory}
use Rattle.vm_ranges.proofs.Histories.{every_list}
use Rattle.vm_addresses.specs.Held.{first_fault, BySpace, MakesHeld, MakesWithHeld}
use Rattle.vm_leaf.specs.TreeHeights.{TOO_MANY_BLOCKS}
use Rattle.vm_leaf.specs.SpaceBlocks.{blocks_of}
use Rattle.vm_addresses.specs.Several.{RefusesOne, AllocatesAll}
use Rattle.vm_addresses.specs.Moves.{MovesRange}
use Rattle.vm_addresses.specs.Holes.{holes_after, last_range_end, wrong_index, MakesWithFree}
use Rattle.vm_addresses.specs.Histories.AddressHistories.{Allocate, AllocateAll, Free, MoveTo, Clone, IsCallFrom}
use Rattle.vm_addresses.specs.Facts.{EveryAddressCallIsAnswered}
use Rattle.vm_ranges.specs.declared.error.Error.{Error}
use Rattle.vm_ranges.specs.declared.error.Error.TheVariants.{
  OutOfMemory,
  Overflow,
  ResourceNotAvailable,
  Underflow,
  InvalidRange,
  InvalidStateTransition,
  InvalidSize,
  InvalidAlignment,
  UnalignedAddress,
}
use Rattle.vm_ranges.specs.declared.state.NodeState.TheVariants.{Allocated}
use Rattle.vm_ranges.specs.declared.constraint.AllocPolicy.{AllocPolicy}
use Rattle.vm_ranges.specs.declared.constraint.AllocPolicy.TheVariants.{FirstMatch, LastMatch, ExactMatch}
use Rattle.vm_ranges.proofs.Decisions.{Decided, decided_below, decided_up_to, decided_alignment, decided_start, lowest_or_none, highest_or_none}
use Rattle.vm_addresses.proofs.Trees.HeldTrees.{first_fault_known}
use Rattle.vm_addresses.proofs.Results.Moves.{move_refused}
use Rattle.vm_addresses.proofs.Decisions.{decided_all_clear, decided_split, decided_place, decided_inside, decided_held, decided_range}

-- ---- A result of a relation, by deciding its conditions
-- The relation is true for some result other than OutOfMemory and some next state.
abbrev IsTotal : (Result Range Error → AddressState → Type 0) → Type 0
IsTotal relation = (answer : Result Range Error) × (new : AddressState) × relation answer new × (answer ≢ Err OutOfMemory)

abbrev Refuses : AddressState → Error → Result Range Error → AddressState → Type 0
Refuses old e answer new = (answer ≡ Err e) × (new ≡ old)

-- An error other than OutOfMemory.
refusal : (old : AddressState) (e : Error) → e ≢ OutOfMemory → IsTotal (Refuses old e)
refusal old e other = (Err e, old, (refl, refl), λ h. other (cc h))

total_if : (old : AddressState) (C : Type 0) (P Q : Result Range Error → AddressState → Type 0) → Decided C → IsTotal P →
    (¬ C → IsTotal Q) → IsTotal (λ answer new. IfElse C (P answer new) (Q answer new))
total_if old C P Q (inl y) p q = (p.0, p.1, inl (y, p.2), p.3)
total_if old C P Q (inr n) p q = let k = q n in (k.0, k.1, inr (n, k.2), k.3)

total_unless : (old : AddressState) (C : Type 0) (P Q : Result Range Error → AddressState → Type 0) → Decided C → IsTotal P →
    (C → IsTotal Q) → IsTotal (λ answer new. Unless C (P answer new) (Q answer new))
total_unless old C P Q (inl y) p q = let k = q y in (k.0, k.1, inr (y, k.2), k.3)
total_unless old C P Q (inr n) p q = (p.0, p.1, inl (n, p.2), p.3)

-- ---- Each request has a result
taken : (counted : ℕ) (old : AddressState) (r : Range) → IsTotal (AllocatesAt counted old r)
unfolding AllocatesAt
taken counted old r =
    total_unless old _ (IsGiven old r) _ (decided_split old r) (Ok r, holding r old, (refl, refl), λ h. absurd (cc h)) (λ _.
    total_if old _ (Refuses old Overflow) _ (decided_up_to SPLIT_LIMIT_MIN_HELD counted) (refusal old Overflow (λ e. cc e)) (λ _.
    (Ok r, holding r old, inl (refl, refl), λ h. absurd (cc h))))

-- Either there is no place in the window, or the policy chooses a place.
abbrev HasChoice : Request → AddressState → Type 0
HasChoice request old = ((s : ℕ) → ¬ IsPlace request.size request.align (within request.window old) s) ⊎ ((s : ℕ) × IsChosen request old s)

-- A place is in the space.
place_inside : (n a s : ℕ) (old : AddressState) → 0 < n → IsPlace n a old s → s < old.space.end + 1
unfolding IsPlace
place_inside n a s old some p = let first = p.1 s (omega arith) (omega arith) in omega (arith, first.0.1)

lowest_choice : (w : Option Range) (n a : ℕ) (old : AddressState) → 0 < n → HasChoice (request_in w n a FirstMatch) old
unfolding IsChosen IsLowestPlace
lowest_choice w n a old some =
    let view = within w old in
    ⊎_elim
    (λ none. inl (λ s p. none s (place_inside n a s view some p) p))
    (λ found. inr (found.0, (found.1, found.2)))
    (lowest_or_none (IsPlace n a view) (decided_place n a view) (view.space.end + 1))

highest_choice : (w : Option Range) (n a : ℕ) (old : AddressState) → 0 < n → HasChoice (request_in w n a LastMatch) old
unfolding IsChosen IsHighestPlace
highest_choice w n a old some =
    let view = within w old in
    ⊎_elim
    (λ none. inl (λ s p. none s (place_inside n a s view some p) p))
    (λ found. inr (found.0, (found.1, λ t p. found.2 t (place_inside n a t view some p) p)))
    (highest_or_none (IsPlace n a view) (decided_place n a view) (view.space.end + 1))

exact_choice_of : (w : Option Range) (n a t : ℕ) (old : AddressState) → IsPlace n a (within w old) t →
    HasChoice (request_in w n a (ExactMatch t)) old
unfolding IsChosen
exact_choice_of w n a t old p = inr (t, (refl, p))

total_place : (counted : ℕ) (request : Request) (old : AddressState) → HasChoice request old →
    IsTotal (λ answer new. ByPlace request old (λ e. Refuses old e answer new) (λ r. AllocatesAt counted old r answer new))
unfolding ByPlace
total_place counted request old (inl none) = (Err ResourceNotAvailable, old, inl (none, (refl, refl)), λ h. absurd (cc h))
total_place counted request old (inr (s, chosen)) =
    let last = total_if old (s + request.size - 1 ≡ MAX) (Refuses old Overflow) (AllocatesAt counted old (span s request.size))
    (cases_eq (s + request.size - 1) MAX) (refusal old Overflow (λ e. cc e)) (λ n. taken _ old (span s request.size)) in
    (last.0, last.1, inr (s, chosen, last.2), last.3)

total_start : (t n : ℕ) (old view : AddressState) (Rest : Result Range Error → AddressState → Type 0) → (AreClear n view t → IsTotal Rest) →
    IsTotal (λ answer new. ByStart t n view (λ e. Refuses old e answer new) (Rest answer new))
unfolding ByStart
total_start t n old view Rest rest =
    let held = InvalidStateTransition (span t n) Allocated in
    total_if old _ (Refuses old Overflow) _ (cases_eq t MAX) (refusal old Overflow (λ e. cc e)) (λ _.
    total_unless old _ (Refuses old ResourceNotAvailable) _ (decided_inside view t) (refusal old ResourceNotAvailable (λ e. cc e)) (λ _.
    total_if old _ (Refuses old Overflow) _ (decided_below MAX (t + n - 1)) (refusal old Overflow (λ e. cc e)) (λ _.
    total_if old _ (Refuses old held) _ (decided_held view.held (span t n)) (refusal old held (λ e. cc e)) (λ _.
    total_unless old _ (Refuses old ResourceNotAvailable) _ (decided_all_clear n view t) (refusal old ResourceNotAvailable (λ e. cc e))
    (λ clear.
    total_if old _ (Refuses old Overflow) Rest (cases_eq (t + n - 1) MAX) (refusal old Overflow (λ e. cc e)) (λ _. rest clear))))))

total_grants : (counted : ℕ) (policy : AllocPolicy) (w : Option Range) (n a : ℕ) (old : AddressState) → 0 < n → IsStartAligned a policy →
    IsTotal (Grants counted old (request_in w n a policy))
unfolding Grants ByExactPolicy IsStartAligned IsPlace
total_grants counted FirstMatch w n a old some aligned = total_place _ (request_in w n a FirstMatch) old (lowest_choice w n a old some)
total_grants counted LastMatch w n a old some aligned = total_place _ (request_in w n a LastMatch) old (highest_choice w n a old some)
total_grants counted (ExactMatch t) w n a old some aligned =
    total_start t n old (within w old) _
    (λ clear. total_place _ (request_in w n a (ExactMatch t)) old (exact_choice_of w n a t old (aligned, clear)))

total_allocates : (old : AddressState) (request : Request) → IsTotal (Allocates old request)
unfolding Allocates ByConstraint
total_allocates old request =
    total_if old _ (Refuses old (InvalidSize 0)) _ (cases_eq request.size 0) (refusal old (InvalidSize 0) (λ e. cc e)) (λ some.
    total_unless old _ (Refuses old InvalidAlignment) _ (decided_alignment request.align) (refusal old InvalidAlignment (λ e. cc e)) (λ _.
    total_unless old _ (Refuses old UnalignedAddress) _ (decided_start request.align request.policy)
    (refusal old UnalignedAddress (λ e. cc e)) (λ aligned.
    total_grants _ request.policy request.window request.size request.align old (omega (arith, some)) aligned)))

-- ---- Freeing a range, moving a range and creating an allocator have a result
total_frees : (old : AddressState) (r : Range) →
    (answer : Result (Unit {0}) Error) × (new : AddressState) × Frees old r answer new × (answer ≢ Err OutOfMemory)
unfolding Frees
total_frees old r =
    ⊎_elim
    (λ (held : Contains old.held r). (Ok tt, releasing r old, inl (held, (refl, refl)), λ h. absurd (cc h)))
    (λ (not_held : Contains old.held r → ⊥). (Err ResourceNotAvailable, old, inr (not_held, (refl, refl)), λ h. absurd (cc h)))
    (decided_held old.held r)

-- A move of a held range has the result of its allocation.
moved_by : (old mid : AddressState) (r : Range) (request : Request) (answer : Result Range Error) → Contains old.held r →
    Allocates (releasing r old) request answer mid → (new : AddressState) × MovesRange old r request answer new
unfolding MovesRange
moved_by old mid r request (Ok q) c a = (mid, inr (c, (mid, a, refl)))
moved_by old mid r request (Err e) c a = (old, inr (c, (mid, a, refl)))

total_moves : (old : AddressState) (r : Range) (request : Request) → IsTotal (MovesRange old r request)
total_moves old r request =
    ⊎_elim
    (λ (held : Contains old.held r).
    let a = total_allocates (releasing r old) request in
    let m = moved_by old a.1 r request a.0 held a.2 in
    (a.0, m.0, m.1, a.3))
    (λ (none : ¬ Contains old.held r). (Err ResourceNotAvailable, old, move_refused old r request none, λ h. absurd (cc h)))
    (decided_held old.held r)

total_makes : (base size : ℕ) → (answer : Result AddressState Error) × Makes base size answer × (answer ≢ Err OutOfMemory)
unfolding Makes
total_makes base size =
    ⊎_elim
    (λ (none : size ≡ 0). (Err Underflow, inl (none, refl), λ h. absurd (cc h)))
    (λ (some : size ≡ 0 → ⊥).
    ⊎_elim
    (λ (over : MAX < base + size - 1). (Err Overflow, inr (some, inl (over, refl)), λ h. absurd (cc h)))
    (λ (fits : MAX < base + size - 1 → ⊥).
    (Ok (record { space = span base size; held = [] }), inr (some, inr (fits, inl refl)), λ h. absurd (cc h)))
    (decided_below MAX (base + size - 1)))
    (cases_eq size 0)

-- ---- Several requests, and an allocator with held ranges
error_keeps : (old new : AddressState) (request : Request) (e : Error) → Allocates old request (Err e) new → new ≡ old
error_keeps old new request e h = ⊎_elim (λ l. l.2) (λ g. absurd (cc (g.given))) (outcome request old new (Err e) h)

-- The relation is true for some result of several requests other than OutOfMemory.
abbrev HasAll : AddressState → List Request → Type 0
HasAll old requests = (answer : Result (List Range) Error) × (new : AddressState) × AllocatesAll old requests answer new
    × (answer ≢ Err OutOfMemory)

-- The first request gets its range, and the others have a result.
all_after : (old mid new : AddressState) (q : Request) (qs : List Request) (r : Range) (answer : Result (List Range) Error) →
    Allocates old q (Ok r) mid → AllocatesAll mid qs answer new → answer ≢ Err OutOfMemory → HasAll old (q ∷ qs)
all_after old mid new q qs r (Ok rs) h k more = (Ok (r ∷ rs), new, (mid, h, k), λ x. absurd (cc x))
all_after old mid new q qs r (Err e) h k more =
    let refused : RefusesOne mid qs e = ⊎_elim (λ (m : e ≡ OutOfMemory). absurd (more (ap (λ (v : Error). Err v) m))) (λ f. f) k.1 in
    (Err e, old, (refl, inr (inr (r, mid, h, refused))), λ x. more (ap (λ (v : Error). Err v) (cc x)))

-- The first request has a result, and the others have one in every state.
all_from : (old mid : AddressState) (q : Request) (qs : List Request) (answer : Result Range Error) → Allocates old q answer mid →
    answer ≢ Err OutOfMemory → HasAll mid qs → HasAll old (q ∷ qs)
all_from old mid q qs (Err e) h other rest = (
  Err e,
  old,
  (refl, inr (inl (subst (λ (v : AddressState). Allocates old q (Err e) v) (error_keeps old mid q e h) h))),
  λ k. other
      (ap (λ (v : Error). Err v) (cc k)),
)
all_from old mid q qs (Ok r) h other rest = all_after old mid rest.1 q qs r rest.0 h rest.2 rest.3

total_several : (old : AddressState) (requests : List Request) → HasAll old requests
total_several old [] = (Ok [], old, refl, λ h. absurd (cc h))
total_several old (q ∷ qs) = let a = total_allocates old q in all_from old a.1 q qs a.0 a.2 a.3 (total_several a.1 qs)

total_held : (space : Range) (held : List Range) →
    (answer : Result AddressState Error) × MakesHeld space held answer × (answer ≢ Err OutOfMemory)
unfolding MakesHeld
total_held space held =
    elim (first_fault space.start space.end held) as (λ v. v ≢ Some OutOfMemory → (answer : Result AddressState Error) × MatchOption v
    (IfElse (TOO_MANY_BLOCKS ≤ length (blocks_of (record { space = space; held = held }))) (answer ≡ Err Overflow)
    ((answer ≡ Ok (record { space = space; held = held })) ⊎ (answer ≡ Err OutOfMemory)))
    (λ fault. answer ≡ Err fault) × (answer ≢ Err OutOfMemory)) [
      | None ↦ λ n.
          ⊎_elim
          (λ (many : TOO_MANY_BLOCKS ≤ length (blocks_of (record { space = space; held = held }))).
          (Err Overflow, inl (many, refl), λ k. absurd (cc k)))
          (λ (few : TOO_MANY_BLOCKS ≤ length (blocks_of (record { space = space; held = held })) → ⊥).
          (Ok (record { space = space; held = held }), inr (few, inl refl), λ k. absurd (cc k)))
          (decided_up_to TOO_MANY_BLOCKS (length (blocks_of (record { space = space; held = held }))))
      | Some e ↦ λ n. (Err e, refl, λ k. n (ap (λ (v : Error). Some v) (cc k)))
    ] (first_fault_known space.start space.end held)

total_makes_held : (base size : ℕ) (held : List Range) →
    (answer : Result AddressState Error) × MakesWithHeld base size held answer × (answer ≢ Err OutOfMemory)
unfolding BySpace
total_makes_held base size held =
    ⊎_elim
    (λ (none : size ≡ 0). (Err Underflow, inl (none, refl), λ h. absurd (cc h)))
    (λ (some : size ≡ 0 → ⊥).
    ⊎_elim
    (λ (over : MAX < base + size - 1). (Err Overflow, inr (some, inl (over, refl)), λ h. absurd (cc h)))
    (λ (fits : MAX < base + size - 1 → ⊥). let h = total_held (span base size) held in (h.0, inr (some, inr (fits, h.1)), h.2))
    (decided_below MAX (base + size - 1)))
    (cases_eq size 0)

total_makes_with_free : (free : List Range) → (answer : Result AddressState Error) × MakesWithFree free answer × (answer ≢ Err OutOfMemory)
total_makes_with_free [] = (Err Underflow, refl, λ h. absurd (cc h))
total_makes_with_free (r ∷ rs) =
    let space : Range = record { start = r.start; end = last_range_end r.end rs } in
    elim (wrong_index 0 0 (r ∷ rs)) as (λ v. (answer : Result AddressState Error) × MatchOption v
    (Unless (IsRange space.start space.end) (answer ≡ Err (InvalidRange space.start space.end))
    (MakesHeld space (holes_after (r.end + 1) rs) answer))
    (λ index. answer ≡ Err ResourceNotAvailable) × (answer ≢ Err OutOfMemory)) [
      | None ↦
          ⊎_elim
          (λ (range : IsRange space.start space.end). let h = total_held space (holes_after (r.end + 1) rs) in (h.0, inr (range, h.1), h.2))
          (λ (none : ¬ IsRange space.start space.end). (Err (InvalidRange space.start space.end), inl (none, refl), λ h. absurd (cc h)))
          (decided_range space.start space.end)
      | Some i ↦ (Err ResourceNotAvailable, refl, λ h. absurd (cc h))
    ]

-- ---- Each call of a history
total_call : EveryCallIsAnswered IsCallFrom
total_call old (Allocate request) = total_allocates old request
total_call old (AllocateAll requests) = total_several old requests
total_call old (Free r) = total_frees old r
total_call old (MoveTo r request) = total_moves old r request
total_call old Clone = (Ok old, old, (inl refl, refl), λ h. absurd (cc h))

pub every_call : EveryAddressCallIsAnswered
every_call = record { made = total_makes; made_with_held = total_makes_held; made_with_free = total_makes_with_free; called = total_call }

pub every_list_of_addresses : EveryListHasHistory IsCallFrom
every_list_of_addresses = every_list IsCallFrom total_call

pub ruleset answers = (every_call, every_list_of_addresses)
