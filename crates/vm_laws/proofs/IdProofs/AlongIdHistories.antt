-- Facts of every history of an id allocator.
use Rattle.std.proofs.Common.{
  ◌≡◌,
  ◌≢◌,
  ◌⊎◌,
  ℕ,
  zero,
  suc,
  true,
  false,
  cond,
  nat_eq,
  refl,
  sym,
  ◌∙◌,
  arith,
  inl,
  inr,
  ⊎_elim,
  List,
  [],
  ◌∷◌,
  ◌++◌,
  take,
  drop,
  Ok,
  Err,
}
use Rattle.std.proofs.lemmas.Bool.{cases_eq, cases_Bool, both_ways}
use Rattle.std.proofs.lemmas.List.{take-append-drop}
use Rattle.std.proofs.lemmas.List.Elements.{Contains-append_right}
use Rattle.std.proofs.lemmas.Map.Made.{is_member-Decides}
use Rattle.std.specs.List.{Contains, list_any}
use Rattle.std.specs.Ordering.{nat_cmp, eq_by_cmp}
use Rattle.std.specs.Cmp.{nat_cmp_total}
use Rattle.std.specs.FinSet as set
use Rattle.vm_ranges.proofs.NumberSets.{inserted_here}
use Rattle.vm_ids.specs.IdRequests.{free_ids, holding_ids, AllocatesExactId, IsLowestNotHeldIn, AllocatesIdIn, MakesWithHeldIds}
use Rattle.vm_ids.proofs.Ids.IdCounts.{tells_apart}
use Rattle.vm_ids.proofs.Ids.ExactIds.{holding_in_range, exact_state, exact_was_free, exact_unchanged}
use Rattle.vm_ids.proofs.Ids.LowestIds.{in_lowest, in_state, in_unchanged}
use Rattle.vm_ids.proofs.Ids.FreeIds.{in_free, several_state}
use Rattle.vm_laws.proofs.IdProofs.IdsInTurn.{taken_in_turn, in_turn_state, held_after_all, held_are_made}
use Rattle.vm_ids.proofs.Ids.WithHeld.{made_state}
use Rattle.vm_ids.proofs.Ids.IdSets.{inserted_test, removed_test}
use Rattle.vm_ids.proofs.Ids.IdFields.{is_state}
use Rattle.vm_ids.specs.Ids.{IdState, IsHeld, IsLowestNotHeld, IsIdState, new_ids, holding_id, releasing_id, MakesIds}
use Rattle.vm_ids.specs.Histories.IdHistories.{
  Allocate,
  AllocateExact,
  AllocateIn,
  AllocateSeveral,
  Free,
  Clone,
  IdCall,
  IsIdCallFrom,
  IsIdHistoryFrom,
  AreIdsMade,
  AreIdsMadeOfFreed,
  AreIdsMadeOfHeld,
  AreIdsRead,
  AllocatedTheId,
  is_held_after,
  is_allocated_after,
}
use Rattle.vm_laws.specs.IdHistoryLaws.{EachIsLowestNotHeld, NoIdIsHeldTwice, HeldIsAllocated, StatesAreOfIds}
use Rattle.vm_ranges.proofs.Clones.{cloning_keeps}
use Rattle.vm_ranges.specs.Histories.{ErrorsChangeNothing}
use Rattle.vm_ranges.proofs.Histories.{state_between, history_keeps}
use Rattle.vm_ids.proofs.Ids.ReadIdStates.{encoded_state}
use Rattle.vm_ids.proofs.Ids.IdResults.{lowest_is_held, freed_is_removed, made_ids, allocated_ids, freed_ids_state}
use Rattle.vm_laws.specs.IdLaws.{IdStateIsPreserved}
use Rattle.vm_ids.proofs.Callers.{id_is_held, id_is_lowest}

-- ---- One call
pub errors_change_nothing : ErrorsChangeNothing IsIdCallFrom
errors_change_nothing old new Allocate e h = lowest_is_held old new (Err e) h
errors_change_nothing old new (AllocateExact i) e h = exact_unchanged old new i (Err e) h
errors_change_nothing old new (AllocateIn first last) e h = in_unchanged old new first last (Err e) h
errors_change_nothing old new (AllocateSeveral count) e h = several_state old new count (Err e) h
errors_change_nothing old new (Free i) e h = freed_is_removed old new i (Err e) h
errors_change_nothing old new Clone e h = cloning_keeps old new (Err e) h.0 h.1

-- The state after a call, by its result.
abbrev after : IdCall → IdState → IdState
after (asked, Err e) old = old
after (Allocate, Ok i) old = holding_id i old
after (AllocateExact asked, Ok i) old = holding_id i old
after (AllocateIn first last, Ok i) old = holding_id i old
after (AllocateSeveral count, Ok ids) old = holding_ids ids old
after (Free i, Ok back) old = releasing_id i old
after (Clone, Ok state) old = old

call_after : (call : IdCall) (old new : IdState) → IsIdCallFrom old call new → new ≡ after call old
call_after (asked, Err e) old new h = errors_change_nothing old new asked e h
call_after (Allocate, Ok i) old new h = (lowest_is_held old new (Ok i) h).1
call_after (AllocateExact asked, Ok i) old new h = let a = exact_state old new asked (Ok i) h in rw a.0 a.1
call_after (AllocateIn first last, Ok i) old new h = in_state old new first last (Ok i) h
call_after (AllocateSeveral count, Ok ids) old new h = (several_state old new count (Ok ids) h).1
call_after (Free i, Ok back) old new h = (freed_is_removed old new i (Ok back) h).1
call_after (Clone, Ok state) old new h = cloning_keeps old new (Ok state) h.0 h.1

-- ---- Each state of a history is valid
call_state : (old new : IdState) (call : IdCall) → IsIdState old → IsIdCallFrom old call new → IsIdState new
unfolding IsLowestNotHeldIn
call_state old new (asked, Err e) s h = rw (errors_change_nothing old new asked e h) s
call_state old new (Allocate, Ok i) s h = allocated_ids old new (Ok i) s h
call_state old new (AllocateExact id, Ok i) s h =
    rw (call_after (AllocateExact id, Ok i) old new h) (holding_in_range old i s (exact_was_free old new id (Ok i) h).0)
call_state old new (AllocateIn first last, Ok i) s h =
    rw (in_state old new first last (Ok i) h) (holding_in_range old i s (in_lowest old new first last (Ok i) h).0.2.0)
call_state old new (AllocateSeveral count, Ok ids) s h =
    let is = several_state old new count (Ok ids) h in
    let xs = free_ids old in
    let turn = taken_in_turn (take count xs) (drop count xs) old (sym (take-append-drop count xs)) in
    rw (is.1, is.0) (in_turn_state (take count xs) old (holding_ids (take count xs) old) s turn)
call_state old new (Free id, Ok i) s h = freed_ids_state old new id (Ok i) s h
call_state old new (Clone, Ok state) s h = rw (cloning_keeps old new (Ok state) h.0 h.1) s

pub id_states_are_preserved : IdStateIsPreserved
id_states_are_preserved = record { made = made_ids; called = call_state }

pub ruleset kept = (id_states_are_preserved)

history_state : (calls : List IdCall) (first last : IdState) → IsIdState first → IsIdHistoryFrom first calls last → IsIdState last
history_state = history_keeps IsIdCallFrom IsIdState (λ call old new. call_state old new call)

first_state : (first : IdState) → AreIdsMade first ⊎ (AreIdsMadeOfFreed first ⊎ (AreIdsMadeOfHeld first ⊎ AreIdsRead first)) →
    IsIdState first
unfolding MakesWithHeldIds MakesIds
first_state first (inl m) = made_ids m.lo m.hi first m.word m.made
first_state first (inr (inl m)) =
    is_state first m.lo m.hi m.next (record { keys = m.freed }) (sym m.made.1) m.made.0.parts
first_state first (inr (inr (inl m))) =
    (held_are_made m.lo m.hi m.held (new_ids m.lo m.hi) first m.word (grind arith) m.made).1
first_state first (inr (inr (inr r))) = encoded_state r.value first r.encoded

pub states_are_of_ids : StatesAreOfIds
unfolding StatesAreOfIds
states_are_of_ids calls state r = history_state calls r.first state (first_state r.first r.begins) r.history

-- ---- An id is held if and only if it was allocated and not freed since
held_with : (old : IdState) (i id : ℕ) → set.contains (holding_id i old).held id ≡ cond (nat_eq i id) true (set.contains old.held id)
held_with old i id = grind (arith, inserted_test)

held_after : (call : IdCall) (old : IdState) (id : ℕ) →
    set.contains (after call old).held id ≡ is_held_after id (set.contains old.held id) call
held_after (asked, Err e) old id = refl
held_after (Allocate, Ok i) old id = held_with old i id
held_after (AllocateExact asked, Ok i) old id = held_with old i id
held_after (AllocateIn first last, Ok i) old id = held_with old i id
held_after (AllocateSeveral count, Ok ids) old id =
    held_after_all ids old id ∙ grind (arith, set.contains-from_list nat_cmp_total ids id)
held_after (Free i, Ok back) old id = grind (arith, removed_test)
held_after (Clone, Ok state) old id = refl

held_after_call : (call : IdCall) (old new : IdState) (id : ℕ) → IsIdCallFrom old call new →
    set.contains new.held id ≡ is_held_after id (set.contains old.held id) call
held_after_call call old new id h = rw (call_after call old new h) (held_after call old id)

held_after_history : (calls : List IdCall) (first last : IdState) (id : ℕ) → IsIdHistoryFrom first calls last →
    set.contains last.held id ≡ is_allocated_after id (set.contains first.held id) calls
held_after_history [] first last id e = rw e refl
held_after_history (call ∷ calls) first last id history =
    rw (← held_after_call call first history.0 id history.1) (held_after_history calls history.0 last id history.2)

none_held_at_first : (lo hi : ℕ) (first : IdState) (id : ℕ) → MakesIds lo hi (Ok first) → set.contains first.held id ≡ false
none_held_at_first lo hi first id m = rw (made_state lo hi first m).0 (set.contains-empty nat_cmp id)

pub held_is_out : HeldIsAllocated
held_is_out = record {
  reached = λ calls state id r. let e = held_after_history calls r.first state id r.history in (λ h. sym e ∙ h, λ h. e ∙ h);
  made = λ calls first state id m history.
      let e = rw (none_held_at_first m.lo m.hi first id m.made) at (held_after_history calls first state id history) in
      (λ h. sym e ∙ h, λ h. e ∙ h);
}

pub ruleset held_ids = (held_is_out, states_are_of_ids, errors_change_nothing)

-- ---- The allocated ids
pub each_is_lowest : EachIsLowestNotHeld
unfolding EachIsLowestNotHeld
each_is_lowest calls old new id r h = (id_is_lowest old new (Ok id) h, id_is_held old new (Ok id) h)

-- An id stops being held only if it is freed.
stays_or_freed : (call : IdCall) (old new : IdState) (id : ℕ) → IsIdCallFrom old call new →
    (is_held_after id true call ≡ true) ⊎ (call ≡ (Free id, Ok id))
stays_or_freed (asked, Err e) old new id h = inl refl
stays_or_freed (Allocate, Ok i) old new id h = inl (grind arith)
stays_or_freed (AllocateExact asked, Ok i) old new id h = inl (grind arith)
stays_or_freed (AllocateIn first last, Ok i) old new id h = inl (grind arith)
stays_or_freed (AllocateSeveral count, Ok ids) old new id h = inl refl
stays_or_freed (Free i, Ok back) old new id h =
    ⊎_elim
    (λ (e : i ≡ id). inr (rw ((freed_is_removed old new i (Ok back) h).0, e) refl))
    (λ (ne : i ≢ id). inl (grind arith))
    (cases_eq i id)
stays_or_freed (Clone, Ok state) old new id h = inl refl

call_frees : (call : IdCall) (old new : IdState) (id : ℕ) → IsIdCallFrom old call new → IsHeld old id → ¬ IsHeld new id →
    call ≡ (Free id, Ok id)
call_frees call old new id h held gone =
    ⊎_elim (λ e. absurd (gone (rw held at (held_after_call call old new id h) ∙ e))) (λ e. e) (stays_or_freed call old new id h)

-- An id that is held at first and not at last was freed by one of the calls.
history_frees : (calls : List IdCall) (first last : IdState) (id : ℕ) → IsIdHistoryFrom first calls last → IsHeld first id →
    ¬ IsHeld last id → Contains calls (Free id, Ok id)
history_frees [] first last id e held gone = absurd (gone (rw e held))
history_frees (call ∷ calls) first last id history held gone =
    ⊎_elim
    (λ (still : IsHeld history.0 id).
    Contains-append_right (call ∷ []) calls _ (history_frees calls history.0 last id history.2 still gone))
    (λ (not_now : set.contains history.0.held id ≡ false).
    (0, omega arith, call_frees call first history.0 id history.1 held (both_ways _ not_now)))
    (cases_Bool (set.contains history.0.held id))

-- An id that a call allocates was not held before, and is held afterwards.
any_of_first : (q n : ℕ) (xs : List ℕ) → list_any (eq_by_cmp nat_cmp q) (take n xs) ≡ true → list_any (eq_by_cmp nat_cmp q) xs ≡ true
any_of_first q zero xs t = absurd (both_ways false refl t)
any_of_first q (suc n) [] t = t
any_of_first q (suc n) (x ∷ xs) t = grind (arith, any_of_first q n xs)

call_allocates : (call : IdCall) (old new : IdState) (id : ℕ) → AllocatedTheId id call → IsIdCallFrom old call new →
    ¬ IsHeld old id × IsHeld new id
unfolding IsLowestNotHeld IsLowestNotHeldIn
call_allocates (Allocate, answer) old new id is h =
    let f = lowest_is_held old new (Ok id) (rw is at h) in
    (f.0.0.1, rw f.1 (inserted_here old.held id))
call_allocates (AllocateExact asked, answer) old new id is h =
    let k : AllocatesExactId old asked (Ok id) new = rw is at h in
    let a = exact_state old new asked (Ok id) k in
    ((exact_was_free old new asked (Ok id) k).1, rw (a.1, ← a.0) (inserted_here old.held id))
call_allocates (AllocateIn first last, answer) old new id is h =
    let k : AllocatesIdIn old first last (Ok id) new = rw is at h in
    ((in_lowest old new first last (Ok id) k).0.2.1, rw (in_state old new first last (Ok id) k) (inserted_here old.held id))
call_allocates (AllocateSeveral count, Ok ids) old new id c h =
    let a = several_state old new count (Ok ids) h in
    let t : list_any (eq_by_cmp nat_cmp id) ids ≡ true = (is_member-Decides tells_apart ids id).1 c in
    ((in_free old id (any_of_first id count (free_ids old) (rw a.0 at t))).1, rw (a.1, held_after_all ids old id, t) refl)
call_allocates (AllocateSeveral count, Err e) old new id c h = absurd c
call_allocates (Free i, answer) old new id c h = absurd c
call_allocates (Clone, answer) old new id c h = absurd c

pub no_id_is_held_twice : NoIdIsHeldTwice
unfolding NoIdIsHeldTwice
no_id_is_held_twice before between first second state id a b r =
    let start = state_between IsIdCallFrom before (first ∷ (between ++ second ∷ [])) r.first state r.history in
    let mid = start.2.0 in
    let end = state_between IsIdCallFrom between (second ∷ []) mid state start.2.2 in
    history_frees between mid end.0 id end.1 (call_allocates first start.0 mid id a start.2.1).1
    (call_allocates second end.0 end.2.0 id b end.2.1).0

pub ruleset lowest_ids = (each_is_lowest, no_id_is_held_twice)
