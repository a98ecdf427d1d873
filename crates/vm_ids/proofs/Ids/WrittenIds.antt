-- The parts of an id allocator that a writer passes on: its range, its next id and its freed ids.
use Rattle.std.proofs.Common.{
  ◌≡◌,
  ◌⊎◌,
  ℕ,
  ◌-◌,
  ◌<◌,
  ◌≤◌,
  Bool,
  cond,
  not,
  ◌&&◌,
  leb,
  ltb,
  List,
  [],
  ◌∷◌,
  ◌++◌,
  inl,
  inr,
  ⊎_elim,
  refl,
  sym,
  ap,
  ◌∙◌,
  subst,
  arith,
  nat_cmp,
  Option,
  Some,
  None,
  Result,
  Ok,
  Err,
  Less,
  ◌↔◌,
}
use Rattle.std.proofs.lemmas.Bool.{cases_lt, le-leb, lt-leb}
use Rattle.std.specs.List.{AllByRecursion, list_any}
use Rattle.std.specs.List.Sorted.{IsStrictlySortedBy}
use Rattle.std.specs.Ordering.{eq_by_cmp}
use Rattle.std.specs.FinSet as set
use Rattle.vm_ranges.specs.declared.saved.SavedError.{SavedError}
use Rattle.vm_ranges.specs.declared.saved.SavedError.TheVariants.{Violated, OutOfMemory}
use Rattle.vm_ids.specs.Ids.{MAX_ID, IdState, IsIdState, IsNext, bound_of, ids_of, freed_ids, next_id_of}
use Rattle.vm_ids.specs.FreedLists.{AreFreedOf, PushesId, MakesOfIds}
use Rattle.vm_ids.specs.Facts.{WrittenIdsAreRead}
use Rattle.vm_ids.proofs.Ids.IdSets.{held_test, same_state}
use Rattle.vm_ids.proofs.Ids.IdRows.{passed_rise, row_passed}

-- The next id.

-- The next id as its two cases.
next_cases : (state : IdState) →
    ((state.bound ≤ MAX_ID) × (next_id_of state ≡ Some state.bound)) ⊎ ((MAX_ID < state.bound) × (next_id_of state ≡ None))
next_cases state =
    ⊎_elim
    (λ (h : MAX_ID < state.bound). inr (h, ap (λ (t : Bool). cond t (Some state.bound) None) (lt-leb state.bound MAX_ID h)))
    (λ (h : state.bound ≤ MAX_ID). inl (h, ap (λ (t : Bool). cond t (Some state.bound) None) (le-leb state.bound MAX_ID h)))
    (cases_lt MAX_ID state.bound)

next_valid : (state : IdState) → IsIdState state → IsNext state.lo state.hi (next_id_of state)
next_valid state s = ⊎_elim (λ h. rw h.1 (grind (arith, s.bound))) (λ h. rw h.1 (omega (arith, s.ids, s.bound))) (next_cases state)

bound_is : (state : IdState) → IsIdState state → bound_of (next_id_of state) state.hi ≡ state.bound
bound_is state s = ⊎_elim (λ h. rw h.1 refl) (λ h. rw h.1 (omega (arith, s.ids, s.bound))) (next_cases state)

-- The freed ids.

-- An id is freed if it is not held and was allocated at some time.
is_freed : (state : IdState) (i : ℕ) → IsIdState state →
    list_any (eq_by_cmp nat_cmp i) (freed_ids state) ≡ (not (set.contains state.held i) && (leb state.lo i && ltb i state.bound))
is_freed state i s =
    row_passed (λ k. not (set.contains state.held k)) state.lo (state.bound - state.lo) i ∙ grind (arith, s.bound)

parts_accepted : (state : IdState) → IsIdState state → AreFreedOf state.lo state.hi (next_id_of state) (freed_ids state)
parts_accepted state s = record {
  parts = record {
    range = s.range;
    ids = s.ids;
    next_id = next_valid state s;
    freed_ids = λ i t. rw (bound_is state s) (grind (arith, is_freed state i s));
  };
  ascending = passed_rise (λ i. not (set.contains state.held i)) state.lo (state.bound - state.lo);
}

-- The state of the parts.

parts_same : (state : IdState) → IsIdState state → ids_of state.lo state.hi (next_id_of state) (record { keys = freed_ids state }) ≡ state
unfolding ids_of
parts_same state s =
    same_state _ state refl refl (bound_is state s)
    (λ i. rw (bound_is state s) (grind (arith, held_test, is_freed state i s, s.held i)))

-- The ids one by one.

all_first : (k id : ℕ) (before after : List ℕ) → AllByRecursion (λ i. nat_cmp k i ≡ Less) (before ++ id ∷ after) →
    AllByRecursion (λ i. nat_cmp k i ≡ Less) (before ++ id ∷ [])
all_first k id [] after a = (a.0, tt)
all_first k id (i ∷ before) after a = (a.0, all_first k id before after a.1)

sorted_first : (id : ℕ) (before after : List ℕ) → IsStrictlySortedBy nat_cmp (before ++ id ∷ after) →
    IsStrictlySortedBy nat_cmp (before ++ id ∷ [])
unfolding IsStrictlySortedBy
sorted_first id [] after s = (tt, tt)
sorted_first id (i ∷ before) after s = (all_first i id before after s.0, sorted_first id before after s.1)

id_pushed : (state : IdState) (before after new : List ℕ) (id : ℕ) (answer : Result (Unit {0}) SavedError) →
    freed_ids state ≡ before ++ id ∷ after → PushesId before id answer new →
    ((answer ≡ Ok tt) × (new ≡ before ++ id ∷ [])) ⊎ (answer ≡ Err OutOfMemory)
id_pushed state before after new id (Ok u) e p = inl (refl, p.0)
id_pushed state before after new id (Err (Violated c)) e p =
    let rises = passed_rise (λ i. not (set.contains state.held i)) state.lo (state.bound - state.lo) in
    absurd (p.2 (sorted_first id before after (subst (IsStrictlySortedBy nat_cmp) e rises)))
id_pushed state before after new id (Err OutOfMemory) e p = inr refl

state_made : (state : IdState) (answer : Result IdState SavedError) → IsIdState state →
    MakesOfIds state.lo state.hi (next_id_of state) (freed_ids state) answer → answer ≡ Ok state
state_made state (Ok made) s m = ap Ok (m.1 ∙ parts_same state s)
state_made state (Err (Violated c)) s m = absurd (m.1 (parts_accepted state s))
state_made state (Err OutOfMemory) s m = absurd m

pub written_ids : WrittenIdsAreRead
written_ids = record { accepted = parts_accepted; same = parts_same; pushed = id_pushed; made = state_made }

pub parts_decide : (a b : IdState) → IsIdState a → IsIdState b →
    (a ≡ b) ↔ ((a.lo ≡ b.lo) × (a.hi ≡ b.hi) × (next_id_of a ≡ next_id_of b) × (freed_ids a ≡ freed_ids b))
parts_decide a b s t = (
  λ e. (
    ap (λ (v : IdState). v.lo) e,
    ap (λ (v : IdState). v.hi) e,
    ap (λ (v : IdState). next_id_of v) e,
    ap (λ (v : IdState). freed_ids v)
        e,
  ),
  λ p.
      sym (parts_same a s)
      ∙ ap (λ (n : ℕ). ids_of n a.hi (next_id_of a) (record { keys = freed_ids a })) p.0
      ∙ ap (λ (n : ℕ). ids_of b.lo n (next_id_of a) (record { keys = freed_ids a })) p.1
      ∙ ap (λ (n : Option ℕ). ids_of b.lo b.hi n (record { keys = freed_ids a })) p.2
      ∙ ap (λ (is : List ℕ). ids_of b.lo b.hi (next_id_of b) (record { keys = is })) p.3
      ∙ parts_same b t,
)

pub ruleset written = (written_ids, parts_decide)
