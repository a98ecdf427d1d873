-- The calls that allocate a given id, an id of a window, or several ids, as single calls one after the other.
use Rattle.std.proofs.Common.{
  ◌≡◌,
  ◌≢◌,
  ℕ,
  ◌+◌,
  ◌<◌,
  ◌≤◌,
  ◌&&◌,
  ◌||◌,
  Bool,
  true,
  false,
  not,
  ltb,
  max,
  List,
  [],
  ◌∷◌,
  ◌++◌,
  length,
  take,
  drop,
  refl,
  sym,
  ap,
  ◌∙◌,
  subst,
  arith,
  inl,
  inr,
  ⊎_elim,
  None,
  Ok,
  Err,
  nat_cmp,
  append_assoc,
  append-nil,
  Less,
}
use Rattle.std.proofs.lemmas.Bool.{cases_lt, both_ways, or_left, or_right, lt-ltb, le-ltb}
use Rattle.std.proofs.lemmas.List.{take-append-drop, length-take-le}
use Rattle.std.proofs.lemmas.List.Kept.{IsStrictlySortedBy-filter}
use Rattle.std.proofs.lemmas.Map.Views.{any-filter_same}
use Rattle.std.specs.List.{AllByRecursion, filter, list_any}
use Rattle.std.specs.List.Sorted.{IsStrictlySortedBy}
use Rattle.std.specs.Ordering.{eq_by_cmp}
use Rattle.std.specs.FinSet as set
use Rattle.vm_ranges.proofs.NumberSets.{tied_here}
use Rattle.vm_ranges.proofs.Items.{less_is}
use Rattle.vm_ids.specs.Ids.{
  MAX_ID,
  IdState,
  IsHeld,
  IsNotHeld,
  IsLowestNotHeld,
  AreAllHeld,
  IsIdState,
  MakesIds,
  new_ids,
  holding_id,
  releasing_id,
  ByLowestNotHeld,
  AllocatesId,
  FreesId,
}
use Rattle.vm_ids.specs.IdRequests.{
  free_ids,
  holding_ids,
  Peeks,
  HoldsId,
  AllocatesPeeked,
  AllocatesExactId,
  IsLowestNotHeldIn,
  AllocatesIdIn,
  AllocatesIds,
  fault_of_held,
  MakesWithHeldIds,
}
use Rattle.vm_laws.specs.IdRequestLaws.{
  AllocatesInTurn,
  AllocatesExactlyInTurn,
  FreesInTurn,
  free_ids_below,
  SeveralAreAsSingle,
  ExactIsAsSingle,
  WindowsOfIds,
  HeldIdsAreAsExact,
}
use Rattle.vm_ranges.specs.declared.error.Error.{Error}
use Rattle.vm_ranges.specs.declared.error.Error.TheVariants.{OutOfMemory}
use Rattle.vm_ids.proofs.Ids.IdSets.{inserted_test, removed_test, same_state}
use Rattle.vm_ids.proofs.Ids.IdResults.{lowest_is_held, allocated_ids, made_ids, freed_ids_state}
use Rattle.vm_ids.proofs.Ids.EveryIdCall.{lowest_or_all}
use Rattle.vm_ids.proofs.Ids.ExactIds.{holding_in_range, exact_new, exact_state, exact_was_free}
use Rattle.vm_ids.proofs.Ids.FreeIds.{free_test, free_rise, lowest_first, holding_more, ids_taken, several_state}
use Rattle.vm_ids.proofs.Ids.AscendingBounds.{rises_below}
use Rattle.vm_ids.proofs.Ids.WithHeld.{made_state, right_from}

abbrev same : ℕ → ℕ → Bool
same = eq_by_cmp nat_cmp

-- ---- Calls of `allocate_id`
-- The first free id is the lowest that is not held.
first_free : (state : IdState) (i : ℕ) (is : List ℕ) → free_ids state ≡ i ∷ is →
    IsLowestNotHeld state i × (free_ids (holding_id i state) ≡ is)
unfolding AreAllHeld
first_free state i is e =
    let listed : list_any (same i) (free_ids state) ≡ true = rw e (or_left _ _ (tied_here i)) in
    ⊎_elim
    (λ (found : (k : ℕ) × IsLowestNotHeld state k).
    let first = lowest_first state found.0 found.1 in
    let k : found.0 ≡ i = cc in
    let rest : free_ids (holding_id found.0 state) ≡ is = cc in
    (rw k at found.1, rw k at rest))
    (λ (all : AreAllHeld state). absurd (grind (arith, free_test state i, all i)))
    (lowest_or_all state)

takes_lowest : (old : IdState) (i : ℕ) → IsLowestNotHeld old i → AllocatesId old (Ok i) (holding_id i old)
unfolding AllocatesId ByLowestNotHeld
takes_lowest old i f = inl (i, f, (refl, refl))

pub taken_in_turn : (ids rest : List ℕ) (old : IdState) → free_ids old ≡ ids ++ rest → AllocatesInTurn old ids (holding_ids ids old)
taken_in_turn [] rest old e = refl
taken_in_turn (i ∷ is) rest old e =
    let f = first_free old i (is ++ rest) e in
    (holding_id i old, takes_lowest old i f.0, taken_in_turn is rest (holding_id i old) f.1)

in_turn_takes : (ids : List ℕ) (old new : IdState) → AllocatesInTurn old ids new →
    (free_ids old ≡ ids ++ free_ids new) × (new ≡ holding_ids ids old)
in_turn_takes [] old new e = (rw e refl, e)
in_turn_takes (i ∷ is) old new t =
    let f = lowest_is_held old t.0 (Ok i) t.1 in
    let rest = in_turn_takes is t.0 new t.2 in
    (lowest_first old i f.0 ∙ ap (λ (xs : List ℕ). i ∷ xs) (rw f.1 at rest.0), rest.1 ∙ ap (holding_ids is) f.1)

pub in_turn_state : (ids : List ℕ) (old new : IdState) → IsIdState old → AllocatesInTurn old ids new → IsIdState new
in_turn_state [] old new s e = subst IsIdState (sym e) s
in_turn_state (i ∷ is) old new s t = in_turn_state is t.0 new (allocated_ids old t.0 (Ok i) s t.1) t.2

-- ---- Several ids
-- The ids that are held after several are allocated, or freed.
pub held_after_all : (is : List ℕ) (s : IdState) (q : ℕ) →
    set.contains (holding_ids is s).held q ≡ (list_any (same q) is || set.contains s.held q)
held_after_all [] s q = refl
held_after_all (i ∷ is) s q = held_after_all is (holding_id i s) q ∙ grind (arith, inserted_test)

-- The state after ids are freed one after the other.
abbrev releasing_ids : List ℕ → IdState → IdState
releasing_ids [] state = state
releasing_ids (i ∷ is) state = releasing_ids is (releasing_id i state)

held_after_frees : (is : List ℕ) (s : IdState) (q : ℕ) →
    set.contains (releasing_ids is s).held q ≡ (not (list_any (same q) is) && set.contains s.held q)
held_after_frees [] s q = refl
held_after_frees (i ∷ is) s q = held_after_frees is (releasing_id i s) q ∙ grind (arith, removed_test)

holding_range : (ids : List ℕ) (s : IdState) → ((holding_ids ids s).lo ≡ s.lo) × ((holding_ids ids s).hi ≡ s.hi)
holding_range [] s = (refl, refl)
holding_range (i ∷ is) s = holding_range is (holding_id i s)

several_taken : (old new : IdState) (count : ℕ) (ids : List ℕ) → IsIdState old → AllocatesIds old count (Ok ids) new →
    AllocatesInTurn old ids new × (length ids ≡ count)
unfolding AllocatesIds
several_taken old new count ids s h =
    let xs = free_ids old in
    let enough : count ≤ length xs = grind arith in
    let is = several_state old new count (Ok ids) h in
    let turn = taken_in_turn (take count xs) (drop count xs) old (sym (take-append-drop count xs)) in
    (rw is.1 (rw is.0 turn), rw is.0 (length-take-le count xs enough))

several_single : (old new : IdState) (ids : List ℕ) → IsIdState old → AllocatesInTurn old ids new →
    AllocatesIds old (length ids) (Ok ids) new
several_single old new ids s t =
    let parts = in_turn_takes ids old new t in ids_taken old new (length ids) ids parts.0 refl parts.1

-- After all free ids are allocated, `allocate_id` has the same error.
several_refused : (old new : IdState) (count : ℕ) (e : Error) → IsIdState old → e ≢ OutOfMemory → AllocatesIds old count (Err e) new →
    (ids : List ℕ) × (last : IdState) × AllocatesInTurn old ids last × AllocatesId last (Err e) last × (length ids < count)
unfolding AllocatesIds AllocatesId ByLowestNotHeld AreAllHeld
several_refused old new count e s m h =
    let all = free_ids old in
    let last = holding_ids all old in
    let range = holding_range all old in (
      all,
      last,
      taken_in_turn all [] old (sym (append-nil all)),
      inr (λ i r. grind (arith, held_after_all all old i, free_test old i, range), grind (arith, range)),
      grind arith,
    )

pub several_are_as_single : SeveralAreAsSingle
several_are_as_single = record { taken = several_taken; single = several_single; refused = several_refused }

-- ---- A given id
none_less : (x id : ℕ) (xs : List ℕ) → AllByRecursion (λ m. nat_cmp x m ≡ Less) xs → id ≤ x → filter (λ i. ltb i id) xs ≡ []
none_less x id [] a l = refl
none_less x id (y ∷ ys) a l = let h = less_is x y a.0 in rw (le-ltb y id (omega (arith, h, l))) (none_less x id ys a.1 l)

-- A list in ascending order, split at one of its numbers.
split_at : (id : ℕ) (xs : List ℕ) → IsStrictlySortedBy nat_cmp xs → list_any (same id) xs ≡ true →
    (above : List ℕ) × (xs ≡ filter (λ i. ltb i id) xs ++ id ∷ above)
unfolding IsStrictlySortedBy
split_at id [] s t = absurd (both_ways false refl t)
split_at id (x ∷ xs) s t =
    ⊎_elim
    (λ (l : x < id).
    let m : list_any (same id) xs ≡ true = grind arith in
    let rest = split_at id xs s.1 m in
    (rest.0, rw (lt-ltb x id l, ← rest.1) refl))
    (λ (l : id ≤ x).
    let e : id ≡ x = grind (arith, rises_below x id xs s.0) in
    (xs, rw (le-ltb x id l, none_less x id xs s.0 l, e) refl))
    (cases_lt x id)

freed_in_turn : (is : List ℕ) (s : IdState) → IsStrictlySortedBy nat_cmp is → IsIdState s →
    ((i : ℕ) → list_any (same i) is ≡ true → IsHeld s i) → FreesInTurn s is (releasing_ids is s)
unfolding FreesId IsStrictlySortedBy
freed_in_turn [] s o v h = refl
freed_in_turn (i ∷ is) s o v h =
    let held : IsHeld s i = h i (or_left _ _ (tied_here i)) in
    let was = v.held i held in
    let frees : FreesId s i (Ok i) (releasing_id i s) = inr (grind (arith, was, v.bound), inr (was, inr (held, inl (refl, refl)))) in (
      releasing_id i s,
      frees,
      freed_in_turn is (releasing_id i s) o.1 (freed_ids_state s (releasing_id i s) i (Ok i) v frees)
          (λ j m. grind (arith, removed_test, h j (or_right _ _ m), rises_below i j is o.0 m)),
    )

frees_keep : (is : List ℕ) (s : IdState) →
    ((releasing_ids is s).lo ≡ s.lo) × ((releasing_ids is s).hi ≡ s.hi) × ((releasing_ids is s).bound ≡ s.bound)
frees_keep [] s = (refl, refl, refl)
frees_keep (i ∷ is) s = frees_keep is (releasing_id i s)

bound_below : (is : List ℕ) (id : ℕ) (s : IdState) → ((q : ℕ) → list_any (same q) is ≡ true → q < id) →
    (s.bound ≤ (holding_ids is s).bound) × ((holding_ids is s).bound ≤ max s.bound id)
bound_below [] id s r = (omega arith, omega arith)
bound_below (i ∷ is) id s r =
    let rest = bound_below is id (holding_id i s) (λ q t. r q (or_right _ _ t)) in
    let l = r i (or_left _ _ (tied_here i)) in
    (omega (arith, rest.0), omega (arith, rest.1, l))

-- Allocating ids below one, and this one, and freeing those below it leaves this one allocated.
up_to_one : (old : IdState) (id : ℕ) (is : List ℕ) →
    ((q : ℕ) → list_any (same q) is ≡ true → (q < id) × (set.contains old.held q ≡ false)) →
    releasing_ids is (holding_id id (holding_ids is old)) ≡ holding_id id old
up_to_one old id is free =
    let mid = holding_id id (holding_ids is old) in
    let keep = frees_keep is mid in
    let range = holding_range is old in
    let bound = bound_below is id old (λ q t. (free q t).0) in
    same_state (releasing_ids is mid) (holding_id id old) (keep.0 ∙ range.0) (keep.1 ∙ range.1) (omega (arith, keep.2, bound.0, bound.1))
    (λ q. grind (arith, held_after_frees is mid q, held_after_all is old q, inserted_test, free q))

pub exact_is_as_single : ExactIsAsSingle
exact_is_as_single old new id s h =
    let free : IsNotHeld old id = exact_was_free old new id (Ok id) h in
    let is : new ≡ holding_id id old = (exact_state old new id (Ok id) h).1 in
    let below = free_ids_below id old in
    let test : (q : ℕ) → list_any (same q) below ≡ (ltb q id && list_any (same q) (free_ids old)) =
    λ q. any-filter_same (same q) (λ i. ltb i id) (ltb q id) (λ k m. ap (λ (i : ℕ). ltb i id) (grind arith)) (free_ids old) in
    let cut = split_at id (free_ids old) (free_rise old) (grind (arith, free_test old id)) in
    let mid = holding_ids (below ++ id ∷ []) old in
    let turn = taken_in_turn (below ++ id ∷ []) cut.0 old (cut.1 ∙ sym (append_assoc below (id ∷ []) cut.0)) in
    let more : mid ≡ holding_id id (holding_ids below old) = holding_more below id old in
    let held : (q : ℕ) → list_any (same q) below ≡ true → IsHeld mid q =
    λ q t. rw more (grind (arith, inserted_test, held_after_all below old q)) in
    let left : releasing_ids below mid ≡ new = rw (more, is) (up_to_one old id below (λ q t. grind (arith, test q, free_test old q))) in
    let rises = IsStrictlySortedBy-filter nat_cmp (λ i. ltb i id) (free_ids old) (free_rise old) in
    (mid, turn, rw left at (freed_in_turn below mid rises (in_turn_state (below ++ id ∷ []) old mid s turn) held))

-- ---- An id of a window
window_exact : (old new : IdState) (first last id : ℕ) → AllocatesIdIn old first last (Ok id) new → AllocatesExactId old id (Ok id) new
unfolding AllocatesPeeked Peeks HoldsId IsLowestNotHeldIn
window_exact old new first last id h = grind arith

window_whole : (old new : IdState) (first last id : ℕ) → first ≤ old.lo → old.hi ≤ last → AllocatesIdIn old first last (Ok id) new →
    AllocatesId old (Ok id) new
unfolding AllocatesPeeked Peeks HoldsId IsLowestNotHeldIn AllocatesId ByLowestNotHeld IsLowestNotHeld
window_whole old new first last id l h a =
    let f : IsLowestNotHeldIn first last old id × (new ≡ holding_id id old) = grind arith in
    inl (id, (f.0.0.2, λ k n. grind (arith, f.0.1 k)), (refl, f.1))

pub windows_of_ids : WindowsOfIds
windows_of_ids = record { exact = window_exact; whole = window_whole }

-- ---- Held ids
held_in_turn : (held : List ℕ) (lo hi next : ℕ) (s : IdState) → IsIdState s → lo ≡ s.lo → hi ≡ s.hi → next ≡ s.bound →
    fault_of_held lo hi next held ≡ None → AllocatesExactlyInTurn s held (holding_ids held s) × IsIdState (holding_ids held s)
unfolding HoldsId
held_in_turn [] lo hi next s v l h b f = (refl, v)
held_in_turn (i ∷ is) lo hi next s v l h b f =
    let r = right_from lo hi next i is f in
    let range : (s.lo ≤ i) × (i ≤ s.hi) = omega (arith, r.range, l, h) in
    let bound : i + 1 ≡ max s.bound (i + 1) = omega (arith, r.order, b) in
    let takes : AllocatesExactId s i (Ok i) (holding_id i s) =
    exact_new s _ i (Ok i) range (λ k. grind (arith, v.held i k, r.order, b)) (inl (refl, refl)) in
    let rest = held_in_turn is lo hi (i + 1) (holding_id i s) (holding_in_range s i v range) l h bound r.others in
    ((holding_id i s, takes, rest.0), rest.1)

pub held_are_made : (lo hi : ℕ) (held : List ℕ) (first made : IdState) → hi ≤ MAX_ID → MakesIds lo hi (Ok first) →
    MakesWithHeldIds lo hi held (Ok made) → AllocatesExactlyInTurn first held made × IsIdState made
unfolding MakesWithHeldIds
held_are_made lo hi held first made m h a =
    let new : first ≡ new_ids lo hi = (made_state lo hi first h).0 in
    let all : (fault_of_held lo hi lo held ≡ None) × (made ≡ holding_ids held (new_ids lo hi)) = grind arith in
    let turn = held_in_turn held lo hi lo (new_ids lo hi) (rw new at (made_ids lo hi first m h)) refl refl refl all.0 in
    rw (new, all.1) turn

pub held_ids_are_as_exact : HeldIdsAreAsExact
held_ids_are_as_exact lo hi held first made m h w = (held_are_made lo hi held first made m h w).0

pub ruleset in_turn = (several_are_as_single, exact_is_as_single, windows_of_ids, held_ids_are_as_exact)
