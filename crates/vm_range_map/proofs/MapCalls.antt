-- The results of the calls of a map, case by case.
use Rattle.std.proofs.Common.{◌≡◌, ◌≢◌, ℕ, ◌%◌, ◌≤◌, refl, sym, ap, ◌∙◌, subst, inl, inr, ⊎_elim, Some, None, IfSome, Result, Ok, Err}
use Rattle.std.specs.List.{Contains}
use Rattle.std.specs.Ordering.{nat_cmp}
use Rattle.std.specs.FinMap as map
use Rattle.vm_ranges.specs.Range.{Range, MAX, Covers, IsIn, IsInNone, address_count}
use Rattle.vm_ranges.specs.Request.{Request, MakesConstraint}
use Rattle.vm_ranges.specs.declared.error.Error.{Error}
use Rattle.vm_ranges.specs.declared.error.Error.TheVariants.{OutOfMemory}
use Rattle.vm_ranges.specs.Address.{AddressState, releasing}
use Rattle.vm_ranges.specs.Answer.{Allocates, Frees, Makes}
use Rattle.vm_addresses.specs.Moves.{MovesRange, replacing}
use Rattle.vm_addresses.specs.Queries.{IsHeldAt}
use Rattle.vm_addresses.proofs.Callers.{given, request_fits, request_inside}
use Rattle.vm_addresses.proofs.Histories.MoveSteps.{moved_parts}
use Rattle.vm_addresses.proofs.Results.AddressResults.{freeing_undoes}
use Rattle.vm_addresses.proofs.Results.Requests.{allocates_refused}
use Rattle.vm_range_map.specs.RangeMaps.{MapState, map_of, IsMapState, HasValue, with_range, without_range, with_value, with_moved, MakesMap, AllocatesWith, FreesWith, IsValueAt, SetsValue, MovesWith}
use Rattle.vm_range_map.specs.Trees.{RangeMapInTree, map_state}
use Rattle.vm_range_map.specs.MapLends.{WritesAt}
use Rattle.vm_range_map.proofs.MapStates.{empty_state, value_state}
use Rattle.vm_range_map.proofs.HeldRanges.{one_at}

-- A range that was freed was held.
pub freed_was : (old new : AddressState) (r : Range) → Frees old r (Ok tt) new → Contains old.held r × (new ≡ releasing r old)
unfolding Frees
freed_was old new r f = ⊎_elim (λ l. (l.0, l.1.1)) (λ l. absurd (cc (l.1.0))) f

-- The moved range is as long as asked and aligned, and lies in the window.
pub moved_fits : (old new : AddressState) (q r : Range) (request : Request) → MovesRange old q request (Ok r) new →
    (address_count r ≡ request.size) × (r.start % request.align ≡ 0)
moved_fits old new q r request m = request_fits (releasing q old) new request (Ok r) (moved_parts old new q r request m).allocated

pub moved_inside : (old new : AddressState) (q r : Range) (request : Request) → MovesRange old q request (Ok r) new →
    IfSome request.window (λ w. Covers w r)
moved_inside old new q r request m = request_inside (releasing q old) new request (Ok r) (moved_parts old new q r request m).allocated

module _ {X : Type 0} where
  -- ---- Creating
  -- If the space cannot be made, its error is returned.
  pub map_refused : (base size : ℕ) (e : Error) (answer : Result (MapState X) Error) → Makes base size (Err e) → answer ≡ Err e →
      MakesMap base size answer
  unfolding MakesMap
  map_refused base size e answer m is = (Err e, m, is)

  -- If the space can be made, the map has it and no value.
  pub map_made : (base size : ℕ) (space : AddressState) (values : map.FinMap nat_cmp X) → Makes base size (Ok space) → values ≡ map.empty →
      MakesMap base size (Ok (map_of space values))
  unfolding MakesMap
  map_made base size space values m e = (Ok space, m, ap (λ t. Ok (map_of space t)) e)

  -- The new state is valid.
  pub new_state : (base size : ℕ) (space : AddressState) (values : map.FinMap nat_cmp X) → size ≤ MAX → Makes base size (Ok space) →
      values ≡ map.empty → IsMapState (map_of space values)
  new_state base size space values word m e = rw e (empty_state base size space word m)

  -- ---- Allocating
  module _ (old new : MapState X) (request : Request) (value : X) where
    -- If no range is allocated, its error is returned.
    pub range_refused : (e : Error) (space : AddressState) → Allocates old.space request (Err e) space → new ≡ old →
        AllocatesWith old request value (Err e) new
    unfolding AllocatesWith
    range_refused e space a same = (Err e, space, a, (refl, same))

    -- If the request is not valid, its error is returned.
    pub request_refused : (e : Error) → MakesConstraint request (Err e) → new ≡ old → AllocatesWith old request value (Err e) new
    request_refused e m same = range_refused e old.space (allocates_refused old.space request e m) same

    module _ (r : Range) (mid : AddressState) (a : Allocates old.space request (Ok r) mid) where
      -- The range is allocated, and gets the value.
      pub range_valued : new ≡ with_range r value old → AllocatesWith old request value (Ok r) new
      unfolding AllocatesWith
      range_valued left = (Ok r, mid, a, inl (refl, left))

      -- The range is freed again, because memory ran out.
      pub value_refused : new ≡ old → AllocatesWith old request value (Err OutOfMemory) new
      unfolding AllocatesWith
      value_refused same = (Ok r, mid, a, inr (refl, same))

  -- The state with the allocated range and its value.
  pub valued_state : (old : MapState X) (request : Request) (value : X) (r : Range) (mid : AddressState) (values : map.FinMap nat_cmp X) →
      Allocates old.space request (Ok r) mid → values ≡ map.insert old.values r.start value → map_of mid values ≡ with_range r value old
  valued_state old request value r mid values a e = rw ((given old.space mid request r a).left, e) refl

  -- The state after the range was freed again.
  pub returned_state : (old : MapState X) (request : Request) (r : Range) (mid space : AddressState) (values : map.FinMap nat_cmp X)
      (freed : Result (Unit {0}) Error) → IsMapState old → Allocates old.space request (Ok r) mid → Frees mid r freed space →
      values ≡ old.values → map_of space values ≡ old
  returned_state old request r mid space values freed i a f e = rw ((freeing_undoes old.space mid space request r freed i.space a f).1, e) refl

  -- ---- Freeing
  module _ (old new : MapState X) (r : Range) where
    -- A range that is not held is an error.
    pub free_refused : (e : Error) (space : AddressState) → Frees old.space r (Err e) space → new ≡ old → FreesWith old r (Err e) new
    unfolding FreesWith Frees
    free_refused e space f same = ⊎_elim (λ l. absurd (cc (l.1.0))) (λ l. inr (l.0, (cc (l.1.0), same))) f

    -- A held range is freed, and its value is returned.
    pub range_freed : (value : X) → HasValue old r value → new ≡ without_range r old → FreesWith old r (Ok value) new
    unfolding FreesWith
    range_freed value h left = inl (h.0, (value, h, refl, left))

  -- The state after a range was freed. Its start was read before.
  pub left_without : (old : MapState X) (r : Range) (start : ℕ) (space : AddressState) (values : map.FinMap nat_cmp X) →
      Frees old.space r (Ok tt) space → start ≡ r.start → values ≡ map.remove old.values start → map_of space values ≡ without_range r old
  left_without old r start space values f s e = rw ((freed_was old.space space r f).1, e, s) refl

  -- The range that was freed had the value that was removed.
  pub had_value : (old : MapState X) (r : Range) (start : ℕ) (value : X) (space : AddressState) → Frees old.space r (Ok tt) space →
      start ≡ r.start → Some value ≡ map.get old.values start → HasValue old r value
  had_value old r start value space f s e =
      ((freed_was old.space space r f).0, ap (λ (x : ℕ). map.get old.values x) (sym s) ∙ sym e)

  -- ---- The value at an address
  -- No held range contains the address.
  pub none_at : (state : MapState X) (x : ℕ) → IsHeldAt state.space x None → IsValueAt state x None
  unfolding IsValueAt
  none_at state x none = none

  -- A held range contains the address.
  pub value_at : (state : MapState X) (x : ℕ) (r : Range) (value : X) → IsHeldAt state.space x (Some r) → map.get state.values r.start ≡ Some value →
      IsValueAt state x (Some (r, value))
  unfolding IsValueAt
  value_at state x r value h e = ((h.0, e), h.1)

  -- Nothing is set at an address that no held range contains.
  pub none_set : (old new : MapState X) (x : ℕ) (value : X) → IsInNone old.space.held x → new ≡ old → SetsValue old x value (Err value) new
  unfolding SetsValue
  none_set old new x value none same = (none, refl, same)

  -- The value of the held range that contains the address is set.
  pub value_set : (old new : MapState X) (x : ℕ) (value : X) (r : Range) (before : X) → HasValue old r before → IsIn r x →
      new ≡ with_value r value old → SetsValue old x value (Ok before) new
  unfolding SetsValue
  value_set old new x value r before h at left = (r, h, at, left)

  -- The value that was found at the address is replaced by the one that was written last.
  module _ (old new : RangeMapInTree X) (x : ℕ) (value found : X) (i : IsMapState (map_state old)) (w : WritesAt old x value new)
      (f : (r : Range) × HasValue (map_state old) r found × IsIn r x) where
    left : map_state new ≡ with_value f.0 value (map_state old)
    left =
        ap (λ (m : RangeMapInTree X). map_state m) w.4
        ∙ ap (λ (r : Range). with_value r value (map_state old)) (one_at (map_state old).space i.space w.0 f.0 x w.2.0 f.1.0 w.3 f.2)

    pub written_set : SetsValue (map_state old) x value (Ok found) (map_state new)
    written_set = value_set (map_state old) (map_state new) x value f.0 found f.1 f.2 left

    pub written_state : IsMapState (map_state new)
    written_state = subst (λ (s : MapState X). IsMapState s) (sym left) (value_state (map_state old) i f.0 f.1.0 value)

    pub written_tree : new.addresses ≡ old.addresses
    written_tree = ap (λ (m : RangeMapInTree X). m.addresses) w.4

  -- ---- Moving
  module _ (old new : MapState X) (q : Range) (request : Request) where
    -- The range does not move.
    pub move_refused : (e : Error) (space : AddressState) → MovesRange old.space q request (Err e) space → new ≡ old →
        MovesWith old q request (Err e) new
    unfolding MovesWith
    move_refused e space m same = (Err e, space, m, (refl, same))

    module _ (r : Range) (space : AddressState) (m : MovesRange old.space q request (Ok r) space) where
      -- The value cannot be moved.
      pub move_undone : r.start ≢ q.start → new ≡ old → MovesWith old q request (Err OutOfMemory) new
      unfolding MovesWith
      move_undone n same = (Ok r, space, m, inr (n, refl, same))

      -- The range moves with its value.
      pub range_moved : (value : X) → HasValue old q value → new ≡ with_moved q r value old → MovesWith old q request (Ok r) new
      unfolding MovesWith
      range_moved value h left = (Ok r, space, m, inl (value, h, refl, left))

  -- The state after a move that was cancelled is the one before.
  pub cancelled_state : (old : MapState X) (space : AddressState) (values : map.FinMap nat_cmp X) → space ≡ old.space → values ≡ old.values →
      map_of space values ≡ old
  cancelled_state old space values e f = rw (e, f) refl

  -- The state after a move that was finished. Both starts were read before.
  pub finished_state : (old : MapState X) (q r : Range) (from to : ℕ) (value : X) (space : AddressState) (values : map.FinMap nat_cmp X) →
      from ≡ q.start → to ≡ r.start → space ≡ replacing q r old.space → map.get old.values q.start ≡ Some value →
      ((v : X) → map.get old.values from ≡ Some v → values ≡ map.insert (map.remove old.values from) to v) →
      map_of space values ≡ with_moved q r value old
  unfolding replacing
  finished_state old q r from to value space values s t e h moved =
      let left = moved value (ap (λ (x : ℕ). map.get old.values x) s ∙ h) in
      rw (e, left, s, t) refl

pub ruleset makes = (map_refused, map_made)

pub ruleset values = (none_at, value_at)
