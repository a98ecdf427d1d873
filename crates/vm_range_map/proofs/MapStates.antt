-- After a range is allocated, freed or moved, exactly the starts of the held ranges have a value.
use Rattle.std.proofs.Common.{◌≡◌, ◌≢◌, ℕ, ◌≤◌, ◌⊎◌, arith, refl, sym, ap, ◌∙◌, inl, inr, ⊎_elim, subst, Option, Some, None, IsSome, Ok}
use Rattle.std.specs.List.{Contains}
use Rattle.std.specs.Ordering.{nat_cmp}
use Rattle.std.specs.FinMap as map
use Rattle.vm_ranges.specs.Range.{Range, MAX}
use Rattle.vm_ranges.specs.Request.{Request}
use Rattle.vm_ranges.specs.Address.{AddressState, holding, releasing}
use Rattle.vm_ranges.specs.Answer.{Allocates, Makes}
use Rattle.vm_addresses.specs.Moves.{MovesRange}
use Rattle.vm_addresses.proofs.Callers.{given, one_start, start_was_free, frees_held}
use Rattle.vm_addresses.proofs.Histories.MoveSteps.{moved_parts}
use Rattle.vm_addresses.proofs.Results.AddressResults.{made_is, adds_range, removes_range, state_is_preserved}
use Rattle.vm_range_map.specs.RangeMaps.{MapState, map_of, IsMapState, with_range, without_range, with_value, with_moved}
use Rattle.vm_range_map.proofs.Tables.{get_with, get_without}

module _ {X : Type 0} where
  -- An option with a value is that value.
  pub some_value : (o : Option X) → IsSome o → (value : X) × (o ≡ Some value)
  some_value None s = absurd (cc (s))
  some_value (Some v) s = (v, refl)

  -- An option without a value is None.
  pub absent : (o : Option X) → ¬ IsSome o → o ≡ None
  absent None n = refl
  absent (Some v) n = absurd (n refl)

  -- ---- The starts with a value after a change
  module _ (m : map.FinMap nat_cmp X) (k : ℕ) (v : X) (s : ℕ) where
    pub some_with : IsSome (map.get (map.insert m k v) s) → (s ≡ k) ⊎ IsSome (map.get m s)
    some_with h = grind (arith, get_with m k v s, h)

    pub with_some : IsSome (map.get m s) → IsSome (map.get (map.insert m k v) s)
    with_some h = grind (arith, get_with m k v s, h)

    pub here_some : s ≡ k → IsSome (map.get (map.insert m k v) s)
    here_some e = grind (arith, get_with m k v s, e)

  module _ (m : map.FinMap nat_cmp X) (k s : ℕ) where
    pub some_without : IsSome (map.get (map.remove m k) s) → (s ≢ k) × IsSome (map.get m s)
    some_without h = (λ e. grind (arith, get_without m k s, h, e), grind (arith, get_without m k s, h))

    pub without_some : s ≢ k → IsSome (map.get m s) → IsSome (map.get (map.remove m k) s)
    without_some n h = grind (arith, get_without m k s, h, n)

  -- A space without held ranges, and no value.
  pub empty_state : (base size : ℕ) (space : AddressState) → size ≤ MAX → Makes base size (Ok space) → IsMapState (map_of {X = X} space map.empty)
  empty_state base size space word made = record {
    space = state_is_preserved.made base size space word made;
    starts = λ s. (
      λ h. let none = map.get-empty {X = X} nat_cmp s in absurd (cc (h, none)),
      λ q.
          let none = subst (λ (v : AddressState). Contains v.held q.0) (made_is base size space made).2 q.1 in
          let below = none.1 in
          absurd (omega (arith, below)),
    );
  }

  module _ (old : MapState X) (i : IsMapState old) (r : Range) where
    -- ---- A range that is held
    module _ (c : Contains old.space.held r) where
      -- A held range has a value.
      pub held_value : (value : X) × (map.get old.values r.start ≡ Some value)
      held_value = some_value (map.get old.values r.start) ((i.starts r.start).1 (r, c, refl))

      -- Without a freed range, the state is still valid.
      pub without_state : IsMapState (without_range r old)
      without_state =
          let free = frees_held old.space r c in
          let left = removes_range old.space (releasing r old.space) r i.space free in
          record {
            space = state_is_preserved.freed old.space (releasing r old.space) r (Ok tt) i.space free;
            starts = λ s. (
              λ h.
                  let k = some_without old.values r.start s h in
                  let q = (i.starts s).0 k.1 in
                  (q.0, (left.held q.0).1 (q.1, λ e. k.0 (sym q.2 ∙ ap (λ (t : Range). t.start) e)), q.2),
              λ q.
                  let k = (left.held q.0).0 q.1 in
                  without_some old.values r.start s (λ e. k.1 (one_start old.space i.space q.0 r k.0 c (q.2 ∙ e)))
                  ((i.starts s).1 (q.0, k.0, q.2)),
            );
          }

      -- With another value of a held range, the state is still valid.
      pub value_state : (value : X) → IsMapState (with_value r value old)
      value_state value = record {
        space = i.space;
        starts = λ s. (
          λ h. ⊎_elim (λ e. (r, c, sym e)) (λ k. (i.starts s).0 k) (some_with old.values r.start value s h),
          λ q. with_some old.values r.start value s ((i.starts s).1 q),
        );
      }

    -- ---- A range that is allocated
    module _ (request : Request) (mid : AddressState) (a : Allocates old.space request (Ok r) mid) where
      -- No held range starts where a new range starts.
      pub new_start : map.get old.values r.start ≡ None
      new_start = absent (map.get old.values r.start) (λ h.
          let q = (i.starts r.start).0 h in
          start_was_free old.space mid request q.0 r i.space a q.1 q.2)

      -- With a new range, the state is still valid.
      pub with_state : (value : X) → IsMapState (with_range r value old)
      with_state value =
          let left = (given old.space mid request r a).left in
          let b = subst (Allocates old.space request (Ok r)) left a in
          let more = adds_range old.space (holding r old.space) request r i.space b in
          record {
            space = state_is_preserved.allocated old.space (holding r old.space) request (Ok r) i.space b;
            starts = λ s. (
              λ h.
                  ⊎_elim (λ e. (r, (more.held r).1 (inr refl), sym e))
                  (λ k. let q = (i.starts s).0 k in (q.0, (more.held q.0).1 (inl q.1), q.2))
                  (some_with old.values r.start value s h),
              λ q.
                  ⊎_elim (λ c. with_some old.values r.start value s ((i.starts s).1 (q.0, c, q.2)))
                  (λ e. here_some old.values r.start value s (sym q.2 ∙ ap (λ (t : Range). t.start) e))
                  ((more.held q.0).0 q.1),
            );
          }

  -- ---- A range that moves
  module _ (old : MapState X) (i : IsMapState old) (q r : Range) (request : Request) (space : AddressState)
      (m : MovesRange old.space q request (Ok r) space) where
    pub was_held : Contains old.space.held q
    was_held = (moved_parts old.space space q r request m).held

    -- No other held range starts where the moved range starts.
    pub moved_start : q.start ≢ r.start → map.get old.values r.start ≡ None
    moved_start n =
        let s = moved_parts old.space space q r request m in
        let none = new_start (without_range q old) (without_state old i q s.held) r request space s.allocated in
        grind (arith, get_without old.values q.start r.start, none, n)

    -- After the move, the state is still valid.
    pub moved_state : (value : X) → IsMapState (with_moved q r value old)
    moved_state value =
        let s = moved_parts old.space space q r request m in
        with_state (without_range q old) (without_state old i q s.held) r request space s.allocated value
