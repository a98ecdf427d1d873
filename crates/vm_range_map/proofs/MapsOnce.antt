-- A call of a map has one result, if memory suffices.
use Rattle.std.proofs.Common.{◌≡◌, ◌≢◌, ℕ, arith, refl, sym, ap, ◌∙◌, inl, inr, ◌⊎◌, ⊎_elim, subst, List, Option, Some, None, Result, Ok, Err}
use Rattle.std.specs.FinMap as map
use Rattle.vm_ranges.specs.Range.{Range, span}
use Rattle.vm_ranges.specs.Request.{Request}
use Rattle.vm_ranges.specs.declared.error.Error.{Error}
use Rattle.vm_ranges.specs.declared.error.Error.TheVariants.{OutOfMemory}
use Rattle.vm_ranges.specs.Address.{AddressState}
use Rattle.vm_ranges.proofs.TwoFacts.{if_same}
use Rattle.vm_addresses.specs.Held.{BySpace, MakesHeld, MakesWithHeld, first_fault}
use Rattle.vm_addresses.proofs.Results.SeveralOnce.{each_once}
use Rattle.vm_range_map.proofs.SeveralValues.{MakesBy}
use Rattle.vm_addresses.proofs.Histories.MoveSteps.{moves_once}
use Rattle.vm_addresses.proofs.Results.InMemory.{placed_once, made_once}
use Rattle.vm_range_map.specs.RangeMaps.{MapState, IsMapState, with_value, with_moved, with_table, with_values, MakesMapWithHeld, AllocatesEachWith, MakesMap, GivesValue, AllocatesWith, FreesWith, IsValueAt, SetsValue, MovesValue, MovesWith}
use Rattle.vm_range_map.specs.Laws.{MapsDecide}
use Rattle.vm_range_map.proofs.HeldRanges.{missed, one_at}
use Rattle.vm_range_map.proofs.KeptValues.{one_value, at_its_addresses}

-- Creating a space with held ranges has one result.
made_by_once : (o : Option Error) (many : Type 0) (state : AddressState) (answer other : Result AddressState Error) → answer ≢ Err OutOfMemory →
    other ≢ Err OutOfMemory → MakesBy o many state answer → MakesBy o many state other → answer ≡ other
made_by_once (Some f) many state answer other p q a b = a ∙ sym b
made_by_once None many state answer other p q a b =
    if_same _ _ _ _ _ a b (λ u v. u ∙ sym v)
    (λ u v. ⊎_elim (λ e. ⊎_elim (λ f. e ∙ sym f) (λ f. absurd (q f)) v) (λ e. absurd (p e)) u)

held_once : (base size : ℕ) (held : List Range) (answer other : Result AddressState Error) → answer ≢ Err OutOfMemory → other ≢ Err OutOfMemory →
    MakesWithHeld base size held answer → MakesWithHeld base size held other → answer ≡ other
unfolding BySpace MakesHeld
held_once base size held answer other p q a b =
    if_same _ _ _ _ _ a b (λ u v. u ∙ sym v)
    (λ a b. if_same _ _ _ _ _ a b (λ u v. u ∙ sym v) (made_by_once (first_fault base (span base size).end held) _ _ answer other p q))

module _ {X : Type 0} where
  -- Creating a map has one result.
  made_map_once : (base size : ℕ) (answer other : Result (MapState X) Error) → answer ≢ Err OutOfMemory → other ≢ Err OutOfMemory →
      MakesMap base size answer → MakesMap base size other → answer ≡ other
  unfolding MakesMap
  made_map_once base size answer other p q a b =
      a.2 ∙ ap (with_table map.empty) (made_once base size a.0 b.0 (λ e. p (a.2 ∙ ap (with_table map.empty) e)) (λ e. q (b.2 ∙ ap (with_table map.empty) e)) a.1 b.1) ∙ sym b.2

  made_with_once : (base size : ℕ) (held : List Range) (values : List X) (answer other : Result (MapState X) Error) → answer ≢ Err OutOfMemory →
      other ≢ Err OutOfMemory → MakesMapWithHeld base size held values answer → MakesMapWithHeld base size held values other → answer ≡ other
  unfolding MakesMapWithHeld
  made_with_once base size held values answer other p q a b =
      let made = with_table (with_values map.empty held values) in
      a.2 ∙ ap made (held_once base size held a.0 b.0 (λ e. p (a.2 ∙ ap made e)) (λ e. q (b.2 ∙ ap made e)) a.1 b.1) ∙ sym b.2

  -- A list of requests has one list of ranges and one next state.
  allocated_each_once : (old new later : MapState X) (requests : List Request) (values : List X) (ranges others : List Range) →
      AllocatesEachWith old requests values ranges new → AllocatesEachWith old requests values others later → (ranges ≡ others) × (new ≡ later)
  allocated_each_once old new later requests values ranges others a b =
      let same = each_once requests ranges others old.space new.space later.space a.0 b.0 in
      let table = a.1 ∙ ap (λ (rs : List Range). with_values old.values rs values) same.0 ∙ sym b.1 in
      (same.0, λ k. record { space = same.1 k; values = table k })

  -- ---- Allocating
  module _ (old new later : MapState X) (value : X) (answer other : Result Range Error) (p : answer ≢ Err OutOfMemory)
      (q : other ≢ Err OutOfMemory) where
    gives_same : (given : Result Range Error) → GivesValue old value given answer new → GivesValue old value given other later →
        (answer ≡ other) × (new ≡ later)
    gives_same given a b = grind arith

    -- The range gets its value once if it is allocated once.
    gives_once : (given again : Result Range Error) → (given ≢ Err OutOfMemory → again ≢ Err OutOfMemory → given ≡ again) →
        GivesValue old value given answer new → GivesValue old value again other later → (answer ≡ other) × (new ≡ later)
    gives_once given again same a b =
        let one = same (λ e. p (rw e at a).0) (λ e. q (rw e at b).0) in
        gives_same again (rw one at a) b

  -- An allocation has one result and one next state.
  allocated_once : (old new later : MapState X) (request : Request) (value : X) (answer other : Result Range Error) →
      answer ≢ Err OutOfMemory → other ≢ Err OutOfMemory →
      AllocatesWith old request value answer new → AllocatesWith old request value other later → (answer ≡ other) × (new ≡ later)
  unfolding AllocatesWith
  allocated_once old new later request value answer other p q a b =
      gives_once old new later value answer other p q a.0 b.0 (λ x y. (placed_once old.space a.1 b.1 request a.0 b.0 x y a.2 b.2).0) a.3 b.3

  -- ---- Freeing
  -- Freeing has one result and one next state.
  freed_once : (old new later : MapState X) (r : Range) (answer other : Result X Error) →
      FreesWith old r answer new → FreesWith old r other later → (answer ≡ other) × (new ≡ later)
  unfolding FreesWith
  freed_once old new later r answer other (inl a) (inl b) =
      let same = one_value old r r a.1.0 b.1.0 refl a.1.1 b.1.1 in
      (a.1.2 ∙ ap (λ (v : X). Ok v) same ∙ sym b.1.2, a.1.3 ∙ sym b.1.3)
  freed_once old new later r answer other (inl a) (inr b) = absurd (b.0 a.0)
  freed_once old new later r answer other (inr a) (inl b) = absurd (a.0 b.0)
  freed_once old new later r answer other (inr a) (inr b) = (a.1.0 ∙ sym b.1.0, a.1.1 ∙ sym b.1.1)

  -- ---- Moving
  moves_same : (old new later : MapState X) (q : Range) (given answer other : Result Range Error) → answer ≢ Err OutOfMemory →
      other ≢ Err OutOfMemory → MovesValue old q given answer new → MovesValue old q given other later → (answer ≡ other) × (new ≡ later)
  moves_same old new later q (Err e) answer other p s a b = (a.0 ∙ sym b.0, a.1 ∙ sym b.1)
  moves_same old new later q (Ok r) answer other p s (inl a) (inl b) =
      let same = one_value old q q a.0 b.0 refl a.1 b.1 in
      (a.2 ∙ sym b.2, a.3 ∙ ap (λ (v : X). with_moved q r v old) same ∙ sym b.3)
  moves_same old new later q (Ok r) answer other p s (inl a) (inr b) = absurd (s b.1)
  moves_same old new later q (Ok r) answer other p s (inr a) b = absurd (p a.1)

  -- The value moves once if its range does.
  moves_value_once : (old new later : MapState X) (q : Range) (given again answer other : Result Range Error) → answer ≢ Err OutOfMemory →
      other ≢ Err OutOfMemory → (given ≡ again) ⊎ (given ≡ Err OutOfMemory) ⊎ (again ≡ Err OutOfMemory) →
      MovesValue old q given answer new → MovesValue old q again other later → (answer ≡ other) × (new ≡ later)
  moves_value_once old new later q given again answer other p s (inl same) a b =
      moves_same old new later q again answer other p s (subst (λ (v : Result Range Error). MovesValue old q v answer new) same a) b
  moves_value_once old new later q given again answer other p s (inr (inl e)) a b = absurd (p (rw e at a).0)
  moves_value_once old new later q given again answer other p s (inr (inr e)) a b = absurd (s (rw e at b).0)

  -- A move has one result and one next state.
  moved_once : (old new later : MapState X) (q : Range) (request : Request) (answer other : Result Range Error) →
      answer ≢ Err OutOfMemory → other ≢ Err OutOfMemory →
      MovesWith old q request answer new → MovesWith old q request other later → (answer ≡ other) × (new ≡ later)
  unfolding MovesWith
  moved_once old new later q request answer other p s a b =
      moves_value_once old new later q a.0 b.0 answer other p s
      (⊎_elim (λ k. inl k.0) (λ k. inr k) (moves_once old.space a.1 b.1 q request a.0 b.0 a.2 b.2)) a.3 b.3

  -- ---- The value at an address
  -- `get` has one result, because held ranges are disjoint.
  got_once : (state : MapState X) (x : ℕ) (answer other : Option (Range × X)) → IsMapState state →
      IsValueAt state x answer → IsValueAt state x other → answer ≡ other
  unfolding IsValueAt
  got_once state x None None i a b = refl
  got_once state x None (Some d) i a b = absurd (missed state.space d.0 x b.0.0 b.1 a)
  got_once state x (Some c) other i a b = sym (at_its_addresses state c.0 c.1 x other i a.0 a.1 b)

  -- `set` has one result and one next state.
  set_once : (old new later : MapState X) (x : ℕ) (value : X) (answer other : Result X X) → IsMapState old →
      SetsValue old x value answer new → SetsValue old x value other later → (answer ≡ other) × (new ≡ later)
  unfolding SetsValue
  set_once old new later x value (Err c) (Err d) i a b = (ap (λ (v : X). Err v) (a.1 ∙ sym b.1), a.2 ∙ sym b.2)
  set_once old new later x value (Err c) (Ok d) i a b = absurd (missed old.space b.0 x b.1.0 b.2 a.0)
  set_once old new later x value (Ok c) (Err d) i a b = absurd (missed old.space a.0 x a.1.0 a.2 b.0)
  set_once old new later x value (Ok c) (Ok d) i a b =
      let range : a.0 ≡ b.0 = one_at old.space i.space a.0 b.0 x a.1.0 b.1.0 a.2 b.2 in
      let same = one_value old a.0 b.0 c d range a.1 b.1 in
      (ap (λ (v : X). Ok v) same, a.3 ∙ ap (λ (v : Range). with_value v value old) range ∙ sym b.3)

  -- Each call has one result and one next state, if memory suffices.
  pub maps_decide : MapsDecide X
  maps_decide = record {
    made = made_map_once;
    made_with = made_with_once;
    allocated = allocated_once;
    allocated_each = allocated_each_once;
    freed = freed_once;
    moved = moved_once;
    got = got_once;
    set = set_once;
  }

pub ruleset decides = (maps_decide)
