-- Tables and maps after several ranges got their values.
use Rattle.std.proofs.Common.{◌≡◌, ◌≢◌, ◌↔◌, ◌⊎◌, ℕ, zero, suc, ◌+◌, ◌<◌, ◌≤◌, List, [], ◌∷◌, length, drop, get_or, ◌++◌, length-append, length-drop, Option, Some, None, IsSome, is_some, MatchOption, Result, Ok, Err, arith, refl, sym, ap, ◌∙◌, subst, inl, inr, ⊎_elim}
use Rattle.std.proofs.Math.Seq.{drop-cons}
use Rattle.std.specs.Prelude.{if◌then◌else◌}
use Rattle.std.specs.List.{Contains}
use Rattle.std.specs.Ordering.{nat_cmp}
use Rattle.std.specs.FinMap as map
use Rattle.vm_ranges.specs.Cases.{IfElse}
use Rattle.vm_ranges.specs.Range.{Range, span}
use Rattle.vm_ranges.specs.Request.{Request}
use Rattle.vm_ranges.specs.Address.{AddressState, IsAddressState, AreInOrder}
use Rattle.vm_ranges.specs.declared.error.Error.{Error}
use Rattle.vm_ranges.specs.declared.error.Error.TheVariants.{Overflow, OutOfMemory}
use Rattle.vm_ranges.proofs.PlainWords.{IsHeld, contains_held, held_contains}
use Rattle.vm_leaf.specs.TreeHeights.{TOO_MANY_BLOCKS}
use Rattle.vm_leaf.specs.SpaceBlocks.{blocks_of}
use Rattle.vm_addresses.specs.Held.{BySpace, MakesHeld, MakesWithHeld, HasFaultIndex, range_fault, or_else, first_fault, fault_index}
use Rattle.vm_addresses.specs.Several.{AllocatesEach}
use Rattle.vm_addresses.proofs.Callers.{given}
use Rattle.vm_addresses.proofs.Blocks.HeldSets.{held_lies}
use Rattle.vm_range_map.specs.RangeMaps.{MapState, map_of, IsMapState, with_range, with_values, MakesMapWithHeld}
use Rattle.vm_range_map.specs.Checks.{AreNewStarts, AreInserted}
use Rattle.vm_range_map.proofs.Tables.{get_with, get_without, with_here, with_other, same_table}
use Rattle.vm_range_map.proofs.MapStates.{some_with, with_some, here_some, new_start, with_state}

-- A range of a list is in the longer list.
later : (r : Range) (rs : List Range) (q : Range) → Contains rs q → Contains (r ∷ rs) q
later r rs q c = (suc c.0, omega (arith, c.1), c.2)

-- A list from the range at this index on.
cut_first : (rs : List Range) (at : ℕ) (r : Range) → at < length rs → r ≡ get_or rs at r → drop at rs ≡ r ∷ drop (at + 1) rs
cut_first rs at r l is =
    let next : suc at ≡ at + 1 = omega arith in
    drop-cons rs at r l ∙ ap (λ (q : Range). q ∷ drop (suc at) rs) (sym is) ∙ ap (λ (k : ℕ). r ∷ drop k rs) next

-- Each request gets a range.
pub each_length : (qs : List Request) (rs : List Range) (old new : AddressState) → AllocatesEach old qs rs new → length qs ≡ length rs
each_length [] [] old new e = refl
each_length [] (r ∷ rs) old new e = absurd e
each_length (q ∷ qs) [] old new e = absurd e
each_length (q ∷ qs) (r ∷ rs) old new e = ap suc (each_length qs rs e.0 new e.2)

-- Ranges in order start at new addresses of an empty table.
pub ordered_new : (X : Type 0) (lo hi : ℕ) (rs : List Range) → AreInOrder lo rs hi → AreNewStarts (map.empty {X = X}) rs
ordered_new X lo hi [] o = tt
ordered_new X lo hi (r ∷ rs) o = (
  map.get-empty nat_cmp r.start,
  λ q c e.
      let lies = held_lies (r.end + 1) hi rs q o.4 (held_contains rs q c) in
      absurd (omega (arith, lies.0, o.1, e)),
  ordered_new X (r.end + 1) hi rs o.4,
)

module _ {X : Type 0} where
  -- ---- Tables
  -- Another start has the same value as before.
  among_others : (m : map.FinMap nat_cmp X) (rs : List Range) (vs : List X) (s : ℕ) → ((q : Range) → Contains rs q → q.start ≢ s) →
      map.get (with_values m rs vs) s ≡ map.get m s
  among_others m [] vs s n = refl
  among_others m (r ∷ rs) [] s n = refl
  among_others m (r ∷ rs) (v ∷ vs) s n =
      with_other (with_values m rs vs) r.start v s (λ e. n r (0, omega arith, refl) (sym e))
      ∙ among_others m rs vs s (λ q c. n q (later r rs q c))

  -- The value that is inserted next is at a new start.
  first_new : (m : map.FinMap nat_cmp X) (r : Range) (rs : List Range) (vs : List X) → AreNewStarts m (r ∷ rs) →
      map.get (with_values m rs vs) r.start ≡ None
  first_new m r rs vs n = among_others m rs vs r.start n.1 ∙ n.0

  last_new : (m : map.FinMap nat_cmp X) (rs : List Range) (k : ℕ) → AreNewStarts m rs → AreNewStarts m (drop k rs)
  last_new m rs zero n = n
  last_new m [] (suc k) n = n
  last_new m (r ∷ rs) (suc k) n = last_new m rs k n.2

  -- ---- One value more, from the last to the first
  module _ (rs : List Range) (at : ℕ) (r : Range) (l : at < length rs) (is : r ≡ get_or rs at r) where
    pub next_new : (m : map.FinMap nat_cmp X) (vs : List X) → AreNewStarts m rs → map.get (with_values m (drop (at + 1) rs) vs) r.start ≡ None
    next_new m vs n = first_new m r (drop (at + 1) rs) vs (subst (λ (v : List Range). AreNewStarts m v) (cut_first rs at r l is) (last_new m rs at n))

  -- The values that are not left are those of the last ranges.
  pub last_inserted : (m after : map.FinMap nat_cmp X) (rs : List Range) (vs left others : List X) (n k : ℕ) → length rs ≡ length vs →
      vs ≡ left ++ others → k ≡ length left → k ≡ n → AreNewStarts m rs → after ≡ with_values m (drop k rs) others →
      AreInserted m (drop n rs) others after
  last_inserted m after rs vs left others n k many e is same new t =
      let both : length vs ≡ length left + length others = ap (λ (v : List X). length v) e ∙ length-append left others in
      record {
        many = omega (arith, length-drop {A = Range}, many, both, is, same);
        new = last_new m rs n new;
        table = t ∙ ap (λ (i : ℕ). with_values m (drop i rs) others) same;
      }

  -- ---- One value less, from the first to the last
  taken_back : (m : map.FinMap nat_cmp X) (k : ℕ) (v : X) → map.get m k ≡ None → map.remove (map.insert m k v) k ≡ m
  taken_back m k v none = same_table _ _ (λ q. grind (arith, none, get_without (map.insert m k v) k q, get_with m k v q))

  -- The first of the ranges has the first of the values. Without it, the others have theirs.
  pub record IsFirst (before after : map.FinMap nat_cmp X) (r : Range) (rs : List Range) (vs : List X) : Type 0 where
    pub value : X
    pub others : List X
    pub are : vs ≡ value ∷ others
    pub here : map.get after r.start ≡ Some value
    pub left : AreInserted before rs others (map.remove after r.start)

  first_of : (before after : map.FinMap nat_cmp X) (r : Range) (rs : List Range) (vs : List X) → AreInserted before (r ∷ rs) vs after →
      IsFirst before after r rs vs
  first_of before after r rs [] i = let many = i.many in absurd (omega (arith, many))
  first_of before after r rs (v ∷ vs) i =
      let many = i.many in
      record {
        value = v;
        others = vs;
        are = refl;
        here = rw i.table (with_here (with_values before rs vs) r.start v);
        left = record {
          many = omega (arith, many);
          new = i.new.2;
          table = rw i.table (taken_back (with_values before rs vs) r.start v (first_new before r rs vs i.new));
        };
      }

  pub first_at : (before after : map.FinMap nat_cmp X) (rs : List Range) (at : ℕ) (r : Range) (vs : List X) → at < length rs →
      r ≡ get_or rs at r → AreInserted before (drop at rs) vs after → IsFirst before after r (drop (at + 1) rs) vs
  first_at before after rs at r vs l is i =
      first_of before after r (drop (at + 1) rs) vs (subst (λ (v : List Range). AreInserted before v vs after) (cut_first rs at r l is) i)

  -- ---- Allocations one after the other
  swapped : (m : map.FinMap nat_cmp X) (k j : ℕ) (v w : X) → k ≢ j → map.insert (map.insert m k v) j w ≡ map.insert (map.insert m j w) k v
  swapped m k j v w n =
      same_table _ _ (λ q. grind (arith, n, get_with (map.insert m k v) j w q, get_with m k v q, get_with (map.insert m j w) k v q, get_with m j w q))

  -- A value that is inserted first can be inserted last.
  first_or_last : (m : map.FinMap nat_cmp X) (k : ℕ) (v : X) (rs : List Range) (vs : List X) → ((q : Range) → Contains rs q → q.start ≢ k) →
      with_values (map.insert m k v) rs vs ≡ map.insert (with_values m rs vs) k v
  first_or_last m k v [] vs n = refl
  first_or_last m k v (r ∷ rs) [] n = refl
  first_or_last m k v (r ∷ rs) (w ∷ vs) n =
      ap (λ t. map.insert t r.start w) (first_or_last m k v rs vs (λ q c. n q (later r rs q c)))
      ∙ swapped (with_values m rs vs) k r.start v w (λ e. n r (0, omega arith, refl) (sym e))

  -- Starts that are new after a value is inserted are other starts, and were new before.
  fewer : (m : map.FinMap nat_cmp X) (k : ℕ) (v : X) (rs : List Range) → AreNewStarts (map.insert m k v) rs →
      AreNewStarts m rs × ((q : Range) → IsHeld rs q → q.start ≢ k)
  fewer m k v [] n = (tt, λ q c. absurd c)
  fewer m k v (r ∷ rs) n =
      let rest = fewer m k v rs n.2 in
      let other : r.start ≢ k = λ e. grind (arith, n.0, get_with m k v r.start, e) in (
        (sym (with_other m k v r.start other) ∙ n.0, n.1, rest.0),
        λ q c. ⊎_elim (λ (e : r ≡ q). subst (λ (t : Range). t.start ≢ k) e other) (rest.1 q) c,
      )

  -- The ranges start at new addresses, and the state with them and their values is valid.
  pub each_valid : (qs : List Request) (rs : List Range) (vs : List X) (old : MapState X) (new : AddressState) → length qs ≡ length vs →
      IsMapState old → AllocatesEach old.space qs rs new →
      AreNewStarts old.values rs × IsMapState (map_of new (with_values old.values rs vs))
  each_valid [] [] vs old new many i e = (tt, subst (λ (s : AddressState). IsMapState (map_of s old.values)) (sym e) i)
  each_valid [] (r ∷ rs) vs old new many i e = absurd e
  each_valid (q ∷ qs) [] vs old new many i e = absurd e
  each_valid (q ∷ qs) (r ∷ rs) [] old new many i e = absurd (omega (arith, many))
  each_valid (q ∷ qs) (r ∷ rs) (v ∷ vs) old new many i e =
      let next = with_state old i r q e.0 e.1 v in
      let from = (given old.space e.0 q r e.1).left in
      let rest = each_valid qs rs vs (with_range r v old) new (omega (arith, many)) next
      (subst (λ (s : AddressState). AllocatesEach s qs rs new) from e.2) in
      let less = fewer old.values r.start v rs rest.0 in
      let others : (q : Range) → Contains rs q → q.start ≢ r.start = λ q c. less.1 q (held_contains rs q c) in (
        (new_start old i r q e.0 e.1, others, less.0),
        subst (λ t. IsMapState (map_of new t)) (first_or_last old.values r.start v rs vs others) rest.1,
      )

  -- ---- Ranges in order
  -- There is a value at each start of a list, and nowhere else.
  starts_valued : (rs : List Range) (vs : List X) (s : ℕ) → length rs ≡ length vs →
      IsSome (map.get (with_values (map.empty {X = X}) rs vs) s) ↔ ((r : Range) × IsHeld rs r × (r.start ≡ s))
  starts_valued [] vs s many = (λ h. let none = map.get-empty {X = X} nat_cmp s in absurd (cc (h, none)), λ q. absurd q.1)
  starts_valued (r ∷ rs) [] s many = absurd (omega (arith, many))
  starts_valued (r ∷ rs) (v ∷ vs) s many =
      let rest = starts_valued rs vs s (omega (arith, many)) in
      let m = with_values (map.empty {X = X}) rs vs in (
        λ h.
            ⊎_elim (λ (e : s ≡ r.start). (r, inl refl, sym e)) (λ k. let q = rest.0 k in (q.0, inr q.1, q.2))
            (some_with m r.start v s h),
        λ q.
            ⊎_elim (λ (e : r ≡ q.0). here_some m r.start v s (sym q.2 ∙ ap (λ (t : Range). t.start) (sym e)))
            (λ (k : IsHeld rs q.0). with_some m r.start v s (rest.1 (q.0, k, q.2))) q.1,
      )

  -- A space with held ranges and their values is a valid state.
  pub held_state : (space : AddressState) (vs : List X) → length space.held ≡ length vs → IsAddressState space →
      IsMapState (map_of space (with_values (map.empty {X = X}) space.held vs))
  held_state space vs many i = record {
    space = i;
    starts = λ s.
        let both = starts_valued space.held vs s many in (
          λ h. let q = both.0 h in (q.0, contains_held space.held q.0 q.1, q.2),
          λ q. both.1 (q.0, held_contains space.held q.0 q.1, q.2),
        );
  }

-- ---- Creating a map with held ranges
-- Without a fault, no range has the index of one.
no_fault_index : (o f : Option Error) (i : ℕ) (j : Option ℕ) → or_else o f ≡ None → (f ≡ None → j ≡ None) →
    (if is_some o then Some i else j) ≡ None
no_fault_index None f i j e n = n e
no_fault_index (Some x) f i j e n = absurd (cc (e))

no_index : (i lo hi : ℕ) (rs : List Range) → first_fault lo hi rs ≡ None → fault_index i lo hi rs ≡ None
no_index i lo hi [] e = refl
no_index i lo hi (r ∷ rs) e =
    no_fault_index (range_fault lo hi r) (first_fault (r.end + 1) hi rs) i (fault_index (i + 1) (r.end + 1) hi rs) e
    (no_index (i + 1) (r.end + 1) hi rs)

-- The result with these ranges, if the first of them that cannot be held has the fault o.
abbrev pub MakesBy : Option Error → Type 0 → AddressState → Result AddressState Error → Type 0
MakesBy o many state answer =
    MatchOption o (IfElse many (answer ≡ Err Overflow) ((answer ≡ Ok state) ⊎ (answer ≡ Err OutOfMemory))) (λ fault. answer ≡ Err fault)

made_by : (o : Option Error) (many : Type 0) (state made : AddressState) → MakesBy o many state (Ok made) →
    (o ≡ None) × MakesBy o many state (Err OutOfMemory) × (made ≡ state)
made_by None many state made m =
    ⊎_elim (λ l. absurd (cc (l.1))) (λ r. ⊎_elim (λ e. (refl, inr (r.0, inr refl), cc (e))) (λ e. absurd (cc (e))) r.1) m
made_by (Some f) many state made m = absurd (cc (m))

-- A space that was made has these ranges. The memory for their values can run out.
pub record HasHeld (base size : ℕ) (held : List Range) (made : AddressState) : Type 0 where
  pub held_are : made.held ≡ held
  pub memory : MakesWithHeld base size held (Err OutOfMemory)
  pub index : HasFaultIndex base size held None

pub has_held : (base size : ℕ) (held : List Range) (made : AddressState) → MakesWithHeld base size held (Ok made) → HasHeld base size held made
unfolding BySpace MakesHeld
has_held base size held made m =
    ⊎_elim
    (λ l. absurd (cc (l.1)))
    (λ r. ⊎_elim
    (λ l. absurd (cc (l.1)))
    (λ k.
    let space = span base size in
    let state : AddressState = record { space = space; held = held } in
    let by = made_by (first_fault space.start space.end held) (TOO_MANY_BLOCKS ≤ length (blocks_of state)) state made k.1 in
    record {
      held_are = ap (λ (v : AddressState). v.held) by.2;
      memory = inr (r.0, inr (k.0, by.1));
      index = inr (r.0, inr (k.0, sym (no_index 0 space.start space.end held by.0)));
    })
    r.1)
    m

module _ {X : Type 0} (base size : ℕ) (held : List Range) where
  -- A space that cannot be made, or runs out of memory.
  pub held_refused : (vs : List X) (e : Error) → MakesWithHeld base size held (Err e) → MakesMapWithHeld base size held vs (Err e)
  unfolding MakesMapWithHeld
  held_refused vs e m = (Err e, m, refl)

  module _ (space : AddressState) (m : MakesWithHeld base size held (Ok space)) where
    pub held_valued : (vs : List X) (values : map.FinMap nat_cmp X) → values ≡ with_values map.empty held vs →
        MakesMapWithHeld base size held vs (Ok (map_of space values))
    unfolding MakesMapWithHeld
    held_valued vs values e = (Ok space, m, ap (λ t. Ok (map_of space t)) e)

    -- The values are new in an empty table. With them, the state is valid.
    module _ (i : IsAddressState space) where
      pub held_new : (values : map.FinMap nat_cmp X) → values ≡ map.empty → AreNewStarts values held
      held_new values none =
          rw (none, ← (has_held base size held space m).held_are) (ordered_new X space.space.start space.space.end space.held i.in_order)

      pub held_valid : (vs : List X) (values : map.FinMap nat_cmp X) → length held ≡ length vs → values ≡ with_values map.empty held vs →
          IsMapState (map_of space values)
      held_valid vs values many e =
          let are = (has_held base size held space m).held_are in
          rw (e, ← are) (held_state space vs (ap (λ (v : List Range). length v) are ∙ many) i)
