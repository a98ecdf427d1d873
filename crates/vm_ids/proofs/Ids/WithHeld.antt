-- Creating an id allocator of its range and the list of its held ids.
use Rattle.std.proofs.Common.{
  OnErr,
  ◌≡◌,
  ℕ,
  ◌+◌,
  ◌<◌,
  ◌≤◌,
  ◌⊎◌,
  zero,
  suc,
  List,
  [],
  ◌∷◌,
  length,
  take,
  drop,
  get_or,
  refl,
  sym,
  ap,
  ◌∙◌,
  subst,
  arith,
  inl,
  inr,
  ⊎_elim,
  max,
  Option,
  Some,
  None,
  Result,
  Ok,
  Err,
}
use Rattle.std.proofs.lemmas.List.{drop_more, drop_all, take_more, take-append-drop}
use Rattle.std.proofs.lemmas.List.Elements.{Contains-get_or, Contains-append_cases}
use Rattle.std.specs.List.{Contains}
use Rattle.std.specs.Option.{MatchOption}
use Rattle.vm_ids.specs.Ids.{IdState, IsIdState, MakesIds, new_ids, holding_id}
use Rattle.vm_ids.specs.IdRequests.{HoldsId, holding_ids, fault_of_held, SkipsId, MakesWithHeldIds}
use Rattle.vm_ranges.specs.declared.error.Error.{Error}
use Rattle.vm_ranges.specs.declared.error.Error.TheVariants.{OutOfRange, ResourceNotAvailable, OutOfMemory}
use Rattle.vm_ids.proofs.Ids.ExactIds.{holding_in_range}
use Rattle.vm_ids.proofs.Ids.FreeIds.{holding_more}

-- ---- The first id of a list
-- An id in a list without a wrong id.
pub record IsRightId (lo hi next n : ℕ) (rest : List ℕ) : Type 0 where
  pub range : (lo ≤ n) × (n ≤ hi)
  pub order : next ≤ n
  pub others : fault_of_held lo hi (n + 1) rest ≡ None

pub right_from : (lo hi next n : ℕ) (rest : List ℕ) → fault_of_held lo hi next (n ∷ rest) ≡ None → IsRightId lo hi next n rest
right_from lo hi next n rest none = record { range = grind arith; order = grind arith; others = grind arith }

right_id : (lo hi next n : ℕ) (rest : List ℕ) → lo ≤ n → n ≤ hi → next ≤ n →
    fault_of_held lo hi next (n ∷ rest) ≡ fault_of_held lo hi (n + 1) rest
right_id lo hi next n rest l h b = grind arith

-- ---- The check of a list
-- The first wrong id of the list is that of the part that is left.
abbrev pub LeftDecides : ℕ → ℕ → ℕ → ℕ → List ℕ → Type 0
LeftDecides lo hi next i ids = fault_of_held lo hi lo ids ≡ fault_of_held lo hi next (drop i ids)

abbrev pub ChecksHeld : ℕ → ℕ → List ℕ → Result (Unit {0}) Error → Type 0
ChecksHeld lo hi ids r = MatchOption (fault_of_held lo hi lo ids) (r ≡ Ok tt) (λ e. r ≡ Err e)

module _ (lo hi next i n : ℕ) (ids : List ℕ) (l : i < length ids) (e : n ≡ get_or ids i 0) (d : LeftDecides lo hi next i ids) where
  left_first : fault_of_held lo hi lo ids ≡ fault_of_held lo hi next (n ∷ drop (i + 1) ids)
  left_first = d ∙ rw (drop_more ids i 0 l, e) refl

  pub range_refused : (n < lo) ⊎ (hi < n) → ChecksHeld lo hi ids (Err (OutOfRange n))
  range_refused out = let fault : fault_of_held lo hi lo ids ≡ Some (OutOfRange n) = left_first ∙ grind arith in rw fault refl

  pub order_refused : lo ≤ n → n ≤ hi → n < next → ChecksHeld lo hi ids (Err ResourceNotAvailable)
  order_refused a h b = let fault : fault_of_held lo hi lo ids ≡ Some ResourceNotAvailable = left_first ∙ grind arith in rw fault refl

  pub one_right : lo ≤ n → n ≤ hi → next ≤ n → LeftDecides lo hi (n + 1) (i + 1) ids
  one_right a h b = left_first ∙ right_id lo hi next n (drop (i + 1) ids) a h b

pub all_right : (lo hi next i : ℕ) (ids : List ℕ) → length ids ≤ i → LeftDecides lo hi next i ids → ChecksHeld lo hi ids (Ok tt)
all_right lo hi next i ids l d = rw (d ∙ ap (fault_of_held lo hi next) (drop_all i ids l)) refl

pub ruleset checks = (range_refused, order_refused, one_right, all_right)

-- ---- The allocator
pub checked_error : (o : Option Error) (r : Result (Unit {0}) Error) (e : Error) → r ≡ Err e → MatchOption o (r ≡ Ok tt) (λ x. r ≡ Err x) →
    o ≡ Some e
checked_error o r e is h = grind arith

pub checked_right : (o : Option Error) (r : Result (Unit {0}) Error) → r ≡ Ok tt → MatchOption o (r ≡ Ok tt) (λ x. r ≡ Err x) → o ≡ None
checked_right o r is h = grind arith

-- A new allocator has this state and a range that is not empty. An error is InvalidRange.
pub made_state : (lo hi : ℕ) (state : IdState) → MakesIds lo hi (Ok state) → (state ≡ new_ids lo hi) × (lo ≤ hi)
unfolding MakesIds
made_state lo hi state h = grind arith

pub made_error : (lo hi : ℕ) (held : List ℕ) (e : Error) → MakesIds lo hi (Err e) → MakesWithHeldIds lo hi held (Err e)
unfolding MakesIds MakesWithHeldIds
made_error lo hi held e h = grind arith

module _ (lo hi : ℕ) (held : List ℕ) where
  pub held_refused : (e : Error) → lo ≤ hi → fault_of_held lo hi lo held ≡ Some e → MakesWithHeldIds lo hi held (Err e)
  unfolding MakesWithHeldIds
  held_refused e l f = inr (λ h. omega arith, rw f refl)

  pub held_no_memory : lo ≤ hi → fault_of_held lo hi lo held ≡ None → SkipsId lo held → MakesWithHeldIds lo hi held (Err OutOfMemory)
  unfolding MakesWithHeldIds
  held_no_memory l f s = inr (λ h. omega arith, rw f (inr (s, refl)))

  pub held_made : (state : IdState) → lo ≤ hi → fault_of_held lo hi lo held ≡ None → state ≡ holding_ids held (new_ids lo hi) →
      MakesWithHeldIds lo hi held (Ok state)
  unfolding MakesWithHeldIds
  held_made state l f e = inr (λ h. omega arith, rw f (inl (ap Ok e)))

-- The ids before the index are allocated, and those that are left have no wrong id.
pub record HoldsUpTo (lo hi i : ℕ) (held : List ℕ) (state : IdState) : Type 0 where
  pub range : (state.lo ≡ lo) × (state.hi ≡ hi)
  pub so_far : state ≡ holding_ids (take i held) (new_ids lo hi)
  pub left : fault_of_held lo hi state.bound (drop i held) ≡ None
  pub valid : IsIdState state

pub none_yet : (lo hi : ℕ) (held : List ℕ) (state : IdState) → state ≡ new_ids lo hi → IsIdState state →
    fault_of_held lo hi lo held ≡ None → HoldsUpTo lo hi 0 held state
none_yet lo hi held state e s f = record { range = rw e (refl, refl); so_far = e; left = rw e f; valid = s }

-- The next id, if the ids before it are allocated.
module _ (lo hi i n : ℕ) (held : List ℕ) (state : IdState) (l : i < length held) (e : n ≡ get_or held i 0)
    (h : HoldsUpTo lo hi i held state) where
  next_right : IsRightId lo hi state.bound n (drop (i + 1) held)
  next_right = right_from lo hi state.bound n (drop (i + 1) held) (rw e (rw (drop_more held i 0 l) at h.left))

  pub one_more_held : (new : IdState) → new ≡ holding_id n state → HoldsUpTo lo hi (i + 1) held new
  one_more_held new is =
      let bound : max state.bound (n + 1) ≡ n + 1 = omega (arith, next_right.order) in
      rw is (record {
        range = h.range;
        so_far = ap (holding_id n) h.so_far
            ∙ sym (holding_more (take i held) n (new_ids lo hi))
            ∙ rw (take_more held i 0 l, e) refl;
        valid = holding_in_range state n h.valid (omega (arith, next_right.range, h.range));
        left = rw bound next_right.others;
      })

-- ---- The skipped ids
-- The ids of a list without a wrong id are not below `next`.
listed_from : (lo hi next : ℕ) (is : List ℕ) (x k : ℕ) → fault_of_held lo hi next is ≡ None → k < length is → get_or is k x ≡ x → next ≤ x
listed_from lo hi next [] x k f l e = absurd (omega arith)
listed_from lo hi next (i ∷ is) x zero f l e = let r = right_from lo hi next i is f in omega (arith, r.order, e)
listed_from lo hi next (i ∷ is) x (suc k) f l e =
    let r = right_from lo hi next i is f in
    let rest = listed_from lo hi (i + 1) is x k r.others (omega arith) e in
    omega (arith, r.order, rest)

-- The allocated ids are below the bound.
bound_rises : (is : List ℕ) (s : IdState) → s.bound ≤ (holding_ids is s).bound
bound_rises [] s = omega arith
bound_rises (i ∷ is) s = let rest = bound_rises is (holding_id i s) in omega (arith, rest)

allocated_below : (is : List ℕ) (s : IdState) (x k : ℕ) → k < length is → get_or is k x ≡ x → x < (holding_ids is s).bound
allocated_below [] s x k l e = absurd (omega arith)
allocated_below (i ∷ is) s x zero l e = let rest = bound_rises is (holding_id i s) in omega (arith, rest, e)
allocated_below (i ∷ is) s x (suc k) l e = allocated_below is (holding_id i s) x k (omega arith) e

-- If the next id is above the bound, the list skips the bound.
pub skips_bound : (lo hi i n : ℕ) (held : List ℕ) (state : IdState) → i < length held → n ≡ get_or held i 0 → HoldsUpTo lo hi i held state →
    state.bound < n → SkipsId lo held
skips_bound lo hi i n held state l e h above =
    let r = next_right lo hi i n held state l e h in
    record {
      skipped = state.bound;
      above = n;
      between = (omega (arith, h.range.0, h.valid.bound.0), above);
      listed = subst (Contains held) (sym e) (Contains-get_or held i 0 l);
      not_listed = λ c.
          ⊎_elim
          (λ (b : Contains (take i held) state.bound).
          let below = allocated_below (take i held) (new_ids lo hi) state.bound b.0 b.1 b.2 in
          let same = ap (λ (v : IdState). v.bound) h.so_far in
          omega (arith, below, same))
          (λ (b : Contains (drop i held) state.bound).
          let first : drop i held ≡ n ∷ drop (i + 1) held = rw e (drop_more held i 0 l) in
          let d = subst (λ (xs : List ℕ). Contains xs state.bound) first b in
          let right = right_id lo hi n n (drop (i + 1) held) r.range.0 r.range.1 (omega arith) ∙ r.others in
          let low = listed_from lo hi n (n ∷ drop (i + 1) held) state.bound d.0 right d.1 d.2 in
          omega (arith, low, above))
          (Contains-append_cases (take i held) (drop i held) state.bound (rw take-append-drop c));
    }

pub new_held_state : (old new : IdState) (n : ℕ) (r : Result ℕ Error) (k : ℕ) → r ≡ Ok k → HoldsId old n r new → new ≡ holding_id n old
unfolding HoldsId
new_held_state old new n r k is h = grind arith

pub new_held_error : (old new : IdState) (n : ℕ) (r : Result ℕ Error) (e : Error) → r ≡ Err e → HoldsId old n r new →
    OnErr r (old.bound < n) → (old.bound < n) × (e ≡ OutOfMemory)
unfolding HoldsId
new_held_error old new n r e is h m = (rw is at m, grind arith)
