-- The value of a range after a call, and at its addresses.
use Rattle.std.proofs.Common.{◌≡◌, ◌≢◌, ℕ, arith, refl, sym, ap, ◌∙◌, inl, inr, subst, Some, None, Result, Ok, Err}
use Rattle.std.specs.List.{Contains}
use Rattle.std.specs.FinMap as map
use Rattle.vm_ranges.specs.Range.{Range, IsIn}
use Rattle.vm_ranges.specs.Request.{Request}
use Rattle.vm_ranges.specs.declared.error.Error.{Error}
use Rattle.vm_ranges.specs.Address.{AddressState, holding, releasing}
use Rattle.vm_ranges.specs.Answer.{Allocates}
use Rattle.vm_addresses.specs.Moves.{MovesRange}
use Rattle.vm_addresses.proofs.Callers.{given, one_start, frees_held}
use Rattle.vm_addresses.proofs.Histories.MoveSteps.{moved_parts}
use Rattle.vm_addresses.proofs.Results.AddressResults.{adds_range, removes_range}
use Rattle.vm_range_map.specs.RangeMaps.{
  MapState,
  IsMapState,
  HasValue,
  with_range,
  without_range,
  with_value,
  with_moved,
  AllocatesWith,
  FreesWith,
  IsValueAt,
  SetsValue,
  MovesWith,
  GivesValue,
  MovesValue,
}
use Rattle.vm_range_map.specs.Laws.{ValueIsAtItsAddresses, OthersKeepValues, RangesKeepValues}
use Rattle.vm_range_map.proofs.HeldRanges.{missed, one_at}
use Rattle.vm_range_map.proofs.Tables.{get_with, get_without, with_here}
use Rattle.vm_range_map.proofs.MapStates.{new_start, without_state}

module _ {X : Type 0} where
  -- Two values of a range are the same.
  pub one_value : (state : MapState X) (q r : Range) (v w : X) → q ≡ r → HasValue state q v → HasValue state r w → v ≡ w
  one_value state q r v w e h k =
      let same : Some v ≡ Some w = sym h.1 ∙ ap (λ (t : Range). map.get state.values t.start) e ∙ k.1 in cc (same)

  -- `get` finds a range with its value at each address of the range.
  pub at_its_addresses : ValueIsAtItsAddresses X
  unfolding IsValueAt
  at_its_addresses state r value x None i h at none = absurd (missed state.space r x h.0 at none)
  at_its_addresses state r value x (Some found) i h at f =
      let range : found.0 ≡ r = one_at state.space i.space found.0 r x f.0.0 h.0 f.1 at in
      let same = one_value state found.0 r found.1 value range f.0 h in
      λ k. Some (range k, same k)

  -- ---- After a range is allocated
  module _ (old : MapState X) (i : IsMapState old) (r : Range) (request : Request) (mid : AddressState)
      (a : Allocates old.space request (Ok r) mid) (value : X) where
    pub with_has : HasValue (with_range r value old) r value
    with_has =
        let left = (given old.space mid request r a).left in
        let more = adds_range old.space (holding r old.space) request r i.space (subst (Allocates old.space request (Ok r)) left a) in
        ((more.held r).1 (inr refl), with_here old.values r.start value)

    pub with_keeps : (q : Range) (w : X) → HasValue old q w → HasValue (with_range r value old) q w
    with_keeps q w h =
        let left = (given old.space mid request r a).left in
        let more = adds_range old.space (holding r old.space) request r i.space (subst (Allocates old.space request (Ok r)) left a) in
        let none = new_start old i r request mid a in
        ((more.held q).1 (inl h.0), grind (arith, get_with old.values r.start value q.start, none, h.1))

  -- ---- After a range is freed
  module _ (old : MapState X) (i : IsMapState old) (r : Range) (c : Contains old.space.held r) where
    pub without_has_not : ¬ Contains (releasing r old.space).held r
    without_has_not k =
        let left = removes_range old.space (releasing r old.space) r i.space (frees_held old.space r c) in ((left.held r).0 k).1 refl

    pub without_keeps : OthersKeepValues r old (without_range r old)
    without_keeps q w n h =
        let left = removes_range old.space (releasing r old.space) r i.space (frees_held old.space r c) in
        let apart : q.start ≢ r.start = λ e. n (one_start old.space i.space q r h.0 c e) in
        ((left.held q).1 (h.0, n), grind (arith, get_without old.values r.start q.start, apart, h.1))

  -- ---- The calls
  -- An allocated range has its value.
  allocated_with : (old new : MapState X) (request : Request) (value : X) (r : Range) (answer : Result Range Error) (space : AddressState) →
      Allocates old.space request answer space → GivesValue old value answer (Ok r) new →
      (mid : AddressState) × Allocates old.space request (Ok r) mid × (new ≡ with_range r value old)
  allocated_with old new request value r (Err e) space a h = absurd (cc (h.0))
  allocated_with old new request value r (Ok q) space a (inr h) = absurd (cc (h.0))
  allocated_with old new request value r (Ok q) space a (inl h) =
      let same : q ≡ r = cc (h.0) in (
        space,
        subst (λ (v : Range). Allocates old.space request (Ok v) space) same a,
        h.1 ∙ ap (λ (v : Range). with_range v value old) same,
      )

  -- The values after an allocation.
  keeps_allocated : (old new : MapState X) (request : Request) (value : X) (r : Range) → IsMapState old →
      AllocatesWith old request value (Ok r) new → HasValue new r value × OthersKeepValues r old new
  unfolding AllocatesWith
  keeps_allocated old new request value r i h =
      let a = allocated_with old new request value r h.0 h.1 h.2 h.3 in
      rw a.2 (with_has old i r request a.0 a.1 value, λ q w n k. with_keeps old i r request a.0 a.1 value q w k)

  -- The values after a range is freed.
  keeps_freed : (old new : MapState X) (r : Range) (value : X) → IsMapState old →
      FreesWith old r (Ok value) new → ¬ Contains new.space.held r × OthersKeepValues r old new
  unfolding FreesWith
  keeps_freed old new r value i (inr h) = absurd (cc (h.1.0))
  keeps_freed old new r value i (inl h) =
      rw (h.1.3) (without_has_not old i r h.0, without_keeps old i r h.0)

  -- A moved range has the value of the range before.
  moved_with : (old new : MapState X) (q r : Range) (request : Request) (answer : Result Range Error) (space : AddressState) →
      MovesRange old.space q request answer space → MovesValue old q answer (Ok r) new →
      (mid : AddressState) × (value : X) × MovesRange old.space q request (Ok r) mid × HasValue old q value × (new ≡ with_moved q r value old)
  moved_with old new q r request (Err e) space m h = absurd (cc (h.0))
  moved_with old new q r request (Ok t) space m (inr h) = absurd (cc (h.1))
  moved_with old new q r request (Ok t) space m (inl h) =
      let same : t ≡ r = cc (h.2) in (
        space,
        h.0,
        subst (λ (v : Range). MovesRange old.space q request (Ok v) space) same m,
        h.1,
        h.3 ∙ ap (λ (v : Range). with_moved q v h.0 old) same,
      )

  -- The values after a move.
  keeps_moved : (old new : MapState X) (q r : Range) (request : Request) (value : X) → IsMapState old → HasValue old q value →
      MovesWith old q request (Ok r) new → HasValue new r value × OthersKeepValues q old new
  unfolding MovesWith
  keeps_moved old new q r request value i had h =
      let m = moved_with old new q r request h.0 h.1 h.2 h.3 in
      let s = moved_parts old.space m.0 q r request m.2 in
      let mid : MapState X = without_range q old in
      let same : m.1 ≡ value = one_value old q q m.1 value refl m.3 had in
      let valid = without_state old i q had.0 in
      let has = with_has mid valid r request m.0 s.allocated m.1 in
      let keeps = with_keeps mid valid r request m.0 s.allocated m.1 in
      rw m.4 (
        subst (HasValue (with_moved q r m.1 old) r) same has,
        λ t w n k. keeps t w (without_keeps old i q had.0 t w n k),
      )

  -- The values after one is set.
  keeps_set : (old new : MapState X) (r : Range) (x : ℕ) (before value : X) (answer : Result X X) → IsMapState old → HasValue old r before → IsIn r x →
      SetsValue old x value answer new → (answer ≡ Ok before) × HasValue new r value × OthersKeepValues r old new
  unfolding SetsValue
  keeps_set old new r x before value (Err returned) i h at s = absurd (missed old.space r x h.0 at s.0)
  keeps_set old new r x before value (Ok found) i h at s =
      let range : s.0 ≡ r = one_at old.space i.space s.0 r x s.1.0 h.0 s.2 at in
      let same = one_value old s.0 r found before range s.1 h in
      let left : new ≡ with_value r value old = s.3 ∙ ap (λ (v : Range). with_value v value old) range in (
        ap (λ (v : X). Ok v) same,
        rw left (h.0, with_here old.values r.start value),
        rw left (λ q w n k.
            let apart : q.start ≢ r.start = λ e. n (one_start old.space i.space q r k.0 h.0 e) in
            (k.0, grind (arith, get_with old.values r.start value q.start, apart, k.1))),
      )

  pub keeps_values : RangesKeepValues X
  keeps_values = record { allocated = keeps_allocated; freed = keeps_freed; moved = keeps_moved; set = keeps_set }

pub ruleset kept = (at_its_addresses, keeps_values)
