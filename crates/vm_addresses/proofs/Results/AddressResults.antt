-- The effect of one call of an address allocator on its state.
use Rattle.std.proofs.Common.{◌≡◌, ◌≢◌, ℕ, ◌+◌, ◌-◌, ◌<◌, ◌≤◌, ◌⊎◌, ◌↔◌, List, [], refl, sym, ap, ◌∙◌, arith, inl, inr, ⊎_elim, subst, Result, Ok}
use Rattle.std.specs.List.{Contains}
use Rattle.vm_ranges.specs.Range.{Range, MAX, Overlaps, span}
use Rattle.vm_ranges.specs.Address.{AddressState, IsPlace, IsAddressState, holding, releasing, with_range, without_range}
use Rattle.vm_ranges.specs.Request.{Request, IsRequest}
use Rattle.vm_ranges.specs.Answer.{Allocates, Grants, Frees, Makes}
use Rattle.vm_addresses.specs.Facts.{StateIsPreserved, AddsRange, AreDisjoint, RemovesRange}
use Rattle.vm_ranges.specs.declared.error.Error.{Error}
use Rattle.vm_ranges.proofs.PlainWords.{IsHeld, contains_held, held_contains, none_holds}
use Rattle.vm_addresses.proofs.Results.Outcomes.{IsRefused, IsTaken, given_or_refused, allocates_outcome, grants_outcome}
use Rattle.vm_ranges.proofs.RangeCalls.{covers}
use Rattle.vm_addresses.proofs.Results.Once.{chosen_place}
use Rattle.vm_addresses.proofs.Blocks.HeldChanges.{
  Misses,
  in_order_with,
  held_with,
  held_now,
  still_held_with,
  in_order_without,
  without_with,
  held_without,
  not_held_without,
  others_held,
}
use Rattle.vm_addresses.proofs.Blocks.HeldSets.{held_lies, one_held}

-- ---- The two outcomes of a request
-- An error changes nothing, or a range at a place is allocated.
pub record IsAllocation (old : AddressState) (request : Request) (answer : Result Range Error) (new : AddressState) : Type 0 where
  pub from : ℕ
  pub some : 0 < request.size
  pub place : IsPlace request.size request.align old from
  pub not_max : ¬ (from + request.size - 1 ≡ MAX)
  pub given : answer ≡ Ok (span from request.size)
  pub left : new ≡ holding (span from request.size) old

taken_outcome : (counted : ℕ) (request : Request) (old new : AddressState) (answer : Result Range Error) → 0 < request.size →
    IsTaken counted request old answer new → IsRefused old answer new ⊎ IsAllocation old request answer new
taken_outcome counted request old new answer some t =
    ⊎_elim
    (λ g. inr (record { from = t.0; some = some; place = chosen_place request t.0 old t.1; not_max = t.2; given = g.0; left = g.1 }))
    (λ l. inl l)
    (given_or_refused _ old (span t.0 request.size) answer new t.3)

pub outcome : (request : Request) (old new : AddressState) (answer : Result Range Error) → Allocates old request answer new →
    IsRefused old answer new ⊎ IsAllocation old request answer new
outcome request old new answer h =
    ⊎_elim (λ l. inl l) (λ k. taken_outcome _ request old new answer k.0.some k.1) (allocates_outcome old new answer request h)

-- A success is an allocation.
pub gets : (request : Request) (old new : AddressState) (r : Range) → Allocates old request (Ok r) new → IsAllocation old request (Ok r) new
gets request old new r h = ⊎_elim (λ l. absurd (cc (l.1))) (λ g. g) (outcome request old new (Ok r) h)

-- ---- Each call keeps the state valid
-- An allocated range lies in the space and ends below MAX, and none of its addresses was held.
pub lies_clear : (old new : AddressState) (request : Request) (answer : Result Range Error) (g : IsAllocation old request answer new) →
    IsAddressState old →
    (old.space.start ≤ g.from) × (g.from + request.size - 1 ≤ old.space.end) × (g.from + request.size - 1 < MAX)
    × Misses old.held (span g.from request.size)
unfolding IsPlace
lies_clear old new request answer g i =
    let some = g.some in
    let first = g.place.1 g.from (omega arith) (omega arith) in
    let last = g.place.1 (g.from + request.size - 1) (omega arith) (omega arith) in (
      first.0.0,
      last.0.1,
      omega (arith, last.0.1, i.space.1, g.not_max),
      λ x m. none_holds old.held x (g.place.1 x m.0 (omega (arith, m.1))).1,
    )

given_state : (old new : AddressState) (request : Request) (answer : Result Range Error) → IsAllocation old request answer new →
    IsAddressState old → IsAddressState new
given_state old new request answer g i =
    let l = lies_clear old new request answer g i in
    let some = g.some in
    subst IsAddressState (sym g.left) (record {
      space = i.space;
      in_order = in_order_with old.space.start old.space.end (span g.from request.size) old.held i.in_order l.0 (omega arith) l.1 l.2 l.3;
    })

pub allocated_state : (old new : AddressState) (request : Request) (answer : Result Range Error) → IsAddressState old →
    Allocates old request answer new → IsAddressState new
allocated_state old new request answer i h =
    ⊎_elim
    (λ (l : IsRefused old answer new). subst IsAddressState (sym l.2) i)
    (λ (g : IsAllocation old request answer new). given_state old new request answer g i)
    (outcome request old new answer h)

pub granted_state : (counted : ℕ) (old new : AddressState) (request : Request) (answer : Result Range Error) → IsRequest request → IsAddressState old →
    Grants counted old request answer new → IsAddressState new
granted_state counted old new request answer r i h =
    ⊎_elim
    (λ (l : IsRefused old answer new). subst IsAddressState (sym l.2) i)
    (λ (t : IsTaken counted request old answer new).
    ⊎_elim
    (λ (l : IsRefused old answer new). subst IsAddressState (sym l.2) i)
    (λ (g : IsAllocation old request answer new). given_state old new request answer g i)
    (taken_outcome _ request old new answer r.some t))
    (grants_outcome old new answer _ request h)

pub ruleset granted = (granted_state)

released_state : (old : AddressState) (r : Range) → IsAddressState old → IsAddressState (releasing r old)
released_state old r i = record { space = i.space; in_order = in_order_without old.space.start old.space.end r old.held i.in_order }

pub freed_state : (old new : AddressState) (r : Range) (answer : Result (Unit {0}) Error) → IsAddressState old → Frees old r answer new →
    IsAddressState new
unfolding Frees
freed_state old new r answer i h =
    ⊎_elim (λ l. subst IsAddressState (sym l.1.1) (released_state old r i)) (λ l. subst IsAddressState (sym l.1.1) i) h

pub ruleset freed = (freed_state)

-- The state of a new allocator.
pub made_is : (base size : ℕ) (first : AddressState) → Makes base size (Ok first) →
    (0 < size) × (base + size - 1 ≤ MAX) × (first ≡ record { space = span base size; held = [] })
unfolding Makes
made_is base size first h =
    ⊎_elim
    (λ l. absurd (cc (l.1)))
    (λ s.
    ⊎_elim
    (λ l. absurd (cc (l.1)))
    (λ m. ⊎_elim (λ e. (omega (arith, s.0), omega (arith, m.0), cc (e))) (λ e. absurd (cc (e))) m.1)
    s.1)
    h

pub made_state : (base size : ℕ) (first : AddressState) → size ≤ MAX → Makes base size (Ok first) → IsAddressState first
made_state base size first w h =
    let m = made_is base size first h in
    subst IsAddressState (sym m.2) (record { space = (omega (arith, m.0), m.1, λ z. omega (arith, m.0)); in_order = tt })

pub state_is_preserved : StateIsPreserved
state_is_preserved = record { made = made_state; allocated = allocated_state; freed = freed_state }

-- ---- The held ranges of a state
pub lie_apart : (state : AddressState) → IsAddressState state → AreDisjoint state
unfolding Overlaps
lie_apart state i =
    let lo = state.space.start in
    let hi = state.space.end in
    record {
      apart = λ r q k l o. one_held lo hi o.0 state.held r q i.in_order (held_contains state.held r k) (held_contains state.held q l) o.1
          o.2;
      inside = λ r k. let l = held_lies lo hi state.held r i.in_order (held_contains state.held r k) in (l.1, covers state.space r l.0 l.2);
      below = λ r k. (held_lies lo hi state.held r i.in_order (held_contains state.held r k)).3;
    }

-- ---- The effect of an allocation
with_members : (r : Range) (hs : List Range) (q : Range) → Contains (with_range r hs) q ↔ (Contains hs q ⊎ (q ≡ r))
with_members r hs q = (
  λ c. ⊎_elim (λ (k : r ≡ q). inr (sym k)) (λ (k : IsHeld hs q). inl (contains_held hs q k))
      (held_with r q hs (held_contains (with_range r hs) q c)),
  ⊎_elim
      (λ (c : Contains hs q). contains_held (with_range r hs) q (still_held_with r q hs (held_contains hs q c)))
      (λ (k : q ≡ r). subst (Contains (with_range r hs)) (sym k) (contains_held (with_range r hs) r (held_now r hs))),
)

adds_given : (old new : AddressState) (request : Request) (r : Range) → IsAllocation old request (Ok r) new → AddsRange old new r
unfolding IsPlace
adds_given old new request r g =
    let some = g.some in
    let held_one = span g.from request.size in
    let same : r ≡ held_one = cc (g.given) in
    subst (AddsRange old new) (sym same) (record {
      clear = λ x l m. g.place.1 x l (omega arith);
      space = ap (λ (v : AddressState). v.space) g.left;
      held = λ q. subst (λ (v : AddressState). Contains v.held q ↔ (Contains old.held q ⊎ (q ≡ held_one))) (sym g.left)
          (with_members held_one old.held q);
    })

pub adds_range : (old new : AddressState) (request : Request) (r : Range) →
    IsAddressState old → Allocates old request (Ok r) new → AddsRange old new r
adds_range old new request r i h = adds_given old new request r (gets request old new r h)

-- Freeing a held range succeeds.
frees_held : (old new : AddressState) (r : Range) (answer : Result (Unit {0}) Error) → IsHeld old.held r → Frees old r answer new →
    (answer ≡ Ok tt) × (new ≡ releasing r old)
unfolding Frees
frees_held old new r answer h f = ⊎_elim (λ l. l.1) (λ l. absurd (l.0 (contains_held old.held r h))) f

-- A range that is freed was held.
pub freed_held : (old new : AddressState) (r : Range) → Frees old r (Ok tt) new → IsHeld old.held r × (new ≡ releasing r old)
unfolding Frees
freed_held old new r f = ⊎_elim (λ l. (held_contains old.held r l.0, l.1.1)) (λ l. absurd (cc (l.1.0))) f

-- A range can be freed while it is held.
pub releases_held : (old : AddressState) (r : Range) → IsHeld old.held r → Frees old r (Ok tt) (releasing r old)
unfolding Frees
releases_held old r h = inl (contains_held old.held r h, (refl, refl))

without_members : (old : AddressState) (r q : Range) → IsAddressState old → IsHeld old.held r →
    Contains (without_range r old.held) q ↔ (Contains old.held q × (q ≢ r))
without_members old r q i h =
    let lo = old.space.start in
    let hi = old.space.end in (
      λ c.
          let k = held_contains (without_range r old.held) q c in
          (contains_held old.held q (held_without r q old.held k), λ e. not_held_without lo hi r q old.held i.in_order k (sym e)),
      λ c. contains_held (without_range r old.held) q
          (others_held lo hi r q old.held i.in_order h (held_contains old.held q c.0) (λ e. c.1 (sym e))),
    )

pub removes_range : (old new : AddressState) (r : Range) →
    IsAddressState old → Frees old r (Ok tt) new → RemovesRange old new r
removes_range old new r i h =
    let f = freed_held old new r h in
    record {
      was = contains_held old.held r f.0;
      space = ap (λ (v : AddressState). v.space) f.1;
      held = λ q. subst (λ (v : AddressState). Contains v.held q ↔ (Contains old.held q × (q ≢ r))) (sym f.1)
          (without_members old r q i f.0);
    }

-- ---- Freeing a range right after its allocation
undoes_given : (old mid new : AddressState) (request : Request) (r : Range) (answer : Result (Unit {0}) Error) → IsAddressState old →
    IsAllocation old request (Ok r) mid → Frees mid r answer new → (answer ≡ Ok tt) × (new ≡ old)
undoes_given old mid new request r answer i g f =
    let some = g.some in
    let held_one = span g.from request.size in
    let same : r ≡ held_one = cc (g.given) in
    let held : IsHeld mid.held r = subst (λ (v : AddressState). IsHeld v.held r) (sym g.left)
    (subst (IsHeld (with_range held_one old.held)) (sym same) (held_now held_one old.held)) in
    let freed = frees_held mid new r answer held f in
    let clear = lies_clear old mid request (Ok r) g i in
    let back : releasing held_one (holding held_one old)
    ≡ old = ap (λ (hs : List Range). record old { held = hs })
    (without_with old.space.start old.space.end held_one old.held i.in_order (omega arith) clear.3) in
    let alike : releasing r mid ≡ releasing held_one (holding held_one old) = rw (same, g.left) refl in
    (freed.0, freed.1 ∙ (alike ∙ back))

pub freeing_undoes : (old mid new : AddressState) (request : Request) (r : Range) (answer : Result (Unit {0}) Error) →
    IsAddressState old → Allocates old request (Ok r) mid → Frees mid r answer new → (answer ≡ Ok tt) × (new ≡ old)
freeing_undoes old mid new request r answer i s f = undoes_given old mid new request r answer i (gets request old mid r s) f

pub ruleset changes = (adds_range, removes_range, freeing_undoes)

pub ruleset preserved = (state_is_preserved, lie_apart)
