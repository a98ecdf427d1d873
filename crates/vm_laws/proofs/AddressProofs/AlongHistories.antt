-- Facts of every history of an address allocator.
use Rattle.std.proofs.Common.{◌≡◌, ◌⊎◌, ◌↔◌, List, [], ◌∷◌, suc, refl, sym, ap, ◌∙◌, arith, inl, inr, ⊎_elim, subst, zip, Result, Ok, Err}
use Rattle.std.specs.List.{Contains}
use Rattle.vm_ranges.specs.Range.{Range, span}
use Rattle.vm_ranges.specs.Address.{AddressState, IsPlace, IsAddressState, releasing}
use Rattle.vm_ranges.specs.Request.{Request}
use Rattle.vm_ranges.specs.Answer.{Allocates, Frees}
use Rattle.vm_addresses.specs.Several.{AllocatesEach, AllocatesAll}
use Rattle.vm_addresses.specs.Moves.{MovesRange}
use Rattle.vm_addresses.specs.Histories.AddressHistories.{
  Allocate,
  AllocateAll,
  Free,
  MoveTo,
  Clone,
  Call,
  IsCallFrom,
  IsHistoryFrom,
  Begins,
  Reached,
  Gives,
  WasAllocated,
  WasHeldFirst,
}
use Rattle.vm_laws.specs.HistoryLaws.{HeldAreValid, HaveSameState, StateDecides, FreeUndoes}
use Rattle.vm_ranges.specs.declared.error.Error.{Error}
use Rattle.vm_ranges.proofs.PlainWords.{IsHeld, contains_held, held_contains}
use Rattle.vm_addresses.proofs.Results.Outcomes.{IsRefused}
use Rattle.vm_addresses.proofs.Reading.ReadAllocators.{encoded_state, repaired_state}
use Rattle.vm_saved_trees.proofs.Reading.NodeStates.{tree_read_state, keys_read_state}
use Rattle.vm_ranges.proofs.Clones.{cloning_keeps}
use Rattle.vm_ranges.proofs.Histories.{history_keeps}
use Rattle.vm_addresses.proofs.Results.Once.{allocates_once, frees_once}
use Rattle.vm_addresses.proofs.Callers.{given, request_inside}
use Rattle.vm_addresses.proofs.Results.SeveralOnce.{all_once}
use Rattle.vm_addresses.proofs.Histories.MoveSteps.{IsNewPlace, move_state, move_gives, moves_once}
use Rattle.vm_laws.proofs.AddressProofs.HeldOnes.{held_state}
use Rattle.vm_addresses.proofs.Blocks.HeldSets.{same_ranges_held}
use Rattle.vm_addresses.proofs.Blocks.HeldChanges.{held_with, held_without}
use Rattle.vm_addresses.proofs.Results.AddressResults.{IsAllocation, outcome, allocated_state, freed_state, made_is, made_state, lie_apart, freeing_undoes}

-- ---- Every reached state is valid
each_valid : (qs : List Request) (rs : List Range) (old new : AddressState) → IsAddressState old → AllocatesEach old qs rs new →
    IsAddressState new
each_valid [] [] old new i e = subst IsAddressState (sym e) i
each_valid [] (r ∷ rs) old new i e = absurd e
each_valid (q ∷ qs) [] old new i e = absurd e
each_valid (q ∷ qs) (r ∷ rs) old new i e = each_valid qs rs e.0 new (allocated_state old e.0 q (Ok r) i e.1) e.2

call_state : (call : Call) (old new : AddressState) → IsAddressState old → IsCallFrom old call new → IsAddressState new
call_state (Allocate request, answer) old new i h = allocated_state old new request answer i h
call_state (AllocateAll requests, Ok rs) old new i h = each_valid requests rs old new i h
call_state (AllocateAll requests, Err e) old new i h = subst IsAddressState (sym h.0) i
call_state (Free r, answer) old new i h = freed_state old new r answer i h
call_state (MoveTo r request, answer) old new i h = move_state old new r request answer i h
call_state (Clone, answer) old new i h = subst IsAddressState (sym (cloning_keeps old new answer h.0 h.1)) i

pub history_state : (calls : List Call) (first last : AddressState) → IsAddressState first → IsHistoryFrom first calls last →
    IsAddressState last
history_state = history_keeps IsCallFrom IsAddressState call_state

first_state : (first : AddressState) → Begins first → IsAddressState first
first_state first (inl m) = made_state m.base m.size first m.word m.made
first_state first (inr (inl m)) = held_state m.base m.size m.held first m.word m.ranges m.made
first_state first (inr (inr (inr n))) = ⊎_elim (tree_read_state n.space n.tree first n.range) (keys_read_state n.space n.tree first n.range)
    n.nodes
first_state first (inr (inr (inl r))) = ⊎_elim (encoded_state r.value first) (repaired_state r.value first) r.encoded

pub reached_state : (old : Reached) → IsAddressState old.state
reached_state old =
    let r = old.reached in history_state old.calls r.first old.state (first_state r.first r.begins) r.history

-- ---- The held ranges
-- A range that some calls allocated is allocated by a longer list of calls too.
given_later : (call : Call) (calls : List Call) (r : Range) → WasAllocated calls r → WasAllocated (call ∷ calls) r
given_later call calls r g =
    let m = g.made in
    record {
      request = g.request;
      call = g.call;
      made = (suc m.0, omega (arith, m.1), m.2);
      given = g.given;
      aligned = g.aligned;
      long =
          g.long;
      inside = g.inside;
    }

-- A call that gives the range for a request allocated it.
given_here : (old new : AddressState) (request : Request) (r : Range) (call : Call) (calls : List Call) → Gives call request r →
    Allocates old request (Ok r) new → WasAllocated (call ∷ calls) r
unfolding IsPlace
given_here old new request r call calls gives s =
    let g = given old new request r s in
    record {
      request = request;
      call = call;
      made = (0, omega arith, refl);
      given = gives;
      aligned = g.place.0;
      long = g.long;
      inside = request_inside old new request (Ok r) s;
    }

-- The range is that of one of several requests.
record IsOneOf (qs : List Request) (rs : List Range) (r : Range) : Type 0 where
  old : AddressState
  new : AddressState
  request : Request
  pair : Contains (zip qs rs) (request, r)
  allocated : Allocates old request (Ok r) new

later_one : (q : Request) (qs : List Request) (x : Range) (rs : List Range) (r : Range) → IsOneOf qs rs r → IsOneOf (q ∷ qs) (x ∷ rs) r
later_one q qs x rs r one =
    let p = one.pair in
    record { old = one.old; new = one.new; request = one.request; pair = (suc p.0, omega (arith, p.1), p.2); allocated = one.allocated }

-- A range that is held after several requests was held before them, or is that of one of them.
each_gives : (qs : List Request) (rs : List Range) (old new : AddressState) (r : Range) → AllocatesEach old qs rs new → IsHeld new.held r →
    IsHeld old.held r ⊎ IsOneOf qs rs r
each_gives [] [] old new r e h = inl (subst (λ (v : AddressState). IsHeld v.held r) e h)
each_gives [] (x ∷ rs) old new r e h = absurd e
each_gives (q ∷ qs) [] old new r e h = absurd e
each_gives (q ∷ qs) (x ∷ rs) old new r e h =
    ⊎_elim
    (λ (k : IsHeld e.0.held r).
    ⊎_elim
    (λ (same : x ≡ r). inr (record {
      old = old;
      new = e.0;
      request = q;
      pair = (0, omega arith, ap (λ (v : Range). (q, v)) same);
      allocated = subst (λ (v : Range). Allocates old q (Ok v) e.0) same e.1;
    }))
    (λ (before : IsHeld old.held r). inl before)
    (held_with x r old.held (subst (λ (v : AddressState). IsHeld v.held r) (given old e.0 q x e.1).left k)))
    (λ (one : IsOneOf qs rs r). inr (later_one q qs x rs r one))
    (each_gives qs rs e.0 new r e.2 h)

-- A range that is held after a call was held before it, or the call allocated it.
call_gives : (old new : AddressState) (call : Call) (calls : List Call) (r : Range) → IsCallFrom old call new → IsHeld new.held r →
    IsHeld old.held r ⊎ WasAllocated (call ∷ calls) r
unfolding Frees
call_gives old new (Allocate request, answer) calls r s h =
    let P : AddressState → Type 0 = λ v. IsHeld v.held r in
    ⊎_elim
    (λ (l : IsRefused old answer new). inl (subst P l.2 h))
    (λ (g : IsAllocation old request answer new).
    ⊎_elim
    (λ (e : span g.from request.size ≡ r).
    let ok : answer ≡ Ok r = g.given ∙ ap (λ (v : Range). Ok v) e in
    inr (given_here old new request r (Allocate request, answer) calls (refl, ok)
    (subst (λ (v : Result Range Error). Allocates old request v new) ok s)))
    (λ (k : IsHeld old.held r). inl k)
    (held_with (span g.from request.size) r old.held (subst P g.left h)))
    (outcome request old new answer s)
call_gives old new (AllocateAll requests, Ok rs) calls r s h =
    ⊎_elim
    (λ (k : IsHeld old.held r). inl k)
    (λ (one : IsOneOf requests rs r). inr
    (given_here one.old one.new one.request r (AllocateAll requests, Ok rs) calls one.pair one.allocated))
    (each_gives requests rs old new r s h)
call_gives old new (AllocateAll requests, Err e) calls r s h = inl (subst (λ (v : AddressState). IsHeld v.held r) s.0 h)
call_gives old new (Free q, answer) calls r s h =
    let P : AddressState → Type 0 = λ v. IsHeld v.held r in
    ⊎_elim (λ l. inl (held_without q r old.held (subst P l.1.1 h))) (λ l. inl (subst P l.1.1 h)) s
call_gives old new (MoveTo q request, answer) calls r s h =
    ⊎_elim
    (λ (k : IsHeld old.held r). inl k)
    (λ (p : IsNewPlace old q request answer r). inr
    (given_here (releasing q old) p.mid request r (MoveTo q request, answer) calls (refl, p.given) p.allocated))
    (move_gives old new q request answer r s h)
call_gives old new (Clone, answer) calls r s h =
    let P : AddressState → Type 0 = λ v. IsHeld v.held r in
    inl (subst P (cloning_keeps old new answer s.0 s.1) h)

history_gives : (calls : List Call) (first last : AddressState) (r : Range) → IsHistoryFrom first calls last → IsHeld last.held r →
    IsHeld first.held r ⊎ WasAllocated calls r
history_gives [] first last r s h = inl (subst (λ (v : AddressState). IsHeld v.held r) s h)
history_gives (call ∷ calls) first last r s h =
    ⊎_elim
    (λ (k : IsHeld s.0.held r). call_gives first s.0 call calls r s.1 k)
    (λ (g : WasAllocated calls r). inr (given_later call calls r g))
    (history_gives calls s.0 last r s.2 h)

-- A new allocator holds no range. So a range that is held at first was held from the start.
first_holds : (first : AddressState) (r : Range) → Begins first → IsHeld first.held r → WasHeldFirst first r
first_holds first r (inl m) k = absurd (subst (λ (v : AddressState). IsHeld v.held r) (made_is m.base m.size first m.made).2 k)
first_holds first r (inr begins) k = record { begins = begins; held = contains_held first.held r k }

reached_given : (old : Reached) (r : Range) → Contains old.state.held r → WasAllocated old.calls r ⊎ WasHeldFirst old.reached.first r
reached_given old r c =
    let h = old.reached in
    ⊎_elim
    (λ (k : IsHeld h.first.held r). inr (first_holds h.first r h.begins k))
    (λ (g : WasAllocated old.calls r). inl g)
    (history_gives old.calls h.first old.state r h.history (held_contains old.state.held r c))

pub held_good : HeldAreValid
held_good = record { state = reached_state; apart = λ old. lie_apart old.state (reached_state old); given = reached_given }

-- ---- The result depends only on the space and the held ranges
pub same_members : (xs ys : List Range) → ((r : Range) → Contains xs r ↔ Contains ys r) → (r : Range) → IsHeld xs r ↔ IsHeld ys r
same_members xs ys h r = (
  λ k. held_contains ys r ((h r).0 (contains_held xs r k)),
  λ k. held_contains xs r
      ((h r).1 (contains_held ys r k)),
)

pub same_state : (x y : AddressState) → IsAddressState x → IsAddressState y → x.space ≡ y.space →
    ((r : Range) → IsHeld x.held r ↔ IsHeld y.held r) → x ≡ y
same_state x y i j e h =
    let f : Range → List Range → AddressState = λ s hs. record { space = s; held = hs } in
    let same = same_ranges_held x.space.start y.space.start x.space.end y.space.end x.held y.held i.in_order j.in_order h in
    let g : f x.space x.held ≡ f y.space x.held = ap (λ s. f s x.held) e in
    g ∙ ap (λ hs. f y.space hs) same

pub alike_state : (first second : Reached) → HaveSameState first.state second.state → first.state ≡ second.state
alike_state first second h = same_state first.state second.state (reached_state first) (reached_state second) h.space
    (same_members first.state.held second.state.held h.held)

pub decided : StateDecides
decided = record {
  allocation = λ first second new later request answer other h s t.
      let e = alike_state first second h in
      allocates_once first.state new later request answer other s (subst (λ (v : AddressState). Allocates v request other later) (sym e) t);
  move = λ first second new later r request answer other h s t.
      let e = alike_state first second h in
      moves_once first.state new later r request answer other s
      (subst (λ (v : AddressState). MovesRange v r request other later) (sym e) t);
  several = λ first second new later requests answer other h s t.
      let e = alike_state first second h in
      all_once requests first.state new later answer other s (subst (λ (v : AddressState). AllocatesAll v requests other later) (sym e) t);
  release = λ first second new later r answer other h s t.
      let e = alike_state first second h in
      frees_once first.state new later r answer other s (subst (λ (v : AddressState). Frees v r other later) (sym e) t);
}

pub release_undoes : FreeUndoes
release_undoes old mid new request r answer s f = freeing_undoes old.state mid new request r answer (reached_state old) s f
