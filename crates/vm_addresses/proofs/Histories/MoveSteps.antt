-- One move of a held range: what it changes, and that it has one result.
use Rattle.std.proofs.Common.{◌≡◌, ◌⊎◌, refl, sym, ap, ◌∙◌, inl, inr, ⊎_elim, subst, Result, Ok, Err, MatchResult}
use Rattle.std.specs.List.{Contains}
use Rattle.vm_ranges.specs.Range.{Range}
use Rattle.vm_ranges.specs.Request.{Request}
use Rattle.vm_ranges.specs.Address.{AddressState, IsAddressState, releasing}
use Rattle.vm_ranges.specs.Answer.{Allocates}
use Rattle.vm_addresses.specs.Facts.{AgreeUnlessMemory}
use Rattle.vm_ranges.specs.declared.error.Error.{Error}
use Rattle.vm_ranges.proofs.TwoFacts.{unless_same}
use Rattle.vm_ranges.proofs.PlainWords.{IsHeld, held_contains}
use Rattle.vm_addresses.proofs.Blocks.HeldChanges.{held_with, held_without}
use Rattle.vm_addresses.proofs.Results.AddressResults.{allocated_state, freed_state, releases_held}
use Rattle.vm_addresses.proofs.Results.Once.{allocates_once}
use Rattle.vm_addresses.specs.Moves.{MovesRange}
use Rattle.vm_addresses.proofs.Callers.{given}

-- A range was moved: it was freed, and then a range was allocated for the request.
pub record IsMoved (old : AddressState) (r : Range) (request : Request) (q : Range) (new : AddressState) : Type 0 where
  pub held : Contains old.held r
  pub allocated : Allocates (releasing r old) request (Ok q) new

-- A successful move frees the range and allocates another one.
pub moved_parts : (old new : AddressState) (r q : Range) (request : Request) → MovesRange old r request (Ok q) new →
    IsMoved old r request q new
unfolding MovesRange
moved_parts old new r q request m =
    ⊎_elim
    (λ k. absurd (cc (k.1.0)))
    (λ k. record
    { held = k.0; allocated = subst (λ (v : AddressState). Allocates (releasing r old) request (Ok q) v) (sym k.1.2) k.1.1 })
    m

-- A failed move changes nothing.
pub move_error_keeps : (old new : AddressState) (r : Range) (request : Request) (e : Error) → MovesRange old r request (Err e) new →
    new ≡ old
unfolding MovesRange
move_error_keeps old new r request e m = ⊎_elim (λ k. k.1.1) (λ k. k.1.2) m

-- A move changes nothing, or moves the range.
pub move_outcome : (old new : AddressState) (r : Range) (request : Request) (answer : Result Range Error) →
    MovesRange old r request answer new → (new ≡ old) ⊎ ((q : Range) × (answer ≡ Ok q) × IsMoved old r request q new)
move_outcome old new r request (Err e) m = inl (move_error_keeps old new r request e m)
move_outcome old new r request (Ok q) m = inr (q, refl, moved_parts old new r q request m)

-- A move keeps the state valid.
pub move_state : (old new : AddressState) (r : Range) (request : Request) (answer : Result Range Error) → IsAddressState old →
    MovesRange old r request answer new → IsAddressState new
move_state old new r request answer i m =
    ⊎_elim
    (λ e. subst IsAddressState (sym e) i)
    (λ k.
    let s = k.2 in
    let free = releases_held old r (held_contains old.held r s.held) in
    allocated_state (releasing r old) new request (Ok k.0) (freed_state old (releasing r old) r (Ok tt) i free) s.allocated)
    (move_outcome old new r request answer m)

-- The range p is the one that a move allocated.
pub record IsNewPlace (old : AddressState) (r : Range) (request : Request) (answer : Result Range Error) (p : Range) : Type 0 where
  pub mid : AddressState
  pub given : answer ≡ Ok p
  pub allocated : Allocates (releasing r old) request (Ok p) mid

-- A range that is held after a move was held before it, or is the new place.
pub move_gives : (old new : AddressState) (r : Range) (request : Request) (answer : Result Range Error) (p : Range) →
    MovesRange old r request answer new → IsHeld new.held p → IsHeld old.held p ⊎ IsNewPlace old r request answer p
move_gives old new r request answer p m h =
    ⊎_elim
    (λ e. inl (subst (λ (v : AddressState). IsHeld v.held p) e h))
    (λ k.
    let q = k.0 in
    let s = k.2 in
    let before : AddressState = releasing r old in
    ⊎_elim
    (λ (e : q ≡ p). inr (record {
      mid = new;
      given = k.1 ∙ ap (λ (v : Range). Ok v) e;
      allocated = subst (λ (v : Range). Allocates before request (Ok v) new) e s.allocated;
    }))
    (λ (kept : IsHeld before.held p). inl (held_without r p old.held kept))
    (held_with q p before.held (subst (λ (v : AddressState). IsHeld v.held p) (given before new request q s.allocated).left h)))
    (move_outcome old new r request answer m)

-- The same allocation leads to the same state.
left_once : (old mid after new later : AddressState) (answer : Result Range Error) → mid ≡ after →
    MatchResult answer (λ _. new ≡ mid) (λ _. new ≡ old) → MatchResult answer (λ _. later ≡ after) (λ _. later ≡ old) → new ≡ later
left_once old mid after new later (Ok q) e a b = a ∙ (e ∙ sym b)
left_once old mid after new later (Err x) e a b = a ∙ sym b

-- A move has one result and one next state, unless memory runs out.
pub moves_once : (old new later : AddressState) (r : Range) (request : Request) (answer other : Result Range Error) →
    MovesRange old r request answer new → MovesRange old r request other later → AgreeUnlessMemory answer new other later
unfolding MovesRange
moves_once old new later r request answer other m n =
    unless_same _ _ _ _ _ m n (λ a b. inl (a.0 ∙ sym b.0, a.1 ∙ sym b.1)) (λ a b.
    ⊎_elim
    (λ (same : (answer ≡ other) × (a.0 ≡ b.0)).
    let second : MatchResult answer (λ _. later ≡ b.0) (λ _. later ≡ old) = subst
    (λ (v : Result Range Error). MatchResult v (λ _. later ≡ b.0) (λ _. later ≡ old)) (sym same.0) b.2 in
    inl (same.0, left_once old a.0 b.0 new later answer same.1 a.2 second))
    (λ memory. inr memory)
    (allocates_once (releasing r old) a.0 b.0 request answer other a.1 b.1))
