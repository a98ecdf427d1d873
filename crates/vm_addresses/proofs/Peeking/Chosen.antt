-- The range that FirstMatch or LastMatch chooses, and the result of its request.
use Rattle.std.proofs.Common.{◌≡◌, ℕ, ◌+◌, ◌-◌, ◌≤◌, arith, ⊎_elim, sym, ap, ◌∙◌, subst, length, Option, Some, None, Result, Err}
use Rattle.vm_ranges.specs.Range.{Range, MAX, IsIn, span}
use Rattle.vm_ranges.specs.Request.{Request, IsRequest}
use Rattle.vm_ranges.specs.Address.{AddressState, IsClear, IsPlace}
use Rattle.vm_ranges.specs.Answer.{AllocatesAt, IsChosen}
use Rattle.vm_ranges.specs.declared.error.Error.{Error}
use Rattle.vm_ranges.specs.declared.error.Error.TheVariants.{ResourceNotAvailable}
use Rattle.vm_space.specs.Shape.{Shape, blocks}
use Rattle.vm_addresses.specs.Allocator.{state_of, space_of, IsSpaceTree}
use Rattle.vm_addresses.specs.Peeks.{Peeks, state_after}
use Rattle.vm_addresses.specs.Checks.Peeking.{FindsChosen, Settles}
use Rattle.vm_addresses.specs.Tree.Allocation.{IsSearchOf, policy_of}
use Rattle.vm_space.specs.Allocation.{FindsFit}
use Rattle.vm_space.specs.declared.search.Search.{Search}
use Rattle.vm_tree.specs.declared.end.End.{End}
use Rattle.vm_addresses.proofs.Placing.Places.{no_place, place_chosen}
use Rattle.vm_addresses.proofs.Choosing.Searched.{IsNotExact, none_grants, chosen_grants, over_grants}
use Rattle.vm_addresses.proofs.Results.Once.{chosen_place}
use Rattle.vm_addresses.proofs.Results.Requests.{request_allocates}

-- The range of the place of a search is the chosen one.
pub found_chosen : (s : Shape) (tree : IsSpaceTree s) (request : Request) (valid : IsRequest request) (seek : Search)
    (is : IsSearchOf request (space_of (blocks s)) seek) (end : End) → request.policy ≡ policy_of end → (answer : Option Range) →
    FindsFit end seek (blocks s) answer → FindsChosen (state_of s) request answer
found_chosen s tree request valid seek is end policy None h = no_place (space_of (blocks s)) (blocks s) tree.tiling.tiles request seek valid is h
found_chosen s tree request valid seek is end policy (Some q) h =
    let k = (place_chosen (space_of (blocks s)) (blocks s) tree.tiling.tiles request seek valid is end policy h.0 h.1).1 in
    let start : q.start ≡ h.0.start = ap (λ (r : Range). r.start) h.2 in
    (h.2 ∙ ap (span h.0.start) is.size ∙ ap (λ (t : ℕ). span t request.size) (sym start), subst (IsChosen request (state_of s)) (sym start) k)

-- The addresses of the chosen range are clear.
pub chosen_clear : (state : AddressState) (request : Request) (q : Range) (x : ℕ) → IsRequest request → FindsChosen state request (Some q) →
    IsIn q x → IsClear state x
unfolding IsPlace
chosen_clear state request q x valid h i =
    let end : q.end ≡ q.start + request.size - 1 = ap (λ (v : Range). v.end) h.0 in
    (chosen_place request q.start state h.1).1 x i.0 (omega (arith, i.1, end, valid.some))

pub no_place_peeked : (state : AddressState) (request : Request) → IsRequest request → IsNotExact request.policy → FindsChosen state request None →
    Peeks state request (Err ResourceNotAvailable)
unfolding Peeks
no_place_peeked state request valid policy h =
    (λ e. cc e, request_allocates request state state (Err ResourceNotAvailable) valid (none_grants request state policy (length state.held) h))

pub place_peeked : (state : AddressState) (request : Request) (q : Range) (answer : Result Range Error) → IsRequest request → IsNotExact request.policy →
    q.end ≤ MAX → FindsChosen state request (Some q) → Settles state q answer → Peeks state request answer
unfolding Peeks Settles
place_peeked state request q answer valid policy upto h s =
    let end : q.end ≡ q.start + request.size - 1 = ap (λ (v : Range). v.end) h.0 in (
      s.0,
      request_allocates request state (state_after answer state) answer valid (⊎_elim
          (λ l. rw l.1 (over_grants request state policy (length state.held) q.start h.1 (omega (arith, end, l.0))))
          (λ r. chosen_grants request state policy (length state.held) q.start (state_after answer state) answer h.1 (omega (arith, end, r.0, upto))
          (subst (λ (v : Range). AllocatesAt (length state.held) state v answer (state_after answer state)) h.0 r.1))
          s.1),
    )

pub ruleset settled = (chosen_clear, no_place_peeked, place_peeked)
