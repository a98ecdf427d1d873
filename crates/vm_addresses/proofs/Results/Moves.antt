-- The move of a held range: it is freed, and then a range is allocated for the request.
use Rattle.std.proofs.Common.{◌≡◌, ℕ, ◌+◌, ◌-◌, ◌%◌, ◌<◌, arith, refl, ap, ◌∙◌, inl, ⊎_elim, IfSome, IfOk, Result, Ok, Err}
use Rattle.std.specs.List.{Contains}
use Rattle.vm_ranges.specs.Range.{Range, Covers, address_count}
use Rattle.vm_ranges.specs.Alignment.{IsAlignment}
use Rattle.vm_ranges.specs.Request.{Request, request_for, IsStartAligned, ByConstraint, MakesConstraint}
use Rattle.vm_ranges.specs.Address.{AddressState, releasing}
use Rattle.vm_ranges.specs.Answer.{IsChosen}
use Rattle.vm_ranges.specs.declared.error.Error.{Error}
use Rattle.vm_ranges.specs.declared.error.Error.TheVariants.{ResourceNotAvailable}
use Rattle.vm_ranges.specs.declared.constraint.AllocPolicy.TheVariants.{ExactMatch}
use Rattle.vm_addresses.specs.Moves.{request_to, replacing, MovesRange}
use Rattle.vm_addresses.proofs.Callers.{given, request_fits, request_inside}
use Rattle.vm_addresses.proofs.Histories.MoveSteps.{moved_parts}

-- A range that is not held cannot be moved.
pub move_refused : (old : AddressState) (r : Range) (request : Request) → ¬ Contains old.held r →
    MovesRange old r request (Err ResourceNotAvailable) old
unfolding MovesRange
move_refused old r request n = inl (n, (refl, refl))

-- The result of a move of a range that is not held.
pub not_moved : (old new : AddressState) (r : Range) (request : Request) (answer : Result Range Error) →
    MovesRange old r request answer new → ¬ Contains old.held r → answer ≡ Err ResourceNotAvailable
unfolding MovesRange
not_moved old new r request answer m n = ⊎_elim (λ k. k.1.0) (λ k. absurd (n k.0)) m

-- The moved range is as long as requested and aligned.
pub moved_fits : (old new : AddressState) (r : Range) (request : Request) (answer : Result Range Error) →
    MovesRange old r request answer new → IfOk answer (λ q. (address_count q ≡ request.size) × (q.start % request.align ≡ 0))
moved_fits old new r request (Ok q) m = request_fits (releasing r old) new request (Ok q) (moved_parts old new r q request m).allocated
moved_fits old new r request (Err e) m = tt

-- The moved range lies in the window.
pub moved_inside : (old new : AddressState) (r : Range) (request : Request) (answer : Result Range Error) →
    MovesRange old r request answer new → IfOk answer (λ q. IfSome request.window (λ window. Covers window q))
moved_inside old new r request (Ok q) m = request_inside (releasing r old) new request (Ok q) (moved_parts old new r q request m).allocated
moved_inside old new r request (Err e) m = tt

-- The moved range is held instead.
pub moved_replaces : (old new : AddressState) (r : Range) (request : Request) (answer : Result Range Error) →
    MovesRange old r request answer new → IfOk answer (λ q. new ≡ replacing r q old)
unfolding replacing
moved_replaces old new r request (Ok q) m = (given (releasing r old) new request q (moved_parts old new r q request m).allocated).left
moved_replaces old new r request (Err e) m = tt

pub ruleset moves = (not_moved, moved_fits, moved_inside, moved_replaces)

-- ---- A move to a start
-- A request for some addresses at a start, at alignment 1, is valid.
pub start_is_valid : (n t : ℕ) (e : Error) → 0 < n → ¬ MakesConstraint (request_for n 1 (ExactMatch t)) (Err e)
unfolding MakesConstraint ByConstraint IsAlignment IsStartAligned
start_is_valid n t e some m =
    let one : t % 1 ≡ 0 = grind arith in
    ⊎_elim
    (λ z. omega (arith, z.0, some))
    (λ z.
    ⊎_elim
    (λ a. a.0 (0, omega arith, refl))
    (λ a. ⊎_elim (λ s. s.0 one) (λ s. absurd (cc (s.1))) a.1)
    z.1)
    m

-- The moved range starts at the start, and is as long as before.
pub moved_to : (old new : AddressState) (r q : Range) (t : ℕ) → MovesRange old r (request_to r t) (Ok q) new →
    (q.start ≡ t) × (address_count q ≡ address_count r)
unfolding IsChosen
moved_to old new r q t m =
    let g = given (releasing r old) new (request_to r t) q (moved_parts old new r q (request_to r t) m).allocated in
    let end : q.end ≡ q.start + address_count r - 1 = ap (λ (v : Range). v.end) g.long in
    let some : 0 < address_count r = g.some in
    (g.chosen.0, omega arith)

pub move_to_fits : (old new : AddressState) (r : Range) (t : ℕ) (answer : Result Range Error) →
    MovesRange old r (request_to r t) answer new → IfOk answer (λ q. (q.start ≡ t) × (address_count q ≡ address_count r))
move_to_fits old new r t (Ok q) m = moved_to old new r q t m
move_to_fits old new r t (Err e) m = tt

-- The request that is made is the one to the start.
pub made_to : (r : Range) (t n : ℕ) (q : Request) → n ≡ address_count r → MakesConstraint (request_for n 1 (ExactMatch t)) (Ok q) →
    q ≡ request_to r t
unfolding MakesConstraint ByConstraint
made_to r t n q e m =
    ⊎_elim
    (λ z. absurd (cc (z.1)))
    (λ z.
    ⊎_elim
    (λ a. absurd (cc (a.1)))
    (λ a. ⊎_elim (λ s. absurd (cc (s.1)))
    (λ s. let same : q ≡ request_for n 1 (ExactMatch t) = cc (s.1) in same ∙ ap (λ (v : ℕ). request_for v 1 (ExactMatch t)) e) a.1)
    z.1)
    m
