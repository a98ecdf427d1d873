-- A move that was begun is finished or cancelled.
use Rattle.std.proofs.Common.{◌≡◌, ◌≢◌, ℕ, ◌%◌, ◌<◌, ◌≤◌, List, length, true, false, Option, Some, None, arith, refl, sym, ap, ◌∙◌, ⊎_elim, subst, Result, Err}
use Rattle.std.specs.List.{Contains}
use Rattle.vm_ranges.specs.Range.{Range, address_count, span}
use Rattle.vm_ranges.specs.declared.constraint.AllocPolicy.TheVariants.{ExactMatch}
use Rattle.vm_ranges.specs.declared.error.Error.{Error}
use Rattle.vm_ranges.specs.declared.error.Error.TheVariants.{OutOfMemory}
use Rattle.vm_ranges.specs.Address.{AddressState, AreClear, IsPlace, releasing}
use Rattle.vm_ranges.specs.Answer.{IsChosen, AllocatesAt, Grants, Frees}
use Rattle.vm_space.specs.Spares.{HasSpare}
use Rattle.vm_addresses.specs.Moves.{request_to, replacing, CanReplace, IsBegun}
use Rattle.vm_addresses.specs.declared.address_allocator.moving.BegunMove.{BegunMove}
use Rattle.vm_ranges.proofs.RangeCalls.{same_range}
use Rattle.vm_ranges.proofs.PlainWords.{IsHeld, held_contains, contains_held, none_holds, held_address}
use Rattle.vm_addresses.proofs.Blocks.HeldSets.{held_lies}
use Rattle.vm_addresses.proofs.Blocks.HeldChanges.{held_now, still_held_with, without_with, with_without, without_other}
use Rattle.vm_addresses.proofs.Moving.Inside.{length_without}
use Rattle.vm_addresses.proofs.Results.Filling.{chosen_by}

-- A held range is freed.
is_freed : (mid new : AddressState) (r : Range) (answer : Result (Unit {0}) Error) → IsHeld mid.held r → Frees mid r answer new →
    new ≡ releasing r mid
unfolding Frees
is_freed mid new r answer held f = ⊎_elim (λ l. l.1.1) (λ l. absurd (l.0 (contains_held mid.held r held))) f

-- ---- A range beside the gap
-- The range that moves is freed.
pub beside_finishes : (old mid new : AddressState) (r : Range) (begun : BegunMove) (answer : Result (Unit {0}) Error) →
    IsBegun old r begun mid → begun.is_allocated ≡ true → Frees mid r answer new → new ≡ replacing r begun.range old
unfolding replacing
beside_finishes old mid new r begun answer h is f =
    let b = h.beside is in
    let q = begun.range in
    let lo = old.space.start in
    let hi = old.space.end in
    let held = held_contains old.held r h.held in
    let lies = held_lies lo hi old.held r h.state.in_order held in
    let apart : r.start ≢ q.start = λ e. none_holds old.held q.start (b.1 q.start (omega arith, h.some)).1
    (held_address old.held r q.start held (omega (arith, e), omega (arith, e, lies.1))) in
    let now_held : IsHeld mid.held r = subst (λ (v : AddressState). IsHeld v.held r) (sym b.0) (still_held_with q r old.held held) in
    is_freed mid new r answer now_held f
    ∙ (ap (λ (v : AddressState). releasing r v) b.0
    ∙ ap (λ (v : List Range). record old { held = v }) (without_other lo hi r q old.held h.state.in_order apart))

-- The range beside it is freed again.
pub beside_cancels : (old mid new : AddressState) (r : Range) (begun : BegunMove) (answer : Result (Unit {0}) Error) →
    IsBegun old r begun mid → begun.is_allocated ≡ true → Frees mid begun.range answer new → new ≡ old
beside_cancels old mid new r begun answer h is f =
    let b = h.beside is in
    let q = begun.range in
    let now_held : IsHeld mid.held q = subst (λ (v : AddressState). IsHeld v.held q) (sym b.0) (held_now q old.held) in
    is_freed mid new q answer now_held f
    ∙ (ap (λ (v : AddressState). releasing q v) b.0
    ∙ ap (λ (v : List Range). record old { held = v }) (without_with old.space.start old.space.end q old.held h.state.in_order h.some
    (λ x i. none_holds old.held x (b.1 x i).1)))

-- ---- A range in the gap
-- A move to the range itself changes nothing.
pub same_finishes : (old mid : AddressState) (r : Range) (begun : BegunMove) → IsBegun old r begun mid → begun.is_allocated ≡ false →
    begun.range ≡ r → mid ≡ replacing r begun.range old
unfolding replacing
same_finishes old mid r begun h is e =
    let back : replacing r r old ≡ old = ap (λ (v : List Range). record old { held = v })
    (with_without old.space.start old.space.end r old.held h.state.in_order (held_contains old.held r h.held)) in
    (h.inside is).0 ∙ (sym back ∙ ap (λ (v : Range). replacing r v old) (sym e))

pub inside_cancels : (old mid : AddressState) (r : Range) (begun : BegunMove) → IsBegun old r begun mid → begun.is_allocated ≡ false → mid ≡ old
inside_cancels old mid r begun h is = (h.inside is).0

pub inside_finishes : (old mid new : AddressState) (r : Range) (begun : BegunMove) → IsBegun old r begun mid → begun.is_allocated ≡ false →
    new ≡ replacing r begun.range mid → new ≡ replacing r begun.range old
inside_finishes old mid new r begun h is e = e ∙ ap (λ (v : AddressState). replacing r begun.range v) (h.inside is).0

-- Memory for more held ranges is enough.
pub fewer_spare : (j k : ℕ) (spare : Option ℕ) → j ≤ k → HasSpare k spare → HasSpare j spare
fewer_spare j k None l h = h
fewer_spare j k (Some n) l h = (h.0, omega (arith, l, h.1))

-- The range is allocated with the memory that is there.
pub enters_gap : (old new : AddressState) (r q : Range) (HasMemory : Type 0) (answer : Result Range Error) → Contains old.held r →
    CanReplace old r q HasMemory → (HasMemory → answer ≢ Err OutOfMemory) →
    Grants (length (releasing r old).held) (releasing r old) (request_to q q.start) answer new → new ≡ replacing r q old
unfolding IsPlace IsChosen AllocatesAt replacing
enters_gap old new r q HasMemory answer held can memory h =
    let less = length_without r old.held (held_contains old.held r held) in
    let n = address_count q in
    let one : q.start % 1 ≡ 0 = grind arith in
    let some : 0 < n = omega (arith, can.some) in
    let clear : AreClear n (releasing r old) q.start = λ x low high. can.clear x (low, omega (arith, can.some, high)) in
    let chosen : IsChosen (request_to q q.start) (releasing r old) q.start = (refl, (one, clear)) in
    let is : span q.start n ≡ q = same_range (span q.start n) q refl (omega (arith, can.some)) in
    ⊎_elim
    (λ k. absurd (omega (arith, can.some, can.below, k.0)))
    (λ k.
    let at : AllocatesAt (length (releasing r old).held) (releasing r old) q answer new = subst
    (λ (v : Range). AllocatesAt (length (releasing r old).held) (releasing r old) v answer new) is k.1 in
    ⊎_elim
    (λ a. a.1.1)
    (λ a.
    let split = can.split a.0 in
    ⊎_elim
    (λ m. absurd (omega (arith, less, split.1, m.0)))
    (λ m. ⊎_elim (λ t. t.1) (λ t. absurd (memory split.0 t.0)) m.1)
    a.1)
    at)
    (chosen_by q.start (releasing r old) new answer (length (releasing r old).held) (ExactMatch q.start) None n 1 some
    (omega (arith, can.some, can.below)) chosen h)

-- A range that replaces another one has the memory for it.
pub replaces : (old mid : AddressState) (r : Range) (begun : BegunMove) → IsBegun old r begun mid → begun.is_allocated ≡ false →
    begun.range ≢ r → CanReplace mid r begun.range (HasSpare (length mid.held) begun.spare)
replaces old mid r begun h is other =
    let can = (h.inside is).1 in
    subst (λ (v : AddressState). CanReplace v r begun.range (HasSpare (length v.held) begun.spare)) (sym (h.inside is).0)
    (record { some = can.some; below = can.below; clear = can.clear; split = λ s. ((can.split s).0 other, (can.split s).1) })

pub ruleset finishing = (beside_finishes, same_finishes, inside_finishes, replaces)

pub ruleset cancelling = (beside_cancels, inside_cancels)

pub ruleset replacing_in = (enters_gap)
