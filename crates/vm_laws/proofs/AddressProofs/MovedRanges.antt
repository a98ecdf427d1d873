-- Moves of held ranges in histories.
use Rattle.std.proofs.Common.{◌≡◌, refl, sym, arith, ⊎_elim, subst, Ok, inr}
use Rattle.std.specs.List.{Contains}
use Rattle.vm_ranges.specs.Range.{Range, IsIn}
use Rattle.vm_ranges.specs.Address.{AddressState, IsClear, releasing, with_range}
use Rattle.vm_ranges.specs.Answer.{Allocates, Frees}
use Rattle.vm_ranges.proofs.PlainWords.{IsHeld, held_contains, all_miss, none_holds, held_address}
use Rattle.vm_addresses.proofs.Blocks.HeldChanges.{held_with}
use Rattle.vm_addresses.proofs.Results.AddressResults.{releases_held}
use Rattle.vm_addresses.specs.Moves.{MovesRange}
use Rattle.vm_laws.specs.MoveLaws.{MovedIsHeld, OldPlaceIsClear, MoveIsTwoCalls}
use Rattle.vm_addresses.proofs.Callers.{given, request_fits, request_inside, released_clear, range_of, allocated_held}
use Rattle.vm_laws.proofs.AddressProofs.AlongHistories.{reached_state}
use Rattle.vm_addresses.proofs.Histories.MoveSteps.{moved_parts}

-- A moved range is held, and is as requested.
pub moved_held : MovedIsHeld
moved_held old new r q request m =
    let s = moved_parts old new r q request m in
    let fits = request_fits (releasing r old) new request (Ok q) s.allocated in (
      allocated_held (releasing r old) new request q s.allocated,
      record
          { long = fits.0; aligned = fits.1; inside = request_inside (releasing r old) new request (Ok q) s.allocated },
    )

-- An address that a moved range had only before the move is clear.
pub moved_clear : OldPlaceIsClear
moved_clear old new r q request m x inside outside =
    let s = moved_parts old.state new r q request m in
    let before : AddressState = releasing r old.state in
    let clear : IsClear before x = released_clear old.state r (reached_state old) (held_contains old.state.held r s.held) x inside.0
    (omega (arith, inside.0, inside.1)) in
    subst (λ (v : AddressState). IsClear v x) (sym (given before new request q s.allocated).left) (
      clear.0,
      all_miss (with_range q before.held) x (λ k.
          let p = range_of (with_range q before.held) x k in
          ⊎_elim
          (λ (e : q ≡ p.0). outside (subst (λ (v : Range). IsIn v x) (sym e) p.2))
          (λ (h : IsHeld before.held p.0). none_holds before.held x clear.1 (held_address before.held p.0 x h p.2))
          (held_with q p.0 before.held p.1)),
    )

-- A move is the freeing of the range and the allocation for the request.
pub move_is_two_calls : MoveIsTwoCalls
unfolding MovesRange Frees
move_is_two_calls old new r q request = (
  λ m.
      let s = moved_parts old new r q request m in
      (releasing r old, releases_held old r (held_contains old.held r s.held), (new, s.allocated, refl)),
  λ h.
      let freed : Contains old.held r × (h.0 ≡ releasing r old) = ⊎_elim (λ f. (f.0, f.1.1)) (λ f. absurd (cc (f.1.0))) h.1 in
      inr (freed.0, (h.2.0, subst (λ (v : AddressState). Allocates v request (Ok q) h.2.0) freed.1 h.2.1, h.2.2)),
)
