-- The values of the copy have the same starts. The prover does not find them.
use Rattle.std.proofs.Common.{◌≡◌, ⊎_elim, Ok}
use Rattle.vm_ranges.specs.Cloning.{Clones}
use Rattle.vm_addresses.specs.Allocator.{state_of}
use Rattle.vm_range_map.proofs.Copies.{copied_state}
use Rattle.vm_range_map.proofs.range_map.RangeMap.try_clone.Goals as goal

-- A copy that was made is the same.
made : {X : Type 0} (x y : X) → Clones x (Ok y) → y ≡ x
made x y h = ⊎_elim (λ e. cc (e)) (λ e. absurd (cc (e))) h

pub invariant_of-result : goal.invariant_of-result
invariant_of-result g c =
    rw (made c.self.inside.addresses c.in_ok-addresses.addresses c.in_ok-addresses.ensures.same)
    (copied_state g.T.Clone.is_clone (state_of c.self.inside.addresses) c.self.inside.values c.in_ok-values.values c.self.invariant c.in_ok-values.ensures)
