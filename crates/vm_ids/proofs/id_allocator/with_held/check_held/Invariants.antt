use Rattle.vm_ids.proofs.Ids.WithHeld.{LeftDecides}
use Rattle.vm_ids.proofs.id_allocator.with_held.check_held.Given as goal

abbrev pub invariant-loop-id : goal.invariant-loop-id
invariant-loop-id l = LeftDecides l.range_base l.range_end l.next l.id-index l.held
