-- Equal bounds and equal freed ids are equal states. The prover does not build the record of the parts of an allocator.
use Rattle.std.proofs.Common.{refl}
use Rattle.vm_ids.proofs.Ids.ComparedIds.{tested, ordered}
use Rattle.vm_ids.proofs.id_allocator.comparing.IdAllocatorPartialEq.eq.Goals as goal

pub returns-then-has_bounds_of-clause-equal : goal.returns-then-has_bounds_of-clause-equal
returns-then-has_bounds_of-clause-equal c =
    tested c.equals.result (record { valid = c.self.invariant; is = c.self.view_is })
    (record { valid = c.other.invariant; is = c.other.view_is }) (c.if-has_bounds_of.ensures.0 refl) c.equals.ensures.order
    c.equals.ensures.same

pub returns-then-has_bounds_of-clause-order : goal.returns-then-has_bounds_of-clause-order
returns-then-has_bounds_of-clause-order c =
    ordered c.equals.result (record { valid = c.self.invariant; is = c.self.view_is })
    (record { valid = c.other.invariant; is = c.other.view_is }) (returns-then-has_bounds_of-clause-equal c)
