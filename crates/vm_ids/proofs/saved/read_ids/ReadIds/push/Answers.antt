use Rattle.vm_ids.proofs.Ids.FreedParts.{below_next}
use Rattle.vm_ids.proofs.saved.read_ids.ReadIds.push.Goals as goal

pub add_above-requires-clause-above : goal.add_above-requires-clause-above
add_above-requires-clause-above c = λ i t.
    below_next c.args.id i _ c.self.invariant.0 (c.in-Some.ensures _ c.self.invariant).0 t
