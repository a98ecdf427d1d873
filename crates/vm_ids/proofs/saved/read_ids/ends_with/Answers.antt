use Rattle.std.proofs.Common.{Option, subst}
use Rattle.vm_ids.specs.declared.saved.read_ids.Ends.{Ends}
use Rattle.vm_ids.specs.Checks.FreedChecks.{AreEndsOf}
use Rattle.vm_ids.proofs.Ids.AddedIds.{next_end}
use Rattle.vm_ids.proofs.saved.read_ids.ends_with.Goals as goal

pub returns-in-Some : goal.returns-in-Some
returns-in-Some c ids a =
    next_end c.args.id c.in-Some.ends ids (subst (λ (o : Option Ends). AreEndsOf o ids) c.in-Some.is a) c.if-ends-id.true
