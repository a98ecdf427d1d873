-- The first and the last id decide for the ids between them. The prover does not rewrite the ends in a fact on an arbitrary list.
use Rattle.std.proofs.Common.{Option, Some, None, arith, subst}
use Rattle.vm_ids.specs.declared.saved.read_ids.Ends.{Ends}
use Rattle.vm_ids.specs.Checks.FreedChecks.{AreEndsOf}
use Rattle.vm_ids.proofs.Ids.FreedParts.{none_within, ends_decide}
use Rattle.vm_ids.proofs.saved.read_ids.are_within.Goals as goal

pub returns-in-None : goal.returns-in-None
returns-in-None c ids a =
    let e : AreEndsOf None ids = subst (λ (o : Option Ends). AreEndsOf o ids) c.in-None.is a in
    (λ t. none_within c.args.lowest c.args.bound ids e, λ w. grind arith)

pub returns-then-from-lowest : goal.returns-then-from-lowest
returns-then-from-lowest c ids a =
    let e : AreEndsOf (Some c.in-Some.ends) ids = subst (λ (o : Option Ends). AreEndsOf o ids) c.in-Some.is a in
    let d = ends_decide c.args.lowest c.args.bound c.in-Some.ends ids e in (
      λ t. d.0 (grind (arith, c.if-from-lowest.true, c.from.ensures, c.from-then-from-lowest.ensures)),
      λ w. grind (arith, d.1 w, c.from-then-from-lowest.ensures),
    )

pub returns-else-from-lowest : goal.returns-else-from-lowest
returns-else-from-lowest c ids a =
    let e : AreEndsOf (Some c.in-Some.ends) ids = subst (λ (o : Option Ends). AreEndsOf o ids) c.in-Some.is a in
    let d = ends_decide c.args.lowest c.args.bound c.in-Some.ends ids e in
    (λ t. grind (arith, c.if-from-lowest.false), λ w. grind (arith, d.1 w, c.if-from-lowest.false, c.from.ensures))
