-- One condition is violated, or all are met, for every list with these ends. The prover does not choose the case of the error.
use Rattle.std.proofs.Common.{inl, inr, refl, arith}
use Rattle.std.proofs.lemmas.Bool.{both_ways}
use Rattle.vm_ids.specs.Ids.{IsNext}
use Rattle.vm_ids.specs.Checks.FreedChecks.{AreWithin}
use Rattle.vm_ids.proofs.saved.read_ids.check_parts.Goals as goal

pub returns-then-base-end : goal.returns-then-base-end
returns-then-base-end c ids a = (inl (c.if-base-end.true, refl), λ p. grind (arith, p.parts.range, c.if-base-end.true))

pub returns-then-not-is_next : goal.returns-then-not-is_next
returns-then-not-is_next c ids a =
    let n : ¬ IsNext c.args.base c.args.end c.args.next = λ p. both_ways _ c.if-not-is_next.true (c.is_next.ensures.1 p) in
    (inr (λ h. omega (arith, c.if-base-end.false), inl (n, refl)), λ p. n p.parts.next_id)

pub returns-then-not-are_within : goal.returns-then-not-are_within
returns-then-not-are_within c ids a = (
  inr (λ h. omega (arith, c.if-base-end.false), inr (c.is_next.ensures.0 c.if-not-is_next.false, refl)),
  λ p.
      both_ways _ c.if-not-are_within.true ((c.are_within.ensures ids a).1 (rw (c.into.ensures, c.bound_of.ensures) p.parts.freed_ids)),
)

pub returns : goal.returns
returns c ids a =
    let w : AreWithin c.into.result c.bound_of.result ids = (c.are_within.ensures ids a).0 c.if-not-are_within.false in
    record {
      parts = record {
        range = omega (arith, c.if-base-end.false);
        ids = omega (arith, c.ranges.end);
        next_id = c.is_next.ensures.0 c.if-not-is_next.false;
        freed_ids = rw (c.into.ensures, c.bound_of.ensures) at w;
      };
      ascending = a.0;
    }
