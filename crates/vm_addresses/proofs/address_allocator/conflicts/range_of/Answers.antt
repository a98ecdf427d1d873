-- A range that would end past MAX is in no space. The prover does not distinguish the cases in which no range is made.
use Rattle.std.proofs.Common.{◌+◌, ◌-◌, ◌<◌, sym, ◌∙◌, arith, ⊎_elim}
use Rattle.vm_ranges.specs.Range.{MAX}
use Rattle.vm_addresses.proofs.Results.Conflicts.{past_conflict}
use Rattle.vm_addresses.proofs.address_allocator.conflicts.range_of.Goals as goal

pub returns-in_default-from_start_len-clause-looks : goal.returns-in_default-from_start_len-clause-looks
returns-in_default-from_start_len-clause-looks c =
    let size = c.size.ensures.value in
    let some = c.size.ensures.valid.some in
    let past : MAX < c.in-ExactMatch.start + c.args.request.size - 1 = ⊎_elim
    (λ k. absurd (omega (arith, k.0, size, some)))
    (λ k. ⊎_elim (λ l. omega (arith, l.0, size)) (λ l. absurd (cc (l.1))) k.1)
    c.in_default-from_start_len.ensures in
    past_conflict c.args.space.now c.args.request c.in-ExactMatch.start (sym c.policy.ensures ∙ c.in-ExactMatch.is) some
    (omega (arith, c.end-end.ensures.range)) past
