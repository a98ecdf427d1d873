-- A range that splits its gap is not the gap. The search does not try the lemma, whose premises are of three calls.
use Rattle.std.proofs.Common.{subst, Option, Some, ℕ}
use Rattle.vm_ranges.specs.Range.{Range}
use Rattle.vm_addresses.specs.Allocator.{state_of}
use Rattle.vm_addresses.specs.Queries.{IsGapAt}
use Rattle.vm_addresses.proofs.Peeking.Filling.{fills_if}
use Rattle.vm_addresses.proofs.address_allocator.AddressAllocator.fills_gap.Goals as goal

pub returns-in-Some-clause-fills : goal.returns-in-Some-clause-fills
returns-in-Some-clause-fills c = λ s.
    let state = state_of c.args.self.now in
    let found = subst (λ (v : Option Range). IsGapAt state c.start.result v) c.in-Some.is c.gap_at.ensures in
    let at = subst (λ (v : ℕ). IsGapAt state v (Some c.in-Some.gap)) c.start.ensures.value found in
    fills_if state c.requires.state c.args.range.now c.requires.clear c.end-end.ensures.range.0 c.in-Some.gap c.eq.result at
    c.eq.ensures s
