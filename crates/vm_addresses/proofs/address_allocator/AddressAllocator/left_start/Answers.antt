-- The gap that is left starts with the gap before the range, or with the range. The prover does not rewrite the start in these facts.
use Rattle.std.proofs.Common.{ℕ, ◌-◌, arith, sym, subst, Some, None}
use Rattle.vm_addresses.specs.Queries.{IsGapAt}
use Rattle.vm_addresses.specs.Allocator.{state_of}
use Rattle.vm_addresses.specs.Checks.Moving.{IsLeftStart}
use Rattle.vm_addresses.proofs.Moving.LeftGaps.{start_with, start_without}
use Rattle.vm_addresses.proofs.address_allocator.AddressAllocator.left_start.Goals as goal

pub returns-in-Some : goal.returns-in-Some
returns-in-Some c =
    let s = c.start-start.ensures.value in
    let n = c.if-start-eq0.false in
    subst (λ (v : ℕ). IsLeftStart (state_of c.args.self.now) c.args.key.now v) (sym c.start.ensures.value)
    (start_with (state_of c.args.self.now) c.args.key.now c.in-Some.gap c.requires.state c.requires.held (omega (arith, s, n))
    (subst (λ (v : ℕ). IsGapAt (state_of c.args.self.now) (v - 1) (Some c.in-Some.gap)) s c.in-Some.ensures))

pub returns-in-None : goal.returns-in-None
returns-in-None c =
    let s = c.start-start.ensures.value in
    let n = c.if-start-eq0.false in
    subst (λ (v : ℕ). IsLeftStart (state_of c.args.self.now) c.args.key.now v) (sym s)
    (start_without (state_of c.args.self.now) c.args.key.now c.requires.state c.requires.held (omega (arith, s, n))
    (subst (λ (v : ℕ). IsGapAt (state_of c.args.self.now) (v - 1) None) s c.in-None.ensures))
