-- The gap that is left ends with the gap after the range, or with the range. The prover does not rewrite the end in these facts.
use Rattle.std.proofs.Common.{ℕ, ◌+◌, arith, sym, subst, Some, None}
use Rattle.vm_addresses.specs.Queries.{IsGapAt}
use Rattle.vm_addresses.specs.Allocator.{state_of}
use Rattle.vm_addresses.specs.Checks.Moving.{IsLeftEnd}
use Rattle.vm_addresses.proofs.Moving.LeftGaps.{end_with, end_without, held_below}
use Rattle.vm_addresses.proofs.address_allocator.AddressAllocator.left_end.Goals as goal

pub returns-in-Some : goal.returns-in-Some
returns-in-Some c =
    let s = c.end-end.ensures.value in
    subst (λ (v : ℕ). IsLeftEnd (state_of c.args.self.now) c.args.key.now v) (sym c.end.ensures.value)
    (end_with (state_of c.args.self.now) c.args.key.now c.in-Some.gap c.requires.state c.requires.held
    (subst (λ (v : ℕ). IsGapAt (state_of c.args.self.now) (v + 1) (Some c.in-Some.gap)) s c.in-Some.ensures))

pub returns-in-None : goal.returns-in-None
returns-in-None c =
    let s = c.end-end.ensures.value in
    subst (λ (v : ℕ). IsLeftEnd (state_of c.args.self.now) c.args.key.now v) (sym s)
    (end_without (state_of c.args.self.now) c.args.key.now c.requires.state c.requires.held
    (subst (λ (v : ℕ). IsGapAt (state_of c.args.self.now) (v + 1) None) s c.in-None.ensures))

pub overflow_add-end : goal.overflow_add-end
overflow_add-end c =
    let e = c.end-end.ensures.value in
    omega (arith, e, (held_below (state_of c.args.self.now) c.args.key.now c.requires.state c.requires.held).1)
