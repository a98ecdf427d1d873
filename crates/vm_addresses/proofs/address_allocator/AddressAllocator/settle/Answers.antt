-- The addresses of the range at the chosen place are clear.
use Rattle.std.proofs.Common.{subst, Option}
use Rattle.vm_ranges.specs.Range.{Range}
use Rattle.vm_addresses.specs.Allocator.{state_of}
use Rattle.vm_addresses.specs.Checks.Peeking.{FindsChosen}
use Rattle.vm_addresses.proofs.Peeking.Chosen.{chosen_clear}
use Rattle.vm_addresses.proofs.address_allocator.AddressAllocator.settle.Goals as goal

pub settle_at-requires-clause-clear : goal.settle_at-requires-clause-clear
settle_at-requires-clause-clear c = λ x i.
    let state = state_of c.args.self.now in
    chosen_clear state c.args.request c.in-Some.range x c.size-size.ensures.valid
    (subst (λ (v : Option Range). FindsChosen state c.args.request v) c.in-Some.is c.chosen_place.ensures) i
