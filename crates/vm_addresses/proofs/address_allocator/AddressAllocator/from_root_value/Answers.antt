-- The keys of an accepted value can be held in the space. The prover does not name the saved tree of the value.
use Rattle.std.proofs.Common.{◌≡◌, Err, rules}
use Rattle.vm_ranges.specs.declared.saved.ValueError.TheVariants.{OutOfMemory}
use Rattle.vm_addresses.proofs.SavedNodes.HeldKeys.{can_hold}
use Rattle.vm_addresses.proofs.address_allocator.AddressAllocator.from_root_value.Goals as goal

pub of_held-requires : goal.of_held-requires
of_held-requires c =
    let h = c.in_ok-held.ensures.held in
    rw c.deref.ensures.value (can_hold c.args.form c.args.space.now h.0 _ c.end-end.ensures.range h.1)

pub returns-in_err-of_held-clause-answer : goal.returns-in_err-of_held-clause-answer
returns-in_err-of_held-clause-answer c =
    let memory : c.from_residual-in_err-of_held.result ≡ Err OutOfMemory = search rules in
    rw memory (_, c.in_ok-held.ensures.answer)

pub returns-clause-answer : goal.returns-clause-answer
returns-clause-answer c = rw (c.in_ok-of_held.ensures.made, c.deref.ensures.value) c.in_ok-held.ensures.answer
