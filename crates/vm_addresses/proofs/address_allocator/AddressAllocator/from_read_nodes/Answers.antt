-- The keys of an accepted tree can be held in the space. The prover does not name this saved tree.
use Rattle.std.proofs.Common.{◌≡◌, Err, arith, rules}
use Rattle.vm_ranges.specs.Range.{IsRange}
use Rattle.vm_ranges.specs.declared.saved.SavedError.TheVariants.{OutOfMemory}
use Rattle.vm_saved_trees.specs.NodesRead.{condition_of}
use Rattle.vm_saved_trees.specs.SavedTrees.{HasHeldAs}
use Rattle.vm_saved_trees.proofs.SavedNodes.WholeTrees.{makes_no_memory}
use Rattle.vm_addresses.proofs.SavedNodes.HeldKeys.{can_hold}
use Rattle.vm_addresses.proofs.address_allocator.AddressAllocator.from_read_nodes.Goals as goal

pub of_held-requires : goal.of_held-requires
of_held-requires c =
    let range : IsRange c.args.space.start c.args.space.end = (omega arith, omega arith, λ e. omega (arith, e)) in
    let h = c.in_ok-held.ensures.held in
    can_hold c.args.form c.args.space h.0 _ range h.1

pub returns-in_err-of_held-clause-answer : goal.returns-in_err-of_held-clause-answer
returns-in_err-of_held-clause-answer c =
    let memory : c.from_residual-in_err-of_held.result ≡ Err OutOfMemory = search rules in
    rw memory (makes_no_memory (HasHeldAs c.args.form c.args.space) (condition_of c.args.form) c.args.nodes.now _ c.in_ok-held.ensures.answer)

pub returns-clause-answer : goal.returns-clause-answer
returns-clause-answer c = rw c.in_ok-of_held.ensures.made c.in_ok-held.ensures.answer
