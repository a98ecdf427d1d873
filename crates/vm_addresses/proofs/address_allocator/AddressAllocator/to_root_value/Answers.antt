-- The saved tree is written for the blocks of the allocator. The prover does not rewrite along the equal lists of blocks.
use Rattle.std.proofs.Common.{◌≡◌, ◌∙◌}
use Rattle.vm_space.specs.Shape.{blocks}
use Rattle.vm_addresses.proofs.Trees.WrittenTrees.{value_written}
use Rattle.vm_addresses.proofs.address_allocator.AddressAllocator.to_root_value.Goals as goal

pub returns-clause-answer : goal.returns-clause-answer
returns-clause-answer c =
    let listed : c.tree.result ≡ blocks c.args.self.now = c.tree.ensures ∙ c.in_ok-written.ensures in
    value_written c.args.self.now c.encode.result (rw (← c.self.view_is) c.self.invariant.tree) (rw (← listed) c.encode.ensures)

pub returns-clause-written : goal.returns-clause-written
returns-clause-written c =
    let listed : c.tree.result ≡ blocks c.args.self.now = c.tree.ensures ∙ c.in_ok-written.ensures in
    rw (← listed) c.encode.ensures
