use Rattle.vm_addresses.proofs.Counts.Balanced.{balanced_tree}
use Rattle.vm_addresses.proofs.address_allocator.AddressAllocator.height.Goals as goal

pub returns-clause-tree : goal.returns-clause-tree
returns-clause-tree c = rw (← c.self.view_is) (balanced_tree c.self.inside.tree c.self.invariant.tree c.facts.ensures)
