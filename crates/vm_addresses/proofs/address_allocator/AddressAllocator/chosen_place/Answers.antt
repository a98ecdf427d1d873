-- The search of the request in the space finds the place that its policy chooses.
use Rattle.std.proofs.Common.{subst}
use Rattle.vm_ranges.specs.Range.{Range}
use Rattle.vm_space.specs.Shape.{Shape}
use Rattle.vm_addresses.specs.Allocator.{state_of}
use Rattle.vm_addresses.specs.Checks.Peeking.{FindsChosen}
use Rattle.vm_addresses.specs.Tree.Allocation.{IsSearchOf}
use Rattle.vm_addresses.proofs.Peeking.Chosen.{found_chosen}
use Rattle.vm_addresses.proofs.address_allocator.AddressAllocator.chosen_place.Goals as goal

pub returns : goal.returns
returns c =
    let i = c.self.invariant in
    subst (λ (s : Shape). FindsChosen (state_of s) c.args.request c.look_fit.result) c.self.view_is
    (found_chosen c.self.inside.tree i.tree c.args.request c.search_of-search.ensures.request c.search_of-search.result
    (subst (λ (r : Range). IsSearchOf c.args.request r c.search_of-search.result) i.is_space c.search_of-search.ensures.search) c.args.end c.requires.policy _
    c.look_fit.ensures)
