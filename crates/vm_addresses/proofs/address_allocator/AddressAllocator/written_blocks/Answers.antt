-- The starts in the list are those of the blocks. The prover does not rewrite along the equal lists and ends.
use Rattle.std.proofs.Common.{◌≡◌, ◌∙◌, ap}
use Rattle.vm_space.specs.Shape.{blocks}
use Rattle.vm_leaf.specs.BlockStarts.{starts_of, blocks_from, AreRanges}
use Rattle.vm_addresses.specs.Allocator.{state_of}
use Rattle.vm_addresses.proofs.Trees.WrittenTrees.{starts_kept}
use Rattle.vm_addresses.proofs.address_allocator.AddressAllocator.written_blocks.Goals as goal

-- The starts are those of the blocks.
kept : (c : goal.After-end) → (blocks_from c.append_starts.new.list.items c.end.result ≡ blocks c.self.inside.tree)
    × AreRanges (blocks_from c.append_starts.new.list.items c.end.result)
kept c =
    let listed : c.append_starts.new.list.items ≡ starts_of (blocks c.self.inside.tree) = rw c.in_ok-starts.ensures.items at c.in_ok-append_starts.ensures in
    let end : c.end.result ≡ (state_of c.self.inside.tree).space.end = rw c.self.view_is c.end.ensures in
    starts_kept c.self.inside.tree c.append_starts.new.list.items c.end.result c.self.invariant.tree listed end

pub new-requires : goal.new-requires
new-requires c = (kept c).1

pub returns : goal.returns
returns c = c.new.ensures ∙ (kept c.before).0 ∙ ap blocks c.self.view_is
