-- The gap is the range between both ends that were found. The search for the two lemmas gives up at its limits.
use Rattle.vm_addresses.specs.Allocator.{state_of}
use Rattle.vm_addresses.proofs.Moving.LeftGaps.{left_gap, left_range}
use Rattle.vm_addresses.proofs.address_allocator.AddressAllocator.gap_left_by.Goals as goal

pub between-requires : goal.between-requires
between-requires c = left_range (state_of c.args.self.now) c.args.key.now c.left_start.result c.left_end.result c.requires.state c.requires.held
    c.left_start.ensures c.left_end.ensures

pub returns : goal.returns
returns c = rw c.between.ensures (left_gap (state_of c.args.self.now) c.args.key.now c.left_start.result c.left_end.result c.requires.state
    c.requires.held c.left_start.ensures c.left_end.ensures)
