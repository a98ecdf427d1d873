use Rattle.vm_addresses.specs.Allocator.{state_of}
use Rattle.vm_addresses.proofs.Moving.Finishing.{beside_finishes}
use Rattle.vm_addresses.proofs.address_allocator.AddressAllocator.finish_move.Goals as goal

pub returns-then-begun : goal.returns-then-begun
returns-then-begun c = record {
  moved = λ old h.
      beside_finishes old (state_of c.args.self.now) (state_of c.free.new.self) c.args.key.now c.args.begun c.free.result h c.if-begun.true
      c.free.ensures.answer;
}
