use Rattle.vm_addresses.specs.Allocator.{state_of}
use Rattle.vm_addresses.proofs.Moving.Finishing.{beside_cancels}
use Rattle.vm_addresses.proofs.address_allocator.AddressAllocator.cancel_move.Goals as goal

pub returns-then-begun : goal.returns-then-begun
returns-then-begun c = record {
  same = λ old r h.
      beside_cancels old (state_of c.args.self.now) (state_of c.free.new.self) r c.args.begun c.free.result h c.if-begun.true
      c.free.ensures.answer;
}
