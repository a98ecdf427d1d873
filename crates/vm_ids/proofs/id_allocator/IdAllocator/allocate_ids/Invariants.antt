-- The invariant of the loop: the ids so far are the first free ones, and exactly they were allocated.
-- The prover guesses no invariant.
use Rattle.std.proofs.Common.{◌≡◌, ◌++◌, ◌≤◌, length}
use Rattle.std.specs.Vec.{vec_capacity}
use Rattle.vm_ids.specs.IdRequests.{free_ids, holding_ids}
use Rattle.vm_ids.proofs.id_allocator.IdAllocator.allocate_ids.Given as goal

abbrev pub invariant-loop : goal.invariant-loop
invariant-loop l = record {
  parts : free_ids l.fn.self ≡ l.ids.items ++ free_ids l.self;
  state : l.self ≡ holding_ids l.ids.items l.fn.self;
  taken : length l.ids.items ≡ l.counter;
  capacity : l.count ≤ vec_capacity l.ids;
}
