-- The same calls of an id allocator in the same state have the same results.
use Rattle.std.proofs.Common.{◌≡◌, ◌≢◌, ℕ, arith, inl, inr, Result, Ok, Err}
use Rattle.vm_ranges.specs.Histories.{CallsAreDetermined, SameCallsSameResults}
use Rattle.vm_ranges.proofs.Clones.{clones_once}
use Rattle.vm_ranges.proofs.Histories.{same_results}
use Rattle.vm_ranges.specs.declared.error.Error.{Error}
use Rattle.vm_ranges.specs.declared.error.Error.TheVariants.{OutOfMemory}
use Rattle.vm_ids.specs.Ids.{IdState, FreesId}
use Rattle.vm_ids.specs.IdRequests.{HoldsId, AllocatesPeeked, AllocatesIds}
use Rattle.vm_ids.specs.declared.id_request.IdRequest.{IdRequest}
use Rattle.vm_ids.specs.declared.id_request.IdRequest.TheVariants.{LowestIn, Exact}
use Rattle.vm_ids.specs.Histories.IdHistories.{Allocate, AllocateExact, AllocateIn, AllocateSeveral, Free, Clone, IsIdCallFrom}
use Rattle.vm_ids.proofs.Ids.IdResults.{making_is_determined, allocating_is_determined, peeking_predicts}
use Rattle.vm_ids.proofs.Ids.PeekedIds.{peeks_once}

-- The call for a request has one result and one next state, if memory suffices.
allocated_once : (old new later : IdState) (request : IdRequest) (answer other : Result ℕ Error) → answer ≢ Err OutOfMemory →
    other ≢ Err OutOfMemory → AllocatesPeeked old request answer new → AllocatesPeeked old request other later →
    (answer ≡ other) × (new ≡ later)
unfolding AllocatesPeeked HoldsId
allocated_once old new later request answer other p m (inl a) (inl b) = grind (arith, peeks_once old request (Ok a.0) (Ok b.0) a.1 b.1)
allocated_once old new later request answer other p m (inl a) (inr b) = absurd (cc (peeks_once old request (Ok a.0) (Err b.0) a.1 b.1))
allocated_once old new later request answer other p m (inr a) (inl b) = absurd (cc (peeks_once old request (Err a.0) (Ok b.0) a.1 b.1))
allocated_once old new later request answer other p m (inr a) (inr b) = grind (arith, peeks_once old request (Err a.0) (Err b.0) a.1 b.1)

pub id_calls_are_determined : CallsAreDetermined IsIdCallFrom
unfolding FreesId AllocatesIds
id_calls_are_determined old new later Allocate x y p m h k = allocating_is_determined old new later x y h k
id_calls_are_determined old new later (AllocateExact id) x y p m h k = allocated_once old new later (Exact id) x y p m h k
id_calls_are_determined old new later (AllocateIn first last) x y p m h k = allocated_once old new later (LowestIn first last) x y p m h k
id_calls_are_determined old new later (AllocateSeveral count) x y p m h k = grind arith
id_calls_are_determined old new later (Free id) x y p m h k = grind arith
id_calls_are_determined old new later Clone x y p m h k = clones_once old new later x y p m h k

pub ruleset determined = (making_is_determined, allocating_is_determined, peeking_predicts, id_calls_are_determined)

pub same_id_results : SameCallsSameResults IsIdCallFrom
same_id_results = same_results IsIdCallFrom id_calls_are_determined
