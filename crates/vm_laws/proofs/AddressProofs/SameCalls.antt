-- The same calls in the same state have the same results.
use Rattle.vm_ranges.specs.Histories.{CallsAreDetermined, SameCallsSameResults}
use Rattle.vm_ranges.proofs.Clones.{clones_once}
use Rattle.vm_ranges.proofs.Histories.{same_results}
use Rattle.vm_addresses.proofs.Results.Once.{frees_once}
use Rattle.vm_addresses.specs.Histories.AddressHistories.{Allocate, AllocateAll, Free, MoveTo, Clone, IsCallFrom}
use Rattle.vm_addresses.proofs.Results.InMemory.{same_in_memory, placed_once}
use Rattle.vm_addresses.proofs.Histories.MoveSteps.{moves_once}
use Rattle.vm_addresses.proofs.Results.SeveralOnce.{all_once}

call_once : CallsAreDetermined IsCallFrom
call_once old new later (Allocate q) x y p m h k = placed_once old new later q x y p m h k
call_once old new later (AllocateAll qs) x y p m h k = same_in_memory x y new later p m (all_once qs old new later x y h k)
call_once old new later (Free r) x y p m h k = frees_once old new later r x y h k
call_once old new later (MoveTo r request) x y p m h k = same_in_memory x y new later p m (moves_once old new later r request x y h k)
call_once old new later Clone x y p m h k = clones_once old new later x y p m h k

pub same_address_results : SameCallsSameResults IsCallFrom
same_address_results = same_results IsCallFrom call_once
