-- A value that was written is read again.
use Rattle.std.proofs.Common.{ap, inl, inr, refl, Ok, Err}
use Rattle.serde_json.specs.View.{view}
use Rattle.serde_json.specs.Data.{Data}
use Rattle.vm_ranges.specs.RangeValues.{EncodesRange, EncodesState}
use Rattle.vm_addresses.specs.Values.AllocatorValues.{EncodesAddresses, EncodesRepaired}
use Rattle.vm_ids.specs.Values.IdValues.{EncodesIds}
use Rattle.vm_laws.specs.ValueLaws.{EncodesAtMostOne, ReadsWritten, ReadersAgree}
use Rattle.vm_ranges.specs.declared.saved.ValueError.TheVariants.{NotAState, OutOfMemory}
use Rattle.vm_ranges.proofs.ReadRanges.{one_range}
use Rattle.vm_ranges.proofs.ReadStates.{one_state}
use Rattle.vm_addresses.proofs.Reading.ReadAllocators.{one_addresses, one_repaired, strict_repaired}
use Rattle.vm_ids.proofs.Ids.ReadIdStates.{one_encoded}

pub one_range_encoded : EncodesAtMostOne EncodesRange
one_range_encoded = one_range

pub one_state_encoded : EncodesAtMostOne EncodesState
one_state_encoded = one_state

pub one_allocator_encoded : EncodesAtMostOne EncodesAddresses
one_allocator_encoded = one_addresses

pub one_ids_encoded : EncodesAtMostOne EncodesIds
one_ids_encoded = one_encoded

pub one_repaired_encoded : EncodesAtMostOne EncodesRepaired
one_repaired_encoded = one_repaired

pub ruleset one_object = (one_range_encoded, one_state_encoded, one_allocator_encoded, one_ids_encoded, one_repaired_encoded)

again : {X : Type 0} (States : Data → X → Type 0) → EncodesAtMostOne States → ReadsWritten States
again States one old value (Ok x) w r = inl (ap Ok (one (view value) x old r w))
again States one old value (Err NotAState) w r = absurd (r (old, w))
again States one old value (Err OutOfMemory) w r = inr refl

pub range_again : ReadsWritten EncodesRange
range_again = again EncodesRange one_range

pub state_again : ReadsWritten EncodesState
state_again = again EncodesState one_state

pub allocator_again : ReadsWritten EncodesAddresses
allocator_again = again EncodesAddresses one_addresses

pub ids_again : ReadsWritten EncodesIds
ids_again = again EncodesIds one_encoded

pub ruleset read_again = (range_again, state_again, allocator_again, ids_again)

-- A value that is read without repairs is read with repairs to the same state.
pub reads_alike : ReadersAgree
reads_alike value state answer s few r = again EncodesRepaired one_repaired state value answer (strict_repaired (view value) state s few) r
