-- Facts for callers about ids, and about id allocators that were saved.
use Rattle.std.proofs.Common.{◌≡◌, ℕ, arith, Result, IfOk}
use Rattle.serde_json.specs.Data.{Data}
use Rattle.vm_ids.specs.Ids.{IdState, IsIdState, IsHeld, IsLowestNotHeld, holding_id, releasing_id, ByLowestNotHeld, AllocatesId, FreesId}
use Rattle.vm_ids.specs.Values.IdValues.{EncodesIds}
use Rattle.vm_ranges.specs.declared.error.Error.{Error}
use Rattle.vm_ids.proofs.Ids.IdSets.{inserted_test}
use Rattle.vm_ids.proofs.Ids.ReadIdStates.{one_encoded, encoded_state as encoded_ids}

module _ (old new : IdState) (answer : Result ℕ Error) (h : AllocatesId old answer new) where
  -- An allocated id was not held before, and is held after.
  pub id_was_free : IfOk answer (λ id. ¬ IsHeld old id)
  unfolding AllocatesId ByLowestNotHeld IsLowestNotHeld
  id_was_free = grind arith

  pub id_is_held : IfOk answer (λ id. IsHeld new id)
  unfolding AllocatesId ByLowestNotHeld
  id_is_held = grind (arith, inserted_test)

  -- An allocated id is the lowest that was not held.
  pub id_is_lowest : IfOk answer (λ id. IsLowestNotHeld old id)
  unfolding AllocatesId ByLowestNotHeld
  id_is_lowest = grind arith

  -- Only this id is held in addition after the call.
  pub id_state : IfOk answer (λ id. new ≡ holding_id id old)
  unfolding AllocatesId ByLowestNotHeld
  id_state = grind arith

-- A freed id is not held after the call, and nothing else changes.
pub freed_id_state : (old new : IdState) (id : ℕ) (answer : Result ℕ Error) → FreesId old id answer new →
    IfOk answer (λ i. (i ≡ id) × (new ≡ releasing_id id old))
unfolding FreesId
freed_id_state old new id answer h = grind arith

-- The allocator that is read from a written value is the allocator that was written.
pub ids_again : (d : Data) (old new : IdState) → EncodesIds d old → EncodesIds d new → new ≡ old
ids_again d old new s t = one_encoded d new old t s

-- A state that a value encodes is valid.
pub ids_encoded : (d : Data) (state : IdState) → EncodesIds d state → IsIdState state
ids_encoded d state s = encoded_ids d state s
