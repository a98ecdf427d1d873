-- The number of nodes that `allocate` enters, for valid and for invalid requests.
use Rattle.std.proofs.Common.{ℕ, refl, arith, Result, Err}
use Rattle.vm_ranges.specs.Range.{Range}
use Rattle.vm_ranges.specs.Address.{AddressState}
use Rattle.vm_ranges.specs.Request.{Request, IsRequest}
use Rattle.vm_addresses.specs.Counts.Steps.{IsGrantCount, IsAllocationCount}
use Rattle.vm_ranges.specs.declared.error.Error.{Error}
use Rattle.vm_addresses.proofs.Results.Filling.{no_constraint_fault}

-- ---- Requests that can be invalid
pub invalid_count : (h : ℕ) (old : AddressState) (request : Request) (e : Error) → IsAllocationCount h old request (Err e) 0
invalid_count h old request e = record
    { granting = record { most = omega arith; success = λ k. absurd (cc k); path = λ k. absurd (cc k) }; invalid = λ x m. refl }

-- ---- Requests that are valid
pub valid_count : (h : ℕ) (old : AddressState) (request : Request) (answer : Result Range Error) (c : ℕ) → IsRequest request →
    IsGrantCount h old request answer c → IsAllocationCount h old request answer c
valid_count h old request answer c r s = record { granting = s; invalid = λ x f. absurd (no_constraint_fault request x f r) }
