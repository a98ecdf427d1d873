-- The number of nodes that a call enters in a tree.
use Rattle.std.specs.Prelude.{◌≡◌, ℕ, ◌+◌, ◌*◌, ◌≤◌, Result, IsOk, Err, length}
use Rattle.vm_ranges.specs.Range.{Range}
use Rattle.vm_ranges.specs.Request.{Request, MakesConstraint}
use Rattle.vm_ranges.specs.declared.error.Error.{Error}
use Rattle.vm_ranges.specs.declared.constraint.AllocPolicy.{AllocPolicy}
use Rattle.vm_ranges.specs.declared.constraint.AllocPolicy.TheVariants.{FirstMatch, LastMatch, ExactMatch}
use Rattle.vm_ranges.specs.Address.{AddressState}

-- The maximum number of nodes that a request enters in a tree of height h with k held ranges. FirstMatch and LastMatch can
-- enter all nodes, and ExactMatch those of one path.
abbrev pub max_entered : AllocPolicy → ℕ → ℕ → ℕ
max_entered FirstMatch h k = 2 * k + 1
max_entered LastMatch h k = 2 * k + 1
max_entered (ExactMatch t) h k = h

-- The bounds on the nodes that a request enters in a tree of height h. A success enters at least 1, and at least h / 2.
pub record IsGrantCount (h : ℕ) (old : AddressState) (request : Request) (answer : Result Range Error) (count : ℕ) : Type 0 where
  pub most : count ≤ max_entered request.policy h (length old.held)
  pub success : IsOk answer → 1 ≤ count
  pub path : IsOk answer → h ≤ 2 * count

-- The bounds of `IsGrantCount`, and no node is entered if the request is invalid.
pub record IsAllocationCount (h : ℕ) (old : AddressState) (request : Request) (answer : Result Range Error) (count : ℕ) : Type 0 where
  pub granting : IsGrantCount h old request answer count
  pub invalid : (e : Error) → MakesConstraint request (Err e) → count ≡ 0

-- The nodes that `free` enters in a tree of height h are at most 3h: those of three paths. A success enters at least 1.
pub record IsFreeCount (h : ℕ) (answer : Result (Unit {0}) Error) (count : ℕ) : Type 0 where
  pub most : count ≤ 3 * h
  pub success : IsOk answer → 1 ≤ count
