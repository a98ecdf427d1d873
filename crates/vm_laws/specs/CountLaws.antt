-- Laws of the nodes that calls enter.
use Rattle.std.specs.Prelude.{ℕ, ◌+◌, ◌*◌, ◌≤◌, Result}
use Rattle.vm_ranges.specs.Range.{Range}
use Rattle.vm_ranges.specs.declared.error.Error.{Error}
use Rattle.vm_ranges.specs.declared.constraint.AllocPolicy.TheVariants.{FirstMatch, LastMatch, ExactMatch}
use Rattle.vm_addresses.specs.Counts.GapSearch.{IsGapSearchCount, IsWindowSearchCount}
use Rattle.vm_addresses.specs.Counts.Steps.{max_entered, IsFreeCount}

-- The most nodes that a call enters in a tree of height h with k held ranges and v gaps without a place: 3h for a free, h for
-- ExactMatch, 2k + 1 for other policies, and for these h(v + 1) too, or h(v + 2) within a window.
pub record EntersFew : Type 0 where
  pub free : (h : ℕ) (answer : Result (Unit {0}) Error) (count : ℕ) → IsFreeCount h answer count → count ≤ 3 * h
  pub exact : (h k t : ℕ) → max_entered (ExactMatch t) h k ≤ h
  pub first : (h k : ℕ) → max_entered FirstMatch h k ≤ 2 * k + 1
  pub last : (h k : ℕ) → max_entered LastMatch h k ≤ 2 * k + 1
  pub gaps : (h v : ℕ) (answer : Result Range Error) (count : ℕ) → IsGapSearchCount h v answer count → count ≤ h * (v + 1)
  pub window : (h v count : ℕ) → IsWindowSearchCount h v count → count ≤ h * (v + 2)
