-- The held ranges that contain an address.
use Rattle.std.proofs.Common.{◌≡◌, ℕ, subst}
use Rattle.std.specs.List.{Contains}
use Rattle.vm_ranges.specs.Range.{Range, IsIn, IsInNone, Overlaps}
use Rattle.vm_ranges.specs.Address.{AddressState, IsAddressState}
use Rattle.vm_addresses.proofs.Results.AddressResults.{lie_apart}

-- A held range that contains an address is not in no held range.
pub missed : (space : AddressState) (r : Range) (x : ℕ) → Contains space.held r → IsIn r x → ¬ IsInNone space.held x
missed space r x c at none = subst (λ (v : Range). ¬ IsIn v x) c.2 (none c.0 r c.1) at

-- Two held ranges that contain an address are the same range.
pub one_at : (space : AddressState) → IsAddressState space → (q r : Range) (x : ℕ) → Contains space.held q → Contains space.held r → IsIn q x →
    IsIn r x → q ≡ r
unfolding Overlaps
one_at space i q r x c d at here = (lie_apart space i).apart q r c d (x, at, here)
