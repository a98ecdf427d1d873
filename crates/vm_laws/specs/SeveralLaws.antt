-- Laws of several requests in one call, and of ranges that are held from the start.
use Rattle.std.specs.Prelude.{◌≡◌, ◌↔◌, ℕ, ◌+◌, ◌≤◌, ◌⊎◌, List, [], ◌∷◌, ◌++◌, length, Result, Ok, Err, Some}
use Rattle.std.specs.List.{All}
use Rattle.vm_ranges.specs.Range.{Range, MAX, IsRange, address_count}
use Rattle.vm_ranges.specs.Request.{Request, request_for}
use Rattle.vm_ranges.specs.Address.{AddressState, IsAddressState}
use Rattle.vm_ranges.specs.Answer.{Allocates, Makes}
use Rattle.vm_addresses.specs.Comparison.{AreEqual}
use Rattle.vm_addresses.specs.Held.{first_fault, MakesWithHeld}
use Rattle.vm_addresses.specs.Several.{AllocatesEach, RefusesOne, FailsAll, exact_requests}
use Rattle.vm_addresses.specs.Holes.{MakesWithFree}
use Rattle.vm_addresses.specs.Histories.AddressHistories.{Call, IsHistoryFrom, IsMadeWithHeld}
use Rattle.vm_ranges.specs.declared.error.Error.{Error}
use Rattle.vm_ranges.specs.declared.error.Error.TheVariants.{OutOfMemory}
use Rattle.vm_ranges.specs.declared.constraint.AllocPolicy.TheVariants.{ExactMatch}

-- If allocations of ranges by their starts, one after the other in a new allocator, all succeed, then `with_held` creates
-- an allocator that is equal to it.
abbrev pub HeldIsEqual : Type 0
HeldIsEqual =
    (base size : ℕ) (held : List Range) (first new made : AddressState) → size ≤ MAX →
    Makes base size (Ok first) → AllocatesEach first (exact_requests held) held new →
    MakesWithHeld base size held (Ok made) → AreEqual made new

-- The ranges are ascending from lo: the first one starts at lo or above, and each other one after the end of the range
-- before it.
abbrev pub AreAscending : ℕ → List Range → Type 0
AreAscending lo [] = Unit {0}
AreAscending lo (r ∷ rs) = (lo ≤ r.start) × AreAscending (r.end + 1) rs

-- ExactMatch has the error e for one of the ranges, in the state in which exactly the ranges before it are held.
pub record FailsAt (space : Range) (held : List Range) (e : Error) : Type 0 where
  pub before : List Range
  pub range : Range
  pub after : List Range
  pub cut : held ≡ before ++ range ∷ after
  pub state : IsAddressState (record { space = space; held = before })
  pub error : (answer : Result Range Error) (new : AddressState) →
      Allocates (record { space = space; held = before })
      (request_for (address_count range) 1 (ExactMatch range.start)) answer new → answer ≡ Err e

-- The error of an ascending list of ranges is the one that ExactMatch has for the first range that cannot be held. The
-- list can start below the space.
abbrev pub FaultIsThatOfExactMatch : Type 0
FaultIsThatOfExactMatch =
    (space : Range) (held : List Range) (e : Error) → IsRange space.start space.end →
    All (λ r. IsRange r.start r.end) held → AreAscending 0 held →
    first_fault space.start space.end held ≡ Some e → FailsAt space held e

-- A list of one request is allocated as by `allocate`, and has its error.
pub record OneIsAllocated : Type 0 where
  pub allocated : (old new : AddressState) (request : Request) (r : Range) →
      AllocatesEach old (request ∷ []) (r ∷ []) new ↔ Allocates old request (Ok r) new
  pub failed : (old new : AddressState) (request : Request) (e : Error) →
      FailsAll old (request ∷ []) e new → (e ≡ OutOfMemory) ⊎ Allocates old request (Err e) new

-- A list of requests is allocated part by part: the first part, and then the second part in the state that the first part
-- leaves. The error is that of the first part, or else that of the second part.
pub record PartsAreAllocatedInTurn : Type 0 where
  pub allocated : (old new : AddressState) (first second : List Request) (rs qs : List Range) → length rs ≡ length first →
      AllocatesEach old (first ++ second) (rs ++ qs) new ↔
      ((mid : AddressState) × AllocatesEach old first rs mid × AllocatesEach mid second qs new)
  pub refused : (old : AddressState) (first second : List Request) (e : Error) →
      RefusesOne old (first ++ second) e ↔
      (RefusesOne old first e ⊎
      ((rs : List Range) × (mid : AddressState) × AllocatesEach old first rs mid × RefusesOne mid second e))

-- If the requests fail, the state is that before, the allocators are equal, and later lists of calls have the same results.
pub record FailureChangesNothing : Type 0 where
  pub state : (old new : AddressState) (requests : List Request) (e : Error) → FailsAll old requests e new → new ≡ old
  pub equal : (old new : AddressState) (requests : List Request) (e : Error) → FailsAll old requests e new → AreEqual new old
  pub later : (old new last : AddressState) (requests : List Request) (e : Error) (calls : List Call) → FailsAll old requests e new →
      IsHistoryFrom new calls last ↔ IsHistoryFrom old calls last

-- An allocator that is made of its free ranges is one that `with_held` makes. So all laws of histories are true for it.
abbrev pub FreeIsHeld : Type 0
FreeIsHeld =
    (free : List Range) (made : AddressState) → All (λ r. IsRange r.start r.end) free →
    MakesWithFree free (Ok made) → IsMadeWithHeld made
