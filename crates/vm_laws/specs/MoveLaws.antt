-- Laws of moves of held ranges.
use Rattle.std.specs.Prelude.{◌≡◌, ◌↔◌, ℕ, ◌%◌, [], ◌∷◌, Ok, IfSome}
use Rattle.std.specs.List.{Contains}
use Rattle.vm_ranges.specs.Range.{Range, IsIn, Covers, address_count}
use Rattle.vm_ranges.specs.Request.{Request}
use Rattle.vm_ranges.specs.Address.{AddressState, IsClear}
use Rattle.vm_addresses.specs.Moves.{MovesRange}
use Rattle.vm_addresses.specs.Histories.AddressHistories.{Allocate, Free, IsHistoryFrom, Reached}

-- The range is as long as requested, starts at a multiple of the requested alignment, and lies in the window of the request.
pub record IsAsRequested (request : Request) (r : Range) : Type 0 where
  pub long : address_count r ≡ request.size
  pub aligned : r.start % request.align ≡ 0
  pub inside : IfSome request.window (λ window. Covers window r)

-- A moved range is held, and is as requested.
abbrev pub MovedIsHeld : Type 0
MovedIsHeld =
    (old new : AddressState) (r q : Range) (request : Request) →
    MovesRange old r request (Ok q) new → Contains new.held q × IsAsRequested request q

-- Each address that a moved range had only before the move is clear.
abbrev pub OldPlaceIsClear : Type 0
OldPlaceIsClear =
    (old : Reached) (new : AddressState) (r q : Range) (request : Request) →
    MovesRange old.state r request (Ok q) new → (x : ℕ) → IsIn r x → ¬ IsIn q x → IsClear new x

-- A successful move is the freeing of the range and then the allocation for the request. Its result is that of the
-- allocation, and it leads to the state that both calls lead to.
abbrev pub MoveIsTwoCalls : Type 0
MoveIsTwoCalls =
    (old new : AddressState) (r q : Range) (request : Request) →
    MovesRange old r request (Ok q) new ↔ IsHistoryFrom old ((Free r, Ok tt) ∷ (Allocate request, Ok q) ∷ []) new
