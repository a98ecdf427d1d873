-- The steps of a move. Only private functions cite these definitions.
use Rattle.std.specs.Prelude.{◌≡◌, ◌≢◌, ℕ, ◌+◌, ◌-◌, ◌<◌, ◌≤◌, false, length, Option, Some, None, Result, Ok, Err}
use Rattle.vm_ranges.specs.Cases.{IfElse}
use Rattle.vm_ranges.specs.Range.{Range, MAX, IsIn, span}
use Rattle.vm_ranges.specs.Request.{Request, ByPolicy}
use Rattle.vm_leaf.specs.declared.block.Block.{Block}
use Rattle.vm_leaf.specs.Block.{free_block}
use Rattle.vm_leaf.specs.Fit.{HasNoFit, IsFit, IsLowestFit, IsHighestFit}
use Rattle.vm_ranges.specs.Address.{AddressState, IsClear, releasing}
use Rattle.vm_ranges.specs.Answer.{SPLIT_LIMIT_MIN_HELD}
use Rattle.vm_ranges.specs.Windows.{part_in, window_in}
use Rattle.vm_space.specs.Spares.{HasSpare}
use Rattle.vm_addresses.specs.declared.address_allocator.moving.BegunMove.{BegunMove}
use Rattle.vm_ranges.specs.declared.error.Error.{Error}
use Rattle.vm_ranges.specs.declared.error.Error.TheVariants.{Overflow, OutOfMemory}

-- The gap that the held range r leaves when it is freed.
pub record IsLeftGap (old : AddressState) (r gap : Range) : Type 0 where
  pub from : gap.start ≤ r.start
  pub upto : r.end ≤ gap.end
  pub clear : (x : ℕ) → IsIn gap x → IsClear (releasing r old) x
  pub before : (x : ℕ) → x + 1 ≡ gap.start → ¬ IsClear (releasing r old) x
  pub after : ¬ IsClear (releasing r old) (gap.end + 1)

-- The result of beginning a move to the range q in the gap that r leaves. An error is one of the end of q, or of a split.
abbrev pub BeginsInside : AddressState → Range → Range → Range → Result BegunMove Error → Type 0
BeginsInside old r gap q (Ok begun) = (q.end < MAX) × (begun.range ≡ q) × (begun.is_allocated ≡ false) ×
    (q ≢ r → q ≢ gap → HasSpare (length old.held) begun.spare) × (q ≢ gap → length old.held ≤ SPLIT_LIMIT_MIN_HELD)
BeginsInside old r gap q (Err e) = IfElse (q.end ≡ MAX) (e ≡ Overflow) ((q ≢ gap) ×
    IfElse (SPLIT_LIMIT_MIN_HELD < length old.held) (e ≡ Overflow) (e ≡ OutOfMemory))

-- The part of the gap that lies in the window of the request.
abbrev pub part_for : Request → Range → Block
part_for request gap = free_block (part_in request.window gap)

-- The start in the block that the policy of the request chooses, or None if its range does not fit there.
abbrev pub FindsStart : Block → Request → Option ℕ → Type 0
FindsStart b request None =
    let none : Type 0 = HasNoFit request.size request.align b in
    ByPolicy request.policy none none (λ start. ¬ IsFit request.size request.align b start)
FindsStart b request (Some s) =
    ByPolicy request.policy (IsLowestFit request.size request.align b s) (IsHighestFit request.size request.align b s)
    (λ start. (s ≡ start) × IsFit request.size request.align b s)

-- The range of the request at the place in the gap that its policy chooses, or None if the gap has no place for it.
abbrev pub FindsPlaceIn : Range → Request → Option Range → Type 0
FindsPlaceIn gap request None = FindsStart (part_for request gap) request None
FindsPlaceIn gap request (Some q) = (q ≡ span q.start request.size) × FindsStart (part_for request gap) request (Some q.start)

-- The request for the ranges that the policy chooses before q, or None if the window ends there.
abbrev pub IsForCloser : Range → Request → Range → Option Request → Type 0
IsForCloser space request q None =
    let w : Range = window_in request.window space in
    ByPolicy request.policy (q.end ≤ w.start) (w.end ≤ q.start) (λ start. Unit {0})
IsForCloser space request q (Some closer) =
    let w : Range = window_in request.window space in
    ByPolicy request.policy
    ((w.start < q.end) × (closer ≡ record request { window = Some (record { start = w.start; end = q.end - 1 }) }))
    ((q.start < w.end) × (closer ≡ record request { window = Some (record { start = q.start + 1; end = w.end }) }))
    (λ start. ⊥)

-- The gap that the held range r leaves starts at s.
pub record IsLeftStart (old : AddressState) (r : Range) (s : ℕ) : Type 0 where
  pub upto : s ≤ r.start
  pub clear : (x : ℕ) → s ≤ x → x < r.start → IsClear old x
  pub before : (x : ℕ) → x + 1 ≡ s → ¬ IsClear (releasing r old) x

-- The gap that the held range r leaves ends at e.
pub record IsLeftEnd (old : AddressState) (r : Range) (e : ℕ) : Type 0 where
  pub from : r.end ≤ e
  pub clear : (x : ℕ) → r.end < x → x ≤ e → IsClear old x
  pub after : ¬ IsClear (releasing r old) (e + 1)
