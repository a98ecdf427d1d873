-- Laws of ranges that follow only from the definitions.
use Rattle.std.specs.Prelude.{◌≡◌, ◌↔◌, ℕ, Bool, IsTrue, Option}
use Rattle.std.specs.Hash.{HashWrites}
use Rattle.std.specs.declared.cmp.Ordering.TheVariants.{Equal}
use Rattle.vm_ranges.specs.Range.{Range, IsRange, Overlaps, Covers}
use Rattle.vm_ranges.specs.Making.{IsOffset}
use Rattle.vm_ranges.specs.RangeOrder.{range_cmp}

-- Overlapping is symmetric, covering is reflexive and transitive, and the order finds two ranges equal if and only if
-- they are. An address has one offset in a range, or none.
pub record RangesAreSets : Type 0 where
  pub symmetric : (r s : Range) → Overlaps r s → Overlaps s r
  pub reflexive : (r : Range) → Covers r r
  pub transitive : (r s t : Range) → Covers r s → Covers s t → Covers r t
  pub equal : (r s : Range) → (range_cmp r s ≡ Equal) ↔ (r ≡ s)
  pub offset : (r : Range) (x : ℕ) (answer other : Option ℕ) → IsOffset r x answer → IsOffset r x other → answer ≡ other

-- Two ranges write the same bytes to a hasher if and only if they are equal.
abbrev pub HashAgreesWithEquality : (Range → Range → Bool) → (Range → HashWrites) → Type 0
HashAgreesWithEquality eq writes =
    (r s : Range) → IsRange r.start r.end → IsRange s.start s.end → IsTrue (eq r s) ↔ (writes r ≡ writes s)
