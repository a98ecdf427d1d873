-- The order of ranges, and the relations of two ranges.
use Rattle.std.specs.Prelude.{◌≡◌, ◌==◌, ◌&&◌, ◌||◌, nat_le, nat_lt, Bool, true}
use Rattle.std.specs.declared.cmp.Ordering.{Ordering}
use Rattle.std.specs.Ordering.{nat_cmp, on, then_cmp}
use Rattle.std.specs.Cmp.{IsTotalOrder}
use Rattle.std.proofs.lemmas.Cmp.{then_total, on_total, nat_cmp_total}
use Rattle.vm_ranges.specs.Range.{Range}

-- Whether a is before b: by the start, then by the end.
abbrev pub is_before : Range → Range → Bool
is_before a b = nat_lt a.start b.start || a.start == b.start && nat_lt a.end b.end

-- a is before b.
unfoldable pub Before : Range → Range → Type 0
Before a b = is_before a b ≡ true

-- Whether both ranges have the same ends.
abbrev pub same_range : Range → Range → Bool
same_range a b = a.start == b.start && a.end == b.end

-- Whether both ends of k are in a.
unfoldable pub covers : Range → Range → Bool
covers a k = nat_le a.start k.start && nat_le k.end a.end

-- The order of ranges: by start, then by end.
abbrev pub range_cmp : Range → Range → Ordering
range_cmp = then_cmp (on (λ r. r.start) nat_cmp) (on (λ r. r.end) nat_cmp)

-- Proof: the order is total, because it is composed of total orders.
pub range_cmp-total : IsTotalOrder range_cmp
range_cmp-total = then_total (on_total (λ (r : Range). r.start) nat_cmp_total) (on_total (λ (r : Range). r.end) nat_cmp_total)
