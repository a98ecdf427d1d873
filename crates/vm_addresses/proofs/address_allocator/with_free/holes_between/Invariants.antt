use Rattle.std.proofs.Common.{◌≡◌, ◌+◌, ◌++◌, None, drop}
use Rattle.vm_addresses.specs.Holes.{holes_after, wrong_index}
use Rattle.vm_addresses.proofs.address_allocator.with_free.holes_between.Given as goal

-- The holes so far, and the ranges that are left, are in order.
abbrev pub invariant-loop-range : goal.invariant-loop-range
invariant-loop-range l = record {
  holes : holes_after (l.fn.first.end + 1) l.others ≡ l.holes.items ++ holes_after (l.end + 1) (drop l.range-index l.others);
  right : wrong_index (l.range-index + 1) (l.end + 1) (drop l.range-index l.others) ≡ None;
}
