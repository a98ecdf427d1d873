-- The iterators return the same pairs. The prover does not compare two lists item by item.
use Rattle.std.proofs.Common.{◌&&◌, Bool, Bor, eqb, ap, ◌∙◌}
use Rattle.std.specs.Ordering.{eq_by_cmp}
use Rattle.std.specs.Cmp.Lexicographic.{pointwise}
use Rattle.vm_ranges.specs.Range.{Range}
use Rattle.vm_space.specs.Shape.{Shape}
use Rattle.vm_addresses.specs.Allocator.{state_of}
use Rattle.vm_addresses.specs.Comparison.{state_cmp}
use Rattle.vm_range_map.specs.Trees.{map_state}
use Rattle.vm_range_map.specs.Queries.{valued_ranges, same_valued}
use Rattle.vm_range_map.proofs.EqualMaps.{ends_tied, maps_compared, pairs_compared}
use Rattle.vm_range_map.proofs.range_map.comparing.RangeMapPartialEq.eq.Goals as goal

pub returns-then-eq : goal.returns-then-eq
returns-then-eq g c =
    let view : Range × Bor g.row.T.Denot → Range × g.row.T.Denot = λ found. (found.0, found.1.now) in
    let equal : Range × Bor g.row.T.Denot → Range × Bor g.row.T.Denot → Bool =
    λ x y. (eqb x.0.start y.0.start && eqb x.0.end y.0.end) && g.T.PartialEq.eq x.1.now y.1.now in
    let same = same_valued g.T.PartialEq.eq in
    let listed =
    pairs_compared view equal same (λ x y. ap (λ b. b && g.T.PartialEq.eq x.1.now y.1.now) (ends_tied x.0 y.0)) c.eq-then-eq.result
    c.iter.result c.iter-then-eq.result c.eq-then-eq.ensures.ran in
    let first = ap (λ m. m.addresses) c.self.view_is in
    let other = ap (λ m. m.addresses) c.other.view_is in
    maps_compared g.T.PartialEq.eq (map_state c.args.self.now) (map_state c.args.other.now) c.eq-then-eq.result
    (c.if-eq.ensures.order
    ∙ ap (λ (s : Shape). eq_by_cmp state_cmp (state_of s) (state_of c.other.inside.addresses)) first
    ∙ ap (λ (s : Shape). eq_by_cmp state_cmp (state_of c.args.self.now.addresses) (state_of s)) other)
    (listed
    ∙ ap (λ l. pointwise same l c.iter-then-eq.result) c.iter.ensures
    ∙ ap (λ l. pointwise same (valued_ranges (map_state c.args.self.now)) l) c.iter-then-eq.ensures)
