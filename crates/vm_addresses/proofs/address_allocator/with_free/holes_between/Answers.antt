-- There is a hole before the next range, or there is none. The prover does not distinguish these two cases.
use Rattle.std.proofs.Common.{◌≡◌, ◌+◌, List, ◌∷◌, ◌++◌, None, drop, ap, ◌∙◌, subst, arith}
use Rattle.vm_ranges.specs.Range.{Range}
use Rattle.vm_addresses.specs.Holes.{holes_after, wrong_index}
use Rattle.vm_addresses.proofs.Results.Holes.{in_order_first, in_order_rest, next_range, hole_made, none_made}
use Rattle.vm_addresses.proofs.address_allocator.with_free.holes_between.Goals.{in-Ok+in_ok-push, in_default}
use Rattle.vm_addresses.proofs.address_allocator.with_free.holes_between.Goals as goal

-- The next range starts above the end of the range before it.
pub overflow_add-end : goal.overflow_add-end
overflow_add-end c =
    let l = c.loop-range in
    let i = l.range-index in
    let r : Range = c.range-item.result in
    let first = next_range c.args.others.now i r c.loop-range-test.true c.range-item.is in
    omega (
      arith,
      in_order_first (i + 1) (l.end + 1) r _
          (subst (λ (v : List Range). wrong_index (i + 1) (l.end + 1) v ≡ None) first l.invariant.right),
    )

-- So it does not start at 0.
pub overflow_sub-start : goal.overflow_sub-start
overflow_sub-start c =
    let l = c.loop-range in
    let i = l.range-index in
    let r : Range = c.range-item.result in
    let first = next_range c.args.others.now i r c.loop-range-test.true c.range-item.is in
    omega (
      arith,
      c.start-start.ensures.value,
      in_order_first (i + 1) (l.end + 1) r _
          (subst (λ (v : List Range). wrong_index (i + 1) (l.end + 1) v ≡ None) first l.invariant.right),
    )

pub loop-range-preserved : goal.loop-range-preserved
loop-range-preserved c =
    let l = c.loop-range in
    let i = l.range-index in
    let r : Range = c.range-item.result in
    let rest : List Range = drop (i + 1) c.args.others.now in
    let first = next_range c.args.others.now i r c.loop-range-test.true c.range-item.is in
    let more : l.holes.items ++ holes_after (l.end + 1) (r ∷ rest)
    ≡ c.match-new.holes.items ++ holes_after (r.end + 1) rest = elim c.match-new.branch [
      | in-Ok+in_ok-push w ↦ rw (w.holes-is, w.in_ok-push.ensures.items)
          (hole_made l.holes.items rest l.end c.start-start.result r w.in-Ok.hole c.start-start.ensures.value w.in-Ok.ensures)
      | in_default w ↦ rw w.holes-is
          (none_made l.holes.items rest l.end c.start-start.result r w.in_default.field-0 c.start-start.ensures.value c.start-start.type_inv
          w.in_default.ensures)
    ] in
    rw c.end-end-in-loop-range.ensures.value (record {
      holes = l.invariant.holes ∙ ap (λ (v : List Range). l.holes.items ++ holes_after (l.end + 1) v) first ∙ more;
      right = in_order_rest (i + 1) (l.end + 1) r rest
          (subst (λ (v : List Range). wrong_index (i + 1) (l.end + 1) v ≡ None) first l.invariant.right);
    })
