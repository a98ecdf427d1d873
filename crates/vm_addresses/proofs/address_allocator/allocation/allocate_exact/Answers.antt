-- The result is right for every request that leads to this search. The prover applies no lemma to an arbitrary request.
use Rattle.std.proofs.Common.{◌≡◌, ◌<◌, arith, refl, ◌∙◌, ⊎_elim}
use Rattle.vm_ranges.specs.Range.{span}
use Rattle.vm_ranges.proofs.RangeCalls.{same_range}
use Rattle.vm_space.specs.Shape.{blocks}
use Rattle.vm_addresses.proofs.Placing.Requests.{exact_at_max, exact_outside, exact_over, exact_allocation, start_in, with_spare}
use Rattle.vm_addresses.proofs.address_allocator.allocation.allocate_exact.Goals as goal

pub returns-then-start-eq18446744073709551615-clause-answer : goal.returns-then-start-eq18446744073709551615-clause-answer
returns-then-start-eq18446744073709551615-clause-answer c = λ request valid policy is.
    rw c.requires.count (exact_at_max c.args.space.now c.args.tree.now request c.args.search.now c.args.start valid is policy
    c.args.search.now.can_split c.if-start-eq18446744073709551615.true)

pub returns-then-start-from-clause-answer : goal.returns-then-start-from-clause-answer
returns-then-start-from-clause-answer c = λ request valid policy is.
    let below = c.if-start-eq18446744073709551615.false in
    let fits = c.ranges.start.fits in
    rw c.requires.count (exact_outside c.args.space.now c.args.tree.now request c.args.search.now c.args.start valid is policy
    c.args.search.now.can_split (omega arith)
    (λ i. ⊎_elim (λ (l : c.args.start < c.max-from.result). omega (arith, i.0, l, c.max-from.ensures, c.start.ensures.value))
    (λ r. omega (arith, i.1, r.1, c.min-to.ensures, c.end.ensures.value)) c.then-start-from.either))

pub returns-in_default-clause-answer : goal.returns-in_default-clause-answer
returns-in_default-clause-answer c = λ request valid policy is.
    let below = c.if-start-eq18446744073709551615.false in
    let fits = c.ranges.start.fits in
    let over = c.in_default.ensures in
    rw c.requires.count (exact_over c.args.space.now c.args.tree.now request c.args.search.now c.args.start valid is policy
    c.args.search.now.can_split (omega arith) (
      omega (arith, c.if-start-from.false, c.max-from.ensures, c.start.ensures.value),
      omega
          (arith, c.if-to-start.false, c.min-to.ensures, c.end.ensures.value),
    ) (omega (arith, over)))

pub allocate_exact-requires-clause-start : goal.allocate_exact-requires-clause-start
allocate_exact-requires-clause-start c =
    let fits = c.in-Some.ensures in
    let some = c.requires.search.some in
    let from = c.if-start-from.false in
    let to = c.if-to-start.false in
    start_in c.args.space.now (blocks c.args.tree.now) c.args.search.now c.args.start c.requires.tiling.tiles c.start.ensures.range.0
    (omega (arith, from, c.max-from.ensures, c.start.ensures.value)) (omega (arith, to, c.min-to.ensures, c.end.ensures.value))
    (omega (arith, from, c.max-from.ensures)) (omega (arith, to, c.min-to.ensures)) (omega (arith, fits.0, some))

pub returns-clause-answer : goal.returns-clause-answer
returns-clause-answer c = λ request valid policy is.
    let fits = c.in-Some.ensures in
    let some = c.requires.search.some in
    let below = c.if-start-eq18446744073709551615.false in
    let start = c.ranges.start.fits in
    let range : c.between-range.result ≡ span c.args.start c.args.search.now.size = c.between-range.ensures
    ∙ same_range _ (span c.args.start c.args.search.now.size) refl (omega (arith, fits.1, some)) in
    let h = c.allocate_exact.ensures in
    rw (c.with_error.ensures, range)
    (exact_allocation c.args.space.now c.args.tree.now c.allocate_exact.new.self c.requires.tiling.tiles request c.args.search.now
    c.args.start valid is policy c.allocate_exact.result h.unchanged c.allocate_exact.new.count h.answer (omega arith) (
      omega (arith, c.if-start-from.false, c.max-from.ensures, c.start.ensures.value),
      omega
          (arith, c.if-to-start.false, c.min-to.ensures, c.end.ensures.value),
    ) (omega (arith, fits.0, some)) c.requires.low (omega (arith, h.count, c.requires.count)) (λ o. omega (arith, h.path o, c.requires.count)))

pub returns-clause-memory : goal.returns-clause-memory
returns-clause-memory c = λ h.
    rw c.with_error.ensures (with_spare c.args.tree.now c.args.spare.now _ c.allocate_exact.result c.allocate_exact.ensures.memory h)
