-- Each error has its condition, which the lemmas of ExactMatch name. The ends come from three calls.
use Rattle.std.proofs.Common.{ℕ, arith, subst, Ok, Err}
use Rattle.vm_ranges.specs.Making.{MakesSpan}
use Rattle.vm_addresses.specs.Allocator.{state_of}
use Rattle.vm_addresses.proofs.Peeking.Exact.{
  part_is,
  span_failed,
  span_made,
  some_if,
  none_if,
  below,
  above,
  over,
  taken,
  not_clear,
  settled_exact,
  free_place,
  in_the_way,
  place_clear,
}
use Rattle.vm_addresses.proofs.address_allocator.AddressAllocator.peek_exact.Goals as goal

pub returns-then-start-low : goal.returns-then-start-low
returns-then-start-low c =
    let state = state_of c.args.self.now in
    below state c.args.request c.args.start c.size-size.ensures.valid c.requires.policy c.ends_in-low.result.0 c.ends_in-low.result.1
    (λ e. omega (arith, c.if-start-eq18446744073709551615.false, e))
    (part_is c.args.request.window c.window.result state.space c.space.result _ c.window.ensures c.space.ensures c.ends_in-low.ensures.ends)
    (omega (arith, c.if-start-low.true))

pub returns-then-high-start : goal.returns-then-high-start
returns-then-high-start c =
    let state = state_of c.args.self.now in
    above state c.args.request c.args.start c.size-size.ensures.valid c.requires.policy c.ends_in-low.result.0 c.ends_in-low.result.1
    (λ e. omega (arith, c.if-start-eq18446744073709551615.false, e))
    (part_is c.args.request.window c.window.result state.space c.space.result _ c.window.ensures c.space.ensures c.ends_in-low.ensures.ends)
    (omega (arith, c.if-high-start.true))

pub returns-in_default : goal.returns-in_default
returns-in_default c =
    let state = state_of c.args.self.now in
    let request = c.args.request in
    let ends = part_is request.window c.window.result state.space c.space.result _ c.window.ensures c.space.ensures c.ends_in-low.ensures.ends in
    over state request c.args.start c.size-size.ensures.valid c.requires.policy c.ends_in-low.result.0 c.ends_in-low.result.1
    (λ e. omega (arith, c.if-start-eq18446744073709551615.false, e)) ends c.if-start-low.false c.if-high-start.false
    (span_failed c.args.start request.size c.in_default.field-0 c.size-size.ensures.valid.some
    (subst (λ (n : ℕ). MakesSpan c.args.start n (Err c.in_default.field-0)) c.size-size.ensures.value
    (subst (MakesSpan c.args.start c.size-size.result) c.in_default.is c.from_start_len.ensures)))

pub returns-then-holds : goal.returns-then-holds
returns-then-holds c =
    let state = state_of c.args.self.now in
    let request = c.args.request in
    let ends = part_is request.window c.window.result state.space c.space.result _ c.window.ensures c.space.ensures c.ends_in-low.ensures.ends in
    let made = span_made c.args.start request.size c.in-Ok.range
    (subst (λ (n : ℕ). MakesSpan c.args.start n (Ok c.in-Ok.range)) c.size-size.ensures.value
    (subst (MakesSpan c.args.start c.size-size.result) c.in-Ok.is c.from_start_len.ensures)) in
    taken state request c.args.start c.size-size.ensures.valid c.requires.policy c.ends_in-low.result.0 c.ends_in-low.result.1
    (λ e. omega (arith, c.if-start-eq18446744073709551615.false, e)) ends c.if-start-low.false c.if-high-start.false
    c.in-Ok.range made.0 made.1 (c.holds.ensures.0 c.if-holds.true)

pub returns-then-is_some : goal.returns-then-is_some
returns-then-is_some c =
    let state = state_of c.args.self.now in
    let request = c.args.request in
    let ends = part_is request.window c.window.result state.space c.space.result _ c.window.ensures c.space.ensures c.ends_in-low.ensures.ends in
    let made = span_made c.args.start request.size c.in-Ok.range
    (subst (λ (n : ℕ). MakesSpan c.args.start n (Ok c.in-Ok.range)) c.size-size.ensures.value
    (subst (MakesSpan c.args.start c.size-size.result) c.in-Ok.is c.from_start_len.ensures)) in
    not_clear state request c.args.start c.size-size.ensures.valid c.requires.policy c.ends_in-low.result.0 c.ends_in-low.result.1
    (λ e. omega (arith, c.if-start-eq18446744073709551615.false, e)) ends c.if-start-low.false c.if-high-start.false
    c.in-Ok.range made.0 made.1 (λ k. let t = c.holds.ensures.1 k in cc (t, c.if-holds.false))
    (in_the_way state request c.args.start c.conflict.result c.requires.policy c.conflict.ensures.decides
    (some_if c.conflict.result c.is_some.result c.is_some.ensures c.if-is_some.true))

pub settle_at-requires-clause-clear : goal.settle_at-requires-clause-clear
settle_at-requires-clause-clear c = λ x i.
    let state = state_of c.args.self.now in
    let request = c.args.request in
    let made = span_made c.args.start request.size c.in-Ok.range
    (subst (λ (n : ℕ). MakesSpan c.args.start n (Ok c.in-Ok.range)) c.size-size.ensures.value
    (subst (MakesSpan c.args.start c.size-size.result) c.in-Ok.is c.from_start_len.ensures)) in
    place_clear state request c.args.start x c.in-Ok.range c.size-size.ensures.valid.some made.0
    (free_place state request c.args.start c.conflict.result c.requires.policy c.conflict.ensures.decides
    (none_if c.conflict.result c.is_some.result c.is_some.ensures c.if-is_some.false)) i

pub returns : goal.returns
returns c =
    let state = state_of c.args.self.now in
    let request = c.args.request in
    let ends = part_is request.window c.window.result state.space c.space.result _ c.window.ensures c.space.ensures c.ends_in-low.ensures.ends in
    let made = span_made c.args.start request.size c.in-Ok.range
    (subst (λ (n : ℕ). MakesSpan c.args.start n (Ok c.in-Ok.range)) c.size-size.ensures.value
    (subst (MakesSpan c.args.start c.size-size.result) c.in-Ok.is c.from_start_len.ensures)) in
    settled_exact state request c.args.start c.size-size.ensures.valid c.requires.policy c.ends_in-low.result.0 c.ends_in-low.result.1
    (λ e. omega (arith, c.if-start-eq18446744073709551615.false, e)) ends c.if-start-low.false c.if-high-start.false
    c.in-Ok.range made.0 made.1 (λ k. let t = c.holds.ensures.1 k in cc (t, c.if-holds.false)) c.settle_at.result
    (free_place state request c.args.start c.conflict.result c.requires.policy c.conflict.ensures.decides
    (none_if c.conflict.result c.is_some.result c.is_some.ensures c.if-is_some.false)) c.settle_at.ensures
