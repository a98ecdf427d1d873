-- The new range is allocated in the gap that the freed one leaves. The prover does not split the test of the limit in two cases.
use Rattle.std.proofs.Common.{◌≡◌, ◌<◌, ◌≤◌, ℕ, length, ltb, ap, subst, arith, ⊎_elim, Ok}
use Rattle.std.proofs.lemmas.Bool.{cases_lt, lt-ltb, le-ltb}
use Rattle.vm_ranges.specs.Cases.{IsTestOf}
use Rattle.vm_ranges.specs.Request.{Request, request_for, MakesConstraint}
use Rattle.vm_ranges.specs.declared.constraint.AllocPolicy.TheVariants.{ExactMatch}
use Rattle.vm_ranges.specs.Address.{AddressState, releasing}
use Rattle.vm_addresses.specs.Allocator.{state_of}
use Rattle.vm_ranges.specs.Answer.{SPLIT_LIMIT_MIN_HELD, Grants, Frees}
use Rattle.vm_addresses.specs.Moves.{request_to}
use Rattle.vm_ranges.proofs.PlainWords.{held_contains}
use Rattle.vm_addresses.proofs.Moving.Inside.{length_without}
use Rattle.vm_addresses.proofs.Moving.Finishing.{enters_gap, fewer_spare}
use Rattle.vm_addresses.proofs.Results.Moves.{start_is_valid, made_to}
use Rattle.vm_addresses.proofs.address_allocator.AddressAllocator.replace.Goals as goal

-- The request is the one for the range.
made : (c : goal.After-allocate_with) → c.in-Ok.request ≡ request_to c.args.range c.args.range.start
made c = made_to c.args.range c.args.range.start c.len.result c.in-Ok.request c.len.ensures
    (subst (λ (v : ℕ). MakesConstraint (request_for c.len.result 1 (ExactMatch v)) (Ok c.in-Ok.request)) c.start.ensures.value c.in-Ok.ensures)

-- The range that moves is freed.
freed : (c : goal.After-allocate_with) → state_of c.free.new.self ≡ releasing c.args.key.now (state_of c.args.self.now)
unfolding Frees
freed c = ⊎_elim (λ l. l.1.1) (λ l. absurd (l.0 c.requires.held)) c.free.ensures.answer

-- The test of the limit.
limit_tested : (held n : ℕ) → held ≡ n → IsTestOf (ltb held SPLIT_LIMIT_MIN_HELD) (n < SPLIT_LIMIT_MIN_HELD)
limit_tested held n e =
    ⊎_elim
    (λ (l : held < SPLIT_LIMIT_MIN_HELD). rw (lt-ltb held SPLIT_LIMIT_MIN_HELD l) (omega arith))
    (λ (l : SPLIT_LIMIT_MIN_HELD ≤ held). rw (le-ltb held SPLIT_LIMIT_MIN_HELD l) (λ k. omega arith))
    (cases_lt held SPLIT_LIMIT_MIN_HELD)

granted : (c : goal.After-allocate_with) →
    Grants (length (state_of c.free.new.self).held) (state_of c.free.new.self) c.in-Ok.request c.allocate_with.result.0
    (state_of c.allocate_with.new.self)
granted c = c.allocate_with.ensures.grants (length (state_of c.free.new.self).held)
    (limit_tested c.self.inside.held_count (length (state_of c.free.new.self).held) (rw (← c.self.view_is) c.self.invariant.held_count))

-- Fewer ranges are held then.
fewer : (c : goal.After-allocate_with) → length (state_of c.free.new.self).held ≤ length (state_of c.args.self.now).held
fewer c =
    let old = state_of c.args.self.now in
    omega (
      arith,
      ap (λ (v : AddressState). length v.held) (freed c),
      length_without c.args.key.now old.held (held_contains old.held c.args.key.now c.requires.held),
    )

pub unreachable-requires : goal.unreachable-requires
unreachable-requires c =
    let some = c.len.ensures in
    let i = c.requires.inside.some in
    start_is_valid c.len.result c.start.result c.in_default.field-0 (omega (arith, some, i)) c.in_default.ensures

pub returns : goal.returns
returns c = record {
  moved = let old = state_of c.args.self.now in
      let new = state_of c.allocate_with.new.self in
      let answer = c.allocate_with.result.0 in
      let grants : Grants (length (releasing c.args.key.now old).held) (releasing c.args.key.now old) c.in-Ok.request answer new = subst
      (λ (v : AddressState). Grants (length v.held) v c.in-Ok.request answer new) (freed c) (granted c) in
      enters_gap old new c.args.key.now c.args.range _ answer c.requires.held c.requires.inside
      (λ m. c.allocate_with.ensures.memory c.args.range.start (ap (λ (v : Request). v.policy) (made c)) (fewer_spare _ _ c.args.spare.now (fewer c) m))
      (subst (λ (v : Request). Grants (length (releasing c.args.key.now old).held) (releasing c.args.key.now old) v answer new) (made c) grants);
}
