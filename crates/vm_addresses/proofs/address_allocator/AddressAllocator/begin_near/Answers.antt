-- The move goes to a closer range if one is free, otherwise into the gap. The prover does not rewrite along the error and equal trees.
use Rattle.std.proofs.Common.{◌≡◌, ◌-◌, length, sym, subst, Ok, Err}
use Rattle.vm_ranges.specs.Range.{Range}
use Rattle.vm_ranges.specs.declared.error.Error.{Error}
use Rattle.vm_ranges.specs.declared.error.Error.TheVariants.{ResourceNotAvailable}
use Rattle.vm_space.specs.Shape.{Shape}
use Rattle.vm_addresses.specs.Allocator.{state_of}
use Rattle.vm_ranges.specs.Answer.{Grants}
use Rattle.vm_addresses.specs.Moves.{BeginsMove}
use Rattle.vm_addresses.specs.Checks.Moving.{BeginsInside}
use Rattle.vm_addresses.proofs.Moving.Beginning.{none_closer_begins, closer_begins}
use Rattle.vm_addresses.proofs.address_allocator.AddressAllocator.begin_near.Goals as goal

pub returns-in-Ok-clause-answer : goal.returns-in-Ok-clause-answer
returns-in-Ok-clause-answer c =
    let old = state_of c.args.self.now in
    let new = state_of c.allocate_beside.new.self in
    let grants : Grants (length old.held - 1) old c.in-Some.closer (Ok c.beside.result.range) new = subst
    (λ (v : Range). Grants (length old.held - 1) old c.in-Some.closer (Ok v) new) (sym c.beside.ensures.0) c.in-Ok.ensures.grants in
    let space : c.self.inside.space ≡ old.space = rw (← c.self.view_is) c.self.invariant.is_space in
    closer_begins old c.args.key.now c.args.gap.now c.args.request c.requires.state c.requires.held c.requires.gap c.requires.valid
    c.args.range c.requires.place c.self.inside.space c.in-Some.closer new c.beside.result space c.in-Ok.ensures.valid.some
    c.in-Some.ensures grants c.beside.ensures.1

pub returns-in-Err-ResourceNotAvailable-clause-answer : goal.returns-in-Err-ResourceNotAvailable-clause-answer
returns-in-Err-ResourceNotAvailable-clause-answer c =
    let h = c.in-Err-ResourceNotAvailable.ensures in
    let old = state_of c.args.self.now in
    let result = c.begin_inside-in-Err-ResourceNotAvailable.result in
    let same : c.allocate_beside.new.self ≡ c.args.self.now = h.unchanged in
    let inside : BeginsInside old c.args.key.now c.args.gap.now c.args.range result = subst
    (λ (s : Shape). BeginsInside (state_of s) c.args.key.now c.args.gap.now c.args.range result) same
    c.begin_inside-in-Err-ResourceNotAvailable.ensures in
    let grants : Grants (length old.held - 1) old c.in-Some.closer (Err ResourceNotAvailable) (state_of c.allocate_beside.new.self) = subst
    (λ (e : Error). Grants (length old.held - 1) old c.in-Some.closer (Err e) (state_of c.allocate_beside.new.self))
    c.in-Err-ResourceNotAvailable.field-0-is h.grants in
    let space : c.self.inside.space ≡ old.space = rw (← c.self.view_is) c.self.invariant.is_space in
    subst (λ (s : Shape). BeginsMove old c.args.key.now c.args.request result (state_of s)) (sym same)
    (none_closer_begins old c.args.key.now c.args.gap.now c.args.request c.requires.state c.requires.held c.requires.gap c.requires.valid
    c.args.range c.requires.place c.self.inside.space c.in-Some.closer (state_of c.allocate_beside.new.self) result space c.in-Some.ensures
    grants inside)
