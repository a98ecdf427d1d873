-- The new range is held beside the old one until the move is finished. The prover does not rewrite it to the range of the begun move.
use Rattle.std.proofs.Common.{◌-◌, length, sym, subst, Ok}
use Rattle.vm_ranges.specs.Range.{Range}
use Rattle.vm_addresses.specs.Allocator.{state_of}
use Rattle.vm_ranges.specs.Answer.{Grants}
use Rattle.vm_addresses.proofs.Moving.Beginning.{away_begins}
use Rattle.vm_addresses.proofs.address_allocator.AddressAllocator.begin_away.Goals as goal

pub returns-clause-answer : goal.returns-clause-answer
returns-clause-answer c =
    let old = state_of c.args.self.now in
    let new = state_of c.allocate_beside.new.self in
    let grants : Grants (length old.held - 1) old c.args.request (Ok c.beside.result.range) new = subst
    (λ (v : Range). Grants (length old.held - 1) old c.args.request (Ok v) new) (sym c.beside.ensures.0) c.in_ok-range.ensures.grants in
    away_begins old c.args.key.now c.requires.none.0 c.args.request c.requires.state c.requires.held c.requires.none.1
    c.in_ok-range.ensures.valid new c.beside.result c.requires.none.2 c.if-asks_for.ensures.asks grants c.beside.ensures.1
