-- The holes between the ranges are held, and all else is clear. The prover does not rewrite the list as its first range and the others.
use Rattle.std.proofs.Common.{◌≡◌, ◌+◌, List, ◌∷◌, None, Ok, Err, IfErr, ◌∙◌, rules, arith, subst}
use Rattle.vm_ranges.specs.ListErrors.{by_error}
use Rattle.vm_ranges.specs.Range.{Range}
use Rattle.vm_ranges.specs.Making.{MakesRange}
use Rattle.vm_ranges.specs.declared.error.Error.TheVariants.{OutOfMemory}
use Rattle.vm_addresses.specs.Held.{MakesHeld, fault_index}
use Rattle.vm_addresses.specs.Allocator.{made_state}
use Rattle.vm_addresses.specs.Holes.{holes_after}
use Rattle.vm_addresses.proofs.Results.Holes.{list_checked, too_many, no_memory, no_index_named, clear_if_made}
use Rattle.vm_addresses.proofs.address_allocator.AddressAllocator.with_free.Goals as goal

pub returns-then-count-gt-MAX_HOLES-clause-answer :
    goal.returns-then-count-gt-MAX_HOLES-clause-answer
returns-then-count-gt-MAX_HOLES-clause-answer c =
    let list : c.args.free.now ≡ c.in-Some.first.now ∷ c.in-Some.others.now = search rules in
    let range : MakesRange c.in-Some.first.now.start c.in_ok-last.last.end (Ok c.in_ok-space.space) = rw
    (← c.start.ensures.value, ← c.end.ensures.value) c.in_ok-space.ensures in
    let is = list_checked c.in-Some.first.now c.in_ok-last.last c.in-Some.others.now c.in_ok-last.count c.in_ok-space.space
    c.start.ensures.range c.in_ok-last.ensures range in
    rw (list, c.into-then-count-gt-MAX_HOLES.ensures)
    (too_many c.in-Some.first.now c.in-Some.others.now c.in_ok-last.count is.0 c.in_ok-last.ensures.2
    (omega (arith, c.if-count-gt-MAX_HOLES.true)))

pub returns-in_err-holes-clause-answer : goal.returns-in_err-holes-clause-answer
returns-in_err-holes-clause-answer c =
    let list : c.args.free.now ≡ c.in-Some.first.now ∷ c.in-Some.others.now = search rules in
    let range : MakesRange c.in-Some.first.now.start c.in_ok-last.last.end (Ok c.in_ok-space.space) = rw
    (← c.start.ensures.value, ← c.end.ensures.value) c.in_ok-space.ensures in
    let is = list_checked c.in-Some.first.now c.in_ok-last.last c.in-Some.others.now c.in_ok-last.count c.in_ok-space.space
    c.start.ensures.range c.in_ok-last.ensures range in
    let error : c.from_residual-in_err-holes.result ≡ Err (record { index = None; error = OutOfMemory }) = search rules in
    rw (list, error) (no_memory c.in-Some.first.now c.in-Some.others.now c.in_ok-last.count is.0 c.in_ok-last.ensures.2
    (omega (arith, c.if-count-gt-MAX_HOLES.false)))

pub returns-clause-index : goal.returns-clause-index
returns-clause-index c =
    let list : c.args.free.now ≡ c.in-Some.first.now ∷ c.in-Some.others.now = search rules in
    let range : MakesRange c.in-Some.first.now.start c.in_ok-last.last.end (Ok c.in_ok-space.space) = rw
    (← c.start.ensures.value, ← c.end.ensures.value) c.in_ok-space.ensures in
    let is = list_checked c.in-Some.first.now c.in_ok-last.last c.in-Some.others.now c.in_ok-last.count c.in_ok-space.space
    c.start.ensures.range c.in_ok-last.ensures range in
    let held : c.deref.result.now ≡ holes_after (c.in-Some.first.now.end + 1) c.in-Some.others.now = c.deref.ensures.value
    ∙ c.in_ok-holes.ensures in
    rw (list) (no_index_named c.in-Some.first.now c.in-Some.others.now c.holding.result is.0
    (subst (λ (v : Range). IfErr c.holding.result (λ f. f.index ≡ fault_index 0 v.start v.end
    (holes_after (c.in-Some.first.now.end + 1) c.in-Some.others.now))) is.1
    (subst (λ (v : List Range). IfErr c.holding.result (λ f. f.index ≡ fault_index 0 c.in_ok-space.space.start c.in_ok-space.space.end v))
    held c.holding.ensures.index)))

pub returns-clause-clear : goal.returns-clause-clear
returns-clause-clear c =
    let list : c.args.free.now ≡ c.in-Some.first.now ∷ c.in-Some.others.now = search rules in
    let range : MakesRange c.in-Some.first.now.start c.in_ok-last.last.end (Ok c.in_ok-space.space) = rw
    (← c.start.ensures.value, ← c.end.ensures.value) c.in_ok-space.ensures in
    let is = list_checked c.in-Some.first.now c.in_ok-last.last c.in-Some.others.now c.in_ok-last.count c.in_ok-space.space
    c.start.ensures.range c.in_ok-last.ensures range in
    let held : c.deref.result.now ≡ holes_after (c.in-Some.first.now.end + 1) c.in-Some.others.now = c.deref.ensures.value
    ∙ c.in_ok-holes.ensures in
    rw (list) (clear_if_made c.in-Some.first.now c.in-Some.others.now c.holding.result is.0
    (subst (λ (v : Range). MakesHeld v (holes_after (c.in-Some.first.now.end + 1) c.in-Some.others.now)
    (made_state (by_error c.holding.result))) is.1
    (subst (λ (v : List Range). MakesHeld c.in_ok-space.space v (made_state (by_error c.holding.result))) held c.holding.ensures.answer)))
