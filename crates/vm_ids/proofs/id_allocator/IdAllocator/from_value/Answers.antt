-- A value that was checked has the parts of an allocator, so only memory can run out. The prover does not rewrite the list of its ids.
use Rattle.std.proofs.Common.{◌≡◌, Some, Ok, Err, refl, rules}
use Rattle.serde_json.specs.View.{view, items_view}
use Rattle.vm_ranges.specs.declared.saved.ValueError.TheVariants.{OutOfMemory}
use Rattle.vm_ids.specs.Checks.IdChecks.{ids_from}
use Rattle.vm_ids.proofs.Ids.ReadIdStates.{some_encoded, state_read}
use Rattle.vm_ids.proofs.id_allocator.IdAllocator.from_value.Goals as goal

pub collect_ids-requires : goal.collect_ids-requires
collect_ids-requires c = rw (c.deref.ensures.value, c.in-Some.ensures.found.1.listed) refl

pub returns-in_err-freed-clause-answer : goal.returns-in_err-freed-clause-answer
returns-in_err-freed-clause-answer c =
    let is : c.from_residual.result ≡ Err OutOfMemory = search rules in
    rw is (some_encoded (view c.args.value.now) _ _ c.in-Some.ensures.found.1)

pub returns-in_err-from_ids-clause-answer : goal.returns-in_err-from_ids-clause-answer
returns-in_err-from_ids-clause-answer c =
    let listed : ids_from 0 (items_view c.in-Some.ids.freed.now.items) ≡ Some c.in_ok-freed.freed = rw (← c.deref.ensures.value) c.in_ok-freed.ensures in
    absurd (state_read (view c.args.value.now) _ _ c.in_ok-freed.freed (Err c.in_err-from_ids.field-0.0) c.in-Some.ensures.found.1 listed
    c.in_err-from_ids.ensures.answer)

pub returns-clause-answer : goal.returns-clause-answer
returns-clause-answer c =
    let listed : ids_from 0 (items_view c.in-Some.ids.freed.now.items) ≡ Some c.in_ok-freed.freed = rw (← c.deref.ensures.value) c.in_ok-freed.ensures in
    state_read (view c.args.value.now) _ _ c.in_ok-freed.freed (Ok c.in_ok-from_ids.field-0) c.in-Some.ensures.found.1 listed
    c.in_ok-from_ids.ensures.answer
