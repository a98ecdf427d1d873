-- The ends are those of the ids so far, and a low id ends the reading. The prover does not name the list of these ids.
use Rattle.std.proofs.Common.{◌≡◌, Some, None, [], sym, ◌∙◌, option_and_then}
use Rattle.serde_json.specs.View.{view, items_view}
use Rattle.vm_ranges.specs.Numbers.{whole_number, u32_from}
use Rattle.vm_ids.specs.Checks.IdChecks.{ids_from}
use Rattle.vm_ids.proofs.Ids.AddedIds.{no_ends}
use Rattle.vm_ids.proofs.Ids.AscendingNumbers.{none_gathered, one_gathered, low_id}
use Rattle.vm_ids.proofs.saved.ids.ends_in.Goals as goal

pub loop-item-init : goal.loop-item-init
loop-item-init c = record { ids = []; ends = no_ends; so_far = none_gathered c.args.list.now }

pub returns-in_err-ends_with : goal.returns-in_err-ends_with
returns-in_err-ends_with c =
    let h = c.loop-item.invariant in
    let w : option_and_then u32_from (whole_number (view c.item-item.result)) ≡ Some c.in_ok-id.id = rw
    (← c.as_u64.ensures, c.in_ok-as_u64.was) (sym c.u32_from.ensures ∙ c.in_ok-id.was) in
    let none : ids_from 0 (items_view c.args.list.now) ≡ None = low_id _ c.args.list.now _ h.ids c.loop-item-test.true c.item-item.is h.so_far w
    h.ends.0 (c.in_err-ends_with.ensures h.ids h.ends) in
    rw none c.from_residual-in_err-ends_with.ensures

pub loop-item-preserved : goal.loop-item-preserved
loop-item-preserved c =
    let h = c.loop-item.invariant in
    let w : option_and_then u32_from (whole_number (view c.item-item.result)) ≡ Some c.in_ok-id.id = rw
    (← c.as_u64.ensures, c.in_ok-as_u64.was) (sym c.u32_from.ensures ∙ c.in_ok-id.was) in
    let ends = c.in_ok-ends_with.ensures h.ids h.ends in
    record { ids = _; ends = ends; so_far = one_gathered _ c.args.list.now _ h.ids c.loop-item-test.true c.item-item.is h.so_far w ends.0 }
