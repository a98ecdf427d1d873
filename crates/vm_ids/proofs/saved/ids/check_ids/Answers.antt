-- The fields decide whether the value encodes an allocator. The prover does not rewrite the ends of the ids in the lemmas on all fields.
use Rattle.std.proofs.Common.{◌≡◌, Some, None, option_map, sym, ◌∙◌}
use Rattle.serde_json.specs.View.{view, items_view}
use Rattle.vm_ids.specs.Checks.FreedChecks.{ends_of}
use Rattle.vm_ids.specs.Checks.IdChecks.{ids_from}
use Rattle.vm_ids.proofs.Ids.ReadIdStates.{kept_fields, ends_refused, parts_refused, parts_accepted}
use Rattle.vm_ids.proofs.saved.ids.check_ids.Goals as goal

pub returns-in_err-ends-clause-none : goal.returns-in_err-ends-clause-none
returns-in_err-ends-clause-none c =
    let e : option_map ends_of (ids_from 0 (items_view c.in_ok-freed.freed.now.items)) ≡ None =
    rw (← c.deref.ensures.value) (sym c.ends_in.ensures ∙ c.in_err-ends.was) in
    rw c.from_residual-in_err-ends.ensures (ends_refused (view c.args.value.now) _ (sym c.in_ok-freed.ensures) e)

pub returns-in_err-ok-clause-none : goal.returns-in_err-ok-clause-none
returns-in_err-ok-clause-none c =
    let e : option_map ends_of (ids_from 0 (items_view c.in_ok-freed.freed.now.items)) ≡ Some c.in_ok-ends.ends =
    rw (← c.deref.ensures.value) (sym c.ends_in.ensures ∙ c.in_ok-ends.was) in
    let k = kept_fields (view c.args.value.now) (sym c.has_fields.ensures ∙ c.if-not-has_fields.false)
    (sym c.u32_in.ensures ∙ c.in_ok-base.was) (sym c.u32_in-2.ensures ∙ c.in_ok-end.was) (sym c.next_in.ensures ∙ c.in_ok-next.was)
    (sym c.in_ok-freed.ensures) e in
    rw c.from_residual-in_err-ok.ensures
    (parts_refused (view c.args.value.now) _ _ c.check_parts.result k.1 (c.check_parts.ensures k.0 k.2) c.in_err-ok.ensures.value)

pub returns-clause-found : goal.returns-clause-found
returns-clause-found c =
    let e : option_map ends_of (ids_from 0 (items_view c.in_ok-freed.freed.now.items)) ≡ Some c.in_ok-ends.ends =
    rw (← c.deref.ensures.value) (sym c.ends_in.ensures ∙ c.in_ok-ends.was) in
    let k = kept_fields (view c.args.value.now) (sym c.has_fields.ensures ∙ c.if-not-has_fields.false)
    (sym c.u32_in.ensures ∙ c.in_ok-base.was) (sym c.u32_in-2.ensures ∙ c.in_ok-end.was) (sym c.next_in.ensures ∙ c.in_ok-next.was)
    (sym c.in_ok-freed.ensures) e in
    (k.0, parts_accepted (view c.args.value.now) _ _ c.check_parts.result _ k.1 (c.check_parts.ensures k.0 k.2) c.in_ok-ok.ensures.value)
