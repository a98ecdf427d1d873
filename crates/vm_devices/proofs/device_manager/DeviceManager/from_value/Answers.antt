-- An error of a part, or the manager made of all parts, is the result for the value. The prover does not rewrite the results of the parts.
use Rattle.std.proofs.Common.{◌≡◌, List, sym, subst, Ok, Err, rules}
use Rattle.serde_json.specs.View.{items_view}
use Rattle.serde_json.specs.declared.value.Value.{Value}
use Rattle.vm_ranges.specs.Saving.{value_error}
use Rattle.vm_devices.specs.Manager.{device_state}
use Rattle.vm_devices.specs.Saved.{ReadsInParts}
use Rattle.vm_devices.specs.SavedChecks.{EncodesDevices}
use Rattle.vm_devices.proofs.SavedManagers.{fields_read, ids_refused, space_refused, slots_refused, parts_refused, parts_read}
use Rattle.vm_devices.proofs.device_manager.DeviceManager.from_value.Goals as goal

pub returns-in_err-ids-clause-answer : goal.returns-in_err-ids-clause-answer
returns-in_err-ids-clause-answer c =
    let e = c.in_err-ids.field-0.0 in
    let is : c.from_residual.result ≡ Err e = search rules in
    rw is (fields_read _ _ (sym c.in-Some.ensures) (Err e) (ids_refused _ e c.in_err-ids.ensures.answer))

pub returns-in_err-space-clause-answer : goal.returns-in_err-space-clause-answer
returns-in_err-space-clause-answer c =
    let e = c.in_err-space.field-0.0 in
    let is : c.from_residual-in_err-space.result ≡ Err e = search rules in
    rw is (fields_read _ _ (sym c.in-Some.ensures) (Err e) (space_refused _ e c.in_err-space.ensures.answer))

pub returns-in_err-devices-clause-answer : goal.returns-in_err-devices-clause-answer
returns-in_err-devices-clause-answer c =
    let e = c.in_err-devices.field-0.0 in
    let is : c.from_residual-in_err-devices.result ≡ Err e = search rules in
    let refused = subst (λ (list : List Value). ReadsInParts (EncodesDevices (items_view list)) (Err e)) c.deref.ensures.value
    c.in_err-devices.ensures in
    rw is (fields_read _ _ (sym c.in-Some.ensures) (Err e) (slots_refused _ e refused))

pub returns-in_err-from_devices-clause-answer : goal.returns-in_err-from_devices-clause-answer
returns-in_err-from_devices-clause-answer c =
    let e = c.in_err-from_devices.field-0.0 in
    let is : c.from_residual-in_err-from_devices.result ≡ Err (value_error e) = search rules in
    rw is
    (fields_read _ _ (sym c.in-Some.ensures) (Err (value_error e))
    (parts_refused _ _ _ _ c.in_ok-ids.ensures.answer c.in_ok-space.ensures.answer (rw (← c.deref.ensures.value) c.in_ok-devices.ensures) e
    c.in_err-from_devices.ensures.answer))

pub returns-clause-answer : goal.returns-clause-answer
returns-clause-answer c =
    fields_read _ _ (sym c.in-Some.ensures) (Ok (device_state c.in_ok-from_devices.field-0))
    (parts_read _ _ _ _ c.in_ok-ids.ensures.answer c.in_ok-space.ensures.answer (rw (← c.deref.ensures.value) c.in_ok-devices.ensures)
    (device_state c.in_ok-from_devices.field-0) c.in_ok-from_devices.ensures.answer)
