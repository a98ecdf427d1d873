-- The devices so far are in the table, and the counts show that no id or range is left. The prover does not distinguish which count differs.
use Rattle.std.proofs.Common.{◌≤◌, length, arith, refl, sym, ◌∙◌}
use Rattle.vm_devices.proofs.PairedDevices.{none_so_far, other_ids_held, other_ranges_held, all_can_be_inserted, is_new, one_paired, all_in_pairs}
use Rattle.vm_devices.proofs.device_manager.saved.read_devices.pair_devices.Goals.{
  then-held_ids-count-via-then-held_ids-count,
  then-held_ids-count-via-else-held_ids-count+then-held_ranges-count,
}
use Rattle.vm_devices.proofs.device_manager.saved.read_devices.pair_devices.Goals as goal

pub returns-then-held_ids-count-clause-answer : goal.returns-then-held_ids-count-clause-answer
returns-then-held_ids-count-clause-answer c =
    elim c.then-held_ids-count.branch [
      | then-held_ids-count-via-then-held_ids-count w ↦ (
        refl,
        other_ids_held _ _ _ c.requires c.held_count-held_ranges.ensures.state
            (λ e. w.if-held_ids-count.true (c.held_count-held_ids.ensures.value ∙ e)),
      )
      | then-held_ids-count-via-else-held_ids-count+then-held_ranges-count w ↦ (
        refl,
        other_ranges_held _ _ _ c.requires c.held_count-held_ranges.ensures.state
            (λ e. w.if-held_ranges-count.true (c.held_count-held_ranges.ensures.value ∙ e)),
      )
    ]

pub loop-device-init : goal.loop-device-init
loop-device-init c = none_so_far _ _ _ _ c.new-table.ensures

pub returns-then-not-can_be_inserted-clause-answer : goal.returns-then-not-can_be_inserted-clause-answer
returns-then-not-can_be_inserted-clause-answer c = (
  refl,
  λ a. c.if-not-can_be_inserted.ensures
      (all_can_be_inserted _ _ _ c.requires _ _ c.loop-device.invariant c.device-item.result c.loop-device-test.true c.device-item.is
      c.held_count-held_ranges.ensures.state a),
)

pub insert-requires : goal.insert-requires
insert-requires c =
    is_new _ _ _ c.requires _ _ c.loop-device.invariant c.device-item.result c.loop-device-test.true c.device-item.is
    c.if-not-can_be_inserted.ensures

pub loop-device-preserved : goal.loop-device-preserved
loop-device-preserved c =
    one_paired _ _ _ c.requires _ _ c.loop-device.invariant c.device-item.result c.loop-device-test.true c.device-item.is
    c.if-not-can_be_inserted.ensures _ c.in_ok-insert.ensures.inserted

pub returns-clause-answer : goal.returns-clause-answer
returns-clause-answer c =
    let all : length c.args.devices.now ≤ c.loop-device.device-index = omega (arith, c.loop-device-test.false) in
    all_in_pairs _ _ _ c.requires _ _ c.loop-device.invariant all
    c.held_count-held_ranges.ensures.state (sym c.held_count-held_ids.ensures.value ∙ c.if-held_ids-count.false)
    (sym c.held_count-held_ranges.ensures.value ∙ c.if-held_ranges-count.false)
