-- Equal allocators and equal lists of devices are equal managers. The lemma on lists takes a function, which the prover does not find.
use Rattle.std.proofs.Common.{ap, refl, arith}
use Rattle.std.proofs.lemmas.Bool.{both_ways}
use Rattle.vm_addresses.proofs.Comparing.Items.{same_items}
use Rattle.vm_devices.specs.Devices.{DeviceState}
use Rattle.vm_devices.specs.Manager.{device_state}
use Rattle.vm_devices.proofs.WrittenManagers.{tested, tested_by_order}
use Rattle.vm_devices.proofs.device_manager.comparing.DeviceManagerPartialEq.eq.Goals as goal

pub returns-then-has_allocators_of-clause-equal : goal.returns-then-has_allocators_of-clause-equal
returns-then-has_allocators_of-clause-equal c =
    tested (device_state c.args.self.now) (device_state c.args.other.now) c.eq.result (c.if-has_allocators_of.ensures.same.0 refl)
    (rw (← c.devices.ensures, ← c.devices-then-has_allocators_of.ensures) (same_items _ (λ x y. grind arith) _ _ _ c.eq.ensures.ran))

pub returns-then-has_allocators_of-clause-order : goal.returns-then-has_allocators_of-clause-order
returns-then-has_allocators_of-clause-order c =
    tested_by_order _ _ c.eq.result c.has_allocators_of.ensures.valid.0 c.has_allocators_of.ensures.valid.1
    (returns-then-has_allocators_of-clause-equal c)

pub returns-else-has_allocators_of-clause-order : goal.returns-else-has_allocators_of-clause-order
returns-else-has_allocators_of-clause-order c =
    tested_by_order _ _ c.has_allocators_of.result c.has_allocators_of.ensures.valid.0 c.has_allocators_of.ensures.valid.1 (
      λ t. absurd (both_ways _ c.if-has_allocators_of.false t),
      λ e. c.has_allocators_of.ensures.same.1 (ap (λ (v : DeviceState). v.ids) e, ap (λ (v : DeviceState). v.space) e),
    )
