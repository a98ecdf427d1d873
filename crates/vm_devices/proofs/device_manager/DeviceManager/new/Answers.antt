-- A new manager has no device, no held id and no held range. The prover does not join the two lemmas on its state.
use Rattle.std.proofs.Common.{arith}
use Rattle.vm_devices.proofs.DeviceCalls.{manager_made, made_state}
use Rattle.vm_devices.proofs.device_manager.DeviceManager.new.Goals as goal

pub invariant_of-result : goal.invariant_of-result
invariant_of-result c =
    (made_state c.args.id_lo c.args.id_hi c.args.base c.args.size _ (omega (arith, c.ranges.id_hi.fits)) (omega (arith, c.ranges.size.fits))
    (manager_made _ _ _ _ _ _ _ c.in_ok-id_allocator.ensures.answer c.in_ok-mmio_allocator.ensures.answer c.new-3.ensures)).0

pub returns-clause-state : goal.returns-clause-state
returns-clause-state c = invariant_of-result c
