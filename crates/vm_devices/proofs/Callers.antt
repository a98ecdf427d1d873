-- Facts for callers about reserved devices.
use Rattle.std.proofs.Common.{◌≡◌, ⊎_elim, Result, Ok, Err, IfOk}
use Rattle.vm_ranges.specs.Range.{Overlaps}
use Rattle.vm_ranges.specs.Address.{holding}
use Rattle.vm_ranges.specs.Request.{Request}
use Rattle.vm_ranges.specs.declared.error.Error.{Error}
use Rattle.vm_addresses.proofs.Callers.{allocated_apart}
use Rattle.vm_ids.specs.declared.id_request.IdRequest.{IdRequest}
use Rattle.vm_devices.specs.declared.device_slot.DeviceSlot.{DeviceSlot}
use Rattle.vm_devices.specs.Devices.{DeviceState, IsDevice, IsDeviceState, Reserves, Releases}
use Rattle.vm_devices.proofs.DevicesAgain.{reserved_again}
use Rattle.vm_devices.proofs.DeviceCalls.{reserved_device}
use Rattle.vm_devices.proofs.Tables.{with_here}
-- A saved manager survives its text.
pub use Rattle.vm_devices.proofs.NestedManagers.{manager_through_text}

-- A reserved device is a device of the manager.
pub device_there : (old new : DeviceState) (which : IdRequest) (request : Request) (answer : Result DeviceSlot Error) →
    Reserves old which request answer new → IfOk answer (λ slot. IsDevice new slot.id slot.range)
device_there old new which request (Ok slot) h =
    rw (reserved_device old new which request slot h).placed.left (with_here old.devices slot.id slot.range)
device_there old new which request (Err e) h = tt

-- Two devices that were reserved one after the other share no address.
pub devices_share_none : (old mid new : DeviceState) (which what : IdRequest) (first second : Request) (slot other : DeviceSlot) →
    Reserves old which first (Ok slot) mid → Reserves mid what second (Ok other) new → ¬ Overlaps slot.range other.range
devices_share_none old mid new which what first second slot other h k =
    let d = (reserved_device old mid which first slot h).placed in
    let e = (reserved_device mid new what second other k).placed in
    allocated_apart old.space mid.space (holding other.range mid.space) first second slot.range other.range (rw d.left d.given) e.given

-- A device that is released at once is reserved again by the same request.
pub device_again : (old mid new later : DeviceState) (which : IdRequest) (request : Request) (slot : DeviceSlot)
    (answer : Result DeviceSlot Error) → IsDeviceState old →
    Reserves old which request (Ok slot) mid → Releases mid slot.id (Ok tt) new → Reserves new which request answer later →
    IfOk answer (λ again. again ≡ slot)
device_again old mid new later which request slot (Ok again) i s f t =
    ⊎_elim (λ e. cc (e)) (λ m. absurd (cc (m)))
    (reserved_again old mid new later which request slot (Ok tt) (Ok again) i s f (λ e. cc (e)) t)
device_again old mid new later which request slot (Err e) i s f t = tt

-- A request of the state reserves this device or fails. The two lemmas share the work of `device_again`, as those of
-- `FitsAgain` do.
pub record DeviceFitsAgain (which : IdRequest) (request : Request) (slot : DeviceSlot) (state : DeviceState) : Type 0 where
  pub by : (later : DeviceState) (answer : Result DeviceSlot Error) → Reserves state which request answer later →
      IfOk answer (λ again. again ≡ slot)

-- After a device is released, its request fits again.
pub released_fits_again : (old mid new : DeviceState) (which : IdRequest) (request : Request) (slot : DeviceSlot) → IsDeviceState old →
    Reserves old which request (Ok slot) mid → Releases mid slot.id (Ok tt) new → DeviceFitsAgain which request slot new
released_fits_again old mid new which request slot i s f = record
    { by = λ later answer h. device_again old mid new later which request slot answer i s f h }

-- A request that fits again reserves the same device.
pub fits_again_is_reserved : (new later : DeviceState) (which : IdRequest) (request : Request) (slot : DeviceSlot)
    (answer : Result DeviceSlot Error) →
    DeviceFitsAgain which request slot new → Reserves new which request answer later → IfOk answer (λ again. again ≡ slot)
fits_again_is_reserved new later which request slot answer i h = i.by later answer h

pub ruleset callers = (device_there, devices_share_none, released_fits_again, fits_again_is_reserved)
