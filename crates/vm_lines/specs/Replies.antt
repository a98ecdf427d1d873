-- The replies to lines, and their text.
use Rattle.std.specs.Prelude.{ℕ, if◌then◌else◌, List, ◌∷◌, ◌++◌, codes, decimal, Result, Ok, Err}
use Rattle.vm_ranges.specs.Range.{Range}
use Rattle.vm_ranges.specs.declared.error.Error.{Error}
use Rattle.vm_ranges.specs.declared.error.Error.TheVariants.{
  Overflow,
  OutOfRange,
  AlreadyReleased,
  NeverAllocated,
  ResourceNotAvailable,
  InvalidRange,
  InvalidAlignment,
  Overlap,
  InvalidStateTransition,
  UnalignedAddress,
  Underflow,
  InvalidSize,
  OutOfMemory,
}
use Rattle.vm_devices.specs.declared.device_slot.DeviceSlot.{DeviceSlot}
use Rattle.vm_commands.specs.Words.{blank_byte}
use Rattle.vm_lines.specs.declared.reply.Reply.{Reply}
use Rattle.vm_lines.specs.declared.reply.Reply.TheVariants.{Done, Given, Id, Held, Device, Failed, NoSpace, NoIds, NoManager, NotInLanguage}

-- Two numbers with a blank between them.
abbrev pub pair_text : ℕ → ℕ → List ℕ
pair_text first second = decimal first ++ blank_byte ∷ decimal second

-- The text of a device: its id and its range.
abbrev pub device_text : DeviceSlot → List ℕ
device_text slot = codes "device " ++ decimal slot.id ++ blank_byte ∷ pair_text slot.range.start slot.range.end

-- The text of an error. No call returns Overlap.
abbrev pub error_text : Error → List ℕ
error_text Overflow = codes "error overflow"
error_text (OutOfRange id) = codes "error out-of-range " ++ decimal id
error_text (AlreadyReleased id) = codes "error already-released " ++ decimal id
error_text (NeverAllocated id) = codes "error never-allocated " ++ decimal id
error_text ResourceNotAvailable = codes "error not-available"
error_text (InvalidRange start end) = codes "error invalid-range " ++ pair_text start end
error_text InvalidAlignment = codes "error invalid-alignment"
error_text (Overlap new met) = codes "error overlap"
error_text (InvalidStateTransition slot state) = codes "error state " ++ pair_text slot.start slot.end
error_text UnalignedAddress = codes "error unaligned"
error_text Underflow = codes "error underflow"
error_text (InvalidSize size) = codes "error invalid-size " ++ decimal size
error_text OutOfMemory = codes "error memory"

-- The text of a reply.
abbrev pub text_of : Reply → List ℕ
text_of Done = codes "done"
text_of (Given range) = codes "range " ++ pair_text range.start range.end
text_of (Id id) = codes "id " ++ decimal id
text_of (Held held) = if held then codes "yes" else codes "no"
text_of (Device slot) = device_text slot
text_of (Failed error) = error_text error
text_of NoSpace = codes "error no-space"
text_of NoIds = codes "error no-ids"
text_of NoManager = codes "error no-manager"
text_of NotInLanguage = codes "error line"

-- The reply to a call that returns nothing.
abbrev pub done_reply : {A : Type 0} → Result A Error → Reply
done_reply (Ok value) = Done
done_reply (Err error) = Failed error

-- The reply to a call that returns a range.
abbrev pub range_reply : Result Range Error → Reply
range_reply (Ok range) = Given range
range_reply (Err error) = Failed error

-- The reply to a call that returns an id.
abbrev pub id_reply : Result ℕ Error → Reply
id_reply (Ok id) = Id id
id_reply (Err error) = Failed error

-- The reply to a call that returns a device.
abbrev pub device_reply : Result DeviceSlot Error → Reply
device_reply (Ok slot) = Device slot
device_reply (Err error) = Failed error
