-- The machine, and the effect of a line on it. The effect is defined by the relations in the contracts of the
-- libraries.
use Rattle.std.specs.Prelude.{◌≡◌, ◌↔◌, ℕ, Bool, IsTrue, Option, Some, None, Result, Ok, Err, MatchOption, refl}
use Rattle.std.specs.Coded.{Coded, code_by, coded×, coded_option}
use Rattle.vm_ranges.specs.Cases.{Unless}
use Rattle.vm_ranges.specs.Range.{Range, IsRange}
use Rattle.vm_ranges.specs.Address.{AddressState, address_state_code}
use Rattle.vm_ranges.specs.Answer.{Allocates, Frees, Makes}
use Rattle.vm_ranges.specs.Request.{Request, request_for}
use Rattle.vm_ids.specs.Ids.{IdState, id_state_code, IsHeld, MakesIds, AllocatesId, FreesId}
use Rattle.vm_ranges.specs.declared.constraint.AllocPolicy.TheVariants.{FirstMatch, LastMatch, ExactMatch}
use Rattle.vm_ranges.specs.declared.error.Error.{Error}
use Rattle.vm_ranges.specs.declared.error.Error.TheVariants.{InvalidRange}
use Rattle.vm_ids.specs.declared.id_request.IdRequest.TheVariants.{Lowest}
use Rattle.vm_devices.specs.declared.device_slot.DeviceSlot.{DeviceSlot}
use Rattle.vm_devices.specs.Devices.{DeviceState, device_state_code, MakesManager, Reserves, Releases as ReleasesDevice}
use Rattle.vm_lines.specs.Replies.{done_reply, range_reply, id_reply, device_reply}
use Rattle.vm_commands.specs.declared.command.Command.{Command}
use Rattle.vm_commands.specs.declared.command.Command.TheVariants.{Space, First, Last, Exact, Free, Ids, Id, Unid, Has, Manager, Device, Undevice, Malformed}
use Rattle.vm_lines.specs.declared.reply.Reply.{Reply}
use Rattle.vm_lines.specs.declared.reply.Reply.TheVariants.{Held, NoSpace, NoIds, NoManager, NotInLanguage}

-- The space of the last `space` that succeeded, the ids of the last `ids`, and the devices of the last `manager`.
pub record Machine : Type 0 where
  pub space : Option AddressState
  pub ids : Option IdState
  pub devices : Option DeviceState

-- Proof: encodes a machine as the tuple of its fields.
abbrev pub machine_code : Coded Machine
machine_code =
    code_by (Option AddressState × (Option IdState × Option DeviceState))
    (coded× (coded_option address_state_code) (coded× (coded_option id_state_code) (coded_option device_state_code)))
    (λ m. (m.space, (m.ids, m.devices)))
    (λ p. record { space = p.0; ids = p.1.0; devices = p.1.1 })
    (λ _. refl)

-- The machine before the first line.
abbrev pub start : Machine
start = record { space = None; ids = None; devices = None }

-- The new part, or the old part if there is an error.
abbrev pub replaced_if_ok : {A : Type 0} → Result A Error → Option A → Option A
replaced_if_ok (Ok made) old = Some made
replaced_if_ok (Err error) old = old

-- The machine with the new space, or with the old one if there is an error.
abbrev pub with_space : Machine → Result AddressState Error → Machine
with_space old answer = record old { space = replaced_if_ok answer old.space }

-- The machine with the new ids, or with the old ones if there is an error.
abbrev pub with_ids : Machine → Result IdState Error → Machine
with_ids old answer = record old { ids = replaced_if_ok answer old.ids }

-- The machine with the new devices, or with the old ones if there is an error.
abbrev pub with_devices : Machine → Result DeviceState Error → Machine
with_devices old answer = record old { devices = replaced_if_ok answer old.devices }

-- The line needs a part. If the part is absent, the reply is `absent` and nothing changes. Otherwise the call decides
-- the reply and the new part.
abbrev pub OnPart : {S : Type 0} → Option S → (S → Machine) → Reply → Machine → Reply → Machine → (S → S → Type 0) → Type 0
OnPart {S} part put absent old reply new call =
    MatchOption part
    ((reply ≡ absent) × (new ≡ old))
    (λ state. (later : S) × call state later × (new ≡ put later))

-- The line needs a space. If there is one, the call decides the reply and the new space.
unfoldable pub OnSpace : Machine → Reply → Machine → (AddressState → AddressState → Type 0) → Type 0
OnSpace old reply new call = OnPart old.space (λ later. record old { space = Some later }) NoSpace old reply new call

-- The line needs ids. If there are some, the call decides the reply and the new ids.
unfoldable pub OnIds : Machine → Reply → Machine → (IdState → IdState → Type 0) → Type 0
OnIds old reply new call = OnPart old.ids (λ later. record old { ids = Some later }) NoIds old reply new call

-- The line needs a manager. If there is one, the call decides the reply and the new devices.
unfoldable pub OnDevices : Machine → Reply → Machine → (DeviceState → DeviceState → Type 0) → Type 0
OnDevices old reply new call =
    OnPart old.devices (λ later. record old { devices = Some later }) NoManager old reply new call

-- The line allocates a range by a request.
unfoldable pub AllocatesRange : Machine → Request → Reply → Machine → Type 0
AllocatesRange old request reply new =
    OnSpace old reply new (λ state later.
    (answer : Result Range Error) × Allocates state request answer later × (reply ≡ range_reply answer))

-- The result of freeing the range from start to end: InvalidRange if these are not the ends of a range.
unfoldable pub FreesRange : AddressState → ℕ → ℕ → Result (Unit {0}) Error → AddressState → Type 0
FreesRange old start end answer new =
    Unless (IsRange start end)
    ((answer ≡ Err (InvalidRange start end)) × (new ≡ old))
    (Frees old (record { start = start; end = end }) answer new)

-- On the machine old the command can have this reply and leave the machine new.
unfoldable pub Does : Machine → Command → Reply → Machine → Type 0
Does old Malformed reply new = (reply ≡ NotInLanguage) × (new ≡ old)
Does old (Space base size) reply new =
    (answer : Result AddressState Error)
    × Makes base size answer
    × (reply ≡ done_reply answer)
    × (new ≡ with_space old answer)
Does old (First size alignment) reply new =
    AllocatesRange old (request_for size alignment FirstMatch) reply new
Does old (Last size alignment) reply new =
    AllocatesRange old (request_for size alignment LastMatch) reply new
Does old (Exact size alignment start) reply new =
    AllocatesRange old (request_for size alignment (ExactMatch start)) reply new
Does old (Free start end) reply new =
    OnSpace old reply new (λ state later.
    (answer : Result (Unit {0}) Error) × FreesRange state start end answer later × (reply ≡ done_reply answer))
Does old (Ids range_base range_end) reply new =
    (answer : Result IdState Error)
    × MakesIds range_base range_end answer
    × (reply ≡ done_reply answer)
    × (new ≡ with_ids old answer)
Does old Id reply new =
    OnIds old reply new (λ state later.
    (answer : Result ℕ Error) × AllocatesId state answer later × (reply ≡ id_reply answer))
Does old (Unid id) reply new =
    OnIds old reply new (λ state later.
    (answer : Result ℕ Error) × FreesId state id answer later × (reply ≡ id_reply answer))
Does old (Has id) reply new =
    OnIds old reply new (λ state later.
    (held : Bool) × (IsTrue held ↔ IsHeld state id) × (reply ≡ Held held) × (later ≡ state))
Does old (Manager id_lo id_hi base size) reply new =
    (answer : Result DeviceState Error)
    × MakesManager id_lo id_hi base size answer
    × (reply ≡ done_reply answer)
    × (new ≡ with_devices old answer)
Does old (Device size alignment) reply new =
    OnDevices old reply new (λ state later.
    (answer : Result DeviceSlot Error)
    × Reserves state Lowest (request_for size alignment FirstMatch) answer later
    × (reply ≡ device_reply answer))
Does old (Undevice id) reply new =
    OnDevices old reply new (λ state later.
    (answer : Result (Unit {0}) Error) × ReleasesDevice state id answer later × (reply ≡ done_reply answer))
