-- Each line has a reply, so each input has an output.
use Rattle.std.proofs.Common.{◌≡◌, ◌≢◌, ℕ, List, [], ◌∷◌, ◌++◌, refl, ap, inl, inr, ⊎_elim, Option, Some, None, Result, Ok, Err}
use Rattle.std.specs.FinSet as set
use Rattle.vm_ranges.specs.Range.{Range, IsRange}
use Rattle.vm_ranges.specs.Address.{AddressState}
use Rattle.vm_ids.specs.Ids.{IdState}
use Rattle.vm_ranges.specs.Request.{Request, request_for}
use Rattle.vm_ranges.specs.declared.constraint.AllocPolicy.TheVariants.{FirstMatch, LastMatch, ExactMatch}
use Rattle.vm_ranges.specs.declared.error.Error.{Error}
use Rattle.vm_ranges.specs.declared.error.Error.TheVariants.{InvalidRange, OutOfMemory}
use Rattle.vm_commands.specs.Commands.{command_of}
use Rattle.vm_lines.specs.Laws.{HasReply, HasText, AreAnsweredInMemory}
use Rattle.vm_commands.specs.Lines.{newline}
use Rattle.vm_devices.specs.declared.device_slot.DeviceSlot.{DeviceSlot}
use Rattle.vm_ids.specs.declared.id_request.IdRequest.TheVariants.{Lowest}
use Rattle.vm_devices.specs.Devices.{DeviceState}
use Rattle.vm_devices.specs.Histories.{Reserve, Release}
use Rattle.vm_devices.proofs.EveryDeviceCall.{every_device_call}
use Rattle.vm_addresses.specs.Histories.AddressHistories.{Allocate, Free as FreeRange}
use Rattle.vm_addresses.proofs.Results.EveryAddressCall.{every_call}
use Rattle.vm_ids.specs.Histories.IdHistories.{Allocate as AllocateId, Free as FreeId}
use Rattle.vm_ids.proofs.Ids.EveryIdCall.{every_call as every_id_call}
use Rattle.vm_lines.specs.Machines.{Machine, start, with_space, with_ids, with_devices, OnPart, OnSpace, OnIds, OnDevices, FreesRange, AllocatesRange, Does}
use Rattle.vm_lines.specs.Replies.{text_of, done_reply, range_reply, id_reply, device_reply}
use Rattle.vm_lines.specs.Runs.{AreAnswered}
use Rattle.vm_commands.specs.declared.command.Command.{Command}
use Rattle.vm_commands.specs.declared.command.Command.TheVariants.{Space, First, Last, Exact, Free, Ids, Id, Unid, Has, Manager, Device, Undevice, Malformed}
use Rattle.vm_lines.specs.declared.reply.Reply.{Reply}
use Rattle.vm_lines.specs.declared.reply.Reply.TheVariants.{Held, Failed, NoSpace, NoIds, NoManager, NotInLanguage}
use Rattle.vm_addresses.proofs.Decisions.{decided_range}

-- One line.

-- The relation is true for some result other than OutOfMemory and some next state.
abbrev IsAnswered : {A S : Type 0} → (Result A Error → S → Type 0) → Type 0
IsAnswered {A} {S} allowed =
    (answer : Result A Error) × (new : S) × allowed answer new × (answer ≢ Err OutOfMemory)

-- Freeing has a result for all ends, also if they are not those of a range.
frees_range : (old : AddressState) (start end : ℕ) → IsAnswered (FreesRange old start end)
unfolding FreesRange
frees_range old start end =
    ⊎_elim
    (λ (range : IsRange start end).
    let freed = every_call.called old (FreeRange (record { start = start; end = end })) in
    (freed.0, freed.1, inr (range, freed.2), freed.3))
    (λ (none : IsRange start end → ⊥). (Err (InvalidRange start end), old, inl (none, (refl, refl)), λ e. cc e))
    (decided_range start end)

-- The relation is true for some reply, other than that memory ran out, and some next state.
abbrev IsReplied : {S : Type 0} → (Reply → S → Type 0) → Type 0
IsReplied {S} allowed = (reply : Reply) × (new : S) × allowed reply new × (reply ≢ Failed OutOfMemory)

-- The reply to another error is not that memory ran out.
plain_refused : (e : Error) {A : Type 0} → (let answer : Result A Error = Err e in answer ≢ Err OutOfMemory)
    → Failed e ≢ Failed OutOfMemory
plain_refused e {A} plain same = let told : e ≡ OutOfMemory = cc in plain
    (ap (λ (f : Error). let answer : Result A Error = Err f in answer) told)

-- If the result is not OutOfMemory, the reply is not that memory ran out.
plain_done : {A : Type 0} (answer : Result A Error) → answer ≢ Err OutOfMemory → done_reply answer ≢ Failed OutOfMemory
plain_done (Ok value) plain = λ e. cc
plain_done {A} (Err e) plain = plain_refused e {A = A} plain

plain_given : (answer : Result Range Error) → answer ≢ Err OutOfMemory → range_reply answer ≢ Failed OutOfMemory
plain_given (Ok range) plain = λ e. cc
plain_given (Err e) plain = plain_refused e {A = Range} plain

plain_id : (answer : Result ℕ Error) → answer ≢ Err OutOfMemory → id_reply answer ≢ Failed OutOfMemory
plain_id (Ok id) plain = λ e. cc
plain_id (Err e) plain = plain_refused e {A = ℕ} plain

plain_device : (answer : Result DeviceSlot Error) → answer ≢ Err OutOfMemory → device_reply answer ≢ Failed OutOfMemory
plain_device (Ok slot) plain = λ e. cc
plain_device (Err e) plain = plain_refused e {A = DeviceSlot} plain

-- A call that has a result has a reply.
replied : {A S : Type 0} (tell : Result A Error → Reply)
    → ((answer : Result A Error) → answer ≢ Err OutOfMemory → tell answer ≢ Failed OutOfMemory)
    → (call : Result A Error → S → Type 0) → IsAnswered call
    → IsReplied (λ reply new. (answer : Result A Error) × call answer new × (reply ≡ tell answer))
replied tell plain call h = (tell h.0, h.1, (h.0, h.2, refl), plain h.0 h.3)

-- A line on a part that can be absent has a reply.
on_part : {S : Type 0} (part : Option S) (put : S → Machine) (old : Machine) (absent : Reply)
    → absent ≢ Failed OutOfMemory → (call : Reply → S → S → Type 0)
    → ((state : S) → IsReplied (λ reply later. call reply state later))
    → IsReplied (λ reply new. OnPart part put absent old reply new (call reply))
on_part None put old absent plain call each = (absent, old, (refl, refl), plain)
on_part (Some state) put old absent plain call each = let h = each state in (h.0, put h.1, (h.1, h.2, refl), h.3)

-- A line on the space has a reply if the call has one.
on_space : (old : Machine) (call : Reply → AddressState → AddressState → Type 0)
    → ((state : AddressState) → IsReplied (λ reply later. call reply state later))
    → IsReplied (λ reply new. OnSpace old reply new (call reply))
unfolding OnSpace
on_space old call each = on_part old.space (λ s. record old { space = Some s }) old NoSpace (λ e. cc) call each

-- A line on the ids has a reply if the call has one.
on_ids : (old : Machine) (call : Reply → IdState → IdState → Type 0)
    → ((state : IdState) → IsReplied (λ reply later. call reply state later))
    → IsReplied (λ reply new. OnIds old reply new (call reply))
unfolding OnIds
on_ids old call each = on_part old.ids (λ s. record old { ids = Some s }) old NoIds (λ e. cc) call each

-- A line on the devices has a reply if the call has one.
on_devices : (old : Machine) (call : Reply → DeviceState → DeviceState → Type 0)
    → ((state : DeviceState) → IsReplied (λ reply later. call reply state later))
    → IsReplied (λ reply new. OnDevices old reply new (call reply))
unfolding OnDevices
on_devices old call each = on_part old.devices (λ s. record old { devices = Some s }) old NoManager (λ e. cc) call each

-- A line that allocates a range has a reply.
places_replied : (old : Machine) (request : Request) → IsReplied (λ reply new. AllocatesRange old request reply new)
unfolding AllocatesRange
places_replied old request =
    on_space old _ (λ state. replied range_reply plain_given _ (every_call.called state (Allocate request)))

-- Each command has a reply.
does_replied : (command : Command) (old : Machine) → IsReplied (λ reply new. Does old command reply new)
unfolding Does
does_replied Malformed old = (NotInLanguage, old, (refl, refl), λ e. cc)
does_replied (Space base size) old =
    let h = every_call.made base size in
    (done_reply h.0, with_space old h.0, (h.0, h.1, refl, refl), plain_done h.0 h.2)
does_replied (First size alignment) old = places_replied old (request_for size alignment FirstMatch)
does_replied (Last size alignment) old = places_replied old (request_for size alignment LastMatch)
does_replied (Exact size alignment start) old = places_replied old (request_for size alignment (ExactMatch start))
does_replied (Free start end) old =
    on_space old _ (λ state. replied done_reply plain_done _ (frees_range state start end))
does_replied (Ids range_base range_end) old =
    let h = every_id_call.made range_base range_end in
    (done_reply h.0, with_ids old h.0, (h.0, h.1, refl, refl), plain_done h.0 h.2)
does_replied Id old = on_ids old _ (λ state. replied id_reply plain_id _ (every_id_call.called state AllocateId))
does_replied (Unid id) old = on_ids old _ (λ state. replied id_reply plain_id _ (every_id_call.called state (FreeId id)))
does_replied (Has id) old =
    on_ids old _ (λ state. let held = set.contains state.held id in (Held held, state, (held, (λ h. h, λ h. h), refl, refl), λ e. cc))
does_replied (Manager id_lo id_hi base size) old =
    let h = every_device_call.made id_lo id_hi base size in
    (done_reply h.0, with_devices old h.0, (h.0, h.1, refl, refl), plain_done h.0 h.2)
does_replied (Device size alignment) old =
    on_devices old _ (λ state. replied device_reply plain_device _
    (every_device_call.called state (Reserve Lowest (request_for size alignment FirstMatch))))
does_replied (Undevice id) old =
    on_devices old _ (λ state. replied done_reply plain_done _ (every_device_call.called state (Release id)))

-- Several lines.

-- Several lines have an output, with and without enough memory.
lines_answered : (lines : List (List ℕ)) (old : Machine)
    → (text : List ℕ) × (new : Machine) × AreAnswered old lines text new × AreAnsweredInMemory old lines text new
lines_answered [] old = ([], old, (refl, refl), (refl, refl))
lines_answered (line ∷ lines) old =
    let h = does_replied (command_of line) old in
    let rest = lines_answered lines h.1 in
    (text_of h.0 ++ newline ∷ rest.0, rest.1, (h.0, h.1, rest.0, h.2, rest.2, refl), (h.0, h.1, rest.0, h.2, h.3, rest.3, refl))

-- Each line has a reply.
pub has_reply : HasReply
unfolding HasReply
has_reply old line = does_replied (command_of line) old

-- Each input has an output.
pub has_text : HasText
unfolding HasText
has_text lines = let h = lines_answered lines start in (h.0, (h.1, h.2), (h.1, h.3))
