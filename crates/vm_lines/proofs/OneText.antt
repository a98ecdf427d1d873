-- Lines have one output and leave one machine, if memory suffices.
use Rattle.std.proofs.Common.{◌≡◌, ◌≢◌, ℕ, ◌↔◌, Bool, true, false, List, [], ◌∷◌, ◌++◌, refl, sym, ap, ◌∙◌, subst, Option, Some, None, Result, Err}
use Rattle.std.specs.Prelude.{IsTrue}
use Rattle.vm_ranges.specs.Address.{AddressState}
use Rattle.vm_ranges.specs.Request.{Request, request_for}
use Rattle.vm_ids.specs.Ids.{IdState, IsHeld}
use Rattle.vm_ranges.specs.declared.constraint.AllocPolicy.TheVariants.{FirstMatch, LastMatch, ExactMatch}
use Rattle.vm_ranges.specs.declared.error.Error.{Error}
use Rattle.vm_ranges.specs.declared.error.Error.TheVariants.{OutOfMemory}
use Rattle.vm_ranges.proofs.TwoFacts.{unless_same}
use Rattle.vm_addresses.proofs.Results.Once.{frees_once}
use Rattle.vm_addresses.proofs.Results.InMemory.{placed_once, made_once}
use Rattle.vm_ids.proofs.Ids.IdResults.{making_is_determined, allocating_is_determined}
use Rattle.vm_ids.proofs.Ids.SameIdCalls.{id_calls_are_determined}
use Rattle.vm_ids.specs.Histories.IdHistories.{Free as FreeId}
use Rattle.vm_commands.specs.Commands.{command_of}
use Rattle.vm_commands.specs.Lines.{newline}
use Rattle.vm_ids.specs.declared.id_request.IdRequest.TheVariants.{Lowest}
use Rattle.vm_devices.specs.Devices.{DeviceState}
use Rattle.vm_devices.specs.Histories.{Reserve, Release}
use Rattle.vm_devices.proofs.DevicesOnce.{devices_decide}
use Rattle.vm_lines.specs.Machines.{Machine, start, with_space, with_ids, with_devices, OnPart, OnSpace, OnIds, OnDevices, AllocatesRange, FreesRange, Does}
use Rattle.vm_lines.specs.Replies.{text_of, done_reply, range_reply, id_reply, device_reply}
use Rattle.vm_lines.specs.Laws.{AreAnsweredInMemory, OneText}
use Rattle.vm_commands.specs.declared.command.Command.{Command}
use Rattle.vm_commands.specs.declared.command.Command.TheVariants.{Space, First, Last, Exact, Free, Ids, Id, Unid, Has, Manager, Device, Undevice, Malformed}
use Rattle.vm_lines.specs.declared.reply.Reply.{Reply}
use Rattle.vm_lines.specs.declared.reply.Reply.TheVariants.{Held, Failed, NoSpace, NoIds, NoManager}

-- Replies.

-- The reply to OutOfMemory is that memory ran out.
not_memory : {A : Type 0} (tell : Result A Error → Reply) (reply : Reply) (answer : Result A Error)
    → tell (Err OutOfMemory) ≡ Failed OutOfMemory → reply ≡ tell answer → reply ≢ Failed OutOfMemory
    → answer ≢ Err OutOfMemory
not_memory tell reply answer told is plain e = plain (is ∙ ap tell e ∙ told)

-- A result has one reply.
same_outcome : {A : Type 0} (tell : Result A Error → Reply) (x y : Reply) (answer other : Result A Error) → x ≡ tell answer
    → y ≡ tell other → answer ≡ other → x ≡ y
same_outcome tell x y answer other p q e = p ∙ ap tell e ∙ sym q

-- Freeing a range has one result and leaves one state.
released_once : (old m n : AddressState) (start end : ℕ) (x y : Result (Unit {0}) Error) → FreesRange old start end x m
    → FreesRange old start end y n → (x ≡ y) × (m ≡ n)
unfolding FreesRange
released_once old m n start end x y a b =
    unless_same _ _ _ _ _ a b (λ u v. (u.0 ∙ sym v.0, u.1 ∙ sym v.1)) (frees_once old m n (record { start = start; end = end }) x y)

-- Whether an id is held has one result.
outcome_once : (state : IdState) (id : ℕ) (held other : Bool) → IsTrue held ↔ IsHeld state id → IsTrue other ↔ IsHeld state id →
    held ≡ other
outcome_once state id true true p q = refl
outcome_once state id true false p q = absurd (cc (q.1 (p.0 refl)))
outcome_once state id false true p q = absurd (cc (p.1 (q.0 refl)))
outcome_once state id false false p q = refl

-- One line.

-- Both replies and both machines are equal.
abbrev Agree : Reply → Machine → Reply → Machine → Type 0
Agree x m y n = (x ≡ y) × (m ≡ n)

-- The effect of a line on a part is determined if the call on that part is determined.
part_once : {S : Type 0} (part : Option S) (put : S → Machine) (old m n : Machine) (absent x y : Reply) (call other : S → S → Type 0)
    → ((state later after : S) → call state later → other state after → (x ≡ y) × (later ≡ after))
    → OnPart part put absent old x m call → OnPart part put absent old y n other → Agree x m y n
part_once None put old m n absent x y call other once a b = (a.0 ∙ sym b.0, a.1 ∙ sym b.1)
part_once (Some state) put old m n absent x y call other once a b =
    let same = once state a.0 b.0 a.1 b.1 in
    (same.0, a.2 ∙ ap put same.1 ∙ sym b.2)

-- The effect of a line on the space is determined if the call is.
on_space_once : (old m n : Machine) (x y : Reply) (call other : AddressState → AddressState → Type 0)
    → ((state later after : AddressState) → call state later → other state after → (x ≡ y) × (later ≡ after))
    → OnSpace old x m call → OnSpace old y n other → Agree x m y n
unfolding OnSpace
on_space_once old m n x y call other once a b =
    part_once old.space (λ s. record old { space = Some s }) old m n NoSpace x y call other once a b

-- The effect of a line on the ids is determined if the call is.
on_ids_once : (old m n : Machine) (x y : Reply) (call other : IdState → IdState → Type 0)
    → ((state later after : IdState) → call state later → other state after → (x ≡ y) × (later ≡ after))
    → OnIds old x m call → OnIds old y n other → Agree x m y n
unfolding OnIds
on_ids_once old m n x y call other once a b =
    part_once old.ids (λ s. record old { ids = Some s }) old m n NoIds x y call other once a b

-- The effect of a line on the devices is determined if the call is.
on_devices_once : (old m n : Machine) (x y : Reply) (call other : DeviceState → DeviceState → Type 0)
    → ((state later after : DeviceState) → call state later → other state after → (x ≡ y) × (later ≡ after))
    → OnDevices old x m call → OnDevices old y n other → Agree x m y n
unfolding OnDevices
on_devices_once old m n x y call other once a b =
    part_once old.devices (λ s. record old { devices = Some s }) old m n NoManager x y call other once a b

-- A line that allocates a range has one reply, if memory suffices.
places_once : (old m n : Machine) (request : Request) (x y : Reply) → x ≢ Failed OutOfMemory
    → y ≢ Failed OutOfMemory → AllocatesRange old request x m → AllocatesRange old request y n → Agree x m y n
unfolding AllocatesRange
places_once old m n request x y p q a b =
    on_space_once old m n x y _ _ (λ state later after u v.
    let same = placed_once state later after request u.0 v.0 (not_memory range_reply x u.0 refl u.2 p)
    (not_memory range_reply y v.0 refl v.2 q) u.1 v.1 in
    (same_outcome range_reply x y u.0 v.0 u.2 v.2 same.0, same.1)) a b

-- A line has one reply and leaves one machine.
does_once : (command : Command) (old m n : Machine) (x y : Reply) → x ≢ Failed OutOfMemory
    → y ≢ Failed OutOfMemory → Does old command x m → Does old command y n → Agree x m y n
unfolding Does
does_once Malformed old m n x y p q a b = (a.0 ∙ sym b.0, a.1 ∙ sym b.1)
does_once (Space base size) old m n x y p q a b =
    let e = made_once base size a.0 b.0 (not_memory done_reply x a.0 refl a.2 p) (not_memory done_reply y b.0 refl b.2 q) a.1 b.1 in
    (same_outcome done_reply x y a.0 b.0 a.2 b.2 e, a.3 ∙ ap (with_space old) e ∙ sym b.3)
does_once (First size alignment) old m n x y p q a b = places_once old m n (request_for size alignment FirstMatch) x y p q a b
does_once (Last size alignment) old m n x y p q a b = places_once old m n (request_for size alignment LastMatch) x y p q a b
does_once (Exact size alignment start) old m n x y p q a b = places_once old m n (request_for size alignment (ExactMatch start)) x y p q a b
does_once (Free start end) old m n x y p q a b =
    on_space_once old m n x y _ _ (λ state later after u v.
    let same = released_once state later after start end u.0 v.0 u.1 v.1 in
    (same_outcome done_reply x y u.0 v.0 u.2 v.2 same.0, same.1)) a b
does_once (Ids range_base range_end) old m n x y p q a b =
    let e = making_is_determined range_base range_end a.0 b.0 a.1 b.1 in
    (same_outcome done_reply x y a.0 b.0 a.2 b.2 e, a.3 ∙ ap (with_ids old) e ∙ sym b.3)
does_once Id old m n x y p q a b =
    on_ids_once old m n x y _ _ (λ state later after u v.
    let same = allocating_is_determined state later after u.0 v.0 u.1 v.1 in
    (same_outcome id_reply x y u.0 v.0 u.2 v.2 same.0, same.1)) a b
does_once (Unid id) old m n x y p q a b =
    on_ids_once old m n x y _ _ (λ state later after u v.
    let same = id_calls_are_determined state later after (FreeId id) u.0 v.0 (not_memory id_reply x u.0 refl u.2 p)
    (not_memory id_reply y v.0 refl v.2 q) u.1 v.1 in
    (same_outcome id_reply x y u.0 v.0 u.2 v.2 same.0, same.1)) a b
does_once (Has id) old m n x y p q a b =
    on_ids_once old m n x y _ _ (λ state later after u v.
    (u.2 ∙ ap Held (outcome_once state id u.0 v.0 u.1 v.1) ∙ sym v.2, u.3 ∙ sym v.3)) a b
does_once (Manager id_lo id_hi base size) old m n x y p q a b =
    let e = devices_decide.made id_lo id_hi base size a.0 b.0 (not_memory done_reply x a.0 refl a.2 p)
    (not_memory done_reply y b.0 refl b.2 q) a.1 b.1 in
    (same_outcome done_reply x y a.0 b.0 a.2 b.2 e, a.3 ∙ ap (with_devices old) e ∙ sym b.3)
does_once (Device size alignment) old m n x y p q a b =
    on_devices_once old m n x y _ _ (λ state later after u v.
    let same = devices_decide.called state later after (Reserve Lowest (request_for size alignment FirstMatch)) u.0 v.0
    (not_memory device_reply x u.0 refl u.2 p) (not_memory device_reply y v.0 refl v.2 q) u.1 v.1 in
    (same_outcome device_reply x y u.0 v.0 u.2 v.2 same.0, same.1)) a b
does_once (Undevice id) old m n x y p q a b =
    on_devices_once old m n x y _ _ (λ state later after u v.
    let same = devices_decide.called state later after (Release id) u.0 v.0 (not_memory done_reply x u.0 refl u.2 p)
    (not_memory done_reply y v.0 refl v.2 q) u.1 v.1 in
    (same_outcome done_reply x y u.0 v.0 u.2 v.2 same.0, same.1)) a b

-- Several lines.

-- On each machine these lines have one output, and leave one machine.
answered_once : (lines : List (List ℕ)) (old new end : Machine) (text other : List ℕ)
    → AreAnsweredInMemory old lines text new → AreAnsweredInMemory old lines other end → (text ≡ other) × (new ≡ end)
answered_once [] old new end text other a b = (a.0 ∙ sym b.0, a.1 ∙ sym b.1)
answered_once (line ∷ lines) old new end text other a b =
    let same = does_once (command_of line) old a.1 b.1 a.0 b.0 a.4 b.4 a.3 b.3 in
    let after = answered_once lines b.1 new end a.2 b.2 (subst (λ (m : Machine). AreAnsweredInMemory m lines a.2 new) same.1 a.5) b.5 in
    let told : text_of a.0 ++ newline ∷ a.2 ≡ text_of b.0 ++ newline ∷ b.2 = cc in
    (a.6 ∙ told ∙ sym b.6, after.1)

-- Each input has one output, if memory suffices.
pub one_text : OneText
unfolding OneText
one_text lines text other new end a b = answered_once lines start new end text other a b
