-- A call of a manager has one result, if memory suffices.
use Rattle.std.proofs.Common.{◌≡◌, ◌≢◌, ℕ, sym, ap, ◌∙◌, arith, inl, inr, ◌⊎◌, ⊎_elim, subst, Option, Some, None, MatchOption, Result, Ok, Err}
use Rattle.vm_ranges.specs.Range.{Range}
use Rattle.vm_ranges.specs.Request.{Request}
use Rattle.vm_ranges.specs.Address.{AddressState}
use Rattle.vm_ids.specs.Ids.{IdState}
use Rattle.vm_ranges.specs.declared.error.Error.{Error}
use Rattle.vm_ranges.specs.declared.error.Error.TheVariants.{NeverAllocated, OutOfMemory}
use Rattle.vm_addresses.specs.Moves.{MovesRange}
use Rattle.vm_addresses.proofs.Histories.MoveSteps.{moves_once}
use Rattle.vm_addresses.proofs.Results.InMemory.{placed_once, made_once}
use Rattle.vm_ids.specs.declared.id_request.IdRequest.{IdRequest}
use Rattle.vm_ids.proofs.Ids.IdResults.{making_is_determined}
use Rattle.vm_ids.proofs.Ids.PeekedIds.{peeks_once}
use Rattle.vm_devices.specs.declared.device_slot.DeviceSlot.{DeviceSlot}
use Rattle.vm_devices.specs.Devices.{DeviceState, made_devices, MakesManager, Pairs, Reserves, ReservesFor, Releases, Replaces, MovesDevice}
use Rattle.vm_ranges.specs.Histories.{ErrorsChangeNothing, CallsAreDetermined, SameCallsSameResults}
use Rattle.vm_ranges.proofs.Clones.{cloning_keeps, clones_once}
use Rattle.vm_ranges.proofs.Histories.{same_results}
use Rattle.vm_devices.specs.Histories.{Reserve, Release, Move, Clone, IsDeviceCallFrom}
use Rattle.vm_devices.specs.Laws.{DevicesDecide}
use Rattle.std.specs.FinMap as map
use Rattle.vm_devices.proofs.DeviceMoves.{moving_unchanged}
use Rattle.vm_devices.proofs.DeviceCalls.{reserving_unchanged, releasing_outcome}

-- Creating has one result if that for the space has.
made_with : (ids : Result IdState Error) (x y : Result AddressState Error) (answer other : Result DeviceState Error) →
    answer ≢ Err OutOfMemory → other ≢ Err OutOfMemory →
    (x ≢ Err OutOfMemory → y ≢ Err OutOfMemory → x ≡ y) → answer ≡ made_devices ids x → other ≡ made_devices ids y → answer ≡ other
made_with (Err e) x y answer other p q same a b = a ∙ sym b
made_with (Ok ids) x y answer other p q same a b =
    let tell = made_devices (Ok ids) in
    a ∙ ap tell (same (λ e. p (a ∙ ap tell e)) (λ e. q (b ∙ ap tell e))) ∙ sym b

-- Creating a manager has one result.
manager_once : (lo hi base size : ℕ) (answer other : Result DeviceState Error) → answer ≢ Err OutOfMemory → other ≢ Err OutOfMemory →
    MakesManager lo hi base size answer →
    MakesManager lo hi base size other → answer ≡ other
unfolding MakesManager
manager_once lo hi base size answer other p q a b =
    made_with a.0 a.1 b.1 answer other p q (λ x y. made_once base size a.1 b.1 x y a.3 b.3) a.4
    (rw (making_is_determined lo hi a.0 b.0 a.2 b.2) b.4)

-- Two results for one id, and the states that they leave.
module _ (old new later : DeviceState) (id : ℕ) (answer other : Result DeviceSlot Error) (p : answer ≢ Err OutOfMemory)
    (q : other ≢ Err OutOfMemory) where
  pairs_same : (given : Result Range Error) → Pairs old id given answer new → Pairs old id given other later →
      (answer ≡ other) × (new ≡ later)
  pairs_same given a b = grind arith

  -- A reservation has one result if that for the range has.
  pairs_once : (given again : Result Range Error) → (given ≢ Err OutOfMemory → again ≢ Err OutOfMemory → given ≡ again) →
      Pairs old id given answer new → Pairs old id again other later → (answer ≡ other) × (new ≡ later)
  pairs_once given again same a b =
      let one = same (λ e. p (rw e at a).0) (λ e. q (rw e at b).0) in
      pairs_same again (rw one at a) b

-- A reservation for an id has one result and one next state.
once_for : (old new later : DeviceState) (request : Request) (id : Result ℕ Error) (answer other : Result DeviceSlot Error) →
    answer ≢ Err OutOfMemory → other ≢ Err OutOfMemory →
    ReservesFor old request id answer new → ReservesFor old request id other later → (answer ≡ other) × (new ≡ later)
once_for old new later request (Err e) answer other p q u v = (u.0 ∙ sym v.0, u.1 ∙ sym v.1)
once_for old new later request (Ok id) answer other p q u v =
    pairs_once old new later id answer other p q u.0 v.0 (λ x y. (placed_once old.space u.1 v.1 request u.0 v.0 x y u.2 v.2).0) u.3 v.3

-- A reservation has one result and one next state.
reserved_once : (old new later : DeviceState) (which : IdRequest) (request : Request) (answer other : Result DeviceSlot Error) →
    answer ≢ Err OutOfMemory → other ≢ Err OutOfMemory →
    Reserves old which request answer new → Reserves old which request other later → (answer ≡ other) × (new ≡ later)
unfolding Reserves
reserved_once old new later which request answer other p q a b =
    let same = peeks_once old.ids which a.0 b.0 a.1 b.1 in
    once_for old new later request b.0 answer other p q
    (subst (λ (id : Result ℕ Error). ReservesFor old request id answer new) same a.2) b.2

-- A release has one result and one next state.
released_once : (old new later : DeviceState) (id : ℕ) (answer other : Result (Unit {0}) Error) → answer ≢ Err OutOfMemory →
    other ≢ Err OutOfMemory →
    Releases old id answer new → Releases old id other later → (answer ≡ other) × (new ≡ later)
unfolding Releases
released_once old new later id answer other p q a b = grind arith

-- A move has one result and one next state.
replaced_same : (old new later : DeviceState) (id : ℕ) (q : Range) (given : Result Range Error) (answer other : Result Range Error) →
    answer ≢ Err OutOfMemory → other ≢ Err OutOfMemory →
    Replaces old id q given answer new → Replaces old id q given other later → (answer ≡ other) × (new ≡ later)
replaced_same old new later id q given answer other p s a b = grind arith

replaced_once : (old new later : DeviceState) (id : ℕ) (q : Range) (given again : Result Range Error) (answer other : Result Range Error) →
    answer ≢ Err OutOfMemory → other ≢ Err OutOfMemory →
    (given ≡ again) ⊎ (given ≡ Err OutOfMemory) ⊎ (again ≡ Err OutOfMemory) →
    Replaces old id q given answer new → Replaces old id q again other later → (answer ≡ other) × (new ≡ later)
replaced_once old new later id q given again answer other p s (inl same) a b =
    replaced_same old new later id q again answer other p s (subst (λ (v : Result Range Error). Replaces old id q v answer new) same a) b
replaced_once old new later id q given again answer other p s (inr (inl e)) a b = absurd (p (rw e at a).0)
replaced_once old new later id q given again answer other p s (inr (inr e)) a b = absurd (s (rw e at b).0)

moved_at_once : (old new later : DeviceState) (id : ℕ) (request : Request) (answer other : Result Range Error) (at : Option Range) →
    answer ≢ Err OutOfMemory → other ≢ Err OutOfMemory →
    MatchOption at ((answer ≡ Err (NeverAllocated id)) × (new ≡ old))
    (λ q. (given : Result Range Error) × (space : AddressState) × MovesRange old.space q request given space × Replaces old id q given answer new) →
    MatchOption at ((other ≡ Err (NeverAllocated id)) × (later ≡ old))
    (λ q. (given : Result Range Error) × (space : AddressState) × MovesRange old.space q request given space × Replaces old id q given other later) →
    (answer ≡ other) × (new ≡ later)
moved_at_once old new later id request answer other None p s a b = (a.0 ∙ sym b.0, a.1 ∙ sym b.1)
moved_at_once old new later id request answer other (Some q) p s a b =
    replaced_once old new later id q a.0 b.0 answer other p s
    (⊎_elim (λ k. inl k.0) (λ k. inr k) (moves_once old.space a.1 b.1 q request a.0 b.0 a.2 b.2)) a.3 b.3

moved_once : (old new later : DeviceState) (id : ℕ) (request : Request) (answer other : Result Range Error) → answer ≢ Err OutOfMemory →
    other ≢ Err OutOfMemory → MovesDevice old id request answer new → MovesDevice old id request other later →
    (answer ≡ other) × (new ≡ later)
unfolding MovesDevice
moved_once old new later id request answer other p s a b =
    moved_at_once old new later id request answer other (map.get old.devices id) p s a b

-- Each call has one result and one next state.
call_once : CallsAreDetermined IsDeviceCallFrom
call_once old new later (Reserve which request) x y p q a b = reserved_once old new later which request x y p q a b
call_once old new later (Release id) x y p q a b = released_once old new later id x y p q a b
call_once old new later (Move id request) x y p q a b = moved_once old new later id request x y p q a b
call_once old new later Clone x y p q a b = clones_once old new later x y p q a b

-- Each call has one result and one next state, if memory suffices.
pub devices_decide : DevicesDecide
devices_decide = record { made = manager_once; called = call_once }

-- The same calls on the same state have the same results.
pub same_device_results : SameCallsSameResults IsDeviceCallFrom
same_device_results = same_results IsDeviceCallFrom call_once

-- ---- An error changes nothing
-- A call that returns an error leaves the same state.
pub errors_change_nothing : ErrorsChangeNothing IsDeviceCallFrom
errors_change_nothing old new (Reserve which request) e h = reserving_unchanged old new which request e h
errors_change_nothing old new (Release id) e h = ⊎_elim (λ refused. refused.2) (λ left. absurd (cc (left.2)))
    (releasing_outcome old new id (Err e) h)
errors_change_nothing old new (Move id request) e h = moving_unchanged old new id request e h
errors_change_nothing old new Clone e h = cloning_keeps old new (Err e) h.0 h.1

pub ruleset decides = (devices_decide, same_device_results, errors_change_nothing)
