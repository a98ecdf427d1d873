-- The move of a device: its range moves, and its id and the other devices stay.
use Rattle.std.proofs.Common.{◌≡◌, ◌≢◌, ℕ, ◌%◌, ◌⊎◌, ◌↔◌, refl, sym, ap, ◌∙◌, arith, inl, inr, ⊎_elim, subst, Option, Some, None, IfSome, Result, Ok, Err}
use Rattle.std.specs.Prelude.{MatchOption, option_map}
use Rattle.std.specs.List.{Contains}
use Rattle.std.specs.Ordering.{nat_cmp}
use Rattle.std.specs.FinMap as map
use Rattle.vm_ranges.proofs.Steps.{map_some}
use Rattle.vm_ranges.specs.Range.{Range, Covers, address_count}
use Rattle.vm_ranges.specs.Request.{Request}
use Rattle.vm_ranges.specs.declared.error.Error.{Error}
use Rattle.vm_ranges.specs.declared.error.Error.TheVariants.{NeverAllocated, OutOfMemory}
use Rattle.vm_ranges.specs.Address.{AddressState, releasing}
use Rattle.vm_addresses.specs.Moves.{MovesRange, replacing}
use Rattle.vm_addresses.proofs.Callers.{given, one_start, range_was_free, frees_held, request_fits, request_inside}
use Rattle.vm_addresses.proofs.Histories.MoveSteps.{moved_parts, move_state}
use Rattle.vm_addresses.proofs.Results.AddressResults.{adds_range, removes_range, state_is_preserved}
use Rattle.vm_devices.specs.Checks.{IsOnlyStart}
use Rattle.vm_devices.specs.Devices.{DeviceState, IsDevice, ArePaired, IsDeviceState, devices_of, Replaces, MovesDevice, with_range}
use Rattle.vm_devices.proofs.Tables.{get_with, with_here}

-- ---- A device whose range moves
module _ (old : DeviceState) (i : IsDeviceState old) (id : ℕ) (q : Range) (d : IsDevice old id q) (request : Request) (r : Range)
    (space : AddressState) (m : MovesRange old.space q request (Ok r) space) where
  -- The moved range is held instead of the one before.
  held_moved : (t : Range) → Contains space.held t ↔ ((Contains old.space.held t × (t ≢ q)) ⊎ (t ≡ r))
  held_moved t =
      let s = moved_parts old.space space q r request m in
      let free = frees_held old.space q (i.pairs.held id q d) in
      let left = removes_range old.space (releasing q old.space) q i.space free in
      let valid = state_is_preserved.freed old.space (releasing q old.space) q (Ok tt) i.space free in
      let more = adds_range (releasing q old.space) space request r valid s.allocated in (
        λ c. ⊎_elim (λ k. inl ((left.held t).0 k)) (λ e. inr e) ((more.held t).0 c),
        λ c. (more.held t).1 (⊎_elim (λ k. inl ((left.held t).1 k)) (λ e. inr e) c),
      )

  -- No other range that is held has the start of the moved one.
  apart : (t : Range) → Contains old.space.held t → t ≢ q → t.start ≢ r.start
  apart t c n e =
      let s = moved_parts old.space space q r request m in
      let free = frees_held old.space q (i.pairs.held id q d) in
      let left = (removes_range old.space (releasing q old.space) q i.space free).held t in
      let valid = move_state old.space space q request (Ok r) i.space m in
      let one = one_start space valid t r ((held_moved t).1 (inl (c, n))) ((held_moved r).1 (inr refl)) e in
      range_was_free (releasing q old.space) space request r s.allocated
      (subst (Contains (releasing q old.space).held) one (left.1 (c, n)))

  -- A held range is the one before, or another one.
  same_or_not : (t : Range) → Contains old.space.held t → (t ≡ q) ⊎ (t ≢ q)
  same_or_not t c =
      ⊎_elim (λ e. inl (one_start old.space i.space t q c (i.pairs.held id q d) e)) (λ n. inr (λ e. n (ap (λ (v : Range). v.start) e)))
      (starts t.start q.start)
    where
      starts : (a b : ℕ) → (a ≡ b) ⊎ (a ≢ b)
      starts a b = grind arith

  -- The start of the moved range is that of no other device.
  pub moved_start : IsOnlyStart old.devices id r.start
  moved_start other h =
      let f = map_some (λ (t : Range). t.start) (map.get old.devices other) r.start h in
      let c = i.pairs.held other f.0 f.1 in
      ⊎_elim (λ (e : f.0 ≡ q). i.pairs.once other id q (f.1 ∙ ap Some e) d) (λ n. absurd (apart f.0 c n f.2)) (same_or_not f.0 c)

  -- A device after the move is the moved one, or another one with its range.
  device_cases : (j : ℕ) (t : Range) → map.get (map.insert old.devices id r) j ≡ Some t →
      ((j ≡ id) × (t ≡ r)) ⊎ ((j ≢ id) × IsDevice old j t)
  device_cases j t h = let at = get_with old.devices id r j in grind (arith, at, h)

  not_other : (j : ℕ) (t : Range) → j ≢ id → IsDevice old j t → t ≢ r
  not_other j t n k e =
      let start = moved_start j (ap (λ (o : Option Range). option_map (λ (v : Range). v.start) o) (k ∙ ap Some e)) in n start

  -- The devices are paired with the ids and the ranges.
  pairs_moved : ArePaired (devices_of old.ids space (map.insert old.devices id r))
  pairs_moved = record {
    ids = λ j. (
      λ h. grind (arith, get_with old.devices id r j, (i.pairs.ids j).0, h),
      λ k. grind (arith, get_with old.devices id r j, (i.pairs.ids j).1, (i.pairs.ids id).1, d, k),
    );
    held = λ j t k. (held_moved t).1 (
        ⊎_elim
        (λ a. inr a.1)
        (λ a. inl (i.pairs.held j t a.1, λ e. a.0 (i.pairs.once j id q (a.1 ∙ ap Some e) d)))
        (device_cases j t k));
    owned = λ t c.
        ⊎_elim
        (λ k.
        let o = i.pairs.owned t k.0 in
        let other : o.0 ≢ id = λ e. k.1 (grind (arith, o.1, d, e)) in
        (o.0, grind (arith, get_with old.devices id r o.0, other, o.1)))
        (λ e. (id, with_here old.devices id r ∙ ap Some (sym e)))
        ((held_moved t).0 c);
    once = λ j k t f g.
        ⊎_elim
        (λ a. ⊎_elim (λ b. a.0 ∙ sym b.0) (λ b. absurd (not_other k t b.0 b.1 a.1)) (device_cases k t g))
        (λ a. ⊎_elim (λ b. absurd (not_other j t a.0 a.1 b.1)) (λ b. i.pairs.once j k t a.1 b.1) (device_cases k t g))
        (device_cases j t f);
  }

  -- The space is the one in which the range is replaced.
  pub space_moved : space ≡ replacing q r old.space
  unfolding replacing
  space_moved = (given (releasing q old.space) space request r (moved_parts old.space space q r request m).allocated).left

  -- The state with the moved device is valid.
  pub moved_state : IsDeviceState (with_range id q r old)
  moved_state =
      let valid : IsDeviceState (devices_of old.ids space (map.insert old.devices id r)) = record {
        ids = i.ids;
        space = move_state old.space space q request (Ok r) i.space m;
        pairs = pairs_moved;
      } in
      subst (λ (s : AddressState). IsDeviceState (devices_of old.ids s (map.insert old.devices id r))) space_moved valid

-- ---- The cases of `move_constraint`
-- The moved range is as long as asked and aligned, and lies in the window.
pub moved_fits : (old new : AddressState) (q r : Range) (request : Request) → MovesRange old q request (Ok r) new →
    (address_count r ≡ request.size) × (r.start % request.align ≡ 0)
moved_fits old new q r request m = request_fits (releasing q old) new request (Ok r) (moved_parts old new q r request m).allocated

pub moved_inside : (old new : AddressState) (q r : Range) (request : Request) → MovesRange old q request (Ok r) new →
    IfSome request.window (λ w. Covers w r)
moved_inside old new q r request m = request_inside (releasing q old) new request (Ok r) (moved_parts old new q r request m).allocated

-- The state after a move that was cancelled is the one before.
pub move_cancelled : (old : DeviceState) (space : AddressState) (slots : map.FinMap nat_cmp Range) → space ≡ old.space →
    slots ≡ old.devices → devices_of old.ids space slots ≡ old
move_cancelled old space slots e f = rw (e, f) refl

-- The state after a move that was finished.
pub move_finished : (old : DeviceState) (id : ℕ) (q r : Range) (space : AddressState) (slots : map.FinMap nat_cmp Range) →
    space ≡ replacing q r old.space → slots ≡ map.insert old.devices id r → devices_of old.ids space slots ≡ with_range id q r old
move_finished old id q r space slots e f = rw (e, f) refl

-- An id without a device is NeverAllocated.
pub no_device_moves : (old new : DeviceState) (id : ℕ) (request : Request) → map.get old.devices id ≡ None → new ≡ old →
    MovesDevice old id request (Err (NeverAllocated id)) new
unfolding MovesDevice
no_device_moves old new id request e same = rw e (refl, same)

module _ (old new : DeviceState) (id : ℕ) (q : Range) (d : IsDevice old id q) (request : Request) where
  -- The range does not move.
  pub move_refused : (e : Error) → MovesRange old.space q request (Err e) old.space → new ≡ old → MovesDevice old id request (Err e) new
  unfolding MovesDevice
  move_refused e m same = rw d (Err e, old.space, m, (refl, same))

  module _ (r : Range) (space : AddressState) (m : MovesRange old.space q request (Ok r) space) where
    -- The table cannot be changed.
    pub move_undone : r.start ≢ q.start → new ≡ old → MovesDevice old id request (Err OutOfMemory) new
    unfolding MovesDevice
    move_undone n same = rw d (Ok r, space, m, inr (n, refl, same))

    -- The device moves.
    pub device_moved : new ≡ with_range id q r old → MovesDevice old id request (Ok r) new
    unfolding MovesDevice
    device_moved left = rw d (Ok r, space, m, inl (refl, left))

-- ---- The outcome
-- A moved device had a range, and has another one for the request.
pub record IsMovedDevice (old : DeviceState) (id : ℕ) (request : Request) (r : Range) (new : DeviceState) : Type 0 where
  pub before : Range
  pub device : IsDevice old id before
  pub space : AddressState
  pub move : MovesRange old.space before request (Ok r) space
  pub left : new ≡ with_range id before r old

abbrev MoveOutcome : DeviceState → ℕ → Request → Result Range Error → DeviceState → Type 0
MoveOutcome old id request answer new =
    ((e : Error) × (answer ≡ Err e) × (new ≡ old)) ⊎ ((r : Range) × (answer ≡ Ok r) × IsMovedDevice old id request r new)

replaced : (old new : DeviceState) (id : ℕ) (q : Range) (request : Request) (given : Result Range Error) (space : AddressState)
    (answer : Result Range Error) → IsDevice old id q → MovesRange old.space q request given space → Replaces old id q given answer new →
    MoveOutcome old id request answer new
replaced old new id q request (Err e) space answer d m p = inl (e, p.0, p.1)
replaced old new id q request (Ok r) space answer d m (inl p) =
    inr (r, p.0, record { before = q; device = d; space = space; move = m; left = p.1 })
replaced old new id q request (Ok r) space answer d m (inr p) = inl (OutOfMemory, p.1, p.2)

moved_at : (old new : DeviceState) (id : ℕ) (request : Request) (answer : Result Range Error) (at : Option Range) →
    map.get old.devices id ≡ at →
    MatchOption at ((answer ≡ Err (NeverAllocated id)) × (new ≡ old))
    (λ q. (given : Result Range Error) × (space : AddressState) × MovesRange old.space q request given space
    × Replaces old id q given answer new) →
    MoveOutcome old id request answer new
moved_at old new id request answer None e h = inl (NeverAllocated id, h.0, h.1)
moved_at old new id request answer (Some q) e h = replaced old new id q request h.0 h.1 answer e h.2 h.3

-- A move is an error that changes nothing, or a moved device.
pub moving_outcome : (old new : DeviceState) (id : ℕ) (request : Request) (answer : Result Range Error) →
    MovesDevice old id request answer new → MoveOutcome old id request answer new
unfolding MovesDevice
moving_outcome old new id request answer h = moved_at old new id request answer (map.get old.devices id) refl h

-- A successful move is a moved device.
pub moved_device : (old new : DeviceState) (id : ℕ) (request : Request) (r : Range) → MovesDevice old id request (Ok r) new →
    IsMovedDevice old id request r new
moved_device old new id request r h =
    ⊎_elim
    (λ e. absurd (cc (e.1)))
    (λ m. let same : m.0 ≡ r = cc (m.1) in subst (λ (v : Range). IsMovedDevice old id request v new) same m.2)
    (moving_outcome old new id request (Ok r) h)

-- The state after a move is valid.
pub moving_state : (old new : DeviceState) (id : ℕ) (request : Request) (answer : Result Range Error) → IsDeviceState old →
    MovesDevice old id request answer new → IsDeviceState new
moving_state old new id request answer i h =
    ⊎_elim
    (λ e. subst IsDeviceState (sym e.2) i)
    (λ m. subst IsDeviceState (sym m.2.left) (moved_state old i id m.2.before m.2.device request m.0 m.2.space m.2.move))
    (moving_outcome old new id request answer h)

-- A move that fails changes nothing.
pub moving_unchanged : (old new : DeviceState) (id : ℕ) (request : Request) (e : Error) → MovesDevice old id request (Err e) new → new ≡ old
moving_unchanged old new id request e h = ⊎_elim (λ r. r.2) (λ m. absurd (cc (m.1))) (moving_outcome old new id request (Err e) h)

pub ruleset moves = (no_device_moves, moving_unchanged)
