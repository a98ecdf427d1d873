-- After a device is reserved or released, the devices still pair the held ids with the held ranges.
use Rattle.std.proofs.Common.{◌≡◌, ℕ, refl, sym, ap, ◌∙◌, arith, inl, inr, ⊎_elim, subst, Some, IsSome, Ok}
use Rattle.std.specs.List.{Contains}
use Rattle.vm_ranges.specs.Range.{Range}
use Rattle.vm_ranges.specs.Address.{holding, releasing}
use Rattle.vm_ranges.specs.Request.{Request}
use Rattle.vm_ranges.specs.Answer.{Allocates, Frees}
use Rattle.vm_addresses.specs.Facts.{AddsRange, RemovesRange}
use Rattle.vm_ids.specs.Ids.{IsHeld, IsNotHeld, FreesId, releasing_id}
use Rattle.vm_ids.specs.Facts.{RemovesId}
use Rattle.vm_addresses.proofs.Results.AddressResults.{adds_range, removes_range, state_is_preserved}
use Rattle.vm_ids.proofs.Ids.IdResults.{freed_ids_state, freeing_removes}
use Rattle.vm_ids.proofs.Ids.IdSets.{inserted_test}
use Rattle.vm_ids.proofs.Ids.ExactIds.{holding_in_range}
use Rattle.vm_addresses.proofs.Callers.{range_was_free, frees_held}
use Rattle.vm_devices.specs.Devices.{DeviceState, IsDevice, ArePaired, IsDeviceState, with_device, without_device}
use Rattle.vm_devices.proofs.Tables.{get_with, get_without, with_here, with_cases, without_is}

module _ (old : DeviceState) (id : ℕ) (r : Range) where
  -- ---- A reserved device, whose id and range were not held
  -- With a new device, all devices are still paired.
  pairs_with : ArePaired old → ¬ IsHeld old.ids id → ¬ Contains old.space.held r → AddsRange old.space (holding r old.space) r →
      ArePaired (with_device id r old)
  pairs_with p free clear s = record {
    ids = λ q. (
      λ h. grind (arith, get_with old.devices id r q, (p.ids q).0, inserted_test old.ids.held id q, h),
      λ k. grind (arith, get_with old.devices id r q, (p.ids q).1, inserted_test old.ids.held id q, k),
    );
    held = λ q t d. (s.held t).1 (⊎_elim (λ k. inr k.1) (λ k. inl (p.held q t k)) (with_cases old.devices id r q t d));
    owned = λ t c.
        ⊎_elim
        (λ (k : Contains old.space.held t).
        let d = p.owned t k in
        let held : IsHeld old.ids d.0 = (p.ids d.0).1 (subst IsSome (sym d.1) refl) in
        let other : d.0 ≡ id → ⊥ = λ e. free (subst (IsHeld old.ids) e held) in
        (d.0, grind (arith, get_with old.devices id r d.0, other, d.1)))
        (λ (e : t ≡ r). (id, with_here old.devices id r ∙ ap Some (sym e)))
        ((s.held t).0 c);
    once = λ j k t d f.
        let new : (q : ℕ) → t ≡ r → ¬ IsDevice old q t = λ q e x. clear (subst (Contains old.space.held) e (p.held q t x)) in
        ⊎_elim
        (λ a. ⊎_elim (λ b. a.0 ∙ sym b.0) (λ b. absurd (new k a.1 b)) (with_cases old.devices id r k t f))
        (λ a. ⊎_elim (λ b. absurd (new j b.1 a)) (λ b. p.once j k t a b) (with_cases old.devices id r k t f))
        (with_cases old.devices id r j t d);
  }

  -- With a new device, the state is still valid.
  pub state_with : (request : Request) → IsDeviceState old → IsNotHeld old.ids id →
      Allocates old.space request (Ok r) (holding r old.space) → IsDeviceState (with_device id r old)
  state_with request i n s = record {
    ids = holding_in_range old.ids id i.ids n.0;
    space = state_is_preserved.allocated old.space (holding r old.space) request (Ok r) i.space s;
    pairs = pairs_with i.pairs n.1 (range_was_free old.space (holding r old.space) request r s)
        (adds_range old.space (holding r old.space) request r i.space s);
  }

  -- ---- A released device
  -- Without a released device, all devices are still paired.
  pairs_without : ArePaired old → IsDevice old id r → RemovesId old.ids (releasing_id id old.ids) id →
      RemovesRange old.space (releasing r old.space) r →
      ArePaired (without_device id r old)
  pairs_without p d a s = record {
    ids = λ q. (
      λ h. grind (arith, get_without old.devices id q, (p.ids q).0, (a.held q).0 h),
      λ k. (a.held q).1 (
        grind (arith, get_without old.devices id q, (p.ids q).1, k),
        λ e. grind
            (arith, get_without old.devices id q, k, e),
      ),
    );
    held = λ q t k.
        let w = without_is old.devices id q t k in
        (s.held t).1 (p.held q t w.1, λ e. w.0 (p.once q id t w.1 (d ∙ ap Some (sym e))));
    owned = λ t c.
        let k = (s.held t).0 c in
        let o = p.owned t k.0 in
        (o.0, grind (arith, get_without old.devices id o.0, k.1, o.1, d));
    once = λ j k t f g. p.once j k t (without_is old.devices id j t f).1 (without_is old.devices id k t g).1;
  }

  module _ (i : IsDeviceState old) (d : IsDevice old id r) where
    -- The id of the device is held.
    pub id_held : IsHeld old.ids id
    id_held = (i.pairs.ids id).1 (subst IsSome (sym d) refl)

    -- Freeing the id succeeds.
    frees_id : FreesId old.ids id (Ok id) (releasing_id id old.ids)
    unfolding FreesId
    frees_id =
        let out = i.ids.held id id_held in
        inr ((out.0, omega (arith, out.1, i.ids.bound.1)), inr (out, inr (id_held, inl (refl, refl))))

    -- Freeing the range succeeds.
    frees_range : Frees old.space r (Ok tt) (releasing r old.space)
    frees_range = frees_held old.space r (i.pairs.held id r d)

    -- Without a released device, the state is still valid.
    pub state_without : IsDeviceState (without_device id r old)
    state_without = record {
      ids = freed_ids_state old.ids (releasing_id id old.ids) id (Ok id) i.ids frees_id;
      space = state_is_preserved.freed old.space (releasing r old.space) r (Ok tt) i.space frees_range;
      pairs = pairs_without i.pairs d (freeing_removes old.ids (releasing_id id old.ids) id id frees_id)
          (removes_range old.space (releasing r old.space) r i.space frees_range);
    }
