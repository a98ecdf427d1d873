-- A manager's value and its list of devices: what is read is what they encode, and a written value encodes the manager.
use Rattle.std.proofs.Common.{
  ◌≡◌,
  ℕ,
  ◌+◌,
  ◌<◌,
  List,
  [],
  ◌∷◌,
  ◌++◌,
  length,
  get_or,
  take,
  zero,
  suc,
  Some,
  None,
  option_and_then,
  Ok,
  Err,
  refl,
  sym,
  ap,
  ◌∙◌,
  subst,
  arith,
  codes,
  ◌⊎◌,
  Bool,
  true,
  Option,
  Result,
  map as map_list,
  inl,
  inr,
  cond,
  option_map,
}
use Rattle.std.proofs.lemmas.List.{take_more}
use Rattle.std.proofs.lemmas.Option.{same_Some}
use Rattle.serde_json.specs.Data.{Data, Items, no_items, item}
use Rattle.serde_json.specs.Find.{get, as_array}
use Rattle.serde_json.specs.View.{view, items_view}
use Rattle.serde_json.specs.declared.value.Value.{Value}
use Rattle.vm_ranges.specs.Lists.{EncodesItems}
use Rattle.vm_ranges.proofs.FieldSteps.{count-true, true-count, in_field, field_is}
use Rattle.vm_ranges.proofs.Lists.{encodes_more, in_list, list_encoded}
use Rattle.vm_ranges.proofs.NumberSteps.{u32_in-some, some-u32}
use Rattle.vm_ranges.proofs.Steps.{and_then_some, map_some, if_some}
use Rattle.vm_ranges.specs.Fields.{field_count, is_count}
use Rattle.vm_ranges.specs.Numbers.{u32_in}
use Rattle.vm_ranges.specs.Range.{Range}
use Rattle.vm_ranges.specs.RangeValues.{EncodesRange, decoded_range}
use Rattle.vm_ranges.specs.Saving.{value_error, Reads}
use Rattle.vm_ranges.specs.declared.saved.SavedError.{SavedError}
use Rattle.vm_ranges.specs.declared.saved.SavedError.TheVariants.{Violated, OutOfMemory}
use Rattle.vm_ids.proofs.Callers.{ids_again, ids_encoded}
use Rattle.vm_ranges.proofs.ReadRanges.{found-states, states-found}
use Rattle.vm_addresses.proofs.Callers.{addresses_again, addresses_encoded}
use Rattle.vm_ids.proofs.Ids.RisingIds.{keys_rise}
use Rattle.vm_devices.specs.declared.device_slot.DeviceSlot.{DeviceSlot}
use Rattle.vm_devices.specs.Listed.{entries_of, PushesDevice, listed_state, MakesOfDevices}
use Rattle.vm_devices.specs.Queries.{entry_of, device_of, device_list}
use Rattle.vm_devices.specs.Saved.{EncodesDevice, ReadsInParts, EncodesList, EncodesManager}
use Rattle.vm_devices.specs.SavedChecks.{decoded_device, EncodesDevices, decoded_manager, ManagerParts}
use Rattle.vm_devices.proofs.AscendingIds.{Sorted, front_entries}
use Rattle.std.specs.Ordering.{nat_cmp}
use Rattle.std.specs.FinMap as map
use Rattle.vm_ranges.specs.declared.saved.SavedError.TheVariants as saved_errors
use Rattle.vm_ranges.specs.declared.saved.ValueError.{ValueError}
use Rattle.vm_ranges.specs.declared.saved.ValueError.TheVariants.{NotAState, OutOfMemory}
use Rattle.vm_ranges.specs.Address.{AddressState}
use Rattle.vm_ids.specs.Ids.{IdState}
use Rattle.vm_addresses.specs.Values.AllocatorValues.{EncodesAddresses}
use Rattle.vm_ids.specs.Values.IdValues.{EncodesIds}
use Rattle.vm_devices.specs.Devices.{DeviceState, ArePaired, IsDeviceState, devices_of}
use Rattle.vm_devices.specs.Laws.{ManagerIsReadAgain}
use Rattle.vm_devices.proofs.Entries.{entries_again, whole_map}

-- ---- One device
-- A device that is read from a value is encoded by it.
device-states : (d : Data) (e : ℕ × Range) → decoded_device d ≡ Some e → EncodesDevice d e
device-states d e h =
    let two = if_some (is_count 2 (field_count d)) _ e h in
    let id = and_then_some _ (u32_in (codes "id") d) e two.1 in
    let pair = map_some _ (option_and_then decoded_range (get (codes "mmio_range") d)) e id.2 in
    let range = and_then_some decoded_range (get (codes "mmio_range") d) pair.0 pair.1 in
    let number = u32_in-some (codes "id") d id.0 id.1 in
    subst (EncodesDevice d) pair.2 (record {
      two_fields = count-true 2 (field_count d) two.0;
      id = number.0;
      word = number.1;
      mmio_range = field_is (codes "mmio_range") d range.0 (λ v. EncodesRange v pair.0) range.1 (found-states range.0 pair.0 range.2);
    })

-- A device that a value encodes is read from it.
states-device : (d : Data) (e : ℕ × Range) → EncodesDevice d e → decoded_device d ≡ Some e
states-device d e s =
    let range = in_field (codes "mmio_range") d (λ v. EncodesRange v e.1) s.mmio_range in
    rw (true-count 2 (field_count d) s.two_fields, s.id, some-u32 e.0 s.word, range.1, states-found range.0 e.1 range.2) refl

-- A value encodes at most one device.
one_device : (d : Data) (e f : ℕ × Range) → EncodesDevice d e → EncodesDevice d f → e ≡ f
one_device d e f s t = same_Some e f (sym (states-device d e s) ∙ states-device d f t)

-- ---- The list
-- Items encode one list of devices.
pub one_list : (ds : Items) (es fs : List (ℕ × Range)) → EncodesItems EncodesDevice ds es → EncodesItems EncodesDevice ds fs → es ≡ fs
one_list no_items [] [] s t = refl
one_list no_items [] (f ∷ fs) s t = absurd t
one_list no_items (e ∷ es) fs s t = absurd s
one_list (item d ds) [] fs s t = absurd s
one_list (item d ds) (e ∷ es) [] s t = absurd t
one_list (item d ds) (e ∷ es) (f ∷ fs) s t =
    ap (λ (x : ℕ × Range). x ∷ es) (one_device d e f s.0 t.0) ∙ ap (λ (xs : List (ℕ × Range)). f ∷ xs) (one_list ds es fs s.1 t.1)

-- The first items encode the first devices.
front_encoded : (vs : List Value) (i : ℕ) (es : List (ℕ × Range)) → EncodesItems EncodesDevice (items_view vs) es →
    (fs : List (ℕ × Range)) × (rest : List (ℕ × Range)) × EncodesItems EncodesDevice (items_view (take i vs)) fs × (es ≡ fs ++ rest)
front_encoded vs zero es s = ([], es, tt, refl)
front_encoded [] (suc i) es s = ([], es, tt, refl)
front_encoded (v ∷ vs) (suc i) [] s = absurd s
front_encoded (v ∷ vs) (suc i) (e ∷ es) s =
    let f = front_encoded vs i es s.1 in
    (e ∷ f.0, f.1, (s.0, f.2), ap (λ (xs : List (ℕ × Range)). e ∷ xs) f.3)

-- Each item encodes a device.
some_device : (vs : List Value) (i : ℕ) (v : Value) (es : List (ℕ × Range)) → i < length vs →
    EncodesItems EncodesDevice (items_view vs) es → (e : ℕ × Range) × EncodesDevice (view (get_or vs i v)) e
some_device [] i v es l s = absurd (omega (arith, l))
some_device (w ∷ vs) i v [] l s = absurd s
some_device (w ∷ vs) zero v (e ∷ es) l s = (e, s.0)
some_device (w ∷ vs) (suc i) v (e ∷ es) l s = some_device vs i v es (omega (arith, l)) s.1

-- ---- Item by item
-- The items so far encode the devices so far.
abbrev pub AreReadSoFar : List Value → ℕ → List DeviceSlot → Type 0
AreReadSoFar vs i devices = EncodesDevices (items_view (take i vs)) devices

module _ (vs : List Value) (i : ℕ) (v : Value) (l : i < length vs) (e : v ≡ get_or vs i v) where
  -- If an item is no device, the items encode no list.
  pub no_device : decoded_device (view v) ≡ None → ¬ ((all : List DeviceSlot) × EncodesDevices (items_view vs) all)
  no_device none s =
      let some = some_device vs i v (entries_of s.0) l s.1.encoded in
      let found = states-device (view v) some.0 (subst (λ (x : Value). EncodesDevice (view x) some.0) (sym e) some.1) in
      let both : None ≡ Some some.0 = sym none ∙ found in
      absurd (cc (both))

  module _ (devices : List DeviceSlot) (d : DeviceSlot) (s : AreReadSoFar vs i devices)
      (f : decoded_device (view v) ≡ Some (entry_of d)) where
    one_more : EncodesItems EncodesDevice (items_view (take (i + 1) vs)) (entries_of (devices ++ d ∷ []))
    one_more =
        encodes_more EncodesDevice entry_of (take i vs) (take (i + 1) vs) v devices d
        (take_more vs i v l ∙ ap (λ (x : Value). take i vs ++ x ∷ []) (sym e)) (device-states (view v) (entry_of d) f) s.encoded

    -- A device that is pushed is read.
    pub one_read : (new : List DeviceSlot) → PushesDevice devices d (Ok tt) new → AreReadSoFar vs (i + 1) new
    one_read new p = record { encoded = rw p.0 one_more; ascending = p.1 }

    -- A device that cannot be pushed is the error of the value.
    pub push_refused : (error : SavedError) (new : List DeviceSlot) → PushesDevice devices d (Err error) new →
        ReadsInParts (EncodesDevices (items_view vs)) (Err (value_error error))
    push_refused (Violated c) new p = λ t.
        let front = front_encoded vs (i + 1) (entries_of t.0) t.1.encoded in
        let same : front.0 ≡ entries_of (devices ++ d ∷ []) = one_list (items_view (take (i + 1) vs)) front.0
        (entries_of (devices ++ d ∷ [])) front.2 one_more in
        p.2 (subst Sorted same (front_entries front.0 front.1 (subst Sorted front.3 t.1.ascending)))
    push_refused OutOfMemory new p = tt

-- ---- The fields
-- The values of the fields encode the parts of the manager.
pub record EncodesFields (p : ℕ × Data × Data × Items) (state : DeviceState) : Type 0 where
  pub version : p.0 ≡ 1
  pub ids : EncodesIds p.1 state.ids
  pub space : EncodesAddresses p.2 state.space
  pub devices : List DeviceSlot
  pub slots : EncodesDevices p.3 devices
  pub listed : state ≡ listed_state state.ids state.space devices
  pub pairs : ArePaired state

-- A value that encodes a manager has the four fields, which encode its parts.
pub fields_of : (d : Data) (state : DeviceState) → EncodesManager d state →
    (p : ℕ × Data × Data × Items) × (decoded_manager d ≡ Some p) × EncodesFields p state
fields_of d state s =
    let ids = in_field (codes "id_allocator") d (λ v. EncodesIds v state.ids) s.id_allocator in
    let space = in_field (codes "mmio_allocator") d (λ v. EncodesAddresses v state.space) s.mmio_allocator in
    let slots = in_field (codes "slots") d (λ v. EncodesList v s.listed) s.slots in
    let list = in_list EncodesDevice slots.0 s.listed slots.2 in
    let same = sym (entries_again s.listed) in (
      (1, ids.0, space.0, list.0),
      rw (true-count 4 (field_count d) s.four_fields, s.version, ids.1, space.1, slots.1, list.1) refl,
      record {
        version = refl;
        ids = ids.2;
        space = space.2;
        devices = map_list device_of s.listed;
        slots = record { encoded = subst (EncodesItems EncodesDevice list.0) same list.2; ascending = subst Sorted same s.ascending };
        listed = ap (devices_of state.ids state.space) (s.devices ∙ ap (λ (es : List (ℕ × Range)). map.from_entries es) same);
        pairs = s.pairs;
      },
    )

-- A value without the four fields encodes no manager.
pub no_fields : (d : Data) → decoded_manager d ≡ None → ¬ ((state : DeviceState) × EncodesManager d state)
no_fields d none h = let f = fields_of d h.0 h.1 in absurd (cc (none, f.1))

-- The values of four fields that were found.
opened : {A B C D : Type 0} (t : Bool) (a : Option A) (b : Option B) (c : Option C) (e : Option D) (p : A × B × C × D) →
    cond t (option_and_then (λ x. option_and_then (λ y. option_and_then (λ z. option_map (λ w. (x, y, z, w)) e) c) b) a) None ≡ Some p →
    (t ≡ true) × (a ≡ Some p.0) × (b ≡ Some p.1) × (c ≡ Some p.2) × (e ≡ Some p.3)
opened t a b c e p h = grind arith

module _ (d : Data) (p : ℕ × Data × Data × Items) (found : decoded_manager d ≡ Some p) where
  -- The fields of a value encode a manager if and only if the value does.
  to_fields : (state : DeviceState) → EncodesManager d state → EncodesFields p state
  to_fields state s = let f = fields_of d state s in subst (λ (q : ℕ × Data × Data × Items). EncodesFields q state)
      (same_Some f.0 p (sym f.1 ∙ found)) f.2

  from_fields : (state : DeviceState) → EncodesFields p state → EncodesManager d state
  from_fields state f =
      let o = opened _ _ _ _ _ p found in
      let list = and_then_some as_array (get (codes "slots") d) p.3 o.4 in
      record {
        four_fields = count-true 4 (field_count d) o.0;
        version = o.1 ∙ ap Some f.version;
        id_allocator = field_is (codes "id_allocator") d p.1 (λ w. EncodesIds w state.ids) o.2 f.ids;
        mmio_allocator = field_is (codes "mmio_allocator") d p.2 (λ w. EncodesAddresses w state.space) o.3 f.space;
        listed = entries_of f.devices;
        slots = field_is (codes "slots") d list.0 (λ w. EncodesList w (entries_of f.devices)) list.1
            (list_encoded EncodesDevice list.0 p.3 (entries_of f.devices) list.2 f.slots.encoded);
        ascending = f.slots.ascending;
        devices = ap (λ (v : DeviceState). v.devices) f.listed;
        pairs = f.pairs;
      }

  -- The result of reading the fields is the result of reading the value.
  pub fields_read : (answer : Result DeviceState ValueError) → ReadsInParts (EncodesFields p) answer →
      ReadsInParts (EncodesManager d) answer
  fields_read (Ok state) f = from_fields state f
  fields_read (Err NotAState) none = λ h. none (h.0, to_fields h.0 h.1)
  fields_read (Err OutOfMemory) r = tt

-- ---- The error of a part is the error of the whole
module _ (p : ℕ × Data × Data × Items) where
  -- The error of the ids is that of the value.
  pub ids_refused : (e : ValueError) → Reads {X = IdState} (EncodesIds p.1) (Err e) → ReadsInParts (EncodesFields p) (Err e)
  ids_refused NotAState none = λ h. none (h.0.ids, h.1.ids)
  ids_refused OutOfMemory r = tt

  -- The error of the space is that of the value.
  pub space_refused : (e : ValueError) → Reads {X = AddressState} (EncodesAddresses p.2) (Err e) → ReadsInParts (EncodesFields p) (Err e)
  space_refused NotAState none = λ h. none (h.0.space, h.1.space)
  space_refused OutOfMemory r = tt

  -- The error of the devices is that of the value.
  pub slots_refused : (e : ValueError) → ReadsInParts (EncodesDevices p.3) (Err e) → ReadsInParts (EncodesFields p) (Err e)
  slots_refused NotAState none = λ h. none (h.1.devices, h.1.slots)
  slots_refused OutOfMemory r = tt

  module _ (ids : IdState) (space : AddressState) (devices : List DeviceSlot) (i : EncodesIds p.1 ids) (a : EncodesAddresses p.2 space)
      (l : EncodesDevices p.3 devices) where
    -- A manager that the fields encode has these parts.
    its_parts : (state : DeviceState) → EncodesFields p state → state ≡ listed_state ids space devices
    its_parts state f =
        let same_ids = ids_again p.1 ids state.ids i f.ids in
        let same_space = addresses_again p.2 space state.space a f.space in
        let list = one_list p.3 (entries_of f.devices) (entries_of devices) f.slots.encoded l.encoded in
        f.listed ∙ (λ k. devices_of (same_ids k) (same_space k) (map.from_entries (list k)))

    -- A manager that is made of the parts is the one that the fields encode.
    pub parts_read : (state : DeviceState) → MakesOfDevices p.0 ids space devices (Ok state) → EncodesFields p state
    parts_read state made = rw made.2
        (record { version = made.0; ids = i; space = a; devices = devices; slots = l; listed = refl; pairs = made.1.pairs })

    -- Parts of which no manager is made are not encoded by the fields.
    pub parts_refused : (e : SavedError) → MakesOfDevices p.0 ids space devices (Err e) →
        ReadsInParts (EncodesFields p) (Err (value_error e))
    parts_refused (Violated c) (inl refused) = λ h. refused.1.1
        (record { ascending = l.ascending; pairs = subst ArePaired (its_parts h.0 h.1) h.1.pairs })
    parts_refused (Violated c) (inr refused) = λ h. refused.0 h.1.version
    parts_refused saved_errors.OutOfMemory made = tt

-- ---- One manager
-- A value encodes only valid states.
pub encoded_state : (d : Data) (state : DeviceState) → EncodesManager d state → IsDeviceState state
encoded_state d state s =
    let f = fields_of d state s in
    record { ids = ids_encoded f.0.1 state.ids f.2.ids; space = addresses_encoded f.0.2 state.space f.2.space; pairs = s.pairs }

-- A value encodes at most one manager.
pub one_manager : (d : Data) (a b : DeviceState) → EncodesManager d a → EncodesManager d b → a ≡ b
one_manager d a b s t =
    let f = fields_of d b t in
    its_parts f.0 b.ids b.space f.2.devices f.2.ids f.2.space f.2.slots a (to_fields d f.0 f.1 a s) ∙ sym f.2.listed

-- The value of a manager is read as this manager, or memory runs out.
pub read_again : (d : Data) (old : DeviceState) (answer : Result DeviceState ValueError) → EncodesManager d old →
    ReadsInParts (EncodesManager d) answer → (answer ≡ Ok old) ⊎ (answer ≡ Err OutOfMemory)
read_again d old (Ok new) s r = inl (ap (λ (v : DeviceState). Ok v) (one_manager d new old r s))
read_again d old (Err NotAState) s r = absurd (r (old, s))
read_again d old (Err OutOfMemory) s r = inr refl

-- The value of each manager is read as this manager.
pub manager_again : ManagerIsReadAgain
manager_again = record { one = one_manager; again = read_again }

-- ---- A written value encodes the manager
-- The written fields encode the manager.
pub manager_written : {d ids space slots : Data} {i : IdState} {a : AddressState} (table : map.FinMap nat_cmp Range) →
    ManagerParts d ids space slots →
    EncodesIds ids i → EncodesAddresses space a → EncodesList slots (entries_of (device_list (devices_of i a table))) →
    IsDeviceState (devices_of i a table) → EncodesManager d (devices_of i a table)
manager_written {d} {ids} {space} {slots} {i} {a} table p is held ss state = record {
  four_fields = p.four_fields;
  version = p.version_is;
  id_allocator = field_is (codes "id_allocator") d ids (λ v. EncodesIds v i) p.ids_is is;
  mmio_allocator = field_is (codes "mmio_allocator") d space (λ v. EncodesAddresses v a) p.space_is held;
  listed = map.entries table;
  slots = field_is (codes "slots") d slots (λ v. EncodesList v (map.entries table)) p.slots_is
      (rw (entries_again (map.entries table)) at ss);
  ascending = keys_rise table;
  devices = sym (whole_map table);
  pairs = state.pairs;
}
