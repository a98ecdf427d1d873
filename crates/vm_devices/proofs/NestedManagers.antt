-- How deep the value of a manager nests, and the manager that is read of its text.
use Rattle.std.proofs.Common.{◌≡◌, ◌⊎◌, ℕ, ◌≤◌, ◌∷◌, [], codes, refl, sym, arith, subst, Result, Ok, Err, MatchResult}
use Rattle.serde_json.specs.Data.{Data, depth}
use Rattle.serde_json.specs.Errors.{IsMemory}
use Rattle.serde_json.specs.Read.{max_depth}
use Rattle.serde_json.specs.View.{view}
use Rattle.serde_json.specs.declared.error.Error as json
use Rattle.serde_json.specs.declared.value.Value.{Value}
use Rattle.vm_ranges.proofs.FieldSteps.{field_map}
use Rattle.vm_ranges.proofs.Nesting.{object_within, number_within, range_nests, list_within}
use Rattle.vm_ranges.specs.Range.{Range}
use Rattle.vm_ranges.specs.declared.saved.ValueError.{ValueError}
use Rattle.vm_ranges.specs.declared.saved.ValueError.TheVariants.{OutOfMemory}
use Rattle.vm_addresses.proofs.Reading.NestedTrees.{addresses_nest}
use Rattle.vm_ids.proofs.Ids.NestedIds.{ids_nest}
use Rattle.vm_ranges.proofs.ReadTexts.{parsed_again}
use Rattle.vm_devices.specs.Devices.{DeviceState}
use Rattle.vm_devices.specs.Laws.{ManagerIsReadFromText}
use Rattle.vm_devices.specs.Saved.{EncodesDevice, EncodesManager, ReadsInParts}
use Rattle.vm_devices.proofs.SavedManagers.{read_again, one_manager}

-- The value of a device nests at most two deep.
device_nests : (d : Data) (e : ℕ × Range) → EncodesDevice d e → depth d ≤ 2
device_nests d e p =
    object_within 1 (codes "id" ∷ codes "mmio_range" ∷ []) d ((refl, tt), (tt, tt)) p.two_fields (
      number_within 1 _ (codes "id") d p.id,
      (field_map (codes "mmio_range") d _ _ (λ v k. range_nests v e.1 k) p.mmio_range, tt),
    )

-- The value of a manager nests at most 53 deep.
manager_nests : (d : Data) (state : DeviceState) → EncodesManager d state → depth d ≤ 53
manager_nests d state p =
    object_within 52 (codes "version" ∷ codes "id_allocator" ∷ codes "mmio_allocator" ∷ codes "slots" ∷ []) d
    ((refl, (refl, (refl, tt))), ((refl, (refl, tt)), ((refl, tt), (tt, tt)))) p.four_fields (
      number_within 52 _ (codes "version") d p.version,
      (
        field_map (codes "id_allocator") d _ _ (λ v k. let e = ids_nest v state.ids k in omega (arith, e)) p.id_allocator,
        (
          field_map (codes "mmio_allocator") d _ _ (λ v k. addresses_nest v state.space k) p.mmio_allocator,
          (
            field_map (codes "slots") d _ _ (λ v k. let e = list_within EncodesDevice 2 device_nests v p.listed k in omega (arith, e))
                p.slots,
            tt,
          ),
        ),
      ),
    )

-- The text of a manager's value is read as this manager.
pub text_again : ManagerIsReadFromText
text_again old value text parsed w t p =
    at parsed (parsed_again text (view value) parsed (let e = manager_nests (view value) old w in omega (arith, e)) t p) where
      at : (r : Result Value json.Error) → MatchResult r (λ v. view v ≡ view value) IsMemory →
          MatchResult r (λ v. (answer : Result DeviceState ValueError) → ReadsInParts (EncodesManager (view v)) answer → (answer ≡ Ok old) ⊎
          (answer ≡ Err OutOfMemory)) IsMemory
      at (Ok v) e = λ answer k. read_again (view v) old answer (subst (λ (d : Data). EncodesManager d old) (sym e) w) k
      at (Err e) m = m

-- The manager that is read through the text of a written value is the manager that was written.
pub manager_through_text : (d e : Data) (old new : DeviceState) → EncodesManager d old → (depth d ≤ max_depth → e ≡ d) →
    EncodesManager e new → new ≡ old
manager_through_text d e old new s t q =
    let same = t (let n = manager_nests d old s in omega (arith, n)) in
    one_manager d new old (subst (λ (v : Data). EncodesManager v new) same q) s
