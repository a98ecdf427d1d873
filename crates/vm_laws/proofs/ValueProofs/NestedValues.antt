-- The allocators that are read of their texts.
use Rattle.std.proofs.Common.{◌≡◌, ◌⊎◌, ℕ, ◌≤◌, List, Some, None, sym, ◌∙◌, arith, subst, Result, Ok, Err, MatchResult}
use Rattle.std.proofs.lemmas.Option.{same_Some}
use Rattle.serde_json.specs.Data.{Data, depth}
use Rattle.serde_json.specs.Errors.{IsMemory}
use Rattle.serde_json.specs.Read.{read, max_depth}
use Rattle.serde_json.specs.View.{view}
use Rattle.serde_json.specs.declared.error.Error as json
use Rattle.serde_json.specs.declared.value.Value.{Value}
use Rattle.vm_ranges.proofs.Nesting.{range_nests, state_nests}
use Rattle.vm_ranges.proofs.ReadTexts.{parsed_again}
use Rattle.vm_ranges.specs.RangeValues.{EncodesRange, EncodesState}
use Rattle.vm_ranges.specs.Saving.{Reads}
use Rattle.vm_ranges.specs.Texts.{IsTextOf}
use Rattle.vm_ranges.specs.declared.saved.ValueError.{ValueError}
use Rattle.vm_ranges.specs.declared.saved.ValueError.TheVariants.{OutOfMemory}
use Rattle.vm_addresses.proofs.Reading.NestedTrees.{addresses_nest}
use Rattle.vm_ids.proofs.Ids.NestedIds.{ids_nest}
use Rattle.vm_ranges.specs.Address.{AddressState}
use Rattle.vm_ids.specs.Ids.{IdState}
use Rattle.vm_addresses.specs.Values.AllocatorValues.{EncodesAddresses}
use Rattle.vm_ids.specs.Values.IdValues.{EncodesIds}
use Rattle.vm_laws.specs.ValueLaws.{ReadsWritten, ReadsText}
use Rattle.vm_addresses.proofs.Reading.ReadAllocators.{one_addresses}
use Rattle.vm_ids.proofs.Ids.ReadIdStates.{one_encoded}
use Rattle.vm_laws.proofs.ValueProofs.ReadAgain.{range_again, state_again, allocator_again, ids_again}

-- ---- Texts
-- The allocator that is read from the text of a written value is the allocator that was written.
pub text_gives_again : (text : List ℕ) (d e : Data) (old new : AddressState) → EncodesAddresses d old → IsTextOf text d →
    read text ≡ Some e → EncodesAddresses e new → new ≡ old
text_gives_again text d e old new s t p q =
    let same : e ≡ d = same_Some e d (sym p ∙ t (let n = addresses_nest d old s in omega (arith, n))) in
    one_addresses d new old (subst (λ (v : Data). EncodesAddresses v new) same q) s

-- The same, if the text is parsed to the value that was written.
pub allocator_through_text : (d e : Data) (old new : AddressState) → EncodesAddresses d old → (depth d ≤ max_depth → e ≡ d) →
    EncodesAddresses e new → new ≡ old
allocator_through_text d e old new s t q =
    let same = t (let n = addresses_nest d old s in omega (arith, n)) in
    one_addresses d new old (subst (λ (v : Data). EncodesAddresses v new) same q) s

pub ids_through_text : (d e : Data) (old new : IdState) → EncodesIds d old → (depth d ≤ max_depth → e ≡ d) → EncodesIds e new → new ≡ old
ids_through_text d e old new s t q =
    let same = t (let n = ids_nest d old s in omega (arith, n)) in
    one_encoded d new old (subst (λ (v : Data). EncodesIds v new) same q) s

-- The text of a written value has a value.
pub text_has_value : (text : List ℕ) (d : Data) (old : AddressState) → EncodesAddresses d old → IsTextOf text d → read text ≡ None → ⊥
text_has_value text d old s t p = let f = t (let n = addresses_nest d old s in omega (arith, n)) in cc

text_again : {X : Type 0} (States : Data → X → Type 0) → ((d : Data) (x : X) → States d x → depth d ≤ max_depth) → ReadsWritten States →
    ReadsText States
text_again {X} States nests again old value text parsed w t p =
    at parsed (parsed_again text (view value) parsed (nests (view value) old w) t p) where
      at : (r : Result Value json.Error) → MatchResult r (λ v. view v ≡ view value) IsMemory →
          MatchResult r (λ v. (answer : Result X ValueError) → Reads (States (view v)) answer → (answer ≡ Ok old) ⊎
          (answer ≡ Err OutOfMemory)) IsMemory
      at (Ok v) e = λ answer k. again old v answer (subst (λ (d : Data). States d old) (sym e) w) k
      at (Err e) m = m

pub range_text : ReadsText EncodesRange
range_text = text_again EncodesRange (λ d r p. let e = range_nests d r p in omega (arith, e)) range_again

pub state_text : ReadsText EncodesState
state_text = text_again EncodesState (λ d s p. let e = state_nests d s p in omega (arith, e)) state_again

pub allocator_text : ReadsText EncodesAddresses
allocator_text = text_again EncodesAddresses (λ d a p. let e = addresses_nest d a p in omega (arith, e)) allocator_again

pub ids_text : ReadsText EncodesIds
ids_text = text_again EncodesIds (λ d s p. let e = ids_nest d s p in omega (arith, e)) ids_again

pub ruleset texts = (range_text, state_text, allocator_text)
