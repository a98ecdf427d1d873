-- A value encodes an allocator if and only if its fields encode the space and the tree, with or without repairs.
use Rattle.std.proofs.Common.{◌≡◌, ◌≤◌, length, Some, None, Result, Ok, Err, option_map, option_and_then, codes, refl, sym, ap, ◌∙◌, subst}
use Rattle.std.proofs.lemmas.Option.{same_Some}
use Rattle.serde_json.specs.Data.{Data}
use Rattle.serde_json.specs.Find.{get}
use Rattle.vm_ranges.proofs.FieldSteps.{count-true, true-count, in_field, field_is, field_map}
use Rattle.vm_ranges.proofs.Steps.{and_then_some, map_some, if_some}
use Rattle.vm_ranges.specs.Fields.{field_count, is_count}
use Rattle.vm_ranges.specs.Range.{Range, IsRange}
use Rattle.vm_ranges.specs.RangeValues.{EncodesRange, decoded_range}
use Rattle.vm_ranges.specs.Saving.{Reads}
use Rattle.vm_ranges.specs.declared.saved.ValueError.{ValueError}
use Rattle.vm_ranges.specs.declared.saved.ValueError.TheVariants.{NotAState, OutOfMemory}
use Rattle.vm_ranges.specs.Address.{AddressState, IsAddressState}
use Rattle.vm_ranges.specs.Answer.{SPLIT_LIMIT_MIN_HELD}
use Rattle.vm_addresses.specs.Checks.AllocatorChecks.{decoded_root, decoded_parts}
use Rattle.vm_addresses.specs.Values.AllocatorValues.{EncodesAllocator, EncodesAddresses, EncodesRepaired, EncodesTree}
use Rattle.vm_saved_trees.specs.KeyValues.{EncodesKeys}
use Rattle.vm_saved_trees.specs.TreeValues.{EncodesSpaceTree}
use Rattle.vm_saved_trees.proofs.Reading.ReadSpaces.{one_encoded, tree_state_valid}
use Rattle.vm_saved_trees.proofs.Reading.RepairedTrees.{one_keys, keys_state, strict_keys}
use Rattle.vm_ranges.proofs.ReadRanges as ranges

module _ (Root : Data → Range → AddressState → Type 0)
    (is_space : (d : Data) (space : Range) (state : AddressState) → Root d space state → state.space ≡ space)
    (one : (d : Data) (space : Range) (a b : AddressState) → Root d space a → Root d space b → a ≡ b) where
  -- The decoded fields are the fields of the value.
  encoded_by : (d : Data) (space : Range) (root : Data) (state : AddressState) → decoded_parts d ≡ Some (space, root) →
      Root root space state → EncodesAllocator Root d state
  encoded_by d space root state e k =
      let own : Root root state.space state = subst (λ (s : Range). Root root s state) (sym (is_space root space state k)) k in
      let found = e ∙ ap (λ (s : Range). Some (s, root)) (sym (is_space root space state k)) in
      let two = if_some (is_count 2 (field_count d)) _ (state.space, root) found in
      let r = and_then_some (λ s. option_map (λ v. (s, v)) (option_and_then decoded_root (get (codes "interval_tree") d)))
      (option_and_then decoded_range (get (codes "address_space") d)) (state.space, root) two.1 in
      let r_at = and_then_some decoded_range (get (codes "address_space") d) r.0 r.1 in
      let v = map_some (λ x. (r.0, x)) (option_and_then decoded_root (get (codes "interval_tree") d)) (state.space, root) r.2 in
      let v_at = and_then_some decoded_root (get (codes "interval_tree") d) v.0 v.1 in
      let last = if_some (is_count 1 (field_count v_at.0)) (get (codes "root") v_at.0) v.0 v_at.2 in
      let encoded : EncodesRange r_at.0 state.space = subst (λ (x : Range × Data). EncodesRange r_at.0 x.0) v.2
      (ranges.found-states r_at.0 r.0 r_at.2) in
      let is : Root v.0 state.space state = subst (λ (x : Range × Data). Root x.1 state.space state) (sym v.2) own in
      record {
        two_fields = count-true 2 (field_count d) two.0;
        address_space = field_is (codes "address_space") d r_at.0 (λ x. EncodesRange x state.space) r_at.1 encoded;
        interval_tree = field_is (codes "interval_tree") d v_at.0 (λ x. EncodesTree x (λ w. Root w state.space state)) v_at.1 (record {
          one_field = count-true 1 (field_count v_at.0) last.0;
          root = field_is (codes "root") v_at.0 v.0 (λ w. Root w state.space state) last.1 is;
        });
      }

  -- The fields of an allocator's value are decoded.
  root_of : (d : Data) (state : AddressState) → EncodesAllocator Root d state →
      (root : Data) × (decoded_parts d ≡ Some (state.space, root)) × Root root state.space state
      × IsRange state.space.start state.space.end
  root_of d state p =
      let r = in_field (codes "address_space") d (λ v. EncodesRange v state.space) p.address_space in
      let t = in_field (codes "interval_tree") d (λ v. EncodesTree v (λ w. Root w state.space state)) p.interval_tree in
      let v = in_field (codes "root") t.0 (λ w. Root w state.space state) t.2.root in (
        v.0,
        rw (
          true-count 2 (field_count d) p.two_fields,
          r.1,
          ranges.states-found r.0 state.space r.2,
          t.1,
          true-count 1 (field_count t.0)
              t.2.one_field,
          v.1,
        ) refl,
        v.2,
        r.2.range,
      )

  -- A value encodes at most one state.
  one_state : (d : Data) (a b : AddressState) → EncodesAllocator Root d a → EncodesAllocator Root d b → a ≡ b
  one_state d a b p q =
      let x = root_of d a p in
      let y = root_of d b q in
      let same : (b.space, y.0) ≡ (a.space, x.0) = same_Some (b.space, y.0) (a.space, x.0) (sym y.1 ∙ x.1) in
      one x.0 a.space a b x.2 (subst (λ (v : Range × Data). Root v.1 v.0 b) same y.2)

  not_decoded : (d : Data) → decoded_parts d ≡ None → ((state : AddressState) × EncodesAllocator Root d state) → ⊥
  not_decoded d e p = let r = root_of d p.0 p.1 in absurd (let f = r.1 in cc)

  -- The result of reading the tree is that of reading the allocator.
  result_of : (d : Data) (space : Range) (root : Data) (answer : Result AddressState ValueError) →
      decoded_parts d ≡ Some (space, root) → Reads (Root root space) answer → Reads (EncodesAllocator Root d) answer
  result_of d space root (Ok state) e r = encoded_by d space root state e r
  result_of d space root (Err NotAState) e r = λ p.
      let x = root_of d p.0 p.1 in
      let same : (p.0.space, x.0) ≡ (space, root) = same_Some (p.0.space, x.0) (space, root) (sym x.1 ∙ e) in
      r (p.0, subst (λ (v : Range × Data). Root v.1 v.0 p.0) same x.2)
  result_of d space root (Err OutOfMemory) e r = (r.0, encoded_by d space root r.0 e r.1)

-- ---- Without repairs
tree_space : (d : Data) (space : Range) (state : AddressState) → EncodesSpaceTree d space state → state.space ≡ space
tree_space d space state r = r.is_space

pub one_addresses : (d : Data) (a b : AddressState) → EncodesAddresses d a → EncodesAddresses d b → a ≡ b
one_addresses = one_state EncodesSpaceTree tree_space one_encoded

-- The state that a value encodes is valid.
pub encoded_state : (d : Data) (state : AddressState) → EncodesAddresses d state → IsAddressState state
encoded_state d state p = let r = root_of EncodesSpaceTree tree_space one_encoded d state p in tree_state_valid r.0 state r.3 r.2

pub read_by : (d : Data) (space : Range) (root : Data) (answer : Result AddressState ValueError) → decoded_parts d ≡ Some (space, root) →
    Reads (EncodesSpaceTree root space) answer → Reads (EncodesAddresses d) answer
read_by = result_of EncodesSpaceTree tree_space one_encoded

-- ---- With repairs
keys_space : (d : Data) (space : Range) (state : AddressState) → EncodesKeys d space state → state.space ≡ space
keys_space d space state r = r.is_space

pub one_repaired : (d : Data) (a b : AddressState) → EncodesRepaired d a → EncodesRepaired d b → a ≡ b
one_repaired = one_state EncodesKeys keys_space one_keys

-- The state that a value encodes is valid.
pub repaired_state : (d : Data) (state : AddressState) → EncodesRepaired d state → IsAddressState state
repaired_state d state p = let r = root_of EncodesKeys keys_space one_keys d state p in keys_state r.0 state r.3 r.2

pub none_repaired : (d : Data) → decoded_parts d ≡ None → ((state : AddressState) × EncodesRepaired d state) → ⊥
none_repaired = not_decoded EncodesKeys keys_space one_keys

pub repaired_read_by : (d : Data) (space : Range) (root : Data) (answer : Result AddressState ValueError) →
    decoded_parts d ≡ Some (space, root) → Reads (EncodesKeys root space) answer → Reads (EncodesRepaired d) answer
repaired_read_by = result_of EncodesKeys keys_space one_keys

-- A value that is read without repairs is read with repairs to the same state, if few enough ranges are held.
strict_tree : (d : Data) (state : AddressState) → length state.held ≤ SPLIT_LIMIT_MIN_HELD →
    EncodesTree d (λ v. EncodesSpaceTree v state.space state) → EncodesTree d (λ v. EncodesKeys v state.space state)
strict_tree d state few t = record {
  one_field = t.one_field;
  root = field_map (codes "root") d (λ v. EncodesSpaceTree v state.space state) (λ v. EncodesKeys v state.space state)
      (λ v p. strict_keys v state.space state p few) t.root;
}

pub strict_repaired : (d : Data) (state : AddressState) → EncodesAddresses d state → length state.held ≤ SPLIT_LIMIT_MIN_HELD →
    EncodesRepaired d state
strict_repaired d state p few = record {
  two_fields = p.two_fields;
  address_space = p.address_space;
  interval_tree = field_map (codes "interval_tree") d (λ v. EncodesTree v (λ r. EncodesSpaceTree r state.space state))
      (λ v. EncodesTree v (λ r. EncodesKeys r state.space state)) (λ v. strict_tree v state few) p.interval_tree;
}
