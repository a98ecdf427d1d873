-- The values of a copy are clones of the values before.
use Rattle.std.proofs.Common.{◌≡◌, ◌↔◌, ℕ, zero, suc, List, [], ◌∷◌, Option, Some, None, IsSome, MatchOption, refl, sym, ap, ◌∙◌, subst}
use Rattle.std.specs.List.{AllZip, slice_get}
use Rattle.std.specs.Ordering.{nat_cmp}
use Rattle.std.specs.FinMap as map
use Rattle.vm_ranges.specs.Address.{AddressState}
use Rattle.vm_range_map.specs.declared.range_map.value_table.ValueAt.{ValueAt}
use Rattle.vm_range_map.specs.RangeMaps.{map_of, IsMapState, AreCopies}
use Rattle.vm_range_map.specs.Laws.{CopiesAreTheSame}
use Rattle.vm_range_map.specs.Checks.{values_of, AreIndexed}
use Rattle.vm_range_map.proofs.Tables.{same_table}
use Rattle.vm_range_map.proofs.Indices.{value_here, no_value}

module _ {X : Type 0} (clones : X → X → Type 0) where
  -- ---- The values of a table
  same_at : ((v w : X) → clones v w → w ≡ v) → (o p : Option X) → MatchOption o (p ≡ None) (λ v. (w : X) × (p ≡ Some w) × clones v w) → p ≡ o
  same_at same None p h = h
  same_at same (Some v) p h = h.1 ∙ ap (λ (u : X). Some u) (same v h.0 h.2)

  pub same_copy : ((v w : X) → clones v w → w ≡ v) → (values copy : map.FinMap nat_cmp X) → AreCopies clones values copy → copy ≡ values
  same_copy same values copy h = same_table copy values (λ q. same_at same (map.get values q) (map.get copy q) (h q))

  -- A start has a value in both tables or in none.
  both_some : (o p : Option X) → MatchOption o (p ≡ None) (λ v. (w : X) × (p ≡ Some w) × clones v w) → IsSome o ↔ IsSome p
  both_some None p h = (λ s. absurd (cc (s)), λ s. absurd (cc (s, h)))
  both_some (Some v) p h = (λ s. rw h.1 refl, λ s. refl)

  -- The copy of a valid state is valid.
  pub copied_state : (space : AddressState) (values copy : map.FinMap nat_cmp X) → IsMapState (map_of space values) → AreCopies clones values copy →
      IsMapState (map_of space copy)
  copied_state space values copy s h = record {
    space = s.space;
    starts = λ q.
        let both = both_some (map.get values q) (map.get copy q) (h q) in
        (λ k. (s.starts q).0 (both.1 k), λ r. both.0 ((s.starts q).1 r));
  }

  -- ---- The items behind a table
  -- Each item has a clone at the same index, with the same start.
  abbrev pub AreItemCopies : List (ValueAt X) → List (ValueAt X) → Type 0
  AreItemCopies vs ws =
      (k : ℕ) → MatchOption (slice_get vs k) (slice_get ws k ≡ None)
      (λ v. (w : ValueAt X) × (slice_get ws k ≡ Some w) × (w.start ≡ v.start) × clones v.value w.value)

  pub item_copies : (vs ws : List (ValueAt X)) → AllZip (λ v w. (w.start ≡ v.start) × clones v.value w.value) vs ws → AreItemCopies vs ws
  item_copies [] [] z k = refl
  item_copies [] (w ∷ ws) z k = absurd z
  item_copies (v ∷ vs) [] z k = absurd z
  item_copies (v ∷ vs) (w ∷ ws) z zero = (w, refl, z.0.0, z.0.1)
  item_copies (v ∷ vs) (w ∷ ws) z (suc k) = item_copies vs ws z.1 k

  module _ (indices : map.FinMap nat_cmp ℕ) (vs ws : List (ValueAt X)) (i : AreIndexed indices vs) (c : AreItemCopies vs ws) where
    -- The item that was cloned.
    cloned_of : (k : ℕ) (w : ValueAt X) (o : Option (ValueAt X)) → slice_get vs k ≡ o → slice_get ws k ≡ Some w →
        MatchOption o (slice_get ws k ≡ None) (λ v. (u : ValueAt X) × (slice_get ws k ≡ Some u) × (u.start ≡ v.start) × clones v.value u.value) →
        (v : ValueAt X) × (slice_get vs k ≡ Some v) × (w.start ≡ v.start)
    cloned_of k w None a h m = absurd (cc (h, m))
    cloned_of k w (Some v) a h m =
        let same : m.0 ≡ w = cc (sym m.1 ∙ h) in
        (v, a, ap (λ (u : ValueAt X). u.start) (sym same) ∙ m.2)

    copy_found : (k : ℕ) (w : ValueAt X) → slice_get ws k ≡ Some w → map.get indices w.start ≡ Some k
    copy_found k w h =
        let v = cloned_of k w (slice_get vs k) refl h (c k) in
        ap (λ (s : ℕ). map.get indices s) v.2 ∙ i.found k v.0 v.1

    clone_of : (k : ℕ) (v : ValueAt X) → slice_get vs k ≡ Some v → (w : ValueAt X) × (slice_get ws k ≡ Some w) × (w.start ≡ v.start) × clones v.value w.value
    clone_of k v h =
        let P : Option (ValueAt X) → Type 0 =
        λ o. MatchOption o (slice_get ws k ≡ None) (λ v. (w : ValueAt X) × (slice_get ws k ≡ Some w) × (w.start ≡ v.start) × clones v.value w.value) in
        subst P h (c k)

    pub copy_indexed : AreIndexed indices ws
    copy_indexed = record {
      found = copy_found;
      there = λ s k h. let t = i.there s k h in let w = clone_of k t.0 t.1 in (w.0, w.1, w.2 ∙ t.2);
    }

    copied_at : (q : ℕ) (o : Option ℕ) → map.get indices q ≡ o →
        MatchOption (map.get (values_of vs) q) (map.get (values_of ws) q ≡ None) (λ v. (w : X) × (map.get (values_of ws) q ≡ Some w) × clones v w)
    copied_at q None h = rw (no_value indices vs i q h) (no_value indices ws copy_indexed q h)
    copied_at q (Some k) h =
        let t = i.there q k h in
        let w = clone_of k t.0 t.1 in
        rw (value_here indices vs i q k t.0 h t.1) (w.0.value, value_here indices ws copy_indexed q k w.0 h w.1, w.3)

    pub copied_values : AreCopies clones (values_of vs) (values_of ws)
    copied_values q = copied_at q (map.get indices q) refl

pub copies_are_the_same : {X : Type 0} (clones : X → X → Type 0) → CopiesAreTheSame clones
copies_are_the_same clones same values copy h = same_copy clones same values copy h

pub ruleset copied = (copies_are_the_same)
