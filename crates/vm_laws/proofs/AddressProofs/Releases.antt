-- Ranges that are freed one after the other, in any order.
use Rattle.std.proofs.Common.{◌≡◌, ◌↔◌, List, [], ◌∷◌, Bool, true, false, nat_eq, eq-eqb, refl, sym, ap, ◌∙◌, inl, inr, ⊎_elim, subst, Ok}
use Rattle.std.proofs.lemmas.Bool.{cases_eq, ne_eqb}
use Rattle.std.proofs.lemmas.Map.Keys.{IsDistinct-IsPermutation}
use Rattle.std.specs.List.{Contains, AllByRecursion, IsDistinct}
use Rattle.std.specs.List.Sorted.{IsPermutation}
use Rattle.std.proofs.lemmas.List.Sorted.{Contains-permutation, IsPermutation-sym}
use Rattle.vm_ranges.specs.Range.{Range}
use Rattle.vm_ranges.specs.Address.{AddressState, IsAddressState, releasing, without_range}
use Rattle.vm_addresses.specs.Histories.AddressHistories.{IsHistoryFrom, Reached, releases}
use Rattle.vm_laws.specs.HistoryLaws.{FreesInAnyOrder}
use Rattle.vm_ranges.proofs.PlainWords.{IsHeld, contains_held, held_contains}
use Rattle.vm_addresses.proofs.Blocks.HeldSets.{one_start}
use Rattle.vm_addresses.proofs.Blocks.HeldChanges.{held_without, not_held_without, others_held}
use Rattle.vm_addresses.proofs.Results.AddressResults.{freed_held, freed_state, releases_held}
use Rattle.vm_laws.proofs.AddressProofs.AlongHistories.{history_state, reached_state, same_members, same_state}

-- The ranges that are held after some ranges are freed: those held before, without the freed ones.
left_held : (rs : List Range) (old new : AddressState) (q : Range) → IsAddressState old → IsHistoryFrom old (releases rs) new →
    IsHeld new.held q ↔ (IsHeld old.held q × ¬ IsHeld rs q)
left_held [] old new q i s =
    let P : AddressState → Type 0 = λ v. IsHeld v.held q in
    (λ k. (subst P s k, λ n. n), λ k. subst P (sym s) k.0)
left_held (r ∷ rs) old new q i s =
    let f = freed_held old s.0 r s.1 in
    let rest = left_held rs s.0 new q (freed_state old s.0 r (Ok tt) i s.1) s.2 in
    let P : AddressState → Type 0 = λ v. IsHeld v.held q in
    let lo = old.space.start in
    let hi = old.space.end in (
      λ k.
          let l = rest.0 k in
          let was : IsHeld (without_range r old.held) q = subst P f.1 l.0 in
          (held_without r q old.held was, λ n. ⊎_elim (not_held_without lo hi r q old.held i.in_order was) l.1 n),
      λ k. rest.1 (subst P (sym f.1) (others_held lo hi r q old.held i.in_order f.0 k.0 (λ e. k.1 (inl e))), λ n. k.1 (inr n)),
    )

-- The space does not change.
left_space : (rs : List Range) (old new : AddressState) → IsHistoryFrom old (releases rs) new → new.space ≡ old.space
left_space [] old new s = ap (λ (v : AddressState). v.space) s
left_space (r ∷ rs) old new s = left_space rs s.0 new s.2 ∙ ap (λ (v : AddressState). v.space) (freed_held old s.0 r s.1).1

same_left : (old first second : AddressState) (rs qs : List Range) → IsAddressState old → ((r : Range) → Contains rs r ↔ Contains qs r) →
    IsHistoryFrom old (releases rs) first → IsHistoryFrom old (releases qs) second → first ≡ second
same_left old first second rs qs i e s t =
    same_state first second (history_state (releases rs) old first i s) (history_state (releases qs) old second i t)
    (left_space rs old first s ∙ sym (left_space qs old second t))
    (λ r.
    let m = same_members rs qs e r in
    let l = left_held rs old first r i s in
    let k = left_held qs old second r i t in (
      λ u. let v = l.0 u in k.1 (v.0, λ n. v.1 (m.1 n)),
      λ u. let v = k.0 u in l.1 (v.0, λ n. v.1 (m.0 n)),
    ))

-- ---- Every order succeeds
-- Whether two ranges have the same start.
abbrev same_start : Range → Range → Bool
same_start r q = nat_eq r.start q.start

same_start-comm : (r q : Range) → same_start r q ≡ same_start q r
same_start-comm r q =
    ⊎_elim
    (λ (e : r.start ≡ q.start). eq-eqb r.start q.start e ∙ sym (eq-eqb q.start r.start (sym e)))
    (λ (n : r.start ≡ q.start → ⊥). ne_eqb r.start q.start n ∙ sym (ne_eqb q.start r.start (λ e. n (sym e))))
    (cases_eq r.start q.start)

-- A fact that is true for each range of a list is true for one of them.
each_of : (P : Range → Type 0) (rs : List Range) (r : Range) → AllByRecursion P rs → IsHeld rs r → P r
each_of P [] r a h = absurd h
each_of P (x ∷ xs) r a h = ⊎_elim (λ (e : x ≡ r). subst P e a.0) (λ (k : IsHeld xs r). each_of P xs r a.1 k) h

all_of : (P : Range → Type 0) (rs : List Range) → ((r : Range) → IsHeld rs r → P r) → AllByRecursion P rs
all_of P [] h = tt
all_of P (x ∷ xs) h = (h x (inl refl), all_of P xs (λ r k. h r (inr k)))

-- A range that is freed was held.
all_held : (rs : List Range) (old new : AddressState) (q : Range) → IsHistoryFrom old (releases rs) new → IsHeld rs q → IsHeld old.held q
all_held (r ∷ rs) old new q s h =
    let f = freed_held old s.0 r s.1 in
    ⊎_elim
    (λ (e : r ≡ q). subst (IsHeld old.held) e f.0)
    (λ (k : IsHeld rs q). held_without r q old.held (subst (λ (v : AddressState). IsHeld v.held q) f.1 (all_held rs s.0 new q s.2 k)))
    h
all_held [] old new q s h = absurd h

-- No range is freed twice.
all_distinct : (rs : List Range) (old new : AddressState) → IsAddressState old → IsHistoryFrom old (releases rs) new →
    IsDistinct same_start rs
unfolding IsDistinct
all_distinct [] old new i s = tt
all_distinct (r ∷ rs) old new i s =
    let f = freed_held old s.0 r s.1 in (
      all_of (λ q. same_start r q ≡ false) rs (λ q k.
          let left : IsHeld (without_range r old.held) q = subst (λ (v : AddressState). IsHeld v.held q) f.1
          (all_held rs s.0 new q s.2 k) in
          ne_eqb r.start q.start (λ e. not_held_without old.space.start old.space.end r q old.held i.in_order left
          (one_start old.space.start old.space.end r q old.held i.in_order f.0 (held_without r q old.held left) e))),
      all_distinct rs s.0 new (freed_state old s.0 r (Ok tt) i s.1) s.2,
    )

-- Different held ranges can be freed one after the other.
give_back : (rs : List Range) (old : AddressState) → IsAddressState old → ((r : Range) → IsHeld rs r → IsHeld old.held r) →
    IsDistinct same_start rs → (new : AddressState) × IsHistoryFrom old (releases rs) new
unfolding IsDistinct
give_back [] old i h d = (old, refl)
give_back (r ∷ rs) old i h d =
    let freed = releases_held old r (h r (inl refl)) in
    let mid = releasing r old in
    let rest = give_back rs mid (freed_state old mid r (Ok tt) i freed)
    (λ q k. others_held old.space.start old.space.end r q old.held i.in_order (h r (inl refl)) (h q (inr k)) (λ e.
    let apart : same_start r q ≡ false = each_of (λ p. same_start r p ≡ false) rs q d.0 k in
    let same : same_start r q ≡ true = eq-eqb r.start q.start (ap (λ (v : Range). v.start) e) in
    cc)) d.1 in
    (rest.0, (mid, freed, rest.1))

in_other_order : (old : Reached) (new : AddressState) (rs qs : List Range) → IsPermutation rs qs →
    IsHistoryFrom old.state (releases rs) new → IsHistoryFrom old.state (releases qs) new
in_other_order old new rs qs p s =
    let i = reached_state old in
    let back : IsPermutation qs rs = IsPermutation-sym rs qs p in
    let members : (r : Range) → Contains rs r ↔ Contains qs r = λ r. (Contains-permutation rs qs r p, Contains-permutation qs rs r back) in
    let held : (r : Range) → IsHeld qs r →
    IsHeld old.state.held r = λ r k. all_held rs old.state new r s (held_contains rs r ((members r).1 (contains_held qs r k))) in
    let other = give_back qs old.state i held
    (IsDistinct-IsPermutation same_start same_start-comm rs qs p (all_distinct rs old.state new i s)) in
    subst (IsHistoryFrom old.state (releases qs)) (sym (same_left old.state new other.0 rs qs i members s other.1)) other.1

pub order_is_free : FreesInAnyOrder
order_is_free = record {
  succeeds = in_other_order;
  same = λ old first second rs qs e s t. same_left old.state first second rs qs (reached_state old) e s t;
}
