-- An entry that replaces one with a higher key.
use Rattle.std.proofs.Common.{◌≡◌, ℕ, zero, suc, ◌+◌, ◌<◌, ◌≤◌, List, [], ◌∷◌, ◌++◌, length, get_or, set, drop, Option, Some, arith, sym, ap, refl, ◌∙◌, subst}
use Rattle.std.specs.List.{All}
use Rattle.std.specs.Option.{IsSome, is_some}
use Rattle.std.proofs.lemmas.List.{get_or-drop, length-drop}
use Rattle.std.proofs.lemmas.List.Elements.{All-weaker}
use Rattle.vm_tree.specs.Subtree.{AllOf}
use Rattle.vm_list.specs.Entries.{IsDescendingBy, above, below, with_entry, without, entry_at, IsFoundAt}
use Rattle.vm_tree.specs.Edits.{IsRefused}
use Rattle.vm_list.specs.Leaves.{IsMid, AreLeaves, items_of, leaf_entry}
use Rattle.vm_tree.specs.Shrinks.{IsShrunk}
use Rattle.vm_list.specs.Puts.{CanLower, IsLowered, IsNotLowered, Joins}
use Rattle.vm_list.proofs.Cuts.{below_after, sets_at}
use Rattle.vm_list.proofs.Found.{found}
use Rattle.vm_list.proofs.Middles.{with_in, with_nothing}
use Rattle.vm_list.proofs.EntryLaws.{keys_above, keys_below}
use Rattle.vm_list.proofs.Falls.{all_by, all_at, all_weaker, all_left, all_right}
use Rattle.vm_list.proofs.Mids.{below_mid, with_mid}
use Rattle.vm_list.proofs.Homes.{mid_entry, mid_without, home_mid, items_mid, regrouped_items}

module _ {X : Type 0} (key : X → ℕ) where
  -- The list with the entry instead of the one with the key t.
  pub lowered : (e : X) (t : ℕ) (xs : List X) → key e ≤ t → All (λ x. key x < key e) (below key t xs) →
      with_entry key e (without key t xs) ≡ above key t xs ++ e ∷ below key t xs
  unfolding without with_entry
  lowered e t xs l a =
      with_in key e (above key t xs) [] (below key t xs)
      (All-weaker (λ x. t < key x) (λ x. key e < key x) (λ x q. omega (arith, q, l)) (above key t xs) (keys_above key t xs)) a
      ∙ ap (λ m. above key t xs ++ (m ++ below key t xs)) (with_nothing key e)

  -- A replaced entry with the same key.
  pub set_is : (e : X) (xs : List X) → IsDescendingBy key xs → with_entry key e (without key (key e) xs) ≡ with_entry key e xs
  unfolding with_entry
  set_is e xs down = lowered e (key e) xs (omega arith) (keys_below key (key e) xs)

  pub can_set : (e : X) (xs : List X) → IsSome (entry_at key (key e) xs) → CanLower key (key e) e xs
  can_set e xs k = record { known = k; lower = omega arith; apart = keys_below key (key e) xs }

  module _ (t : ℕ) (xs high m low : List X) (i : IsMid key t xs high m low) (e : X) (c : CanLower key t e xs) where
    all_parts : AllOf (λ x. key x < key e) (below key t m ++ low)
    all_parts =
        all_by (λ x. key x < key e) (below key t m ++ low)
        (subst (λ l. All (λ x. key x < key e) l) (ap (below key t) i.is ∙ below_mid key t high m low i.over i.under) c.apart)

    pub lower_mid : CanLower key t e m
    lower_mid = record {
      known = subst (λ o. IsSome o) (mid_entry key t xs high m low i) c.known;
      lower = c.lower;
      apart = all_at (λ x. key x < key e) (below key t m) (all_left (λ x. key x < key e) (below key t m) low all_parts);
    }

    pub lowered_mid : with_entry key e (without key t xs) ≡ high ++ (with_entry key e (without key t m) ++ low)
    lowered_mid =
        let l = c.lower in
        ap (with_entry key e) (mid_without key t xs high m low i)
        ∙ with_mid key (key e) high (without key t m) low
        (all_weaker (λ x. t < key x) (λ x. key e < key x) (λ x q. omega (arith, q, l)) high i.over)
        (all_right (λ x. key x < key e) (below key t m) low all_parts) e refl

  -- ---- The place of the entry
  module _ (t p : ℕ) (xs : List X) (down : IsDescendingBy key xs) (f : IsFoundAt key t p xs) (x : X) (is : (d : X) → x ≡ get_or xs p d) (e : X) where
    after_is : below key t xs ≡ drop (suc p) xs
    after_is = below_after key t xs p f.place.above f.place.below x f.within is (ap key (is x) ∙ sym (f.has_key x)) down

    known_is : IsSome (entry_at key t xs)
    known_is = ap is_some (sym (found key t p xs f x is))

    pub can_last : length xs ≤ suc p → key e ≤ t → CanLower key t e xs
    can_last l h = record {
      known = known_is;
      lower = h;
      apart = subst (λ l. All (λ x. key x < key e) l) (sym after_is) (λ k d w. absurd (omega (arith, w, l, length-drop (suc p) xs)));
    }

    pub lowered_set : CanLower key t e xs → set xs p e ≡ with_entry key e (without key t xs)
    lowered_set c = sets_at key t xs p f.place.above f.place.below down c.known e ∙ sym (lowered e t xs c.lower c.apart)

    module _ (y : X) (q : ℕ) (qe : q ≡ suc p) (lq : q < length xs) (atq : (d : X) → y ≡ get_or xs q d) where
      l : suc p < length xs
      l = omega (arith, qe, lq)

      at : (d : X) → y ≡ get_or xs (suc p) d
      at d = atq d ∙ ap (λ j. get_or xs j d) qe

      pub can_next : key y < key e → key e ≤ t → CanLower key t e xs
      can_next h g = record {
        known = known_is;
        lower = g;
        apart = subst (λ l. All (λ x. key x < key e) l) (sym after_is)
            (λ k d w.
            let n = length-drop (suc p) xs in
            let q : key (get_or xs (suc p + k) d) ≤ key y = first k d (omega (arith, w, n)) in
            subst (λ z. key z < key e) (sym (get_or-drop (suc p) xs k d)) (omega (arith, q, h)));
      }
        where
          first : (k : ℕ) (d : X) → suc p + k < length xs → key (get_or xs (suc p + k) d) ≤ key y
          first zero d w = (let e = ap key (at d) in let s : suc p + 0 ≡ suc p = omega arith in let r = ap (λ j. key (get_or xs j d)) s in omega (arith, e, r))
          first (suc k) d w = (let g = down (suc p) (suc p + suc k) d (omega arith) w in let e = ap key (at d) in omega (arith, e, g))

      pub not_next : key e ≤ key y → CanLower key t e xs → ⊥
      not_next h c =
          let a = subst (λ l. All (λ x. key x < key e) l) after_is c.apart in
          let n = length-drop (suc p) xs in
          let b = a 0 y (omega (arith, l, n)) in
          let r = ap key (get_or-drop (suc p) xs 0 y) in
          let s : suc p + 0 ≡ suc p = omega arith in
          let u = ap (λ j. key (get_or xs j y)) s in
          let v = ap key (at y) in
          omega (arith, b, r, u, v, h)

  -- ---- The leaf of the key
  module _ (cs ds : List (List X)) (ok : AreLeaves key cs) (t : ℕ) (e : X) (c : CanLower key t e (items_of cs)) (entry : Option X) (is : entry ≡ Some e) where
    pub reworked : IsShrunk (leaf_entry key) Joins t (λ l ls. IsLowered key t entry l ls) cs ds → items_of ds ≡ with_entry key e (without key t (items_of cs))
    reworked s =
        let r = s.edited in
        let m = home_mid key t cs ok r.before r.leaf r.after r.home in
        let item : r.edit.item ≡ e = (let a = r.edit.was in cc) in
        regrouped_items key t cs ds ok s.middle ds s.regrouped ∙ ap items_of r.is ∙ items_mid r.before r.leaves r.after
        ∙ ap (λ l. items_of r.after ++ (items_of l ++ items_of r.before)) (r.edit.rest ∙ ap (λ x. with_entry key x (without key t r.leaf) ∷ []) item)
        ∙ sym (lowered_mid t (items_of cs) _ _ _ m e c)

    pub not_refused : IsRefused (leaf_entry key) t (λ l. IsNotLowered key t entry l) cs → ⊥
    not_refused s =
        let m = home_mid key t cs ok s.before s.leaf s.after s.home in
        s.refused e is (lower_mid t (items_of cs) _ _ _ m e c)
