-- An id that is next to no run of its leaf is next to no run of the list.
use Rattle.std.proofs.Common.{◌≡◌, ℕ, ◌+◌, ◌-◌, ◌<◌, ◌≤◌, Bool, true, List, [], ◌∷◌, length, IfSome, refl, sym, ap, ◌∙◌, subst, arith, inl, inr, Option, Some, None, nat_eq, get_or}
use Rattle.std.specs.Option.{option_or, IsSome}
use Rattle.std.specs.List.{find}
use Rattle.vm_tree.specs.Subtree.{AllOf}
use Rattle.vm_tree.specs.Edits.{IsHome, IsEdited, IsRefused}
use Rattle.vm_list.specs.declared.id_set.Run.{Run}
use Rattle.vm_list.specs.Entries.{IsDescendingBy, IsMissingAt, entry_at, with_entry, without_some, at_or_above, highest_below}
use Rattle.vm_list.specs.Leaves.{items_of, lowest_key, leaf_entry, IsEnough, AreLeaves, IsMid}
use Rattle.vm_list.specs.Puts.{IsAddedAlone}
use Rattle.vm_list.specs.Runs.{last_of, one_id, joined_last, joined_run, with_joined, with_id, IsAlone, AddsId, LacksId}
use Rattle.std.proofs.lemmas.Option.{none-some}
use Rattle.std.proofs.lemmas.Bool.{cases_lt, cases_eq, cond-true, cond-false, eq-eqb, ne_eqb}
use Rattle.std.proofs.lemmas.List.{get_or_default, length-append}
use Rattle.vm_list.proofs.Cuts.{found_from, found_under, none_under}
use Rattle.vm_list.proofs.EntryLaws.{put_descends}
use Rattle.vm_list.proofs.Falls.{all_weaker, all_right}
use Rattle.vm_list.proofs.Mids.{above_mid}
use Rattle.vm_list.proofs.Nears.{below_mid, some_below}
use Rattle.vm_list.proofs.Homes.{home_mid, mid_entry, put_items}

-- Entries without the key t do not begin with it.
lowest_not : (t : ℕ) (m : List Run) → 0 < length m → entry_at last_of t m ≡ None → lowest_key last_of m ≡ t → ⊥
unfolding entry_at
lowest_not t [] l n e = absurd (omega (arith, l))
lowest_not t (x ∷ []) l n e = none-some x (sym n ∙ cond-true (nat_eq x.last t) (Some x) None (eq-eqb _ _ e))
lowest_not t (x ∷ y ∷ xs) l n e =
    let T : Run → Bool = λ r. nat_eq r.last t in
    elim (cases_eq x.last t) [
      | inl o ↦ none-some x (sym n ∙ cond-true (T x) (Some x) (find T (y ∷ xs)) (eq-eqb _ _ o))
      | inr o ↦ lowest_not t (y ∷ xs) (omega arith) (sym (cond-false (T x) (Some x) (find T (y ∷ xs)) (ne_eqb _ _ o)) ∙ n) e
    ]

module _ (id : ℕ) (cs : List (List Run)) (ok : AreLeaves last_of cs) where
  pub alone_in : (before : List (List Run)) (leaf : List Run) (after : List (List Run)) → IsHome (leaf_entry last_of) id cs before leaf after → IsAlone id leaf
      → IsAlone id (items_of cs)
  alone_in before leaf after h a =
      let m : IsMid last_of id (items_of cs) (items_of after) leaf (items_of before) = home_mid last_of id cs ok before leaf after h in
      let b : highest_below last_of id (items_of cs) ≡ highest_below last_of id leaf =
      ap (highest_below last_of id) m.is
      ∙ below_mid last_of id (items_of after) leaf (items_of before)
      (all_weaker (λ x. id < last_of x) (λ x. id ≤ last_of x) (λ x h. omega (arith, h)) (items_of after) m.over)
      (λ l. go before h.here.low (λ q. (all_right IsEnough before (leaf ∷ after) (subst (AllOf IsEnough) h.was (ok.filled (size q)))).0) l) in
      record {
        above = a.above;
        next = ap (at_or_above last_of id) m.is ∙ above_mid last_of id (items_of after) leaf (items_of before) m.under
            ∙ ap (λ o. option_or o (at_or_above last_of id (items_of after))) a.next;
        new = mid_entry last_of id (items_of cs) (items_of after) leaf (items_of before) m ∙ a.new;
        apart_above = a.apart_above;
        apart_below = subst (λ o. IfSome o (λ (r : Run). r.last + 1 < id)) (sym b) a.apart_below;
      }
    where
      size : 0 < length before → 2 ≤ length cs
      size l = omega (arith, ap length h.was, length-append before (leaf ∷ after), l)

      go : (bs : List (List Run)) → (0 < length bs → lowest_key last_of leaf ≤ id) → (0 < length bs → 0 < length leaf) → 0 < length (items_of bs)
          → IsSome (highest_below last_of id leaf)
      go [] low q l = absurd (omega (arith, l))
      go (b ∷ bs) low q l =
          let n = lowest_not id leaf (q (omega arith)) a.new in
          let k = low (omega arith) in
          elim (cases_lt (lowest_key last_of leaf) id) [
            | inl o ↦ some_below last_of id leaf (q (omega arith)) o
            | inr o ↦ absurd (n (omega (arith, o, k)))
          ]

  pub lacks_alone : IsRefused (leaf_entry last_of) id (λ c. IsAlone id c) cs → LacksId id (at_or_above last_of id (items_of cs))
  lacks_alone r =
      let a = alone_in r.before r.leaf r.after r.home r.refused in
      let l = a.apart_above in
      subst (LacksId id) (sym a.next) (omega (arith, l))

  put_alone : (ds : List (List Run)) → IsEdited (leaf_entry last_of) IsEnough id (λ c leaves. IsAddedAlone id c leaves) cs ds
      → items_of ds ≡ with_entry last_of (one_id id) (items_of cs)
  put_alone ds s =
      put_items last_of id cs ds ok (Some (one_id id)) None None
      (record { before = s.before; leaf = s.leaf; after = s.after; leaves = s.leaves; home = s.home; is = s.is; edit = s.edit.put; some = s.some; all = s.all })
      (one_id id) refl refl

  -- The list with the id, whose keys descend too.
  pub alone_order : (ds : List (List Run)) → IsEdited (leaf_entry last_of) IsEnough id (λ c leaves. IsAddedAlone id c leaves) cs ds
      → IsDescendingBy last_of (items_of ds)
  alone_order ds s = subst (IsDescendingBy last_of) (sym (put_alone ds s)) (put_descends last_of (one_id id) (items_of cs) ok.order)

  -- The leaf with the id stands in the list with the id.
  pub alone_put : (ds : List (List Run)) → IsEdited (leaf_entry last_of) IsEnough id (λ c leaves. IsAddedAlone id c leaves) cs ds
      → AddsId id true (items_of cs) (items_of ds)
  alone_put ds s =
      let a = alone_in s.before s.leaf s.after s.home s.edit.alone in
      let put = put_alone ds s in
      let l = a.apart_above in
      (subst (LacksId id) (sym a.next) (omega (arith, l)), put ∙ sym (joins_none_beside (items_of cs) a))
    where
      joins_none_beside : (rs : List Run) (a : IsAlone id rs) → with_id id rs ≡ with_entry last_of (one_id id) rs
      joins_none_beside rs a =
          let above = a.apart_above in
          ap (λ o. with_joined id o (highest_below last_of id rs) rs) a.next ∙ none_below (Some a.above) rs (highest_below last_of id rs) a.apart_below
          ∙ ap (λ n. with_entry last_of (record { first = id; last = n }) rs)
          (cond-false (nat_eq (id + 1) a.above.first) a.above.last id (ne_eqb _ _ (omega (arith, above))))
        where
          none_below : (o : Option Run) (rs : List Run) (p : Option Run) → IfSome p (λ (r : Run). r.last + 1 < id)
              → with_joined id o p rs ≡ with_entry last_of (record { first = id; last = joined_last id o }) rs
          none_below o rs None h = refl
          none_below o rs (Some r) h =
              ap (λ p. without_some last_of p (with_entry last_of (joined_run id o (Some r)) rs))
              (cond-false (nat_eq (r.last + 1) id) (Some r.last) None (ne_eqb _ _ (omega (arith, h))))
              ∙ ap (λ n. with_entry last_of (record { first = n; last = joined_last id o }) rs)
              (cond-false (nat_eq (r.last + 1) id) r.first id (ne_eqb _ _ (omega (arith, h))))

-- The runs next to the place of an id that is in none.
module _ (id p : ℕ) (xs : List Run) (m : IsMissingAt last_of id p xs) (order : IsDescendingBy last_of xs) (some : 0 < p)
    (a : Run) (above : (d : Run) → a ≡ get_or xs (p - 1) d) where
  from : (k : ℕ) (d : Run) → k < p → id ≤ last_of (get_or xs k d)
  from k d h = let f = m.place.above k d h in omega (arith, f)

  pub alone_at : id + 1 < a.first → ((d : Run) → p < length xs → last_of (get_or xs p d) + 1 < id) → IsAlone id xs
  alone_at q r =
      record {
        above = a;
        next = sym (found_from last_of id xs p m.place.bound from under some a above);
        new = m.missing;
        apart_above = q;
        apart_below =
            elim (cases_lt p (length xs)) [
              | inl o ↦ subst (λ o. IfSome o (λ (b : Run). b.last + 1 < id))
                  (found_under last_of id xs p m.place.bound from under o (get_or xs p a) (λ d. get_or_default xs p a d o)) (r a o)
              | inr o ↦ subst (λ o. IfSome o (λ (b : Run). b.last + 1 < id)) (none_under last_of id xs p m.place.bound from under o) tt
            ];
      }
    where
      under : (k : ℕ) (d : Run) → p ≤ k → k < length xs → last_of (get_or xs k d) < id
      under k d h l =
          elim (cases_lt p k) [
            | inl o ↦ (let f = order p k d o l in let e = r d (omega (arith, o, l)) in omega (arith, f, e))
            | inr o ↦ (let e : k ≡ p = omega (arith, o, h) in let g = r d (omega (arith, e, l)) in
                omega (arith, g, ap (λ n. last_of (get_or xs n d)) e))
          ]
