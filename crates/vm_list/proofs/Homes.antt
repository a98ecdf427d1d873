-- The leaf of a key is the middle of all entries.
use Rattle.std.proofs.Common.{◌≡◌, ℕ, suc, ◌+◌, ◌<◌, ◌≤◌, List, [], ◌∷◌, ◌++◌, length, arith, sym, ap, ◌∙◌, subst, inl, inr, Option, Some, None, append_assoc, length-append}
use Rattle.std.proofs.lemmas.List.{append-nil}
use Rattle.vm_tree.specs.Subtree.{AllOf, Ascend, AreFrom}
use Rattle.vm_tree.specs.Edits.{IsHome, IsRefused, IsEdited, IsBefore}
use Rattle.vm_list.specs.Entries.{IsDescendingBy, with_entry, without, entry_at}
use Rattle.vm_list.specs.Leaves.{items_of, lowest_key, leaf_entry, IsEnough, AreLeaves, IsMid}
use Rattle.vm_tree.specs.Mends.{IsRegrouped}
use Rattle.vm_tree.specs.Shrinks.{IsShrunk, Meet}
use Rattle.vm_list.specs.Puts.{IsPut, IsTaken, Meets, Joins}
use Rattle.vm_list.proofs.EntryLaws.{taken_descends}
use Rattle.vm_list.proofs.Lows.{lowest_append, lowest_of}
use Rattle.vm_list.proofs.Falls.{Falls, AreOver, falls, falls_left, falls_right, falls_over, descends, all_left, all_right, all_weaker, lowest_least}
use Rattle.vm_list.proofs.Mids.{with_mid, without_mid, entry_mid}

module _ {X : Type 0} where
  pub items_append : (xs ys : List (List X)) → items_of (xs ++ ys) ≡ items_of ys ++ items_of xs
  items_append [] ys = sym (append-nil (items_of ys))
  items_append (x ∷ xs) ys = ap (λ l. l ++ x) (items_append xs ys) ∙ append_assoc (items_of ys) (items_of xs) x

  pub items_mid : (xs ms ys : List (List X)) → items_of (xs ++ (ms ++ ys)) ≡ items_of ys ++ (items_of ms ++ items_of xs)
  items_mid xs ms ys =
      items_append xs (ms ++ ys) ∙ ap (λ l. l ++ items_of xs) (items_append ms ys) ∙ append_assoc (items_of ys) (items_of ms) (items_of xs)

  module _ (key : X → ℕ) (t : ℕ) (cs : List (List X)) (ok : AreLeaves key cs) (before : List (List X)) (leaf : List X) (after : List (List X))
      (h : IsHome (leaf_entry key) t cs before leaf after) where
    is_mid : items_of cs ≡ items_of after ++ (leaf ++ items_of before)
    is_mid = ap items_of h.was ∙ items_mid before (leaf ∷ []) after

    falling : Falls key (items_of after ++ (leaf ++ items_of before))
    falling = falls key _ (subst (IsDescendingBy key) is_mid ok.order)

    pub size : length cs ≡ length before + suc (length after)
    size = ap length h.was ∙ length-append before (leaf ∷ after)

    pub all_filled : 2 ≤ length cs → AllOf IsEnough (before ++ leaf ∷ after)
    all_filled l = subst (AllOf IsEnough) h.was (ok.filled l)

    over_of : (ds : List (List X)) → Falls key (items_of ds) → IsBefore (leaf_entry key) t ds → (0 < length ds → AllOf IsEnough ds) → AllOf (λ x. t < key x) (items_of ds)
    over_of [] f b e = tt
    over_of (d ∷ ds) f b e =
        let l : 0 < length d = (e (omega arith)).0 in
        let s = lowest_append key (items_of ds) d l in
        all_weaker (λ x. lowest_key key (items_of ds ++ d) ≤ key x) (λ x. t < key x) (λ x q. omega (arith, q, b, s)) (items_of ds ++ d)
        (lowest_least key (items_of ds ++ d) f)

    under_of : (bs : List (List X)) → Falls key (leaf ++ items_of bs) → (0 < length bs → lowest_key key leaf ≤ t) → (0 < length bs → 0 < length leaf)
        → AllOf (λ x. key x < t) (items_of bs)
    under_of [] f l e = tt
    under_of (b ∷ bs) f l e =
        let m = l (omega arith) in
        all_weaker (λ y. key y < lowest_key key leaf) (λ y. key y < t) (λ y q. omega (arith, q, m)) (items_of (b ∷ bs))
        (lowest_of key (λ k. AllOf (λ y. key y < k) (items_of (b ∷ bs))) leaf (e (omega arith)) (falls_over key leaf (items_of (b ∷ bs)) f))

    pub home_mid : IsMid key t (items_of cs) (items_of after) leaf (items_of before)
    home_mid = record {
      is = is_mid;
      over = over_of after (falls_left key (items_of after) (leaf ++ items_of before) falling) h.here.high
          (λ l. (all_right IsEnough before (leaf ∷ after) (all_filled (omega (arith, size, l)))).1);
      under = under_of before (falls_right key (items_of after) (leaf ++ items_of before) falling) h.here.low
          (λ l. (all_right IsEnough before (leaf ∷ after) (all_filled (omega (arith, size, l)))).0);
    }

  module _ (key : X → ℕ) (t : ℕ) (xs high m low : List X) (i : IsMid key t xs high m low) where
    pub mid_with : (e : X) → key e ≡ t → with_entry key e xs ≡ high ++ (with_entry key e m ++ low)
    mid_with e s = ap (with_entry key e) i.is ∙ with_mid key t high m low i.over i.under e s

    pub mid_without : without key t xs ≡ high ++ (without key t m ++ low)
    mid_without = ap (without key t) i.is ∙ without_mid key t high m low i.over i.under

    pub mid_entry : entry_at key t xs ≡ entry_at key t m
    mid_entry = ap (entry_at key t) i.is ∙ entry_mid key t high m low i.over i.under

  -- The leaves ascend by their lowest keys.
  pub ascending : (key : X → ℕ) (cs : List (List X)) → AreLeaves key cs → Ascend (leaf_entry key) cs
  ascending key cs ok = go cs (falls key (items_of cs) ok.order) ok.filled
    where
      from : (z : ℕ) (ds : List (List X)) → AllOf (λ x. z ≤ key x) (items_of ds) → AllOf IsEnough ds → AreFrom (leaf_entry key) z ds
      from z [] a e = tt
      from z (d ∷ ds) a e = (
        lowest_of key (λ k. z ≤ k) d e.0 (all_right (λ x. z ≤ key x) (items_of ds) d a),
        from z ds (all_left (λ x. z ≤ key x) (items_of ds) d a) e.1,
      )

      above_all : (c : List X) (xs : List X) → 0 < length c → AreOver key xs c → AllOf (λ x. lowest_key key c ≤ key x) xs
      above_all c xs l o = all_weaker (λ x. AllOf (λ y. key y < key x) c) (λ x. lowest_key key c ≤ key x)
          (λ x a. let q = lowest_of key (λ k. k < key x) c l a in omega (arith, q)) xs o

      full : (cs : List (List X)) → Falls key (items_of cs) → AllOf IsEnough cs → Ascend (leaf_entry key) cs
      full [] f e = tt
      full (c ∷ cs) f e = (
        from (lowest_key key c) cs (above_all c (items_of cs) e.0 (falls_over key (items_of cs) c f)) e.1,
        full cs (falls_left key (items_of cs) c f) e.1,
      )

      go : (cs : List (List X)) → Falls key (items_of cs) → (2 ≤ length cs → AllOf IsEnough cs) → Ascend (leaf_entry key) cs
      go [] f e = tt
      go (c ∷ []) f e = (tt, tt)
      go (c ∷ d ∷ cs) f e = full (c ∷ d ∷ cs) f (e (omega arith))

  -- Leaves next to each other descend together.
  pub meeting_all : (key : X → ℕ) (cs : List (List X)) → IsDescendingBy key (items_of cs) → Meet (Meets key) cs
  meeting_all key [] d = tt
  meeting_all key (c ∷ []) d = tt
  meeting_all key (c ∷ e ∷ cs) d =
      let f = falls key (items_of (c ∷ e ∷ cs)) d in (
        descends key (e ++ c) (falls_right key (items_of cs) (e ++ c) (subst (Falls key) (append_assoc (items_of cs) e c) f)),
        meeting_all key (e ∷ cs) (descends key (items_of (e ∷ cs)) (falls_left key (items_of (e ∷ cs)) c f)),
      )

  -- ---- Changes
  module _ (key : X → ℕ) (t : ℕ) (cs ds : List (List X)) (ok : AreLeaves key cs) where
    module _ (entry left old : Option X) (s : IsEdited (leaf_entry key) IsEnough t (λ l ls. IsPut key entry left old l ls) cs ds)
        (e : X) (is : entry ≡ Some e) (k : key e ≡ t) where
      item_is : s.edit.item ≡ e
      item_is = let a = s.edit.was in cc

      pub put_items : items_of ds ≡ with_entry key e (items_of cs)
      put_items =
          let m = home_mid key t cs ok s.before s.leaf s.after s.home in
          ap items_of s.is
          ∙ items_mid s.before s.leaves s.after
          ∙ ap (λ l. items_of s.after ++ (l ++ items_of s.before)) (s.edit.items ∙ ap (λ x. with_entry key x s.leaf) item_is)
          ∙ sym (mid_with key t (items_of cs) _ _ _ m e k)

      pub put_old : old ≡ entry_at key t (items_of cs)
      put_old =
          let m = home_mid key t cs ok s.before s.leaf s.after s.home in
          s.edit.before ∙ ap (λ x. entry_at key (key x) s.leaf) item_is ∙ ap (λ n. entry_at key n s.leaf) k ∙ sym (mid_entry key t (items_of cs) _ _ _ m)

    pub regrouped_items : (es fs : List (List X)) → IsRegrouped Joins es fs → items_of fs ≡ items_of es
    regrouped_items es fs (inl e) = ap items_of e
    regrouped_items es fs (inr j) =
        ap items_of j.is ∙ items_mid j.before j.leaves j.after
        ∙ ap (λ l. items_of j.after ++ (l ++ items_of j.before)) j.joined
        ∙ sym (items_mid j.before (j.low ∷ j.high ∷ []) j.after) ∙ ap items_of (sym j.was)

    module _ (taken : Option X) (s : IsShrunk (leaf_entry key) Joins t (λ l ls. IsTaken key t taken l ls) cs ds) where
      pub taken_items : items_of ds ≡ without key t (items_of cs)
      taken_items =
          let r = s.edited in
          let m = home_mid key t cs ok r.before r.leaf r.after r.home in
          regrouped_items s.middle ds s.regrouped ∙ ap items_of r.is
          ∙ items_mid r.before r.leaves r.after
          ∙ ap (λ l. items_of r.after ++ (items_of l ++ items_of r.before)) r.edit.rest
          ∙ sym (mid_without key t (items_of cs) _ _ _ m)

      pub taken_entry : taken ≡ entry_at key t (items_of cs)
      taken_entry =
          let r = s.edited in
          let m = home_mid key t cs ok r.before r.leaf r.after r.home in
          r.edit.entry ∙ sym (mid_entry key t (items_of cs) _ _ _ m)

    -- The rest of the leaf meets its neighbours.
    pub meets_after : (before : List (List X)) (leaf : List X) (after leaves : List (List X)) (taken : Option X) → IsHome (leaf_entry key) t cs before leaf after
        → IsTaken key t taken leaf leaves → Meet (Meets key) (before ++ (leaves ++ after))
    meets_after before leaf after leaves taken h s =
        let m = home_mid key t cs ok before leaf after h in
        let e : items_of (before ++ (leaves ++ after)) ≡ without key t (items_of cs) =
        items_mid before leaves after ∙ ap (λ l. items_of after ++ (items_of l ++ items_of before)) s.rest ∙ sym (mid_without key t (items_of cs) _ _ _ m) in
        meeting_all key (before ++ (leaves ++ after)) (subst (IsDescendingBy key) (sym e) (taken_descends key t (items_of cs) ok.order))

    pub not_taken : (taken : Option X) → IsRefused (leaf_entry key) t (λ l. (taken ≡ None) × (entry_at key t l ≡ None)) cs
        → (taken ≡ entry_at key t (items_of cs)) × (entry_at key t (items_of cs) ≡ None)
    not_taken taken s =
        let m = home_mid key t cs ok s.before s.leaf s.after s.home in
        let e = mid_entry key t (items_of cs) _ _ _ m ∙ s.refused.1 in
        (s.refused.0 ∙ sym e, e)
