-- The entries with keys from lo to hi, in the leaves between those of lo and hi.
use Rattle.std.proofs.Common.{◌≡◌, ℕ, suc, ◌-◌, ◌<◌, ◌≤◌, min, Bool, true, false, ◌&&◌, List, [], ◌∷◌, ◌++◌, length, take, drop, reverse, nat_le, arith, sym, ap, ◌∙◌, subst, refl, inl, inr, ◌+◌, append_assoc, length-append}
use Rattle.std.specs.List.{filter}
use Rattle.std.proofs.lemmas.Bool.{cases_lt, cases_Bool, cond-true, cond-false, le-leb, lt-leb}
use Rattle.std.proofs.lemmas.List.{append-nil, reverse-append, length-take, length-drop, get_or-take, get_or-drop, drop-take, take-append-drop}
use Rattle.std.proofs.lemmas.List.Elements.{filter-append}
use Rattle.vm_tree.specs.Subtree.{AllOf}
use Rattle.vm_tree.specs.Between.{AreBetween}
use Rattle.vm_list.specs.Entries.{IsPlace, IsPlaceFrom, is_between, between}
use Rattle.vm_list.specs.Leaves.{items_of, leaf_entry, IsEnough, AreLeaves, IsMid}
use Rattle.vm_list.specs.Iters.{left_in}
use Rattle.vm_list.proofs.Cuts.{filter_first, filter_last}
use Rattle.vm_list.proofs.Falls.{all_left, all_right, all_weaker}
use Rattle.vm_list.proofs.Mids.{keeps, omits}
use Rattle.vm_list.proofs.Homes.{items_append, items_mid, home_mid}

module _ {X : Type 0} where
  abbrev tail : List X → List X
  tail [] = []
  tail (x ∷ xs) = xs

  push_cancel : (xs ys : List X) (x y : X) → xs ++ x ∷ [] ≡ ys ++ y ∷ [] → xs ≡ ys
  push_cancel [] [] x y e = refl
  push_cancel [] (b ∷ bs) x y e = absurd (omega (arith, ap length e, length-append bs (y ∷ [])))
  push_cancel (a ∷ xs) [] x y e = absurd (omega (arith, ap length e, length-append xs (x ∷ [])))
  push_cancel (a ∷ xs) (b ∷ bs) x y e =
      let h : a ≡ b = cc in
      ap (λ l. a ∷ l) (push_cancel xs bs x y (ap tail e)) ∙ ap (λ k. k ∷ bs) h

  filter_reverse : (T : X → Bool) (xs : List X) → filter T (reverse xs) ≡ reverse (filter T xs)
  filter_reverse T [] = refl
  filter_reverse T (x ∷ xs) =
      ap (filter T) (reverse-append (x ∷ []) xs) ∙ filter-append T (reverse xs) (x ∷ []) ∙ ap (λ l. l ++ filter T (x ∷ [])) (filter_reverse T xs)
      ∙ elim (cases_Bool (T x)) [
        | inl t ↦ ap (λ l. reverse (filter T xs) ++ l) (cond-true (T x) (x ∷ []) [] t)
            ∙ sym (reverse-append (x ∷ []) (filter T xs)) ∙ ap reverse (sym (cond-true (T x) (x ∷ filter T xs) (filter T xs) t))
        | inr t ↦ ap (λ l. reverse (filter T xs) ++ l) (cond-false (T x) (x ∷ []) [] t)
            ∙ append-nil (reverse (filter T xs)) ∙ ap reverse (sym (cond-false (T x) (x ∷ filter T xs) (filter T xs) t))
      ]

module _ {X : Type 0} (key : X → ℕ) (lo hi : ℕ) where
  passes : (x : X) → lo ≤ key x → key x ≤ hi → is_between key lo hi x ≡ true
  passes x a b = ap (λ t. t && nat_le (key x) hi) (le-leb _ _ a) ∙ ap (λ t. true && t) (le-leb _ _ b)

  below_fails : (x : X) → key x < lo → is_between key lo hi x ≡ false
  below_fails x a = ap (λ t. t && nat_le (key x) hi) (lt-leb _ _ a)

  above_fails : (x : X) → hi < key x → is_between key lo hi x ≡ false
  above_fails x a = elim (cases_Bool (nat_le lo (key x))) [
    | inl t ↦ ap (λ s. s && nat_le (key x) hi) t ∙ lt-leb _ _ a
    | inr t ↦ ap (λ s. s && nat_le (key x) hi) t
  ]

  pub between_reverse : (xs : List X) → between key lo hi (reverse xs) ≡ reverse (between key lo hi xs)
  unfolding between
  between_reverse xs = filter_reverse (is_between key lo hi) xs

  none_of : (xs : List X) → AllOf (λ x. key x < lo) xs → between key lo hi xs ≡ []
  unfolding between
  none_of xs a = omits (is_between key lo hi) xs (all_weaker (λ x. key x < lo) (λ x. is_between key lo hi x ≡ false) below_fails xs a)

  none_over : (xs : List X) → AllOf (λ x. hi < key x) xs → between key lo hi xs ≡ []
  unfolding between
  none_over xs a = omits (is_between key lo hi) xs (all_weaker (λ x. hi < key x) (λ x. is_between key lo hi x ≡ false) above_fails xs a)

  all_of : (xs : List X) → AllOf (λ x. lo < key x) xs → AllOf (λ x. key x < hi) xs → between key lo hi xs ≡ xs
  unfolding between
  all_of xs a b = keeps (is_between key lo hi) xs (go xs a b)
    where
      go : (xs : List X) → AllOf (λ x. lo < key x) xs → AllOf (λ x. key x < hi) xs → AllOf (λ x. is_between key lo hi x ≡ true) xs
      go [] a b = tt
      go (x ∷ xs) a b = (passes x (omega (arith, a.0)) (omega (arith, b.0)), go xs a.1 b.1)

  append : (xs ys : List X) → between key lo hi (xs ++ ys) ≡ between key lo hi xs ++ between key lo hi ys
  unfolding between
  append xs ys = filter-append (is_between key lo hi) xs ys

  -- No key is between keys that crossed.
  pub crossed : hi < lo → (xs : List X) → between key lo hi xs ≡ []
  unfolding between
  crossed l xs = omits (is_between key lo hi) xs (go xs)
    where
      go : (xs : List X) → AllOf (λ x. is_between key lo hi x ≡ false) xs
      go [] = tt
      go (x ∷ xs) = (elim (cases_lt (key x) lo) [ inl p ↦ below_fails x p | inr p ↦ above_fails x (omega (arith, p, l)) ], go xs)

  pub reversed : (xs ys : List X) → between key lo hi xs ≡ ys → reverse ys ≡ between key lo hi (reverse xs)
  reversed xs ys e = sym (between_reverse xs ∙ ap reverse e)

  -- The entries of a descending list are those between the places of both keys.
  module _ (xs : List X) (start end n : ℕ) (p : IsPlace key hi start xs) (q : IsPlaceFrom key lo end xs) (s : n ≡ min start end) where
    lower_part : between key lo hi (drop end xs) ≡ []
    unfolding between
    lower_part = filter_first (is_between key lo hi) (drop end xs) 0 (λ k d h w. absurd (omega (arith, h)))
        (λ k d h w. ap (is_between key lo hi) (get_or-drop end xs k d)
        ∙ below_fails _ (q.below (end + k) d (omega arith) (omega (arith, w, length-drop end xs))))

    upper_part : between key lo hi (take end xs) ≡ drop n (take end xs)
    unfolding between
    upper_part =
        let size = length-take end xs in
        filter_last (is_between key lo hi) (take end xs) n
        (λ k d h w. ap (is_between key lo hi) (get_or-take end xs k d (omega (arith, w, size)))
        ∙ above_fails _ (p.above k d (omega (arith, h, s))))
        (λ k d h w.
        let l : k < end = omega (arith, w, size) in
        ap (is_between key lo hi) (get_or-take end xs k d l)
        ∙ passes _ (q.from k d l) (p.below k d (omega (arith, h, s, l)) (omega (arith, l, q.bound))))

    pub part_is : take (end - n) (drop n xs) ≡ between key lo hi xs
    part_is =
        let e : n + (end - n) ≡ end = omega (arith, s) in
        sym (drop-take n (end - n) xs) ∙ ap (λ k. drop n (take k xs)) e ∙ sym upper_part
        ∙ sym (append-nil (between key lo hi (take end xs))) ∙ ap (λ l. between key lo hi (take end xs) ++ l) (sym lower_part)
        ∙ sym (append (take end xs) (drop end xs)) ∙ ap (between key lo hi) (take-append-drop end xs)

  -- ---- The leaves
  module _ (cs : List (List X)) (ok : AreLeaves key cs) (m : List (List X)) (w : AreBetween (leaf_entry key) lo hi cs m) where
    from_low : IsMid key lo (items_of cs) (items_of w.rest) w.first (items_of w.below)
    from_low = home_mid key lo cs ok w.below w.first w.rest w.low

    to_high : IsMid key hi (items_of cs) (items_of w.above) w.last (items_of w.others)
    to_high = home_mid key hi cs ok w.others w.last w.above w.high

    parted : cs ≡ w.below ++ (m ++ w.above)
    parted = w.low.was ∙ ap (λ l. w.below ++ l) (sym w.from)

    -- The other leaves have none of the entries.
    in_these : between key lo hi (items_of cs) ≡ between key lo hi (items_of m)
    in_these =
        ap (λ l. between key lo hi (items_of l)) parted
        ∙ ap (between key lo hi) (items_mid w.below m w.above)
        ∙ append (items_of w.above) (items_of m ++ items_of w.below)
        ∙ ap (λ l. l ++ between key lo hi (items_of m ++ items_of w.below)) (none_over (items_of w.above) to_high.over)
        ∙ append (items_of m) (items_of w.below)
        ∙ ap (λ l. between key lo hi (items_of m) ++ l) (none_of (items_of w.below) from_low.under)
        ∙ append-nil (between key lo hi (items_of m))

    pub in_one : (c : List X) → m ≡ c ∷ [] → between key lo hi (items_of cs) ≡ between key lo hi c
    in_one c e = in_these ∙ ap (λ l. between key lo hi (items_of l)) e

    module _ (c d : List X) (ds : List (List X)) (e : m ≡ c ∷ (ds ++ d ∷ [])) where
      above_low : AllOf (λ x. lo < key x) (items_of ds)
      above_low =
          let r : w.rest ≡ (ds ++ d ∷ []) ++ w.above = ap tail (sym w.from ∙ ap (λ l. l ++ w.above) e) in
          let a : AllOf (λ x. lo < key x) (items_of w.above ++ items_of (ds ++ d ∷ [])) =
          subst (AllOf (λ x. lo < key x)) (ap items_of r ∙ items_append (ds ++ d ∷ []) w.above) from_low.over in
          all_right (λ x. lo < key x) d (items_of ds) (subst (AllOf (λ x. lo < key x)) (items_append ds (d ∷ []))
          (all_right (λ x. lo < key x) (items_of w.above) (items_of (ds ++ d ∷ [])) a))

      below_high : AllOf (λ x. key x < hi) (items_of ds)
      below_high =
          let r : w.below ++ (c ∷ ds) ≡ w.others =
          push_cancel (w.below ++ (c ∷ ds)) w.others d w.last (append_assoc w.below (c ∷ ds) (d ∷ []) ∙ ap (λ l. w.below ++ l) (sym e) ∙ w.to) in
          let a : AllOf (λ x. key x < hi) (items_of (c ∷ ds) ++ items_of w.below) =
          subst (AllOf (λ x. key x < hi)) (ap items_of (sym r) ∙ items_append w.below (c ∷ ds)) to_high.under in
          all_left (λ x. key x < hi) (items_of ds) c (all_left (λ x. key x < hi) (items_of (c ∷ ds)) (items_of w.below) a)

      pub in_several : between key lo hi (items_of cs) ≡ between key lo hi d ++ (items_of ds ++ between key lo hi c)
      in_several =
          in_these ∙ ap (λ l. between key lo hi (items_of l)) e
          ∙ append (items_of (ds ++ d ∷ [])) c
          ∙ ap (λ l. between key lo hi l ++ between key lo hi c) (items_append ds (d ∷ []))
          ∙ ap (λ l. l ++ between key lo hi c) (append d (items_of ds))
          ∙ ap (λ l. (between key lo hi d ++ l) ++ between key lo hi c) (all_of (items_of ds) above_low below_high)
          ∙ append_assoc (between key lo hi d) (items_of ds) (between key lo hi c)

      pub several_filled : AllOf IsEnough ds
      several_filled =
          let n = ap length parted ∙ length-append w.below (m ++ w.above) in
          let k = length-append m w.above in
          let j = ap length e ∙ ap suc (length-append ds (d ∷ [])) in
          let a : AllOf IsEnough (w.below ++ (m ++ w.above)) = subst (AllOf IsEnough) parted (ok.filled (omega (arith, n, k, j))) in
          let b : AllOf IsEnough (c ∷ (ds ++ d ∷ [])) =
          subst (AllOf IsEnough) e (all_left IsEnough m w.above (all_right IsEnough w.below (m ++ w.above) a)) in
          all_left IsEnough ds (d ∷ []) b.1

  -- ---- The leaves that a tree gives
  module _ (cs m : List (List X)) (ok : AreLeaves key cs) (some : lo ≤ hi → 0 < length cs → AreBetween (leaf_entry key) lo hi cs m)
      (none : hi < lo → m ≡ []) (empty : length cs ≡ 0 → m ≡ []) where
    are : 0 < length m → AreBetween (leaf_entry key) lo hi cs m
    are l = elim (cases_lt hi lo) [
      | inl p ↦ absurd (omega (arith, l, ap length (none p)))
      | inr p ↦ elim (cases_lt 0 (length cs)) [
        | inl q ↦ some p q
        | inr q ↦ absurd (omega (arith, l, ap length (empty (omega (arith, q)))))
      ]
    ]

    pub in_no_leaf : m ≡ [] → [] ≡ between key lo hi (reverse (items_of cs))
    unfolding between
    in_no_leaf e = reversed (items_of cs) [] (elim (cases_lt hi lo) [
      | inl p ↦ crossed p (items_of cs)
      | inr p ↦ go cs (λ l. let w = some p l in absurd (omega (arith, w.some, ap length e)))
    ])
      where
        go : (cs : List (List X)) → (0 < length cs → ⊥) → between key lo hi (items_of cs) ≡ []
        go [] f = refl
        go (c ∷ cs) f = absurd (f (omega arith))

    pub in_one_leaf : (c : List X) → m ≡ c ∷ [] → reverse (left_in [] [] (between key lo hi c)) ≡ between key lo hi (reverse (items_of cs))
    in_one_leaf c e = reversed (items_of cs) (between key lo hi c) (in_one cs ok m (are (omega (arith, ap length e))) c e)

    module _ (c d : List X) (rest ds : List (List X)) (e : m ≡ c ∷ rest) (f : rest ≡ ds ++ d ∷ []) where
      pub in_leaves : reverse (left_in (between key lo hi d) ds (between key lo hi c)) ≡ between key lo hi (reverse (items_of cs))
      in_leaves =
          reversed (items_of cs) (left_in (between key lo hi d) ds (between key lo hi c))
          (in_several cs ok m (are (omega (arith, ap length e))) c d ds (e ∙ ap (λ l. c ∷ l) f))

      pub in_leaves_filled : AllOf IsEnough ds
      in_leaves_filled = several_filled cs ok m (are (omega (arith, ap length e))) c d ds (e ∙ ap (λ l. c ∷ l) f)
