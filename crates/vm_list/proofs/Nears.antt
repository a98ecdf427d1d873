-- The entries next to a key, in the leaf of the key and the next one.
use Rattle.std.proofs.Common.{◌≡◌, ℕ, ◌-◌, ◌<◌, ◌≤◌, Bool, true, false, List, [], ◌∷◌, ◌++◌, length, reverse, nat_lt, nat_le, nat_eq, arith, sym, ap, ◌∙◌, subst, refl, inl, inr, Option, Some, None, append_assoc, length-append}
use Rattle.std.specs.List.{filter, find}
use Rattle.std.specs.Option.{option_or, is_some, IsSome}
use Rattle.std.proofs.lemmas.Bool.{cases_lt, cond-true, cond-false, lt-ltb, le-ltb, le-leb, eq-eqb, true≢false}
use Rattle.std.proofs.lemmas.List.{reverse-append}
use Rattle.vm_tree.specs.Subtree.{AllOf}
use Rattle.vm_list.specs.Entries.{IsDescendingBy, above, below, without, entry_at, at_or_above, highest_below}
use Rattle.vm_list.specs.Leaves.{items_of, lowest_key, leaf_entry, IsEnough, AreLeaves, IsMid}
use Rattle.vm_tree.specs.Walks.{IsFrom, start_or}
use Rattle.vm_list.proofs.Lows.{lowest_append}
use Rattle.vm_list.proofs.Falls.{Falls, falls, falls_right, falls_over, all_weaker, all_right}
use Rattle.vm_list.proofs.Mids.{or_none, above_mid, under_mid, misses, keeps, omits, entry_mid, none_right, not_none}
use Rattle.vm_list.proofs.Homes.{home_mid, mid_entry}

pub or_some : {X : Type 0} (o p : Option X) → IsSome o → option_or o p ≡ o
or_some None p s = absurd (true≢false (sym s))
or_some (Some x) p s = refl

module _ {X : Type 0} (key : X → ℕ) where
  -- A list that is not empty has a last entry.
  last_of : (xs : List X) → 0 < length xs → (ys : List X) × (x : X) × (xs ≡ ys ++ x ∷ [])
  last_of [] l = absurd (omega (arith, l))
  last_of (x ∷ []) l = ([], x, refl)
  last_of (x ∷ y ∷ xs) l = let r = last_of (y ∷ xs) (omega arith) in (x ∷ r.0, r.1, ap (λ l. x ∷ l) r.2)

  module _ (t : ℕ) (A m B : List X) (f : Falls key (A ++ (m ++ B))) (over : AllOf (λ x. t < key x) A) (l : 0 < length A) where
    lowest_is : (ys : List X) (x : X) → A ≡ ys ++ x ∷ [] → lowest_key key A ≡ key x
    lowest_is ys x e = ap (lowest_key key) e ∙ lowest_append key ys (x ∷ []) (omega arith)

    first_above : (ys : List X) (x : X) → A ≡ ys ++ x ∷ [] → at_or_above key t A ≡ Some x
    unfolding at_or_above
    first_above ys x e =
        let T : X → Bool = λ x. nat_le t (key x) in
        let h : t < key x = (all_right (λ x. t < key x) ys (x ∷ []) (subst (AllOf (λ x. t < key x)) e over)).0 in
        ap (λ l. find T (reverse l)) e ∙ ap (find T) (reverse-append ys (x ∷ [])) ∙ cond-true (T x) (Some x) (find T (reverse ys)) (le-leb _ _ (omega (arith, h)))

    entry_one : (x : X) → entry_at key (key x) (x ∷ []) ≡ Some x
    unfolding entry_at
    entry_one x = cond-true (nat_eq (key x) (key x)) (Some x) None (eq-eqb _ _ refl)

    last_entry : (ys : List X) (x : X) → A ≡ ys ++ x ∷ [] → entry_at key (key x) (A ++ (m ++ B)) ≡ Some x
    last_entry ys x e =
        let s : A ++ (m ++ B) ≡ ys ++ ((x ∷ []) ++ (m ++ B)) = ap (λ l. l ++ (m ++ B)) e ∙ append_assoc ys (x ∷ []) (m ++ B) in
        let g : Falls key (ys ++ ((x ∷ []) ++ (m ++ B))) = subst (Falls key) s f in
        let o = falls_over key ys ((x ∷ []) ++ (m ++ B)) g in
        ap (entry_at key (key x)) s
        ∙ entry_mid key (key x) ys (x ∷ []) (m ++ B)
        (all_weaker (λ y. AllOf (λ z. key z < key y) (x ∷ (m ++ B))) (λ y. key x < key y) (λ y a. a.0) ys o)
        (falls_right key ys ((x ∷ []) ++ (m ++ B)) g).0
        ∙ entry_one x

    pub above_next : entry_at key (lowest_key key A) (A ++ (m ++ B)) ≡ at_or_above key t A
    above_next =
        let r = last_of A l in
        ap (λ n. entry_at key n (A ++ (m ++ B))) (lowest_is r.0 r.1 r.2) ∙ last_entry r.0 r.1 r.2 ∙ sym (first_above r.0 r.1 r.2)

  pub none_above : (t : ℕ) → at_or_above key t [] ≡ None
  unfolding at_or_above
  none_above t = refl

  pub none_below : (t : ℕ) → highest_below key t [] ≡ None
  unfolding highest_below
  none_below t = refl

  pub none_under : (xs : List X) → highest_below key 0 xs ≡ None
  unfolding highest_below
  none_under xs = misses (λ x. nat_lt (key x) 0) xs (go xs)
    where
      go : (xs : List X) → AllOf (λ x. nat_lt (key x) 0 ≡ false) xs
      go [] = tt
      go (x ∷ xs) = (le-ltb _ _ (omega arith), go xs)

  pub some_below : (t : ℕ) (m : List X) → 0 < length m → lowest_key key m < t → IsSome (highest_below key t m)
  unfolding highest_below
  some_below t [] l h = absurd (omega (arith, l))
  some_below t (x ∷ []) l h = ap is_some (cond-true (nat_lt (key x) t) (Some x) None (lt-ltb _ _ h))
  some_below t (x ∷ y ∷ xs) l h =
      let T : X → Bool = λ x. nat_lt (key x) t in
      elim (cases_lt (key x) t) [
        | inl q ↦ ap is_some (cond-true (T x) (Some x) (find T (y ∷ xs)) (lt-ltb _ _ q))
        | inr q ↦ ap is_some (cond-false (T x) (Some x) (find T (y ∷ xs)) (le-ltb _ _ q)) ∙ some_below t (y ∷ xs) (omega arith) h
      ]

  pub below_mid : (t : ℕ) (A m B : List X) → AllOf (λ x. t ≤ key x) A → (0 < length B → IsSome (highest_below key t m)) →
      highest_below key t (A ++ (m ++ B)) ≡ highest_below key t m
  unfolding highest_below
  below_mid t A m B over some = under_mid key t A m B over ∙ go B some
    where
      go : (B : List X) → (0 < length B → IsSome (find (λ x. nat_lt (key x) t) m)) → option_or (find (λ x. nat_lt (key x) t) m) (find (λ x. nat_lt (key x) t) B) ≡ find (λ x. nat_lt (key x) t) m
      go [] s = or_none (find (λ x. nat_lt (key x) t) m)
      go (b ∷ bs) s = or_some (find (λ x. nat_lt (key x) t) m) (find (λ x. nat_lt (key x) t) (b ∷ bs)) (s (omega arith))

  -- ---- The leaves
  module _ (cs : List (List X)) (ok : AreLeaves key cs) (leaf : List X) where
    pub leaf_entry_at : (t : ℕ) (next : Option ℕ) → IsFrom (leaf_entry key) t None cs leaf next → entry_at key t leaf ≡ entry_at key t (items_of cs)
    leaf_entry_at t next s = sym (mid_entry key t (items_of cs) _ _ _ (home_mid key t cs ok s.before leaf s.after s.home))

    module _ (t : ℕ) (next : Option ℕ) (s : IsFrom (leaf_entry key) t None cs leaf next) where
      mid : IsMid key t (items_of cs) (items_of s.after) leaf (items_of s.before)
      mid = home_mid key t cs ok s.before leaf s.after s.home

      parts : at_or_above key t (items_of cs) ≡ option_or (at_or_above key t leaf) (at_or_above key t (items_of s.after))
      parts = ap (at_or_above key t) mid.is ∙ above_mid key t (items_of s.after) leaf (items_of s.before) mid.under

      pub leaf_above : (x : X) → at_or_above key t leaf ≡ Some x → Some x ≡ at_or_above key t (items_of cs)
      leaf_above x e = sym (parts ∙ ap (λ o. option_or o (at_or_above key t (items_of s.after))) e)

      pub nothing_above : at_or_above key t leaf ≡ None → next ≡ None → None ≡ at_or_above key t (items_of cs)
      nothing_above e n = sym (parts ∙ ap (λ o. option_or o (at_or_above key t (items_of s.after))) e ∙ go s.after (sym s.is ∙ n))
        where
          go : (ds : List (List X)) → start_or (leaf_entry key) ds None ≡ None → at_or_above key t (items_of ds) ≡ None
          go [] e = none_above t
          go (d ∷ ds) e = absurd (true≢false (ap is_some e))

      pub next_above : (n : ℕ) → at_or_above key t leaf ≡ None → next ≡ Some n → entry_at key n (items_of cs) ≡ at_or_above key t (items_of cs)
      next_above n e h =
          let f : Falls key (items_of s.after ++ (leaf ++ items_of s.before)) = falls key _ (subst (IsDescendingBy key) mid.is ok.order) in
          ap (entry_at key n) mid.is
          ∙ go s.after f mid.over (sym s.is ∙ h) (λ l. (all_right IsEnough s.before (leaf ∷ s.after) (subst (AllOf IsEnough) s.home.was (ok.filled (size l)))).1)
          ∙ sym (parts ∙ ap (λ o. option_or o (at_or_above key t (items_of s.after))) e)
        where
          size : 0 < length s.after → 2 ≤ length cs
          size l = omega (arith, ap length s.home.was, length-append s.before (leaf ∷ s.after), l)

          go : (ds : List (List X)) → Falls key (items_of ds ++ (leaf ++ items_of s.before)) → AllOf (λ x. t < key x) (items_of ds) → start_or (leaf_entry key) ds None ≡ Some n
              → (0 < length ds → AllOf IsEnough ds) → entry_at key n (items_of ds ++ (leaf ++ items_of s.before)) ≡ at_or_above key t (items_of ds)
          go [] f o e q = absurd (true≢false (sym (ap is_some e)))
          go (d ∷ ds) f o e q =
              let l : 0 < length d = (q (omega arith)).0 in
              let m : 0 < length (items_of ds ++ d) = omega (arith, l, length-append (items_of ds) d) in
              let k : n ≡ lowest_key key (items_of ds ++ d) = (let c : lowest_key key d ≡ n = cc in sym c) ∙ sym (lowest_append key (items_of ds) d l) in
              ap (λ j. entry_at key j ((items_of ds ++ d) ++ (leaf ++ items_of s.before))) k ∙ above_next t (items_of ds ++ d) leaf (items_of s.before) f o m

    pub leaf_below : (t : ℕ) (next : Option ℕ) → 0 < t → IsFrom (leaf_entry key) (t - 1) None cs leaf next → highest_below key t leaf ≡ highest_below key t (items_of cs)
    leaf_below t next z s =
        let m = home_mid key (t - 1) cs ok s.before leaf s.after s.home in
        sym (ap (highest_below key t) m.is
        ∙ below_mid t (items_of s.after) leaf (items_of s.before) (all_weaker (λ x. t - 1 < key x) (λ x. t ≤ key x) (λ x h. omega (arith, h)) (items_of s.after) m.over)
        (λ l. go s.before s.home.here.low (λ q. (all_right IsEnough s.before (leaf ∷ s.after) (subst (AllOf IsEnough) s.home.was (ok.filled (size q)))).0) l))
      where
        size : 0 < length s.before → 2 ≤ length cs
        size l = omega (arith, ap length s.home.was, length-append s.before (leaf ∷ s.after), l)

        go : (bs : List (List X)) → (0 < length bs → lowest_key key leaf ≤ t - 1) → (0 < length bs → 0 < length leaf) → 0 < length (items_of bs) → IsSome (highest_below key t leaf)
        go [] low q l = absurd (omega (arith, l))
        go (b ∷ bs) low q l = let h = low (omega arith) in some_below t leaf (q (omega arith)) (omega (arith, h, z))

  pub no_entry : (t : ℕ) → entry_at key t [] ≡ None
  unfolding entry_at
  no_entry t = refl

  pub without_empty : (t : ℕ) (xs : List X) → xs ≡ [] → xs ≡ without key t xs
  unfolding without above below
  without_empty t xs e = e ∙ sym (ap (without key t) e)

  -- Nothing is taken out of a list that does not have the key.
  pub without_none : (t : ℕ) (xs : List X) → entry_at key t xs ≡ None → IsDescendingBy key xs → xs ≡ without key t xs
  unfolding without above below entry_at
  without_none t xs n d = go xs (falls key xs d) n
    where
      go : (xs : List X) → Falls key xs → entry_at key t xs ≡ None → xs ≡ filter (λ x. nat_lt t (key x)) xs ++ filter (λ x. nat_lt (key x) t) xs
      go [] f n = refl
      go (x ∷ xs) f n =
          let T : X → Bool = λ x. nat_lt t (key x) in
          let U : X → Bool = λ x. nat_lt (key x) t in
          elim (cases_lt t (key x)) [
            | inl q ↦ ap (λ l. x ∷ l) (go xs f.1 (none_right key t (x ∷ []) xs n))
                ∙ sym (ap (λ l. l ++ filter U (x ∷ xs)) (cond-true (T x) (x ∷ filter T xs) (filter T xs) (lt-ltb _ _ q))
                ∙ ap (λ l. (x ∷ filter T xs) ++ l) (cond-false (U x) (x ∷ filter U xs) (filter U xs) (le-ltb _ _ (omega (arith, q)))))
            | inr q ↦ (
                let d : key x < t = (elim (cases_lt (key x) t) [ inl r ↦ r | inr r ↦ absurd (not_none key t x xs n (omega (arith, q, r))) ]) in
                let all : AllOf (λ y. key y < t) (x ∷ xs) = (d, all_weaker (λ y. key y < key x) (λ y. key y < t) (λ y r. omega (arith, r, d)) xs f.0) in
                sym (ap (λ l. l ++ filter U (x ∷ xs)) (omits T (x ∷ xs) (all_weaker (λ y. key y < t) (λ y. T y ≡ false) (λ y r. le-ltb _ _ (omega (arith, r))) (x ∷ xs) all))
                ∙ keeps U (x ∷ xs) (all_weaker (λ y. key y < t) (λ y. U y ≡ true) (λ y r. lt-ltb _ _ r) (x ∷ xs) all)))
          ]
