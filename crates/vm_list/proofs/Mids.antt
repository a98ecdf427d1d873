-- A change in the middle of a descending list.
use Rattle.std.proofs.Common.{◌≡◌, ℕ, ◌<◌, ◌≤◌, Bool, true, false, List, [], ◌∷◌, ◌++◌, reverse, nat_le, nat_lt, nat_eq, arith, sym, ap, ◌∙◌, subst, refl, Option, Some, None, append_assoc}
use Rattle.std.specs.List.{filter, find}
use Rattle.std.specs.Option.{option_or, is_some}
use Rattle.std.proofs.lemmas.Bool.{cond-true, cond-false, lt-ltb, le-ltb, lt-leb, eq-eqb, ne_eqb, true≢false}
use Rattle.std.proofs.lemmas.List.{append-nil, reverse-append}
use Rattle.std.proofs.lemmas.List.Elements.{filter-append}
use Rattle.std.proofs.lemmas.List.Folds.{find-append}
use Rattle.vm_tree.specs.Subtree.{AllOf}
use Rattle.vm_list.specs.Entries.{above, below, with_entry, without, entry_at, at_or_above, highest_below}
use Rattle.vm_list.proofs.Falls.{all_weaker, all_both}

module _ {X : Type 0} (test : X → Bool) where
  pub keeps : (xs : List X) → AllOf (λ x. test x ≡ true) xs → filter test xs ≡ xs
  keeps [] a = refl
  keeps (x ∷ xs) a = cond-true (test x) _ _ a.0 ∙ ap (λ l. x ∷ l) (keeps xs a.1)

  pub omits : (xs : List X) → AllOf (λ x. test x ≡ false) xs → filter test xs ≡ []
  omits [] a = refl
  omits (x ∷ xs) a = cond-false (test x) _ _ a.0 ∙ omits xs a.1

  pub misses : (xs : List X) → AllOf (λ x. test x ≡ false) xs → find test xs ≡ None
  misses [] a = refl
  misses (x ∷ xs) a = cond-false (test x) _ _ a.0 ∙ misses xs a.1

  pub all_reverse : (P : X → Type 0) (xs : List X) → AllOf P xs → AllOf P (reverse xs)
  all_reverse P [] a = tt
  all_reverse P (x ∷ xs) a = subst (AllOf P) (sym (reverse-append (x ∷ []) xs)) (all_both P (reverse xs) (x ∷ []) (all_reverse P xs a.1) (a.0, tt))

pub or_none : {X : Type 0} (o : Option X) → option_or o None ≡ o
or_none None = refl
or_none (Some x) = refl

module _ {X : Type 0} (key : X → ℕ) (t : ℕ) (A m B : List X) (hi : AllOf (λ x. t < key x) A) (lo : AllOf (λ x. key x < t) B) where
  over_mid : above key t (A ++ (m ++ B)) ≡ A ++ above key t m
  unfolding above
  over_mid =
      let T : X → Bool = λ x. nat_lt t (key x) in
      filter-append T A (m ++ B)
      ∙ ap (λ l. l ++ filter T (m ++ B)) (keeps T A (all_weaker (λ x. t < key x) (λ x. T x ≡ true) (λ x h. lt-ltb _ _ h) A hi))
      ∙ ap (λ l. A ++ l) (filter-append T m B)
      ∙ ap (λ l. A ++ (filter T m ++ l)) (omits T B (all_weaker (λ x. key x < t) (λ x. T x ≡ false) (λ x h. le-ltb _ _ (omega (arith, h))) B lo))
      ∙ ap (λ l. A ++ l) (append-nil (filter T m))

  pub below_mid : below key t (A ++ (m ++ B)) ≡ below key t m ++ B
  unfolding below
  below_mid =
      let T : X → Bool = λ x. nat_lt (key x) t in
      filter-append T A (m ++ B)
      ∙ ap (λ l. l ++ filter T (m ++ B)) (omits T A (all_weaker (λ x. t < key x) (λ x. T x ≡ false) (λ x h. le-ltb _ _ (omega (arith, h))) A hi))
      ∙ filter-append T m B
      ∙ ap (λ l. filter T m ++ l) (keeps T B (all_weaker (λ x. key x < t) (λ x. T x ≡ true) (λ x h. lt-ltb _ _ h) B lo))

  pub with_mid : (e : X) → key e ≡ t → with_entry key e (A ++ (m ++ B)) ≡ A ++ (with_entry key e m ++ B)
  unfolding with_entry
  with_mid e s =
      ap (λ k. above key k (A ++ (m ++ B)) ++ e ∷ below key k (A ++ (m ++ B))) s
      ∙ ap (λ l. l ++ e ∷ below key t (A ++ (m ++ B))) over_mid
      ∙ ap (λ l. (A ++ above key t m) ++ e ∷ l) below_mid
      ∙ append_assoc A (above key t m) (e ∷ (below key t m ++ B))
      ∙ ap (λ l. A ++ l) (sym (append_assoc (above key t m) (e ∷ below key t m) B))
      ∙ ap (λ k. A ++ ((above key k m ++ e ∷ below key k m) ++ B)) (sym s)

  pub without_mid : without key t (A ++ (m ++ B)) ≡ A ++ (without key t m ++ B)
  unfolding without
  without_mid =
      ap (λ l. l ++ below key t (A ++ (m ++ B))) over_mid
      ∙ ap (λ l. (A ++ above key t m) ++ l) below_mid
      ∙ append_assoc A (above key t m) (below key t m ++ B)
      ∙ ap (λ l. A ++ l) (sym (append_assoc (above key t m) (below key t m) B))

  pub entry_mid : entry_at key t (A ++ (m ++ B)) ≡ entry_at key t m
  unfolding entry_at
  entry_mid =
      let T : X → Bool = λ x. nat_eq (key x) t in
      find-append T A (m ++ B)
      ∙ ap (λ o. option_or o (find T (m ++ B))) (misses T A (all_weaker (λ x. t < key x) (λ x. T x ≡ false) (λ x h. ne_eqb _ _ (λ q. omega (arith, h, q))) A hi))
      ∙ find-append T m B
      ∙ ap (λ o. option_or (find T m) o) (misses T B (all_weaker (λ x. key x < t) (λ x. T x ≡ false) (λ x h. ne_eqb _ _ (λ q. omega (arith, h, q))) B lo))
      ∙ or_none (find T m)

module _ {X : Type 0} (key : X → ℕ) (t : ℕ) where
  -- No entry has the key in a part if none has it in the list.
  pub none_left : (xs ys : List X) → entry_at key t (xs ++ ys) ≡ None → entry_at key t xs ≡ None
  unfolding entry_at
  none_left xs ys e = go (find (λ x. nat_eq (key x) t) xs) (find (λ x. nat_eq (key x) t) ys) (sym (find-append (λ x. nat_eq (key x) t) xs ys) ∙ e)
    where
      go : (o p : Option X) → option_or o p ≡ None → o ≡ None
      go None p e = refl
      go (Some x) p e = e

  pub none_right : (xs ys : List X) → entry_at key t (xs ++ ys) ≡ None → entry_at key t ys ≡ None
  unfolding entry_at
  none_right xs ys e = go (find (λ x. nat_eq (key x) t) xs) (find (λ x. nat_eq (key x) t) ys) (sym (find-append (λ x. nat_eq (key x) t) xs ys) ∙ e)
    where
      go : (o p : Option X) → option_or o p ≡ None → p ≡ None
      go None p e = e
      go (Some x) p e = absurd (true≢false (ap is_some e))

  -- An entry with another key is not that entry.
  pub not_none : (x : X) (xs : List X) → entry_at key t (x ∷ xs) ≡ None → key x ≡ t → ⊥
  unfolding entry_at
  not_none x xs e s = true≢false (ap is_some (sym (cond-true (nat_eq (key x) t) (Some x) (find (λ x. nat_eq (key x) t) xs) (eq-eqb _ _ s)) ∙ e))

-- The lowest entry from the key on is in the middle part, or before it.
pub above_mid : {X : Type 0} (key : X → ℕ) (t : ℕ) (A m B : List X) → AllOf (λ x. key x < t) B →
    at_or_above key t (A ++ (m ++ B)) ≡ option_or (at_or_above key t m) (at_or_above key t A)
unfolding at_or_above
above_mid key t A m B under =
    let T : _ → Bool = λ x. nat_le t (key x) in
    ap (find T) (reverse-append A (m ++ B) ∙ ap (λ l. l ++ reverse A) (reverse-append m B))
    ∙ find-append T (reverse B ++ reverse m) (reverse A)
    ∙ ap (λ o. option_or o (find T (reverse A))) (find-append T (reverse B) (reverse m)
    ∙ ap (λ o. option_or o (find T (reverse m)))
    (misses T (reverse B) (all_reverse T (λ x. T x ≡ false) B (all_weaker (λ x. key x < t) (λ x. T x ≡ false) (λ x h. lt-leb _ _ h) B under))))

-- The highest entry below the key is in the middle part, or after it.
pub under_mid : {X : Type 0} (key : X → ℕ) (t : ℕ) (A m B : List X) → AllOf (λ x. t ≤ key x) A →
    highest_below key t (A ++ (m ++ B)) ≡ option_or (highest_below key t m) (highest_below key t B)
unfolding highest_below
under_mid key t A m B over =
    let T : _ → Bool = λ x. nat_lt (key x) t in
    find-append T A (m ++ B)
    ∙ ap (λ o. option_or o (find T (m ++ B))) (misses T A (all_weaker (λ x. t ≤ key x) (λ x. T x ≡ false) (λ x h. le-ltb _ _ h) A over))
    ∙ find-append T m B
