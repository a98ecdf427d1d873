-- Laws of lists of entries.
use Rattle.std.proofs.Common.{◌≡◌, ℕ, ◌<◌, ◌≤◌, Bool, true, false, cond, List, [], ◌∷◌, ◌++◌, nat_lt, nat_eq, arith, sym, ap, subst, ◌∙◌, refl, inl, inr, Option, Some, None}
use Rattle.std.specs.List.{filter, find, All}
use Rattle.std.specs.Option.{option_or}
use Rattle.std.proofs.lemmas.Bool.{cases_Bool, cases_order, cond-true, cond-false, lt-ltb, le-ltb, eq-eqb, ne_eqb, true≢false, ltb-true}
use Rattle.std.proofs.lemmas.List.Elements.{All-weaker, filter_passes}
use Rattle.std.proofs.lemmas.List.Folds.{find-append}
use Rattle.vm_list.specs.Entries.{IsDescendingBy, above, below, with_entry, without, entry_at}
use Rattle.vm_list.specs.EntryLaws.{EntriesAreByKey}
use Rattle.vm_tree.specs.Subtree.{AllOf}
use Rattle.vm_list.proofs.Falls.{Falls, falls, falls_both, descends, all_by, all_weaker}

module _ {X : Type 0} (key : X → ℕ) (t : ℕ) where
  -- A test that all entries with the key pass keeps the first of them.
  find_kept : (test : X → Bool) (xs : List X) → ((x : X) → key x ≡ t → test x ≡ true) →
      entry_at key t (filter test xs) ≡ entry_at key t xs
  unfolding entry_at
  find_kept test [] h = refl
  find_kept test (x ∷ xs) h =
      let T : X → Bool = λ x. nat_eq (key x) t in
      let rest = find_kept test xs h in
      elim (cases_Bool (test x)) [
        | inl q ↦ ap (λ l. find T l) (cond-true (test x) (x ∷ filter test xs) (filter test xs) q)
            ∙ ap (λ o. cond (T x) (Some x) o) rest
        | inr q ↦ ap (λ l. find T l) (cond-false (test x) (x ∷ filter test xs) (filter test xs) q) ∙ rest
            ∙ sym (cond-false (T x) (Some x) (find T xs) (ne_eqb (key x) t (λ e. true≢false (sym (h x e) ∙ q))))
      ]

  -- A test that all entries with the key fail keeps none of them.
  find_dropped : (test : X → Bool) (xs : List X) → ((x : X) → key x ≡ t → test x ≡ false) →
      entry_at key t (filter test xs) ≡ None
  unfolding entry_at
  find_dropped test [] h = refl
  find_dropped test (x ∷ xs) h =
      let T : X → Bool = λ x. nat_eq (key x) t in
      let rest = find_dropped test xs h in
      elim (cases_Bool (test x)) [
        | inl q ↦ ap (λ l. find T l) (cond-true (test x) (x ∷ filter test xs) (filter test xs) q)
            ∙ cond-false (T x) (Some x) (find T (filter test xs)) (ne_eqb (key x) t (λ e. true≢false (sym q ∙ h x e))) ∙ rest
        | inr q ↦ ap (λ l. find T l) (cond-false (test x) (x ∷ filter test xs) (filter test xs) q) ∙ rest
      ]

  entry-append : (xs ys : List X) → entry_at key t (xs ++ ys) ≡ option_or (entry_at key t xs) (entry_at key t ys)
  unfolding entry_at
  entry-append xs ys = find-append (λ x. nat_eq (key x) t) xs ys

  entry-cons : (x : X) (xs : List X) → entry_at key t (x ∷ xs) ≡ cond (nat_eq (key x) t) (Some x) (entry_at key t xs)
  unfolding entry_at
  entry-cons x xs = refl

  -- The entries above k have the entry with the key if the key is above k.
  above_kept : (k : ℕ) (xs : List X) → k < t → entry_at key t (above key k xs) ≡ entry_at key t xs
  unfolding above
  above_kept k xs l = find_kept (λ x. nat_lt k (key x)) xs (λ x e. lt-ltb _ _ (omega arith))

  above_dropped : (k : ℕ) (xs : List X) → t ≤ k → entry_at key t (above key k xs) ≡ None
  unfolding above
  above_dropped k xs l = find_dropped (λ x. nat_lt k (key x)) xs (λ x e. le-ltb _ _ (omega arith))

  below_kept : (k : ℕ) (xs : List X) → t < k → entry_at key t (below key k xs) ≡ entry_at key t xs
  unfolding below
  below_kept k xs l = find_kept (λ x. nat_lt (key x) k) xs (λ x e. lt-ltb _ _ (omega arith))

  below_dropped : (k : ℕ) (xs : List X) → k ≤ t → entry_at key t (below key k xs) ≡ None
  unfolding below
  below_dropped k xs l = find_dropped (λ x. nat_lt (key x) k) xs (λ x e. le-ltb _ _ (omega arith))

  or_none : (o : Option X) → option_or o None ≡ o
  or_none None = refl
  or_none (Some x) = refl

  put_found : (e : X) (xs : List X) → entry_at key t (with_entry key e xs) ≡ cond (nat_eq t (key e)) (Some e) (entry_at key t xs)
  unfolding with_entry
  put_found e xs =
      let a = above key (key e) xs in
      let b = below key (key e) xs in
      let parts = entry-append a (e ∷ b) ∙ ap (λ o. option_or (entry_at key t a) o) (entry-cons e b) in
      elim (cases_order t (key e)) [
        | inl s ↦ parts
            ∙ ap (λ o. option_or o (cond (nat_eq (key e) t) (Some e) (entry_at key t b))) (above_dropped (key e) xs (omega arith))
            ∙ cond-true (nat_eq (key e) t) (Some e) (entry_at key t b) (eq-eqb _ _ (sym s))
            ∙ sym (cond-true (nat_eq t (key e)) (Some e) (entry_at key t xs) (eq-eqb _ _ s))
        | inr (inl s) ↦ parts
            ∙ ap (λ o. option_or o (cond (nat_eq (key e) t) (Some e) (entry_at key t b))) (above_dropped (key e) xs (omega arith))
            ∙ cond-false (nat_eq (key e) t) (Some e) (entry_at key t b) (ne_eqb _ _ (λ q. omega arith))
            ∙ below_kept (key e) xs s
            ∙ sym (cond-false (nat_eq t (key e)) (Some e) (entry_at key t xs) (ne_eqb _ _ (λ q. omega arith)))
        | inr (inr s) ↦ parts
            ∙ ap (λ o. option_or (entry_at key t a) o)
            (cond-false (nat_eq (key e) t) (Some e) (entry_at key t b) (ne_eqb _ _ (λ q. omega arith)) ∙ below_dropped (key e) xs (omega arith))
            ∙ or_none (entry_at key t a) ∙ above_kept (key e) xs s
            ∙ sym (cond-false (nat_eq t (key e)) (Some e) (entry_at key t xs) (ne_eqb _ _ (λ q. omega arith)))
      ]

  taken_gone : (k : ℕ) (xs : List X) → entry_at key t (without key k xs) ≡ cond (nat_eq t k) None (entry_at key t xs)
  unfolding without
  taken_gone k xs =
      let a = above key k xs in
      let b = below key k xs in
      elim (cases_order t k) [
        | inl s ↦ entry-append a b ∙ ap (λ o. option_or o (entry_at key t b)) (above_dropped k xs (omega arith)) ∙ below_dropped k xs (omega arith)
            ∙ sym (cond-true (nat_eq t k) None (entry_at key t xs) (eq-eqb _ _ s))
        | inr (inl s) ↦ entry-append a b ∙ ap (λ o. option_or o (entry_at key t b)) (above_dropped k xs (omega arith)) ∙ below_kept k xs s
            ∙ sym (cond-false (nat_eq t k) None (entry_at key t xs) (ne_eqb _ _ (λ q. omega arith)))
        | inr (inr s) ↦ entry-append a b ∙ ap (λ o. option_or (entry_at key t a) o) (below_dropped k xs (omega arith))
            ∙ or_none (entry_at key t a) ∙ above_kept k xs s
            ∙ sym (cond-false (nat_eq t k) None (entry_at key t xs) (ne_eqb _ _ (λ q. omega arith)))
      ]

all_filter : {X : Type 0} (P : X → Type 0) (test : X → Bool) (xs : List X) → AllOf P xs → AllOf P (filter test xs)
all_filter P test [] a = tt
all_filter P test (x ∷ xs) a =
    elim (cases_Bool (test x)) [
      | inl q ↦ subst (AllOf P) (sym (cond-true (test x) (x ∷ filter test xs) (filter test xs) q)) (a.0, all_filter P test xs a.1)
      | inr q ↦ subst (AllOf P) (sym (cond-false (test x) (x ∷ filter test xs) (filter test xs) q)) (all_filter P test xs a.1)
    ]

module _ {X : Type 0} (key : X → ℕ) where
  kept : (test : X → Bool) (xs : List X) → Falls key xs → Falls key (filter test xs)
  kept test [] f = tt
  kept test (x ∷ xs) f =
      elim (cases_Bool (test x)) [
        | inl q ↦ subst (Falls key) (sym (cond-true (test x) (x ∷ filter test xs) (filter test xs) q))
            (all_filter (λ y. key y < key x) test xs f.0, kept test xs f.1)
        | inr q ↦ subst (Falls key) (sym (cond-false (test x) (x ∷ filter test xs) (filter test xs) q)) (kept test xs f.1)
      ]

  pub keys_above : (t : ℕ) (xs : List X) → All (λ x. t < key x) (above key t xs)
  unfolding above
  keys_above t xs =
      All-weaker (λ x. nat_lt t (key x) ≡ true) (λ x. t < key x) (λ x e. ltb-true t (key x) e) (filter (λ x. nat_lt t (key x)) xs)
      (filter_passes (λ x. nat_lt t (key x)) xs)

  pub keys_below : (t : ℕ) (xs : List X) → All (λ x. key x < t) (below key t xs)
  unfolding below
  keys_below t xs =
      All-weaker (λ x. nat_lt (key x) t ≡ true) (λ x. key x < t) (λ x e. ltb-true (key x) t e) (filter (λ x. nat_lt (key x) t) xs)
      (filter_passes (λ x. nat_lt (key x) t) xs)

  -- The entries above a key and those below it descend, also with an entry of that key between them.
  module _ (t : ℕ) (xs : List X) (d : IsDescendingBy key xs) where
    lows : AllOf (λ y. key y < t) (below key t xs)
    lows = all_by (λ y. key y < t) (below key t xs) (keys_below t xs)

    over : AllOf (λ x. AllOf (λ y. key y < key x) (below key t xs)) (above key t xs)
    over =
        all_weaker (λ x. t < key x) (λ x. AllOf (λ y. key y < key x) (below key t xs))
        (λ x h. all_weaker (λ y. key y < t) (λ y. key y < key x) (λ y q. omega (arith, q, h)) (below key t xs) lows) (above key t xs)
        (all_by (λ x. t < key x) (above key t xs) (keys_above t xs))

    falls_above : Falls key (above key t xs)
    unfolding above
    falls_above = kept (λ x. nat_lt t (key x)) xs (falls key xs d)

    falls_below : Falls key (below key t xs)
    unfolding below
    falls_below = kept (λ x. nat_lt (key x) t) xs (falls key xs d)

    between : (e : X) → key e ≡ t → IsDescendingBy key (above key t xs ++ e ∷ below key t xs)
    between e s =
        descends key _ (falls_both key (above key t xs) (e ∷ below key t xs) falls_above
        (all_weaker (λ y. key y < t) (λ y. key y < key e) (λ y q. omega (arith, q, s)) (below key t xs) lows, falls_below)
        (all_pairs (above key t xs) (all_by (λ x. t < key x) (above key t xs) (keys_above t xs)) over))
      where
        all_pairs : (ys : List X) → AllOf (λ x. t < key x) ys → AllOf (λ x. AllOf (λ y. key y < key x) (below key t xs)) ys
            → AllOf (λ x. AllOf (λ y. key y < key x) (e ∷ below key t xs)) ys
        all_pairs [] a b = tt
        all_pairs (y ∷ ys) a b = let h = a.0 in ((omega (arith, h, s), b.0), all_pairs ys a.1 b.1)

  pub put_descends : (e : X) (xs : List X) → IsDescendingBy key xs → IsDescendingBy key (with_entry key e xs)
  unfolding with_entry
  put_descends e xs d = between (key e) xs d e refl

  pub taken_descends : (k : ℕ) (xs : List X) → IsDescendingBy key xs → IsDescendingBy key (without key k xs)
  unfolding without
  taken_descends k xs d = descends key _ (falls_both key (above key k xs) (below key k xs) (falls_above k xs d) (falls_below k xs d) (over k xs d))

  pub entries_are_by_key : EntriesAreByKey key
  entries_are_by_key = record {
    put = λ e xs t. put_found key t e xs;
    taken = λ k xs t. taken_gone key t k xs;
    put_order = put_descends;
    taken_order = taken_descends;
  }
