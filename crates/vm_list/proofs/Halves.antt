-- An entry is put into one of two parts of a descending list.
use Rattle.std.proofs.Common.{◌≡◌, ℕ, ◌<◌, ◌≤◌, List, [], ◌∷◌, ◌++◌, length, get_or, arith, sym, ap, ◌∙◌, subst, refl, None}
use Rattle.std.proofs.lemmas.List.{append-nil}
use Rattle.vm_tree.specs.Subtree.{AllOf}
use Rattle.vm_list.specs.Entries.{IsDescendingBy, with_entry, entry_at}
use Rattle.vm_list.proofs.Falls.{Falls, AreOver, falls, falls_left, falls_right, falls_over, descends, all_weaker}
use Rattle.vm_list.proofs.Mids.{with_mid, none_right}

module _ {X : Type 0} (key : X → ℕ) where
  pub upper_part : (xs ys : List X) → IsDescendingBy key (xs ++ ys) → IsDescendingBy key xs
  upper_part xs ys d = descends key xs (falls_left key xs ys (falls key (xs ++ ys) d))

  pub lower_part : (xs ys : List X) → IsDescendingBy key (xs ++ ys) → IsDescendingBy key ys
  lower_part xs ys d = descends key ys (falls_right key xs ys (falls key (xs ++ ys) d))

  module _ (e : X) (xs ys : List X) (d : IsDescendingBy key (xs ++ ys)) (y : X) (l : 0 < length ys) (is : y ≡ get_or ys 0 y) where
    pub put_upper : key y < key e → with_entry key e (xs ++ ys) ≡ with_entry key e xs ++ ys
    put_upper h = go ys (falls_right key xs ys (falls key (xs ++ ys) d)) l is
      where
        go : (ys : List X) → Falls key ys → 0 < length ys → y ≡ get_or ys 0 y → with_entry key e (xs ++ ys) ≡ with_entry key e xs ++ ys
        go [] f l is = absurd (omega (arith, l))
        go (z ∷ zs) f l is =
            let s : key z < key e = subst (λ (w : X). key w < key e) is h in
            with_mid key (key e) [] xs (z ∷ zs) tt (s, all_weaker (λ x. key x < key z) (λ x. key x < key e) (λ x q. omega (arith, q, s)) zs f.0) e refl

    pub put_lower : key e ≤ key y → entry_at key (key e) (xs ++ ys) ≡ None → with_entry key e (xs ++ ys) ≡ xs ++ with_entry key e ys
    put_lower h n =
        let o = falls_over key xs ys (falls key (xs ++ ys) d) in
        go ys o (none_right key (key e) xs ys n) l is
      where
        go : (ys : List X) → AreOver key xs ys → entry_at key (key e) ys ≡ None → 0 < length ys → y ≡ get_or ys 0 y → with_entry key e (xs ++ ys) ≡ xs ++ with_entry key e ys
        go [] o n l is = absurd (omega (arith, l))
        go (z ∷ zs) o n l is =
            let s : key e ≤ key z = subst (λ (w : X). key e ≤ key w) is h in
            let hi : AllOf (λ x. key e < key x) xs = all_weaker (λ x. AllOf (λ y. key y < key x) (z ∷ zs)) (λ x. key e < key x) (λ x q. let r = q.0 in omega (arith, r, s)) xs o in
            ap (λ l. with_entry key e (xs ++ l)) (sym (append-nil (z ∷ zs)))
            ∙ with_mid key (key e) xs (z ∷ zs) [] hi tt e refl
            ∙ ap (λ l. xs ++ l) (append-nil (with_entry key e (z ∷ zs)))
