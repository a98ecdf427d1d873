-- A leaf is begun at an end.
use Rattle.std.proofs.Common.{◌≡◌, ◌<◌, List, [], ◌∷◌, ◌++◌, length, arith, sym, ap, ◌∙◌, subst, refl, append_assoc}
use Rattle.std.proofs.lemmas.List.{append-nil}
use Rattle.vm_tree.specs.Subtree.{AllOf}
use Rattle.vm_list.specs.Leaves.{items_of, IsEnough}
use Rattle.vm_list.specs.Iters.{left_in}
use Rattle.vm_list.proofs.Falls.{all_left, all_right}
use Rattle.vm_list.proofs.Homes.{items_append}

module _ {X : Type 0} where
  none_of : (xs : List X) → length xs ≡ 0 → xs ≡ []
  none_of [] l = refl
  none_of (x ∷ xs) l = absurd (omega (arith, l))

  module _ (cs : List (List X)) (lowest highest : List X) where
    pub first_same : (c : List X) (others : List (List X)) → cs ≡ c ∷ others → length lowest ≡ 0 → left_in highest others c ≡ left_in highest cs lowest
    first_same c others e l =
        sym (ap (λ l. highest ++ (items_of cs ++ l)) (none_of lowest l) ∙ ap (λ l. highest ++ l) (append-nil (items_of cs)) ∙ ap (λ l. highest ++ items_of l) e)

    pub last_same : (c : List X) (others : List (List X)) → cs ≡ others ++ c ∷ [] → length highest ≡ 0 → left_in c others lowest ≡ left_in highest cs lowest
    last_same c others e l =
        sym (ap (λ h. h ++ (items_of cs ++ lowest)) (none_of highest l) ∙ ap (λ l. items_of l ++ lowest) e
        ∙ ap (λ l. l ++ lowest) (items_append others (c ∷ [])) ∙ append_assoc c (items_of others) lowest)

  pub first_filled : (cs : List (List X)) (c : List X) (others : List (List X)) → cs ≡ c ∷ others → AllOf IsEnough cs → (0 < length c) × AllOf IsEnough others
  first_filled cs c others e a = subst (AllOf IsEnough) e a

  pub last_filled : (cs : List (List X)) (c : List X) (others : List (List X)) → cs ≡ others ++ c ∷ [] → AllOf IsEnough cs → (0 < length c) × AllOf IsEnough others
  last_filled cs c others e a =
      let b = subst (AllOf IsEnough) e a in ((all_right IsEnough others (c ∷ []) b).0, all_left IsEnough others (c ∷ []) b)
