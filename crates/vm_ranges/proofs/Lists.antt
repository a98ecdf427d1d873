-- Lists in values: read, and written item by item.
use Rattle.std.proofs.Common.{◌≡◌, List, [], ◌∷◌, ◌++◌, map, Option, Some, None, MatchOption, refl, ap}
use Rattle.serde_json.specs.Data.{Data, Items}
use Rattle.serde_json.specs.Find.{as_array}
use Rattle.serde_json.specs.View.{view, items_view}
use Rattle.serde_json.specs.declared.value.Value.{Value}
use Rattle.vm_ranges.specs.Lists.{EncodesItems, EncodesListOf}

module _ {X : Type 0} (States : Data → X → Type 0) where
  -- The items of a list that encodes something.
  pub in_list : (d : Data) (xs : List X) → EncodesListOf States d xs → (ds : Items) × (as_array d ≡ Some ds) × EncodesItems States ds xs
  in_list d xs s = found (as_array d) s where
    found : (o : Option Items) → MatchOption o ⊥ (λ ds. EncodesItems States ds xs) →
        (ds : Items) × (o ≡ Some ds) × EncodesItems States ds xs
    found None s = absurd s
    found (Some ds) s = (ds, refl, s)

  -- A list whose items encode some things encodes the list of these things.
  pub list_encoded : (d : Data) (ds : Items) (xs : List X) → as_array d ≡ Some ds → EncodesItems States ds xs → EncodesListOf States d xs
  list_encoded d ds xs e s = rw e s

  -- An item at the end of a list encodes one more thing at the end.
  push_item : (vs : List Value) (v : Value) (xs : List X) (x : X) → EncodesItems States (items_view vs) xs → States (view v) x →
      EncodesItems States (items_view (vs ++ v ∷ [])) (xs ++ x ∷ [])
  push_item [] v [] x s t = (t, tt)
  push_item [] v (y ∷ xs) x s t = absurd s
  push_item (w ∷ vs) v [] x s t = absurd s
  push_item (w ∷ vs) v (y ∷ xs) x s t = (s.0, push_item vs v xs x s.1 t)

  -- A function is applied to a list with one more item at the end.
  map_last : {Y : Type 0} (f : Y → X) (ys : List Y) (y : Y) → map f (ys ++ y ∷ []) ≡ map f ys ++ f y ∷ []
  map_last f [] y = refl
  map_last f (z ∷ ys) y = ap (λ (l : List X). f z ∷ l) (map_last f ys y)

  -- A list after one more item is written.
  pub encodes_more : {Y : Type 0} (f : Y → X) (vs ws : List Value) (v : Value) (ys : List Y) (y : Y) → ws ≡ vs ++ v ∷ [] →
      States (view v) (f y) →
      EncodesItems States (items_view vs) (map f ys) → EncodesItems States (items_view ws) (map f (ys ++ y ∷ []))
  encodes_more f vs ws v ys y e t s = rw (e, map_last f ys y) (push_item vs v (map f ys) (f y) s t)
