-- Lists in values, and the objects that their items encode.
use Rattle.std.specs.Prelude.{List, [], ◌∷◌, MatchOption}
use Rattle.serde_json.specs.Data.{Data, Items, no_items, item}
use Rattle.serde_json.specs.Find.{as_array}

-- The items encode these objects, in this order.
abbrev pub EncodesItems : {X : Type 0} → (Data → X → Type 0) → Items → List X → Type 0
EncodesItems States no_items [] = Unit {0}
EncodesItems States no_items (x ∷ xs) = ⊥
EncodesItems States (item d ds) [] = ⊥
EncodesItems States (item d ds) (x ∷ xs) = States d x × EncodesItems States ds xs

-- The value is a list, and its items encode these objects.
abbrev pub EncodesListOf : {X : Type 0} → (Data → X → Type 0) → Data → List X → Type 0
EncodesListOf States d xs = MatchOption (as_array d) ⊥ (λ ds. EncodesItems States ds xs)
