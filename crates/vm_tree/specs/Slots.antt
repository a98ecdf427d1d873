-- Slots, of which the first ones are filled.
use Rattle.std.specs.Prelude.{◌≡◌, ◌-◌, ◌≤◌, List, [], ◌∷◌, ◌++◌, map, length, replicate, Option, Some, None}

-- What the slots hold.
abbrev pub held : {T : Type 0} → List (Option T) → List T
held [] = []
held (None ∷ os) = held os
held (Some x ∷ os) = x ∷ held os

-- The first slots are filled, at most 16, and the others are not.
pub record IsDense {T : Type 0} (os : List (Option T)) : Type 0 where
  pub shape : os ≡ map Some (held os) ++ replicate (length os - length (held os)) None
  pub fits : length (held os) ≤ 16
