-- The fields of a node's value, and its height.
use Rattle.std.specs.Prelude.{◌≡◌, ℕ, ◌+◌, max, Bool, ◌&&◌, ◌==◌, nat_le, if◌then◌else◌, Option, Some, None, option_map, option_and_then, codes}
use Rattle.serde_json.specs.Data.{Data}
use Rattle.serde_json.specs.Find.{get}
use Rattle.vm_ranges.specs.Fields.{field_count, is_count}
use Rattle.vm_ranges.specs.Numbers.{number_in}
use Rattle.vm_leaf.specs.declared.block.Block.{Block}
use Rattle.vm_ranges.specs.RangeValues.{decoded_range, decoded_state}

-- The value d has the five fields of a node, with these values, and no other field.
pub record NodeParts (d key state left right : Data) (height : ℕ) : Type 0 where
  pub five_fields : field_count d ≡ Some 5
  pub key_is : get (codes "key") d ≡ Some key
  pub state_is : get (codes "node_state") d ≡ Some state
  pub left_is : get (codes "left") d ≡ Some left
  pub right_is : get (codes "right") d ≡ Some right
  pub height_is : number_in (codes "height") d ≡ Some height

-- The fields of a node's value.
pub record NodeData : Type 0 where
  pub block : Block
  pub height : ℕ
  pub left : Data
  pub right : Data

-- The fields of a node's value, or None if it does not have exactly these fields or one is not valid.
abbrev pub decoded_node : Data → Option NodeData
decoded_node d =
    if is_count 5 (field_count d) then
    option_and_then (λ key. option_and_then (λ state. option_and_then (λ height. option_and_then (λ left.
    option_map (λ right.
    record { block = record { key = key; state = state }; height = height; left = left; right = right })
    (get (codes "right") d))
    (get (codes "left") d))
    (number_in (codes "height") d))
    (option_and_then decoded_state (get (codes "node_state") d)))
    (option_and_then decoded_range (get (codes "key") d))
    else None

-- Tests if h is the height of a node whose children have the heights l and r, at most one apart.
abbrev pub is_correct_height : ℕ → ℕ → ℕ → Bool
is_correct_height l r h = (nat_le l (r + 1) && nat_le r (l + 1)) && (h == max l r + 1)
