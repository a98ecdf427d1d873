-- The fields that decoding an allocator's value finds, and the object that encoding builds.
use Rattle.std.specs.Prelude.{◌≡◌, if◌then◌else◌, List, Option, Some, None, option_map, option_and_then, codes}
use Rattle.serde_json.specs.Data.{Data}
use Rattle.serde_json.specs.Find.{get}
use Rattle.vm_ranges.specs.Fields.{field_count, is_count}
use Rattle.vm_ranges.specs.Range.{Range}
use Rattle.vm_ranges.specs.RangeValues.{decoded_range}
use Rattle.vm_leaf.specs.declared.block.Block.{Block}
use Rattle.vm_saved_trees.specs.ValueNodes.{WritesTree}

-- The value is an object with exactly the two fields of an allocator, and a tree with exactly this root.
pub record AllocatorParts (d space root : Data) : Type 0 where
  pub two_fields : field_count d ≡ Some 2
  pub space_is : get (codes "address_space") d ≡ Some space
  pub one_field : option_and_then field_count (get (codes "interval_tree") d) ≡ Some 1
  pub root_is : option_and_then (get (codes "root")) (get (codes "interval_tree") d) ≡ Some root

-- The root in a tree's value, if it is the only field.
abbrev pub decoded_root : Data → Option Data
decoded_root d = if is_count 1 (field_count d) then get (codes "root") d else None

-- The decoded space of an allocator's value and the root of its tree, if there are no other fields.
abbrev pub decoded_parts : Data → Option (Range × Data)
decoded_parts d =
    if is_count 2 (field_count d) then
    option_and_then (λ space. option_map (λ root. (space, root))
    (option_and_then decoded_root (get (codes "interval_tree") d)))
    (option_and_then decoded_range (get (codes "address_space") d))
    else None

-- The value is an object with exactly the two fields of an allocator, and its tree is the one that is written for the blocks. They
-- decide this tree.
abbrev pub WritesAllocator : List Block → Data → Type 0
WritesAllocator bs d = (space root : Data) × AllocatorParts d space root × WritesTree bs root
