-- The blocks of a tree, with their ranges and states.
use Rattle.std.proofs.Common.{◌≡◌, map, sym, ap}
use Rattle.std.proofs.lemmas.List.{map-append, length-map}
use Rattle.vm_space.specs.Shape.{Shape, blocks}
use Rattle.vm_addresses.specs.Allocator.{state_of, IsSpaceTree}
use Rattle.vm_addresses.specs.Queries.{block_parts}
use Rattle.vm_leaf.specs.SpaceBlocks.{blocks_of}
use Rattle.vm_addresses.proofs.Trees.Spaces.{tree_blocks}
use Rattle.vm_addresses.proofs.Walking.HeldInTrees.{all_blocks}

pub parts_in_tree : (s : Shape) → IsSpaceTree s → map block_parts (blocks s) ≡ map block_parts (blocks_of (state_of s))
parts_in_tree s h = ap (map block_parts) (sym (tree_blocks s h))

pub ruleset parts = (length-map, map-append, parts_in_tree, all_blocks)
