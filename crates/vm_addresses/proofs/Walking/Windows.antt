-- The ranges that meet a window.
use Rattle.std.proofs.Common.{◌≡◌, ap, ◌∙◌}
use Rattle.vm_ranges.specs.Range.{Range}
use Rattle.vm_ranges.specs.declared.state.NodeState.TheVariants.{Free, Allocated}
use Rattle.vm_space.specs.Shape.{Shape, blocks}
use Rattle.vm_space.specs.Walks.{meeting_blocks}
use Rattle.vm_addresses.specs.Queries.{free_of, gaps_of, meeting}
use Rattle.vm_leaf.specs.SpaceBlocks.{held_of}
use Rattle.vm_addresses.specs.Allocator.{state_of, IsSpaceTree}
use Rattle.vm_addresses.proofs.Blocks.PickedRanges.{held_picked, free_picked, picked_meeting}
use Rattle.vm_addresses.proofs.Walking.GapsInTrees.{gaps_in_tree}

module _ (s : Shape) (w : Range) (h : IsSpaceTree s) where
  pub held_meeting : held_of (meeting_blocks w (blocks s)) ≡ meeting w (state_of s).held
  held_meeting = picked_meeting Allocated held_of held_picked w (blocks s)

  pub gaps_meeting : free_of (meeting_blocks w (blocks s)) ≡ meeting w (gaps_of (state_of s))
  gaps_meeting = picked_meeting Free free_of free_picked w (blocks s) ∙ ap (meeting w) (gaps_in_tree s h)

pub ruleset ranges_in_windows = (held_meeting, gaps_meeting)
