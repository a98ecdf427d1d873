-- The values that encode trees.
use Rattle.std.specs.Prelude.{◌≡◌, ◌≢◌, ℕ, ◌+◌, ◌≤◌, max, Some, codes}
use Rattle.serde_json.specs.Data.{Data, null}
use Rattle.vm_ranges.specs.Fields.{field_count, FieldIs}
use Rattle.vm_ranges.specs.Numbers.{number_in}
use Rattle.vm_ranges.specs.Range.{Range}
use Rattle.vm_leaf.specs.declared.block.Block.{Block}
use Rattle.vm_ranges.specs.Address.{AddressState}
use Rattle.vm_leaf.specs.SpaceBlocks.{held_of, IsTiling}
use Rattle.vm_saved_trees.specs.NodeTree.{NodeTree, Tip, Fork, node_blocks, node_height, HasBalancedNodes}
use Rattle.vm_leaf.specs.TreeHeights.{MAX_HEIGHT}
use Rattle.vm_ranges.specs.RangeValues.{EncodesRange, EncodesState}

-- The value d is an object with exactly the five fields of a node: its block, both children, and its height h. `Left`
-- and `Right` are true for the values of the children.
pub record EncodesNode (d : Data) (block : Block) (Left Right : Data → Type 0) (h : ℕ) : Type 0 where
  pub five_fields : field_count d ≡ Some 5
  pub key : FieldIs (codes "key") d (λ v. EncodesRange v block.key)
  pub node_state : FieldIs (codes "node_state") d (λ v. EncodesState v block.state)
  pub left : FieldIs (codes "left") d Left
  pub right : FieldIs (codes "right") d Right
  pub height : number_in (codes "height") d ≡ Some h

-- The value d encodes the tree, with an object for each node and correct heights. An absent child is null.
abbrev pub EncodesShape : Data → NodeTree → Type 0
EncodesShape d Tip = d ≡ null
EncodesShape d (Fork l b r) =
    EncodesNode d b (λ v. EncodesShape v l) (λ v. EncodesShape v r) (max (node_height l) (node_height r) + 1)

-- The value d encodes a valid tree of the space, whose held ranges are those of the state: it is not empty, not too high and
-- balanced, and its blocks are valid for the space.
pub record EncodesSpaceTree (d : Data) (space : Range) (state : AddressState) : Type 0 where
  pub tree : NodeTree
  pub encoded : EncodesShape d tree
  pub some_node : tree ≢ Tip
  pub nested : node_height tree ≤ MAX_HEIGHT
  pub balanced : HasBalancedNodes tree
  pub held : held_of (node_blocks tree) ≡ state.held
  pub is_space : state.space ≡ space
  pub blocks : IsTiling space (node_blocks tree)

-- The value d has the nodes of the tree, with any whole numbers as heights. An absent child is null.
abbrev pub HasNodes : Data → NodeTree → Type 0
HasNodes d Tip = d ≡ null
HasNodes d (Fork l b r) = (h : ℕ) × EncodesNode d b (λ v. HasNodes v l) (λ v. HasNodes v r) h
