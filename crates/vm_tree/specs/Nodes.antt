-- The model of a node.
use Rattle.std.specs.Prelude.{List, map, Box}
use Rattle.std.specs.declared.alloc.Global.{Global}
use Rattle.vm_tree.specs.declared.node.Node.{Node}
use Rattle.vm_tree.specs.declared.node.Kids.{Kids}
use Rattle.vm_tree.specs.declared.node.Kids.TheVariants.{Leaves, Nodes}
use Rattle.vm_tree.specs.declared.node.Node.TheInside.{Inside}
use Rattle.vm_tree.specs.Entry.{Entry}
use Rattle.vm_tree.specs.Slots.{held}
use Rattle.vm_tree.specs.Subtree.{Subtree, leaf_of, over}
use Rattle.vm_tree.specs.Over.{IsOver}

module _ {X : Type 0} where
  -- The subtree of a leaf, and of a node.
  abbrev pub leaf_tree : Box X Global → Subtree X
  leaf_tree b = leaf_of b.value

  abbrev pub node_tree : Box (Node X) Global → Subtree X
  node_tree b = b.value

  -- The children of a node.
  abbrev pub kids_of : Kids X → List (Subtree X)
  kids_of (Leaves os) = map leaf_tree (held os)
  kids_of (Nodes os) = map node_tree (held os)

  abbrev pub subtree_of : Inside X → Subtree X
  subtree_of a = over (kids_of a.kids)

module _ {X : Type 0} (entry : X → Entry) (enough : X → Type 0) where
  -- The children have these entries. Children that are nodes are higher than leaves.
  abbrev pub AreUnder : List Entry → Kids X → Type 0
  AreUnder es (Leaves os) = IsOver entry enough 0 leaf_tree es os
  AreUnder es (Nodes os) = IsOver entry enough 2 node_tree es os

  abbrev pub IsNode : Inside X → Type 0
  IsNode a = AreUnder a.entries a.kids
