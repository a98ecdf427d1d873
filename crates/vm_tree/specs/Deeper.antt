-- Each child is lower than the node.
use Rattle.std.specs.Prelude.{ℕ, ◌+◌, ◌≤◌, max, List, [], ◌∷◌, map, Option, Some, None, Box}
use Rattle.std.specs.declared.alloc.Global.{Global}
use Rattle.std.proofs.Common.{arith}
use denote.Param.Weighed.{most}
use Rattle.vm_tree.specs.declared.leaf.Leaf.{Ghosts}
use Rattle.vm_tree.specs.declared.node.Node.{Node}
use Rattle.vm_tree.specs.declared.node.Kids.{Kids}
use Rattle.vm_tree.specs.declared.node.Kids.TheVariants.{Leaves, Nodes}
use Rattle.vm_tree.specs.declared.node.Node.TheDeep.{deep-Kids}
use Rattle.vm_tree.specs.declared.node.Node.TheView.{size}
use Rattle.vm_tree.specs.declared.node.Node.TheShapes.{weighed-Kids-Nodes-0-at-2}
use Rattle.vm_tree.specs.Slots.{held}
use Rattle.vm_tree.specs.Subtree.{front, AreFull}
use Rattle.vm_tree.specs.Entry.{Entry}
use Rattle.vm_tree.specs.Nodes.{kids_of, node_tree, AreUnder}

module _ {X : Type 0} (g : Ghosts X) (P : X → Type 0) where
  slots : (h : ℕ) (os : List (Option (Box (Node X) Global))) → AreFull P h (map node_tree (held os))
      → most ((weighed-Kids-Nodes-0-at-2 X).weight (Node X) (λ y. size X g y + 1)) os ≤ h + 1
  slots h [] a = omega arith
  slots h (None ∷ os) a = omega (arith, slots h os a)
  slots h (Some k ∷ os) a = omega (arith, a.0.height, slots h os a.1)

  pub deeper : (en : X → Entry) (es : List Entry) (k : Kids X) → AreUnder en P es k → max (deep-Kids X g k) 0 ≤ front (kids_of k) + 1
  deeper en es (Leaves os) a = omega arith
  deeper en es (Nodes os) a = omega (arith, slots (front (map node_tree (held os))) os a.even)
