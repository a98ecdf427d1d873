-- The model of a tree.
use Rattle.std.specs.Prelude.{◌≤◌}
use Rattle.vm_tree.specs.declared.tree.Root.{Root}
use Rattle.vm_tree.specs.declared.tree.Root.TheVariants.{Empty, Leaf, Inner}
use Rattle.vm_tree.specs.declared.tree.Tree.TheInside.{Inside}
use Rattle.vm_tree.specs.Subtree.{Subtree, leaf_of, no_tree, kids}

module _ {X : Type 0} where
  abbrev pub root_tree : Root X → Subtree X
  root_tree Empty = no_tree
  root_tree (Leaf b) = leaf_of b.value
  root_tree (Inner b) = b.value

  -- A root that is a node has two children at least.
  abbrev pub IsRoot : Root X → Type 0
  IsRoot Empty = Unit {0}
  IsRoot (Leaf b) = Unit {0}
  IsRoot (Inner b) = 2 ≤ kids b.value

  abbrev pub tree_of : Inside X → Subtree X
  tree_of a = root_tree a.root

  abbrev pub IsTree : Inside X → Type 0
  IsTree a = IsRoot a.root
