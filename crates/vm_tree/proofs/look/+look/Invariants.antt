use Rattle.std.proofs.Common.{ℕ, ◌+◌, ◌-◌, ◌*◌}
use Rattle.vm_tree.specs.Subtree.{front}
use Rattle.vm_tree.specs.Nodes.{kids_of}
use Rattle.vm_tree.specs.Sought.{IsPassing}
use Rattle.vm_tree.proofs.look.+look.Given as goal

-- A call on a node, then one on its children, and then one on the child.
abbrev pub decreases-look_at : goal.decreases-look_at
decreases-look_at g l = 3 * l.node.now.height

abbrev pub decreases-look_kids : goal.decreases-look_kids
decreases-look_kids g l = 3 * front (kids_of l.kids.now) + 2

abbrev pub decreases-look_kid : goal.decreases-look_kid
decreases-look_kid g l = 3 * front (kids_of l.kids.now) + 1

-- A search from a count passes the children, and reaches another count.
abbrev pub invariant-look_kids-loop-i : goal.invariant-look_kids-loop-i
invariant-look_kids-loop-i g l = (c : ℕ) → (d : ℕ) × IsPassing l.end (g.S.Seek.seeking l.seek) (kids_of l.kids) l.from l.to c d

abbrev pub decreases-look_kids-loop-i : goal.decreases-look_kids-loop-i
decreases-look_kids-loop-i g l = l.to - l.from
