use Rattle.vm_space.specs.Shape.{blocks}
use Rattle.vm_space.proofs.Closests.{no_parts}
use Rattle.vm_space.proofs.Seekings.{join_none}
use Rattle.vm_space.proofs.Looks.{look_found}
use Rattle.vm_space.proofs.closest.look_in_space.Goals as goal

pub returns-then-search : goal.returns-then-search
returns-then-search c = no_parts c.args.search.now c.requires.search c.if-search.true (blocks c.args.tree.now)

pub returns-in_err-leaf : goal.returns-in_err-leaf
returns-in_err-leaf c =
    rw c.from_residual.ensures (join_none c.args.search.now c.args.tree.now.leaves (rw c.in_err-leaf.was at c.look.ensures))

pub returns : goal.returns
returns c =
    look_found c.args.end c.args.search.now c.args.tree.now.leaves c.in_ok-leaf.leaf.now c.in_ok-place.place (rw c.in_ok-leaf.was at c.look.ensures)
    (rw c.in_ok-place.was at c.place_in.ensures)
