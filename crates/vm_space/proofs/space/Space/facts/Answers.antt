use Rattle.std.proofs.Common.{subst, inl, inr}
use Rattle.vm_space.specs.Trees.{IsBlockTree}
use Rattle.vm_space.proofs.Heights.{block_tree}
use Rattle.vm_space.proofs.space.Space.facts.Goals as goal

pub returns-in-Some : goal.returns-in-Some
returns-in-Some c =
    subst IsBlockTree c.self.view_is
    (block_tree c.self.inside.tree c.self.invariant c.facts.ensures.enough c.facts.ensures.sized (inl (_, (c.in-Some.ensures.one, c.len-len.ensures.leaf.fits))))

pub returns-in_default : goal.returns-in_default
returns-in_default c =
    subst IsBlockTree c.self.view_is
    (block_tree c.self.inside.tree c.self.invariant c.facts.ensures.enough c.facts.ensures.sized (inr c.in_default.ensures.none))
