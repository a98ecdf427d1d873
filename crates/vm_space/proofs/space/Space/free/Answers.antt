use Rattle.std.specs.Prelude.{MatchOption}
use Rattle.std.proofs.Common.{◌≡◌, ◌+◌, List, length, refl, sym, subst, ◌∙◌}
use Rattle.vm_leaf.specs.declared.block.Block.{Block}
use Rattle.vm_tree.specs.Subtree.{Subtree}
use Rattle.vm_space.specs.Leaves.{IsInLeaf}
use Rattle.vm_space.specs.Shape.{blocks}
use Rattle.vm_space.specs.Frees.{FreesBlock, Holds}
use Rattle.vm_space.proofs.Freed.{after_free, max_not_held}
use Rattle.vm_space.proofs.space.Space.free.Goals as goal

pub returns-then-start-eq18446744073709551615-clause-freed : goal.returns-then-start-eq18446744073709551615-clause-freed
returns-then-start-eq18446744073709551615-clause-freed c =
    let v : c.self.inside.tree ≡ c.args.self.now = c.self.view_is in (
      refl,
      subst (λ (x : Subtree (List Block)). ¬ Holds c.args.key.now (blocks x)) v
          (max_not_held c.args.key.now c.self.inside.tree.leaves c.self.invariant
          (sym c.start.ensures.value ∙ c.if-start-eq18446744073709551615.true)),
    )

pub invariant_of-self : goal.invariant_of-self
invariant_of-self c =
    let v : c.self.inside.tree ≡ c.args.self.now = c.self.view_is in
    let s = subst (λ (x : Subtree (List Block)). IsInLeaf c.args.key.now.start (blocks x)) (sym v) c.requires.start in
    let e = c.free_in_tree.ensures in
    (after_free c.args.key.now c.self.inside.tree c.free_in_tree.new.tree c.free_in_tree.result c.self.invariant s e.freed e.unchanged).space

pub returns-clause-freed : goal.returns-clause-freed
returns-clause-freed c =
    let v : c.self.inside.tree ≡ c.args.self.now = c.self.view_is in
    let s = subst (λ (x : Subtree (List Block)). IsInLeaf c.args.key.now.start (blocks x)) (sym v) c.requires.start in
    let e = c.free_in_tree.ensures in
    subst
    (λ (x : Subtree (List Block)). MatchOption c.free_in_tree.result ((c.free_in_tree.new.tree ≡ x) × ¬ Holds c.args.key.now (blocks x))
    (λ joined. FreesBlock c.args.key.now (blocks x) (blocks c.free_in_tree.new.tree) × (length (blocks x) ≡ length (blocks c.free_in_tree.new.tree) + joined)))
    v
    (after_free c.args.key.now c.self.inside.tree c.free_in_tree.new.tree c.free_in_tree.result c.self.invariant s e.freed e.unchanged).freed
