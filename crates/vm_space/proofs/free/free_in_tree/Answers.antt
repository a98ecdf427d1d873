use Rattle.std.proofs.Common.{ℕ, refl, subst, sym}
use Rattle.vm_leaf.specs.Entries.{blocks_entry, AreNext, JoinsTo}
use Rattle.vm_tree.specs.Shrinks.{MeetsAfter}
use Rattle.vm_tree.specs.Lowers.{IsTreeCut}
use Rattle.vm_space.specs.Edges.{BecomesOne}
use Rattle.vm_space.specs.Frees.{RefusesInside, DoneInside, CutAfter}
use Rattle.vm_space.specs.declared.free.Freeing.{Freeing}
use Rattle.vm_space.specs.declared.free.FreeInside.{FreeInside}
use Rattle.vm_space.proofs.Spaces.{space_ascends}
use Rattle.vm_space.proofs.Insides.{inside_meets, cut_after}
use Rattle.vm_space.proofs.free.free_in_tree.Goals as goal

pub cut-done-requires-clause-ascend : goal.cut-done-requires-clause-ascend
cut-done-requires-clause-ascend c = space_ascends _ c.requires.space

pub cut-done-requires-clause-meet : goal.cut-done-requires-clause-meet
cut-done-requires-clause-meet c = λ _.
    subst (λ (n : ℕ). MeetsAfter blocks_entry AreNext n (λ l ls. (e : FreeInside) × BecomesOne (DoneInside c.args.key.now e.answer) l ls) c.args.tree.now.leaves)
    (sym c.start.ensures.value) (inside_meets c.args.key.now c.args.tree.now.leaves c.requires.space c.facts.ensures.enough)

pub returns-in-Done-clause-freed : goal.returns-in-Done-clause-freed
returns-in-Done-clause-freed c =
    let h = subst
    (λ (n : ℕ). IsTreeCut blocks_entry JoinsTo n (λ l. RefusesInside c.args.key.now l c.cut-done.new.edit.answer)
    (λ l ls. BecomesOne (DoneInside c.args.key.now c.cut-done.new.edit.answer) l ls) c.args.tree.now c.cut-done.new.self c.cut-done.result)
    c.start.ensures.value c.cut-done.ensures.after in
    let r = cut_after c.args.key.now c.args.tree.now.leaves c.requires.space c.facts.ensures.enough c.args.tree.now c.cut-done.new.self
    c.cut-done.new.edit.answer c.cut-done.result refl h in
    subst (λ (z : Freeing). CutAfter c.args.key.now c.args.tree.now c.cut-done.new.self z) c.in-Done.is r.0
