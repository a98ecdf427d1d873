-- The lowest id is in the leaf of the key 0. The prover does not read the leaf from the tree.
use Rattle.std.proofs.Common.{List, sym, ◌∙◌, ap, subst}
use Rattle.vm_tree.specs.Subtree.{Subtree}
use Rattle.vm_list.specs.declared.id_set.Run.{Run}
use Rattle.vm_list.specs.Leaves.{items_of}
use Rattle.vm_list.specs.Runs.{last_of, TakesLowest}
use Rattle.vm_list.proofs.Homes.{ascending}
use Rattle.vm_list.proofs.Pops.{meets_popped, popped, none_popped, taken_descends}
use Rattle.vm_list.proofs.keyed_list.runs.KeyedList+Run.pop.Goals as goal

pub cut-requires-clause-ascend : goal.cut-requires-clause-ascend
cut-requires-clause-ascend c = ascending last_of _ (record { order = c.self.invariant; filled = c.facts.ensures.enough })

pub cut-requires-clause-meet : goal.cut-requires-clause-meet
cut-requires-clause-meet c = λ u before leaf after leaves h s.
    meets_popped c.self.inside.tree.leaves (record { order = c.self.invariant; filled = c.facts.ensures.enough }) before leaf after leaves _ h s.1

pub returns-then-not-cut : goal.returns-then-not-cut
returns-then-not-cut c =
    let none = none_popped _ (record { order = c.self.invariant; filled = c.facts.ensures.enough }) _ c.if-not-cut.ensures.after.refused in (
      sym c.self.view_is ∙ none,
      ap (λ (s : Subtree (List Run)). items_of s.leaves) c.if-not-cut.ensures.after.same ∙ c.self.view_is,
    )

pub invariant_of-self-2 : goal.invariant_of-self-2
invariant_of-self-2 c =
    taken_descends c.cut.new.edit.taken _ _
    (popped _ (record { order = c.self.invariant; filled = c.facts.ensures.enough }) _ _ c.if-not-cut.ensures.after.cut) c.self.invariant

pub returns : goal.returns
returns c =
    subst (λ l. TakesLowest c.cut.new.edit.taken l (items_of c.cut.new.self.leaves)) c.self.view_is
    (popped _ (record { order = c.self.invariant; filled = c.facts.ensures.enough }) _ _ c.if-not-cut.ensures.after.cut)
