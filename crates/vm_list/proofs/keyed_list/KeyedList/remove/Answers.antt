-- The entry with the key is in one leaf. The prover does not read the leaf from the tree.
use Rattle.std.proofs.Common.{List, ◌∙◌, ap, sym, subst}
use Rattle.vm_tree.specs.Subtree.{Subtree}
use Rattle.vm_list.specs.Entries.{IsDescendingBy, entry_at, without}
use Rattle.vm_list.specs.Leaves.{items_of}
use Rattle.vm_list.proofs.EntryLaws.{taken_descends}
use Rattle.vm_list.proofs.Homes.{ascending, meets_after, taken_items, taken_entry, not_taken}
use Rattle.vm_list.proofs.Nears.{no_entry, without_none, without_empty}
use Rattle.vm_list.proofs.keyed_list.KeyedList.remove.Goals as goal

pub returns-then-is_empty-clause-entry : goal.returns-then-is_empty-clause-entry
returns-then-is_empty-clause-entry g c =
    sym (ap (λ cs. entry_at g.E.Keyed.key_of c.args.key (items_of cs)) (c.is_empty.ensures.empty c.if-is_empty.true) ∙ no_entry g.E.Keyed.key_of c.args.key)
    ∙ ap (entry_at g.E.Keyed.key_of c.args.key) c.self.view_is

pub returns-then-is_empty-clause-rest : goal.returns-then-is_empty-clause-rest
returns-then-is_empty-clause-rest g c =
    without_empty g.E.Keyed.key_of c.args.key _ (sym c.self.view_is ∙ ap items_of (c.is_empty.ensures.empty c.if-is_empty.true))

pub cut-requires-clause-ascend : goal.cut-requires-clause-ascend
cut-requires-clause-ascend g c = ascending g.E.Keyed.key_of _ (record { order = c.self.invariant; filled = c.facts.ensures.enough })

pub cut-requires-clause-meet : goal.cut-requires-clause-meet
cut-requires-clause-meet g c = λ u before leaf after leaves h s.
    meets_after g.E.Keyed.key_of c.args.key _ c.self.inside.tree.leaves (record { order = c.self.invariant; filled = c.facts.ensures.enough }) before leaf after leaves _ h s.1

pub returns-then-not-cut-clause-entry : goal.returns-then-not-cut-clause-entry
returns-then-not-cut-clause-entry g c =
    sym (not_taken g.E.Keyed.key_of c.args.key _ c.cut.new.self.leaves (record { order = c.self.invariant; filled = c.facts.ensures.enough }) _ c.if-not-cut.ensures.after.refused).1
    ∙ ap (entry_at g.E.Keyed.key_of c.args.key) c.self.view_is

pub returns-then-not-cut-clause-rest : goal.returns-then-not-cut-clause-rest
returns-then-not-cut-clause-rest g c =
    let n = (not_taken g.E.Keyed.key_of c.args.key _ c.cut.new.self.leaves (record { order = c.self.invariant; filled = c.facts.ensures.enough }) _ c.if-not-cut.ensures.after.refused).1 in
    ap items_of (ap (λ (s : Subtree (List g.row.E.Denot)). s.leaves) c.if-not-cut.ensures.after.same)
    ∙ without_none g.E.Keyed.key_of c.args.key _ n c.self.invariant ∙ ap (without g.E.Keyed.key_of c.args.key) c.self.view_is

pub invariant_of-self-2 : goal.invariant_of-self-2
invariant_of-self-2 g c =
    subst (IsDescendingBy g.E.Keyed.key_of)
    (sym (taken_items g.E.Keyed.key_of c.args.key _ _ (record { order = c.self.invariant; filled = c.facts.ensures.enough }) _ c.if-not-cut.ensures.after.cut))
    (taken_descends g.E.Keyed.key_of c.args.key _ c.self.invariant)

pub returns-clause-entry : goal.returns-clause-entry
returns-clause-entry g c =
    taken_entry g.E.Keyed.key_of c.args.key _ _ (record { order = c.self.invariant; filled = c.facts.ensures.enough }) _ c.if-not-cut.ensures.after.cut
    ∙ ap (entry_at g.E.Keyed.key_of c.args.key) c.self.view_is

pub returns-clause-rest : goal.returns-clause-rest
returns-clause-rest g c =
    taken_items g.E.Keyed.key_of c.args.key _ _ (record { order = c.self.invariant; filled = c.facts.ensures.enough }) _ c.if-not-cut.ensures.after.cut
    ∙ ap (without g.E.Keyed.key_of c.args.key) c.self.view_is
