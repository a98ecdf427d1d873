use Rattle.std.proofs.Common.{◌∙◌, ap, sym, refl, subst}
use Rattle.vm_list.specs.Entries.{entry_at, IsDescendingBy}
use Rattle.vm_list.specs.Leaves.{items_of}
use Rattle.vm_list.proofs.Homes.{ascending, put_items, put_old}
use Rattle.vm_list.proofs.EntryLaws.{put_descends}
use Rattle.vm_list.proofs.keyed_list.put.Goals as goal

pub edit-done-requires-clause-ascend : goal.edit-done-requires-clause-ascend
edit-done-requires-clause-ascend g c = ascending g.E.Keyed.key_of _ (record { order = c.requires.order; filled = c.facts.ensures.enough })

pub returns-in-Ok-true-clause-put : goal.returns-in-Ok-true-clause-put
returns-in-Ok-true-clause-put g c =
    let a = rw c.in-Ok-true.field-0-test at c.in-Ok-true.ensures.after in
    put_items g.E.Keyed.key_of c.key-key.result _ _ (record { order = c.requires.order; filled = c.facts.ensures.enough }) _ _ _ a.edited c.args.entry refl (sym c.key-key.ensures)

pub returns-in-Ok-true-clause-old : goal.returns-in-Ok-true-clause-old
returns-in-Ok-true-clause-old g c =
    let a = rw c.in-Ok-true.field-0-test at c.in-Ok-true.ensures.after in
    put_old g.E.Keyed.key_of c.key-key.result _ _ (record { order = c.requires.order; filled = c.facts.ensures.enough }) _ _ _ a.edited c.args.entry refl (sym c.key-key.ensures)
    ∙ ap (λ n. entry_at g.E.Keyed.key_of n (items_of c.args.tree.now.leaves)) c.key-key.ensures

pub returns-in-Ok-true-clause-order : goal.returns-in-Ok-true-clause-order
returns-in-Ok-true-clause-order g c =
    subst (IsDescendingBy g.E.Keyed.key_of) (sym (returns-in-Ok-true-clause-put g c)) (put_descends g.E.Keyed.key_of c.args.entry _ c.requires.order)

pub edit-done-requires-clause-can : goal.edit-done-requires-clause-can
edit-done-requires-clause-can g c = λ l h. tt
