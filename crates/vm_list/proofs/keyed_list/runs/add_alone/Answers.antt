use Rattle.vm_list.specs.Runs.{last_of}
use Rattle.vm_list.proofs.Homes.{ascending}
use Rattle.vm_list.proofs.Alones.{alone_put, alone_order, lacks_alone}
use Rattle.vm_list.proofs.keyed_list.runs.add_alone.Goals as goal

pub edit-requires-clause-ascend : goal.edit-requires-clause-ascend
edit-requires-clause-ascend c = ascending last_of _ (record { order = c.requires.order; filled = c.facts.ensures.enough })

pub edit-requires-clause-can : goal.edit-requires-clause-can
edit-requires-clause-can c = λ l h. tt

pub returns-in-Ok-true-clause-added : goal.returns-in-Ok-true-clause-added
returns-in-Ok-true-clause-added c = λ e.
    let a = rw (c.in-Ok-true.field-0-test, c.into.ensures) at c.in-Ok-true.ensures.after in
    alone_put c.args.id c.args.tree.now.leaves (record { order = c.requires.order; filled = c.facts.ensures.enough }) _ a.edited

pub returns-in-Ok-true-clause-order : goal.returns-in-Ok-true-clause-order
returns-in-Ok-true-clause-order c =
    let a = rw (c.in-Ok-true.field-0-test, c.into.ensures) at c.in-Ok-true.ensures.after in
    alone_order c.args.id c.args.tree.now.leaves (record { order = c.requires.order; filled = c.facts.ensures.enough }) _ a.edited

pub returns-in-Err-clause-lacks : goal.returns-in-Err-clause-lacks
returns-in-Err-clause-lacks c =
    lacks_alone c.args.id c.args.tree.now.leaves (record { order = c.requires.order; filled = c.facts.ensures.enough })
    (rw c.into.ensures at c.in-Err.ensures.failed)
