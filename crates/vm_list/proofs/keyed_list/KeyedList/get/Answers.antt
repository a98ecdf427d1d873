use Rattle.std.proofs.Common.{◌∙◌, ap, sym}
use Rattle.vm_list.specs.Entries.{entry_at}
use Rattle.vm_list.specs.Leaves.{items_of}
use Rattle.vm_list.proofs.Homes.{ascending}
use Rattle.vm_list.proofs.Nears.{leaf_entry_at, no_entry}
use Rattle.vm_list.proofs.keyed_list.KeyedList.get.Goals as goal

pub leaf_from-requires : goal.leaf_from-requires
leaf_from-requires g c = record { ascend = ascending g.E.Keyed.key_of _ (record { order = c.self.invariant; filled = c.facts.ensures.enough }) }

pub returns-in-Some : goal.returns-in-Some
returns-in-Some g c =
    c.get.ensures
    ∙ leaf_entry_at g.E.Keyed.key_of _ (record { order = c.self.invariant; filled = c.facts.ensures.enough }) _ c.args.key _ c.in-Some.ensures.leaf
    ∙ ap (entry_at g.E.Keyed.key_of c.args.key) c.self.view_is

pub returns-in-None : goal.returns-in-None
returns-in-None g c =
    sym (no_entry g.E.Keyed.key_of c.args.key)
    ∙ ap (entry_at g.E.Keyed.key_of c.args.key) (sym (ap items_of c.in-None.ensures.none) ∙ c.self.view_is)
