use Rattle.std.proofs.Common.{◌∙◌, ap, sym}
use Rattle.vm_list.specs.Entries.{entry_at, at_or_above}
use Rattle.vm_list.specs.Leaves.{items_of}
use Rattle.vm_list.proofs.Homes.{ascending}
use Rattle.vm_list.proofs.Nears.{none_above, leaf_above, nothing_above, next_above}
use Rattle.vm_list.proofs.keyed_list.KeyedList.at_or_above.Goals as goal

pub leaf_from-requires : goal.leaf_from-requires
leaf_from-requires g c = record { ascend = ascending g.E.Keyed.key_of _ (record { order = c.self.invariant; filled = c.facts.ensures.enough }) }

pub returns-in_default : goal.returns-in_default
returns-in_default g c =
    let none = rw c.in_default.is at c.leaf_from.ensures.none in
    sym (none_above g.E.Keyed.key_of c.args.key)
    ∙ ap (at_or_above g.E.Keyed.key_of c.args.key) (sym (ap items_of none) ∙ c.self.view_is)

pub returns-in-Some-at_or_above : goal.returns-in-Some-at_or_above
returns-in-Some-at_or_above g c =
    leaf_above g.E.Keyed.key_of _ (record { order = c.self.invariant; filled = c.facts.ensures.enough }) _ c.args.key _ c.in-Some.ensures.leaf _ (sym c.in-Some-at_or_above.ensures)
    ∙ ap (at_or_above g.E.Keyed.key_of c.args.key) c.self.view_is

pub returns-in-Some-next : goal.returns-in-Some-next
returns-in-Some-next g c =
    c.get.ensures ∙ ap (entry_at g.E.Keyed.key_of _) (sym c.self.view_is)
    ∙ next_above g.E.Keyed.key_of _ (record { order = c.self.invariant; filled = c.facts.ensures.enough }) _ c.args.key _ c.in-Some.ensures.leaf _ (sym c.in-None.ensures) c.in-Some-next.is
    ∙ ap (at_or_above g.E.Keyed.key_of c.args.key) c.self.view_is

pub returns-in-None-next : goal.returns-in-None-next
returns-in-None-next g c =
    nothing_above g.E.Keyed.key_of _ (record { order = c.self.invariant; filled = c.facts.ensures.enough }) _ c.args.key _ c.in-Some.ensures.leaf (sym c.in-None.ensures) c.in-None-next.is
    ∙ ap (at_or_above g.E.Keyed.key_of c.args.key) c.self.view_is
