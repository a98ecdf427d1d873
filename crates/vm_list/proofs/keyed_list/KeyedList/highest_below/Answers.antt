use Rattle.std.proofs.Common.{◌≡◌, ◌∙◌, ap, sym, arith, rules}
use Rattle.vm_list.specs.Entries.{highest_below}
use Rattle.vm_list.specs.Leaves.{items_of}
use Rattle.vm_list.proofs.Homes.{ascending}
use Rattle.vm_list.proofs.Nears.{none_under, none_below, leaf_below}
use Rattle.vm_list.proofs.keyed_list.KeyedList.highest_below.Goals as goal

pub returns-then-key-eq0 : goal.returns-then-key-eq0
returns-then-key-eq0 g c = rw (let e : c.args.key ≡ 0 = search rules in e) (sym (none_under g.E.Keyed.key_of c.args.self.now))

pub leaf_from-requires : goal.leaf_from-requires
leaf_from-requires g c = record { ascend = ascending g.E.Keyed.key_of _ (record { order = c.self.invariant; filled = c.facts.ensures.enough }) }

pub returns-in-Some : goal.returns-in-Some
returns-in-Some g c =
    c.highest_below.ensures
    ∙ leaf_below g.E.Keyed.key_of _ (record { order = c.self.invariant; filled = c.facts.ensures.enough }) _ c.args.key _ (omega arith) c.in-Some.ensures.leaf
    ∙ ap (highest_below g.E.Keyed.key_of c.args.key) c.self.view_is

pub returns-in-None : goal.returns-in-None
returns-in-None g c =
    sym (none_below g.E.Keyed.key_of c.args.key)
    ∙ ap (highest_below g.E.Keyed.key_of c.args.key) (sym (ap items_of c.in-None.ensures.none) ∙ c.self.view_is)
